-- Worked examples, which the definitions compute.
use Rattle.std.specs.Prelude.{◌≡◌, ℕ, List, [], ◌∷◌, None, refl, codes}
use Rattle.js_base.specs.declared.message.Entry.{Entry}
use Rattle.js_event_log.specs.Projection.{table, up_to, after, matched, value_of, last_sequence}

abbrev entry : ℕ → List ℕ → List ℕ → Entry
entry sequence subject payload = record { subject = subject; sequence = sequence; payload = payload }

-- `a.x` is set, `a.y` is set, `a.x` is set anew, `a.y` is deleted
abbrev log : List Entry
log = entry 1 (codes "a.x") (codes "1") ∷ entry 2 (codes "a.y") (codes "2") ∷ entry 3 (codes "a.x") (codes "3") ∷ entry 4 (codes "a.y") [] ∷ []

-- the last entry of `a.x` stands: a body that keeps the first of a subject answers sequence 1 here
now : table log ≡ entry 3 (codes "a.x") (codes "3") ∷ []
now = refl

-- the table as it was at sequence 2: a body that answers the present one has neither entry
at_two : table (up_to 2 log) ≡ entry 1 (codes "a.x") (codes "1") ∷ entry 2 (codes "a.y") (codes "2") ∷ []
at_two = refl

-- an empty payload deletes its subject: a body that keeps such an entry answers it here
deleted : value_of (codes "a.y") log ≡ None
deleted = refl

above_three : after 3 log ≡ entry 4 (codes "a.y") [] ∷ []
above_three = refl

last_applied : last_sequence log ≡ 4
last_applied = refl

-- rows stand in the byte order of subjects, whatever the order of sequences
in_byte_order : table (entry 1 (codes "b") (codes "1") ∷ entry 5 (codes "a") (codes "2") ∷ []) ≡ entry 5 (codes "a") (codes "2") ∷ entry 1 (codes "b") (codes "1") ∷ []
in_byte_order = refl

one_subject : matched (codes "a.*") (table (entry 1 (codes "b") (codes "1") ∷ entry 5 (codes "a.x") (codes "2") ∷ [])) ≡ entry 5 (codes "a.x") (codes "2") ∷ []
one_subject = refl
