-- Why the server refused a write that expects a revision.
use Rattle.std.specs.Prelude.{ℕ, ◌≡◌, ◌==◌, ◌||◌, Bool, if◌then◌else◌, List, codes, drop, nat_eq, Option, Some, None, refl}
use Rattle.std.specs.List.{starts_with}
use Rattle.js_message.specs.Numbers.{u64_of}
use Rattle.js_store_keys.specs.declared.refusal.WriteRefusal.{WriteRefusal}
use Rattle.js_store_keys.specs.declared.refusal.WriteRefusal.TheVariants.{AlreadyExists, WrongRevision}

-- two numbers of errors tell that the last sequence of a subject is another
abbrev pub is_wrong_sequence : ℕ → Bool
is_wrong_sequence number = number == 10071 || number == 10164

-- the revision that the text of such an error names
abbrev pub named_in : List ℕ → Option ℕ
named_in text = if starts_with nat_eq text (codes "wrong last sequence: ") then u64_of (drop 21 text) else None

-- none where there is no text
abbrev pub named_revision : Option (List ℕ) → Option ℕ
named_revision None = None
named_revision (Some text) = named_in text

-- whoever expected no entry is told that there is one
abbrev pub refused_with : ℕ → Option ℕ → WriteRefusal
refused_with expected last = if expected == 0 then AlreadyExists last else WrongRevision last

-- a write that expected this revision, by what the API sent: the kind of refusal, which error it is, and its description
abbrev pub refused_write : ℕ → Option (ℕ × ℕ × Option (List ℕ)) → Option WriteRefusal
refused_write expected None = None
refused_write expected (Some (code, err_code, description)) =
    if is_wrong_sequence err_code then Some (refused_with expected (named_revision description)) else None

-- ---- worked refusals

-- the server names the revision of the last entry
loses_a_race : refused_write 3 (Some (400, 10071, Some (codes "wrong last sequence: 5"))) ≡ Some (WrongRevision (Some 5))
loses_a_race = refl

is_there : refused_write 0 (Some (400, 10071, Some (codes "wrong last sequence: 5"))) ≡ Some (AlreadyExists (Some 5))
is_there = refl

-- one number names none
names_none : refused_write 3 (Some (400, 10164, Some (codes "wrong last sequence"))) ≡ Some (WrongRevision None)
names_none = refl

-- another refusal is none of these
is_another : refused_write 3 (Some (503, 10077, Some (codes "maximum messages exceeded"))) ≡ None
is_another = refl
