-- The table of a list of entries: the last entry of each subject.
use Rattle.std.specs.Prelude.{ℕ, ◌<◌, ◌==◌, cond, nat_le, nat_lt, ⊤, List, [], ◌∷◌, length, map, filter, fold, find, reverse, Option, Some, None}
use Rattle.std.specs.List.{filter_map}
use Rattle.std.specs.Ordering.{nat_cmp}
use Rattle.std.specs.Str.{bytes_eq}
use Rattle.std.specs.Cmp.Lexicographic.{slice_cmp}
use Rattle.std.specs.BTreeSet.{insert_key}
use Rattle.js_base.specs.declared.message.Entry.{Entry}
use Rattle.js_base.specs.Subject.{subject_matches}

-- sequences rise strictly, and all are above a number
abbrev pub RisesAbove : ℕ → List Entry → Type 0
RisesAbove low [] = ⊤
RisesAbove low (entry ∷ entries) = (low < entry.sequence) × RisesAbove entry.sequence entries

-- the sequence of the last entry, 0 where there is none
abbrev pub last_sequence : List Entry → ℕ
last_sequence entries = fold (λ _ (entry : Entry). entry.sequence) 0 entries

-- the entries up to a sequence
abbrev pub up_to : ℕ → List Entry → List Entry
up_to sequence entries = filter (λ (entry : Entry). nat_le entry.sequence sequence) entries

-- the entries above a sequence
abbrev pub after : ℕ → List Entry → List Entry
after sequence entries = filter (λ (entry : Entry). nat_lt sequence entry.sequence) entries

-- the last entry of a subject: the first that has it, from the end of the list
abbrev pub last_of : List ℕ → List Entry → Option Entry
last_of subject entries = find (λ (entry : Entry). bytes_eq entry.subject subject) (reverse entries)

-- an entry, unless its payload is empty
abbrev pub present : Option Entry → Option Entry
present None = None
present (Some entry) = cond (length entry.payload == 0) None (Some entry)

-- what the table has for a subject: its last entry, left out where that entry's payload is empty
abbrev pub value_of : List ℕ → List Entry → Option Entry
value_of subject entries = present (last_of subject entries)

-- the subjects of the entries, each once, in byte order
abbrev pub subjects_of : List Entry → List (List ℕ)
subjects_of entries = fold (insert_key (slice_cmp nat_cmp)) [] (map (λ (entry : Entry). entry.subject) entries)

-- the table: what it has for each subject, in the byte order of subjects
abbrev pub table : List Entry → List Entry
table entries = filter_map (λ subject. value_of subject entries) (subjects_of entries)

-- the entries whose subject the filter matches
abbrev pub matched : List ℕ → List Entry → List Entry
matched pattern entries = filter (λ (entry : Entry). subject_matches pattern entry.subject) entries
