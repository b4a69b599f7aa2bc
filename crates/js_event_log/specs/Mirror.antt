-- What a mirror stands for: a start, and a strictly rising list of entries at or past it.
use Rattle.std.specs.Prelude.{ℕ, ◌+◌, ◌-◌, ◌<◌, ◌≤◌, ◌==◌, cond, nat_le, nat_lt, ⊤, List, [], ◌∷◌, filter, find, fold, Option, Some, None}
use Rattle.js_base.specs.declared.message.Entry.{Entry}

pub record Mirrored : Type 0 where
  pub start : ℕ
  pub entries : List Entry

-- sequences rise strictly, and all are at or past a number
abbrev pub RisesFrom : ℕ → List Entry → Type 0
RisesFrom from [] = ⊤
RisesFrom from (entry ∷ entries) = (from ≤ entry.sequence) × RisesFrom (entry.sequence + 1) entries

-- the start is above 0, and the entries rise from it
abbrev pub IsMirror : Mirrored → Type 0
IsMirror mirror = (0 < mirror.start) × RisesFrom mirror.start mirror.entries

-- the sequence of the last entry, or of the place before the start where there is none
abbrev pub last_sequence : Mirrored → ℕ
last_sequence mirror = fold (λ _ (entry : Entry). entry.sequence) (mirror.start - 1) mirror.entries

-- the entry that has a sequence
abbrev pub entry_with : ℕ → List Entry → Option Entry
entry_with sequence entries = find (λ (entry : Entry). entry.sequence == sequence) entries

-- the entries at or past a sequence
abbrev pub at_or_past : ℕ → List Entry → List Entry
at_or_past sequence entries = filter (λ (entry : Entry). nat_le sequence entry.sequence) entries

-- what stands at a sequence
pub data Standing : Type 0 where
  before : Standing
  message : Entry → Standing
  hole : Standing
  beyond : Standing

-- between the start and the last entry: the entry, or a hole
abbrev pub held : Option Entry → Standing
held None = hole
held (Some entry) = message entry

-- what stands at a sequence, by its four cases
abbrev pub slot : Mirrored → ℕ → Standing
slot mirror sequence =
    cond (nat_lt sequence mirror.start) before
    (cond (nat_lt (last_sequence mirror) sequence) beyond
    (held (entry_with sequence mirror.entries)))
