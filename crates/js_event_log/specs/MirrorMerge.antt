-- Two mirrors of one stream, joined.
use Rattle.std.specs.Prelude.{◌≡◌, ℕ, ◌<◌, List, Option, Some, None, max}
use Rattle.std.specs.Option.{option_or}
use Rattle.js_base.specs.declared.message.Entry.{Entry}
use Rattle.js_event_log.specs.Mirror.{Mirrored, last_sequence, entry_with}

-- both have an entry with this sequence, and not the same
pub record IsConflict (one other : List Entry) (sequence : ℕ) : Type 0 where
  pub here : Entry
  pub there : Entry
  pub in_one : entry_with sequence one ≡ Some here
  pub in_other : entry_with sequence other ≡ Some there
  pub unequal : here ≡ there → ⊥

-- there is no sequence at which they conflict
abbrev pub Agree : List Entry → List Entry → Type 0
Agree one other = (sequence : ℕ) → IsConflict one other sequence → ⊥

-- they conflict at this sequence, and at none below it
pub record IsFirstConflict (one other : List Entry) (sequence : ℕ) : Type 0 where
  pub conflict : IsConflict one other sequence
  pub first : (below : ℕ) → below < sequence → IsConflict one other below → ⊥

-- there is an entry that is not the same as another
abbrev pub IsOther : Option Entry → Entry → Type 0
IsOther None entry = ⊥
IsOther (Some held) entry = held ≡ entry → ⊥

-- an entry stands where either had it, and the last sequence is the greater one
pub record IsMerged (one other merged : Mirrored) : Type 0 where
  pub start : merged.start ≡ one.start
  pub entries : (sequence : ℕ) → entry_with sequence merged.entries ≡ option_or (entry_with sequence one.entries) (entry_with sequence other.entries)
  pub last : last_sequence merged ≡ max (last_sequence one) (last_sequence other)
