-- Why a call of a mirror was refused, and what an answer shows.
use Rattle.std.specs.Prelude.{◌≡◌, ℕ, ◌<◌, ◌≤◌, List, ◌++◌, Result, Ok, Err, codes, decimal}
use Rattle.js_event_log.specs.declared.mirror.error.MirrorError.{MirrorError}
use Rattle.js_event_log.specs.declared.mirror.error.MirrorError.TheVariants.{NotRising, StartDiffers, Conflict, OutOfMemory}
use Rattle.js_event_log.specs.declared.mirror.slot.Slot.{Slot}
use Rattle.js_event_log.specs.declared.mirror.slot.Slot.TheVariants as slots
use Rattle.js_event_log.specs.Mirror.{Mirrored, Standing, before, message, hole, beyond}
use Rattle.js_event_log.specs.MirrorMerge.{Agree, IsFirstConflict}

-- `NotRising` comes exactly where the sequence is at or below the last one, and carries that one
abbrev pub HasPushCause : ℕ → ℕ → Result (Unit {0}) MirrorError → Type 0
HasPushCause last sequence (Ok done) = last < sequence
HasPushCause last sequence (Err (NotRising carried)) = (sequence ≤ last) × (carried ≡ last)
HasPushCause last sequence (Err (StartDiffers start other)) = ⊥
HasPushCause last sequence (Err (Conflict carried)) = ⊥
HasPushCause last sequence (Err OutOfMemory) = last < sequence

-- the starts are the same, and no sequence has two entries
abbrev pub CanMerge : Mirrored → Mirrored → Type 0
CanMerge one other = (one.start ≡ other.start) × Agree one.entries other.entries

-- `StartDiffers` comes exactly where the starts differ, and carries both; else `Conflict` exactly where two entries do, and carries the least sequence at which they do
abbrev pub HasMergeCause : Mirrored → Mirrored → Result (Unit {0}) MirrorError → Type 0
HasMergeCause one other (Ok done) = CanMerge one other
HasMergeCause one other (Err (NotRising last)) = ⊥
HasMergeCause one other (Err (StartDiffers start carried)) = (one.start ≡ other.start → ⊥) × (start ≡ one.start) × (carried ≡ other.start)
HasMergeCause one other (Err (Conflict sequence)) = (one.start ≡ other.start) × IsFirstConflict one.entries other.entries sequence
HasMergeCause one other (Err OutOfMemory) = CanMerge one other

-- what an error prints
abbrev pub error_text : MirrorError → List ℕ
error_text (NotRising last) = codes "the sequence is not above " ++ decimal last
error_text (StartDiffers start other) = codes "the mirrors start at " ++ decimal start ++ codes " and " ++ decimal other
error_text (Conflict sequence) = codes "the mirrors differ at " ++ decimal sequence
error_text OutOfMemory = codes "out of memory"

-- what stands at a sequence, as `get` tells it
abbrev pub shown : Slot → Standing
shown slots.Before = before
shown (slots.Message entry) = message entry.now
shown slots.Hole = hole
shown slots.Beyond = beyond
