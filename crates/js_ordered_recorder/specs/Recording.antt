-- What is written of the events that a recorder meets.
use Rattle.std.specs.Prelude.{◌≡◌, List, [], ◌∷◌, ◌++◌, Option, Some, None}
use Rattle.js_ordered_table.specs.declared.event.Event.{Event}
use Rattle.js_ordered_recorder.specs.declared.recording.RecordingFault.{RecordingFault}
use Rattle.js_ordered_recorder.specs.declared.recording.RecordingFault.TheVariants as fault

-- an event is written where every event before it was. After the first fault nothing is written,
-- and that fault stays
abbrev pub Writes : {R : Type 0} → (R → Event → Option RecordingFault → R → Type 0) → Option RecordingFault → Event → Option RecordingFault → R → R → Type 0
Writes writes None e told before after = writes before e told after
Writes writes (Some first) e told before after = (after ≡ before) × (told ≡ Some first)

-- events are written one after the other
abbrev pub WritesAll : {R : Type 0} → (R → Event → Option RecordingFault → R → Type 0) → Option RecordingFault → List Event → Option RecordingFault → R → R → Type 0
WritesAll writes was [] told before after = (after ≡ before) × (told ≡ was)
WritesAll {R} writes was (e ∷ es) told before after =
    (kept : Option RecordingFault) × (between : R) × Writes writes was e kept before between × WritesAll writes kept es told between after

-- an event is added at the end; one for which memory ran out is not there
abbrev pub adds_event : List Event → Event → Option RecordingFault → List Event → Type 0
adds_event events e None after = after ≡ events ++ e ∷ []
adds_event events e (Some why) after = (after ≡ events) × (why ≡ fault.OutOfMemory)
