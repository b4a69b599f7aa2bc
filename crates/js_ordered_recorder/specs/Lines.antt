-- What is written of the lines of events.
use Rattle.std.specs.Prelude.{◌≡◌, ℕ, true, List, [], ◌∷◌, ◌++◌, Option, Some, None, Ok, refl}
use Rattle.std.specs.Global.{Vec}
use Rattle.circular_buffer.specs.Buffer.{Buffer, buffer, keep_last}
use Rattle.js_ordered_table.specs.declared.event.Event.{Event}
use Rattle.js_tool_transcript.specs.Event.{extended_line}
use Rattle.js_tool_transcript.specs.EventText.{event_text, is_recordable}
use Rattle.js_tool_transcript.specs.ExtendedText.{extended_json, extended_text}
use Rattle.js_ordered_recorder.specs.declared.recording.RecordingFault.{RecordingFault}
use Rattle.js_ordered_recorder.specs.declared.recording.RecordingFault.TheVariants as fault

-- the line of an event reads back as the event
abbrev pub ReadsBack : Event → Type 0
ReadsBack e = extended_line (extended_json e) ≡ Ok e

-- the line of an event: that of a transcript where it says the event, and else the extended one
pub record IsLine (line : List ℕ) (e : Event) : Type 0 where
  pub text : line ≡ extended_text e
  pub plain : is_recordable e ≡ true → line ≡ event_text e
  pub reads : ReadsBack e

-- the line of an event is added at the end; where memory ran out the lines are what they were
abbrev pub AddsLine : List ℕ → Event → Option RecordingFault → List ℕ → Type 0
AddsLine lines e None after = (line : List ℕ) × (after ≡ lines ++ line) × IsLine line e
AddsLine lines e (Some why) after = (after ≡ lines) × (why ≡ fault.OutOfMemory)

-- of the lines and one more those are kept that came last, as many as there may be
abbrev pub kept_with : Buffer (Vec ℕ) → Vec ℕ → Buffer (Vec ℕ)
kept_with lines line = buffer (keep_last lines.capacity (lines.items ++ line ∷ [])) lines.capacity

-- the line of an event is kept; where memory ran out the lines are what they were
abbrev pub KeepsLine : Buffer (Vec ℕ) → Event → Option RecordingFault → Buffer (Vec ℕ) → Type 0
KeepsLine lines e None after = (line : Vec ℕ) × (after ≡ kept_with lines line) × IsLine line.items e
KeepsLine lines e (Some why) after = (after ≡ lines) × (why ≡ fault.OutOfMemory)

-- of three the last two are kept, where there may be two
the_oldest_goes : keep_last {X = ℕ} 2 (5 ∷ 6 ∷ 7 ∷ []) ≡ 6 ∷ 7 ∷ []
the_oldest_goes = refl
