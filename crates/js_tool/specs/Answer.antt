-- What is answered to a transcript whose replay is told of in a text, and what is written.
use Rattle.std.specs.Prelude.{◌≡◌, ◌≤◌, ℕ, List, length, Option, None, IfSome, Result, Ok}
use Rattle.std.specs.Io.KnownBytes.{Appends, IsAtEnd}
use Rattle.js_tool_io.specs.Causes.{AppendsPrefix}
use Rattle.js_ordered_table.specs.declared.consumer.ReplayInput.{ReplayInput}
use Rattle.js_ordered_table.specs.declared.event.Event.{Event}
use Rattle.js_ordered_table.specs.declared.run.ReplayError.{ReplayError}
use Rattle.js_ordered_table.specs.Refusal.{refuse}
use Rattle.js_tool.specs.declared.answer.ReplayOutcome.{ReplayOutcome}
use Rattle.js_tool.specs.declared.answer.ReplayOutcome.TheVariants as outcome
use Rattle.js_tool.specs.declared.status.Status.{Status}
use Rattle.js_tool.specs.declared.status.Status.TheVariants as status
use Rattle.js_tool.specs.Program.{IsUnlessFailed, HasReadAll, WritesUnlessFault, called_by}
use Rattle.js_tool_transcript.specs.declared.transcript.Transcript.{Transcript}
use Rattle.js_tool_transcript.specs.Text.{refusal_text}
use Rattle.js_tool_transcript.specs.TranscriptReplay.{replay_input, IsRefusedAs, FirstUnreadAs, IsValidAs}

-- what is told of a replay of these events, from this start on
abbrev pub Texts : Type 0
Texts = ReplayInput → ℕ → List Event → List ℕ

-- of a transcript
abbrev pub text_of : Texts → Transcript → List ℕ
text_of text t = text (replay_input t.setup) t.setup.start t.events

-- the bytes are this transcript, by what they say, and its replay is not refused
pub record IsAcceptedAs (reading : Result Transcript ℕ) (bytes : List ℕ) (t : Transcript) : Type 0 where
  pub within : length bytes ≤ 67_108_864
  pub reads : reading ≡ Ok t
  pub accepted : refuse (replay_input t.setup) t.setup.start t.events ≡ None

-- the outcome is what the bytes call for, by what they say
abbrev pub IsOutcome : Texts → Result Transcript ℕ → List ℕ → ReplayOutcome → Type 0
IsOutcome text reading bytes (outcome.Done written) = (t : Transcript) × IsAcceptedAs reading bytes t × (written.items ≡ text_of text t)
IsOutcome text reading bytes (outcome.Refused written) = (refusal : ReplayError) × IsRefusedAs reading bytes refusal × (written.items ≡ refusal_text refusal)
IsOutcome text reading bytes (outcome.BadLine line) = FirstUnreadAs reading bytes line

-- What is answered and written, where this is how the bytes are read, over ends before and after it: what the source had left, what the sink had
-- taken, and the sink's count of faults.
pub record AnswersText (text : Texts) (reading : List ℕ → Result Transcript ℕ) (left left_after taken taken_after : Option (List ℕ)) (faults faults_after : ℕ) (answer : Status) : Type 0 where
  -- the whole text was written, and nothing else
  pub done : answer ≡ status.Done → IfSome left (λ bytes. (t : Transcript) × IsAcceptedAs (reading bytes) bytes t × Appends taken taken_after (text_of text t))
  -- the line of the refusal
  pub refused : answer ≡ status.Refused → IfSome left (λ bytes. (refusal : ReplayError) × IsRefusedAs (reading bytes) bytes refusal
      × WritesUnlessFault taken taken_after faults faults_after (refusal_text refusal))
  -- a front of the text was written
  pub written_before_fault : answer ≡ status.WriteFault → IfSome left (λ bytes. (t : Transcript) × IsAcceptedAs (reading bytes) bytes t × AppendsPrefix taken taken_after (text_of text t))
  pub at_end : HasReadAll answer → IsAtEnd left_after
  -- what the input calls for is answered, unless memory ran out or a count of faults rose
  pub otherwise : IfSome left (λ bytes. IsUnlessFailed answer (called_by (reading bytes) bytes))
  pub valid : IfSome left (λ bytes. IsValidAs (reading bytes) bytes → IsUnlessFailed answer status.Done)
