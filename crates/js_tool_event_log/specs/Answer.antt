-- What the program answers to a command over what its source holds, and what it writes.
use Rattle.std.specs.Prelude.{◌≡◌, ◌⊎◌, ◌≤◌, ℕ, List, length, nat_lt, if◌then◌else◌, Option, IfSome, Result, Ok, Err}
use Rattle.std.specs.Io.KnownBytes.{Appends, IsAtEnd}
use Rattle.js_tool_io.specs.Causes.{AppendsPrefix}
use Rattle.js_tool.specs.declared.status.Status.{Status}
use Rattle.js_tool.specs.declared.status.Status.TheVariants as status
use Rattle.js_tool_transcript.specs.declared.transcript.Transcript.{Transcript}
use Rattle.js_tool_transcript.specs.declared.transcript.Unread.{Unread}
use Rattle.js_tool_transcript.specs.declared.transcript.Unread.TheVariants as unread
use Rattle.js_tool.specs.Program.{IsUnlessFailed, WritesUnlessFault, HasReadAll}
use Rattle.js_tool_transcript.specs.Transcript.{transcript}
use Rattle.js_tool_event_log.specs.declared.report.Report.{Report}
use Rattle.js_tool_event_log.specs.declared.report.Report.TheVariants as report
use Rattle.js_tool.specs.LogCommand.{Wanted}
use Rattle.js_tool_event_log.specs.Report.{report_of}
use Rattle.js_tool_event_log.specs.Relay.{ServesOf}

-- the bytes are read as this
pub record ReadsBy {T : Type 0} (reading : List ℕ → Result T ℕ) (bytes : List ℕ) (t : T) : Type 0 where
  pub within : length bytes ≤ 67_108_864
  pub by : reading bytes ≡ Ok t

-- as this transcript
abbrev pub Reads : List ℕ → Transcript → Type 0
Reads bytes t = ReadsBy transcript bytes t

-- the first line of the bytes that does not read is this
pub record IsFirstUnread {T : Type 0} (reading : List ℕ → Result T ℕ) (bytes : List ℕ) (line : ℕ) : Type 0 where
  pub within : length bytes ≤ 67_108_864
  pub by : reading bytes ≡ Err line

-- ---- the status that the bytes call for, where nothing fails

abbrev pub report_status : Report → Status
report_status (report.Done text) = status.Done
report_status (report.Refused line) = status.Refused

abbrev pub reading_status : {T : Type 0} → (T → Report) → Result T ℕ → Status
reading_status of (Ok t) = report_status (of t)
reading_status of (Err line) = status.BadLine line

unfoldable pub called_for : {T : Type 0} → (List ℕ → Result T ℕ) → (T → Report) → List ℕ → Status
called_for reading of bytes = if nat_lt 67_108_864 (length bytes) then status.TooLong else reading_status of (reading bytes)

-- ---- what is answered and written, over ends before and after it: what the source had left, what the sink had taken, and the sink's count of faults

-- where nothing was made of the bytes
abbrev pub unread_status : Unread → Status
unread_status (unread.BadLine line) = status.BadLine line
unread_status unread.OutOfMemory = status.OutOfMemory

-- the text or the line that was made of the bytes was written, or a front of it where the sink failed
abbrev pub Writes : Result Report Unread → Option (List ℕ) → Option (List ℕ) → ℕ → ℕ → Status → Type 0
Writes (Ok (report.Done text)) taken taken_after faults faults_after answer =
    ((answer ≡ status.Done) × Appends taken taken_after text) ⊎ ((answer ≡ status.WriteFault) × AppendsPrefix taken taken_after text)
Writes (Ok (report.Refused line)) taken taken_after faults faults_after answer = (answer ≡ status.Refused) × WritesUnlessFault taken taken_after faults faults_after line
Writes (Err e) taken taken_after faults faults_after answer = answer ≡ unread_status e

-- what a command makes of the bytes, by what they are read as
pub record AnswersBytes {T : Type 0} (reading : List ℕ → Result T ℕ) (of : T → Report) (more : T → Report → Type 0)
    (bytes : List ℕ) (taken taken_after : Option (List ℕ)) (faults faults_after : ℕ) (answer : Status) : Type 0 where
  -- the whole text was written, and nothing else
  pub done : answer ≡ status.Done → (t : T) × (text : List ℕ) × ReadsBy reading bytes t × (of t ≡ report.Done text) × Appends taken taken_after text × more t (report.Done text)
  pub refused : answer ≡ status.Refused → (t : T) × (line : List ℕ) × ReadsBy reading bytes t × (of t ≡ report.Refused line)
      × WritesUnlessFault taken taken_after faults faults_after line
  -- a front of the text was written
  pub written_before_fault : answer ≡ status.WriteFault → (t : T) × (text : List ℕ) × ReadsBy reading bytes t × (of t ≡ report.Done text)
      × AppendsPrefix taken taken_after text
  -- what the bytes call for is answered, unless memory ran out or a count of faults rose. So input that is refused nowhere gives its text
  pub otherwise : IsUnlessFailed answer (called_for reading of bytes)

-- what a command makes of the source's bytes
pub record AnswersSource {T : Type 0} (reading : List ℕ → Result T ℕ) (of : T → Report) (more : T → Report → Type 0)
    (left left_after taken taken_after : Option (List ℕ)) (faults faults_after : ℕ) (answer : Status) : Type 0 where
  pub told : IfSome left (λ bytes. AnswersBytes reading of more bytes taken taken_after faults faults_after answer)
  pub at_end : HasReadAll answer → IsAtEnd left_after

-- what a command over a log makes of a transcript
abbrev pub AnswersLog : Wanted → Option (List ℕ) → Option (List ℕ) → Option (List ℕ) → Option (List ℕ) → ℕ → ℕ → Status → Type 0
AnswersLog command left left_after taken taken_after faults faults_after answer =
    AnswersSource transcript (report_of command) (ServesOf command) left left_after taken taken_after faults faults_after answer
