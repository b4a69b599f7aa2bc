-- What the program answers to an input, and what it writes.
use Rattle.std.specs.Prelude.{◌≡◌, ◌⊎◌, ◌+◌, ◌*◌, ℕ, List, length, nat_lt, if◌then◌else◌, Option, Some, None, IfSome, Result, Ok, Err, ⊤}
use Rattle.std.specs.Io.KnownBytes.{Appends, IsAtEnd}
use Rattle.js_tool_io.specs.Causes.{Rose, AppendsPrefix}
use Rattle.js_tool_generate.specs.declared.summary.Summary.{Summary}
use Rattle.js_tool_generate.specs.Summary.{summary}
use Rattle.js_tool_generate.specs.Transcript as generated
use Rattle.js_message.specs.AckSubject.{Info, ack}
use Rattle.js_message.specs.declared.info_error.InfoError.{InfoError}
use Rattle.js_ordered_table.specs.declared.run.Run.{Run}
use Rattle.js_ordered_table.specs.declared.run.ReplayError.{ReplayError}
use Rattle.js_ordered_table.specs.Fold.{fold}
use Rattle.js_ordered_table.specs.Refusal.{refuse}
use Rattle.js_window_workers.specs.declared.workers.WindowCounts.{WindowCounts}
use Rattle.js_window_workers.specs.WindowCounts.{CountsOfRun}
use Rattle.js_tool.specs.declared.status.Status.{Status}
use Rattle.js_tool.specs.declared.status.Status.TheVariants as status
use Rattle.js_tool_transcript.specs.declared.transcript.Transcript.{Transcript}
use Rattle.js_tool.specs.CommandTexts.{summary_text, info_text, error_text, info_status, window_text}
use Rattle.js_tool.specs.Command.{Asked, Replay, Generate, Window}
use Rattle.js_tool.specs.Command as commands
use Rattle.js_tool_transcript.specs.Transcript.{transcript, extended_transcript}
use Rattle.js_tool_transcript.specs.TranscriptReplay.{replay_input, ReplaysAs, IsRefusedAs, IsValidAs}
use Rattle.js_tool_transcript.specs.Text.{run_text, refusal_text}

-- ---- the status that bytes call for, where nothing fails

abbrev pub replay_status : Option ReplayError → Status
replay_status None = status.Done
replay_status (Some refusal) = status.Refused

abbrev pub transcript_status : Result Transcript ℕ → Status
transcript_status (Ok t) = replay_status (refuse (replay_input t.setup) t.setup.start t.events)
transcript_status (Err line) = status.BadLine line

unfoldable pub called_by : Result Transcript ℕ → List ℕ → Status
called_by reading bytes = if nat_lt 67_108_864 (length bytes) then status.TooLong else transcript_status reading

-- a status for want of memory or after a fault, or else this one
abbrev pub IsUnlessFailed : Status → Status → Type 0
IsUnlessFailed status.OutOfMemory called = ⊤
IsUnlessFailed status.ReadFault called = ⊤
IsUnlessFailed status.WriteFault called = ⊤
IsUnlessFailed status.Done called = called ≡ status.Done
IsUnlessFailed status.Usage called = called ≡ status.Usage
IsUnlessFailed (status.BadLine line) called = called ≡ status.BadLine line
IsUnlessFailed status.Refused called = called ≡ status.Refused
IsUnlessFailed status.TooLong called = called ≡ status.TooLong

-- a status for want of memory or after a write that failed, or else this one
abbrev pub IsUnlessUnwritten : Status → Status → Type 0
IsUnlessUnwritten status.OutOfMemory called = ⊤
IsUnlessUnwritten status.WriteFault called = ⊤
IsUnlessUnwritten status.Done called = called ≡ status.Done
IsUnlessUnwritten status.Usage called = called ≡ status.Usage
IsUnlessUnwritten status.ReadFault called = called ≡ status.ReadFault
IsUnlessUnwritten (status.BadLine line) called = called ≡ status.BadLine line
IsUnlessUnwritten status.Refused called = called ≡ status.Refused
IsUnlessUnwritten status.TooLong called = called ≡ status.TooLong

-- ---- generated transcripts

-- the counts of the replay of the first so many events that a seed gives, which yields every message up to its last
pub record IsGenerated (seed events : ℕ) (totals : Summary) : Type 0 where
  pub counts : totals ≡ summary (fold generated.replay_input 0 (generated.generated seed events))
  pub whole : totals.yields ≡ totals.last

-- ---- threads on a window

-- what is asked for that needs no threads
abbrev pub without_threads : Option Asked → Option Asked
without_threads None = None
without_threads (Some Replay) = Some Replay
without_threads (Some (Generate seed events)) = Some (Generate seed events)
without_threads (Some (commands.Info subject)) = Some (commands.Info subject)
without_threads (Some (Window capacity threads calls)) = None

-- what so many threads came to on a window with so many permits, where each took one so many times
pub record IsWindowRun (capacity threads calls : ℕ) (counts : WindowCounts) : Type 0 where
  pub sum : counts.got + counts.full ≡ threads * calls
  pub run : CountsOfRun capacity threads calls counts

-- ---- what is written

-- the text was written, or a front of it where the sink failed
abbrev pub WritesUnlessFault : Option (List ℕ) → Option (List ℕ) → ℕ → ℕ → List ℕ → Type 0
WritesUnlessFault old new before now text = Appends old new text ⊎ (AppendsPrefix old new text × Rose before now)

-- with these statuses nothing is written
abbrev pub SaysNothing : Status → Type 0
SaysNothing status.Done = ⊥
SaysNothing status.Refused = ⊥
SaysNothing status.WriteFault = ⊥
SaysNothing status.ReadFault = ⊤
SaysNothing status.Usage = ⊤
SaysNothing (status.BadLine line) = ⊤
SaysNothing status.OutOfMemory = ⊤
SaysNothing status.TooLong = ⊤

-- with these the source was read to its end
abbrev pub HasReadAll : Status → Type 0
HasReadAll status.Done = ⊤
HasReadAll status.Refused = ⊤
HasReadAll status.WriteFault = ⊤
HasReadAll (status.BadLine line) = ⊤
HasReadAll status.ReadFault = ⊥
HasReadAll status.Usage = ⊥
HasReadAll status.OutOfMemory = ⊥
HasReadAll status.TooLong = ⊥

-- ---- what a command answers and writes, over ends before and after it: what the source had left, what the sink had taken, and the sink's count of faults

-- a transcript that is replayed, where this is how its bytes are read
pub record AnswersReading (reading : List ℕ → Result Transcript ℕ) (left left_after taken taken_after : Option (List ℕ)) (faults faults_after : ℕ) (answer : Status) : Type 0 where
  -- the whole text of the input's run was written, and nothing else
  pub done : answer ≡ status.Done → IfSome left (λ bytes. (run : Run) × ReplaysAs (reading bytes) bytes run × Appends taken taken_after (run_text run))
  pub refused : answer ≡ status.Refused → IfSome left (λ bytes. (refusal : ReplayError) × IsRefusedAs (reading bytes) bytes refusal
      × WritesUnlessFault taken taken_after faults faults_after (refusal_text refusal))
  -- a front of the run's text was written
  pub written_before_fault : answer ≡ status.WriteFault → IfSome left (λ bytes. (run : Run) × ReplaysAs (reading bytes) bytes run × AppendsPrefix taken taken_after (run_text run))
  pub at_end : HasReadAll answer → IsAtEnd left_after
  -- what the input calls for is answered, unless memory ran out or a count of faults rose
  pub otherwise : IfSome left (λ bytes. IsUnlessFailed answer (called_by (reading bytes) bytes))
  pub valid : IfSome left (λ bytes. IsValidAs (reading bytes) bytes → IsUnlessFailed answer status.Done)

-- `replay`
abbrev pub AnswersReplay : Option (List ℕ) → Option (List ℕ) → Option (List ℕ) → Option (List ℕ) → ℕ → ℕ → Status → Type 0
AnswersReplay = AnswersReading transcript

-- `rerun`
abbrev pub AnswersRerun : Option (List ℕ) → Option (List ℕ) → Option (List ℕ) → Option (List ℕ) → ℕ → ℕ → Status → Type 0
AnswersRerun = AnswersReading extended_transcript

-- `generate`: the line of how much the generated transcript's run puts out
pub record AnswersGenerate (seed events : ℕ) (taken taken_after : Option (List ℕ)) (answer : Status) : Type 0 where
  pub done : answer ≡ status.Done → (counts : Summary) × IsGenerated seed events counts × Appends taken taken_after (summary_text counts)
  pub written_before_fault : answer ≡ status.WriteFault → (counts : Summary) × IsGenerated seed events counts × AppendsPrefix taken taken_after (summary_text counts)
  pub otherwise : IsUnlessUnwritten answer status.Done

-- `info`: the line of what the subject says, or of why it is no acknowledgement subject
pub record AnswersInfo (subject : List ℕ) (taken taken_after : Option (List ℕ)) (faults faults_after : ℕ) (answer : Status) : Type 0 where
  pub done : answer ≡ status.Done → (info : Info) × (ack subject ≡ Ok info) × Appends taken taken_after (info_text info)
  pub refused : answer ≡ status.Refused → (error : InfoError) × (ack subject ≡ Err error) × WritesUnlessFault taken taken_after faults faults_after (error_text error)
  pub written_before_fault : answer ≡ status.WriteFault → (info : Info) × (ack subject ≡ Ok info) × AppendsPrefix taken taken_after (info_text info)
  pub otherwise : IsUnlessUnwritten answer (info_status (ack subject))

-- `window`: the line of what the threads came to
pub record AnswersWindow (capacity threads calls : ℕ) (taken taken_after : Option (List ℕ)) (answer : Status) : Type 0 where
  pub done : answer ≡ status.Done → (counts : WindowCounts) × IsWindowRun capacity threads calls counts
      × Appends taken taken_after (window_text capacity threads calls counts)
  pub written_before_fault : answer ≡ status.WriteFault → (counts : WindowCounts) × IsWindowRun capacity threads calls counts
      × AppendsPrefix taken taken_after (window_text capacity threads calls counts)
  pub otherwise : IsUnlessUnwritten answer status.Done
