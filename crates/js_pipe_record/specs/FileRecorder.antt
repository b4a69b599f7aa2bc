-- What a recorder and its file have.
use Rattle.std.specs.Prelude.{◌≡◌, ℕ, Bool, true, false, ◌&&◌, not, is_some, List, [], ◌∷◌, ◌++◌, Option, Some, None, Result, Ok, Err, refl}
use Rattle.std.specs.Io.KnownBytes.{Appends}
use Rattle.js_base.specs.declared.error.Error.{Error}
use Rattle.js_base.specs.declared.message.Message as base
use Rattle.js_base.specs.declared.turn.Next.{Next}
use Rattle.js_base.specs.declared.turn.Next.TheVariants as next
use Rattle.js_link.specs.LinkView.{LinkView}
use Rattle.js_message.specs.declared.message.Message.{Message}
use Rattle.js_ordered_recorder.specs.Lines.{AddsLine}
use Rattle.js_ordered_recorder.specs.Recorder.{IsAt, Polls}
use Rattle.js_ordered_recorder.specs.declared.lines.LineRecording.{LineRecording}
use Rattle.js_ordered_recorder.specs.declared.recording.RecordingFault.{RecordingFault}
use Rattle.js_ordered_stream.specs.declared.error.OrderedErrorKind.{OrderedErrorKind}
use Rattle.js_ordered_table.specs.declared.event.Event.{Event}
use Rattle.js_ordered_table.specs.declared.run.Output.{Output}
use Rattle.js_pipe_record.specs.declared.file_recorder.FileRecorder.{FileRecorder}
use Rattle.js_pipe_record.specs.declared.first_line.FirstLine.{FirstLine}
use Rattle.js_tool_transcript.specs.ExtendedText.{extended_text}
use Rattle.js_tool_transcript.specs.TranscriptReplay.{replay_input}

-- ---- the bytes

-- the line of each event, in order
abbrev pub lines_text : List Event → List ℕ
lines_text [] = []
lines_text (e ∷ es) = extended_text e ++ lines_text es

-- worked: two events are two lines
two_lines : (e f : Event) → lines_text (e ∷ f ∷ []) ≡ extended_text e ++ (extended_text f ++ [])
two_lines e f = refl

-- what the sink took since it was like that, and then what is not written yet, is the first line and the line of each event
pub record HasWritten {F : Type 0} (taken : F → Option (List ℕ)) (began : Option (List ℕ)) (first : List ℕ) (es : List Event) (reader : FileRecorder F) : Type 0 where
  pub written : List ℕ
  pub file : Appends began (taken reader.file.sink) written
  pub whole : written ++ reader.lines.bytes.items ≡ first ++ lines_text es

-- ---- where a reader stands

-- all that it was to record is recorded
abbrev pub is_whole : {F : Type 0} → FileRecorder F → Bool
is_whole reader = not (is_some reader.recorder.fault) && not reader.file.has_failed

-- it has gone through these events and worked off these outputs, as the replay of them with the setup of the first line does; and
-- where its recording is whole, that is what the sink has
pub record Records {F : Type 0} (taken : F → Option (List ℕ)) (began : Option (List ℕ)) (first : FirstLine) (es : List Event) (worked : List Output) (reader : FileRecorder F) : Type 0 where
  pub stands : IsAt (replay_input first.setup) first.setup.start es worked reader.recorder
  pub bytes : reader.file.has_failed ≡ false → reader.recorder.fault ≡ None → HasWritten taken began first.line.items es reader

-- it goes on from there, through more events
pub record GoesOn {F : Type 0} (taken : F → Option (List ℕ)) (old new : FileRecorder F) : Type 0 where
  pub es : List Event
  pub worked : List Output
  pub records : (began : Option (List ℕ)) → (first : FirstLine) → (earlier : List Event) → (done : List Output)
      → Records taken began first earlier done old → Records taken began first (earlier ++ es) (done ++ worked) new

-- it stands where it stood
abbrev pub StaysRecorded : {F : Type 0} → (F → Option (List ℕ)) → FileRecorder F → FileRecorder F → Type 0
StaysRecorded taken old new = (began : Option (List ℕ)) → (first : FirstLine) → (es : List Event) → (worked : List Output)
    → Records taken began first es worked old → Records taken began first es worked new

-- ---- a poll

-- a line goes behind those that are not written yet
abbrev pub writes_line : LineRecording → Event → Option RecordingFault → LineRecording → Type 0
writes_line old e fault new = AddsLine old.bytes.items e fault new.bytes.items

-- what a recorder answers, with the time that a double ack of its message waits
abbrev pub with_timeout : ℕ → Next (Result base.Message (Error OrderedErrorKind)) → Next (Result Message (Error OrderedErrorKind))
with_timeout timeout (next.Item (Ok message)) = next.Item (Ok (record { message = message; timeout = timeout }))
with_timeout timeout (next.Item (Err e)) = next.Item (Err e)
with_timeout timeout next.Pending = next.Pending
with_timeout timeout next.End = next.End
with_timeout timeout next.OutOfMemory = next.OutOfMemory

-- a poll of the recorder, whose lines wait to be written; the file is as it was
pub record PollsFile {F : Type 0} (now : ℕ) (answer : Next (Result Message (Error OrderedErrorKind))) (old new : FileRecorder F) (before after : LinkView) : Type 0 where
  pub bare : Next (Result base.Message (Error OrderedErrorKind))
  pub polls : Polls writes_line now bare (record { recorder = old.recorder; link = before }) (record { recorder = new.recorder; link = after }) old.lines new.lines
  pub answers : answer ≡ with_timeout old.timeout bare
  pub file : new.file ≡ old.file
  pub timeout : new.timeout ≡ old.timeout
