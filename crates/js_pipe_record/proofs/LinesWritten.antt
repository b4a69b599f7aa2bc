-- The lines of events that were all written, and where a recorder stands then.
use Rattle.std.proofs.Common.{◌≡◌, ◌∙◌, ℕ, Bool, true, false, Option, None, Some, List, [], ◌∷◌, ◌++◌, Result, refl, sym, ap, subst, append_assoc, append-nil}
use Rattle.std.specs.Io.KnownBytes.{Appends}
use Rattle.std.proofs.KnownBytes.{Appends-trans}
use Rattle.js_base.specs.declared.error.Error.{Error}
use Rattle.js_base.specs.declared.turn.Next.{Next}
use Rattle.js_link.specs.LinkView.{LinkView}
use Rattle.js_message.specs.declared.message.Message.{Message}
use Rattle.js_ordered_recorder.specs.Recorder.{IsAt, Polls}
use Rattle.js_ordered_recorder.specs.Recording.{WritesAll}
use Rattle.js_ordered_recorder.specs.declared.lines.LineRecording.{LineRecording}
use Rattle.js_ordered_recorder.specs.declared.recorder.Recorder.{Recorder}
use Rattle.js_ordered_recorder.specs.declared.recording.RecordingFault.{RecordingFault}
use Rattle.js_ordered_stream.specs.declared.error.OrderedErrorKind.{OrderedErrorKind}
use Rattle.js_ordered_table.specs.declared.event.Event.{Event}
use Rattle.js_ordered_table.specs.declared.run.Output.{Output}
use Rattle.js_pipe_record.specs.FileRecorder.{GoesOn, HasWritten, PollsFile, Records, StaysRecorded, lines_text, writes_line}
use Rattle.js_pipe_record.specs.declared.file_recorder.FileRecorder.{FileRecorder}
use Rattle.js_pipe_record.specs.declared.first_line.FirstLine.{FirstLine}
use Rattle.js_pipe_record.specs.declared.recording_file.RecordingFile.{RecordingFile}
use Rattle.js_tool_transcript.specs.ExtendedText.{extended_text}
use Rattle.js_tool_transcript.specs.TranscriptReplay.{replay_input}

-- where there is no fault in the end, there was none before
no_fault_before : {R : Type 0} (writes : R → Event → Option RecordingFault → R → Type 0) (es : List Event) (was : Option RecordingFault) (a b : R)
    → WritesAll writes was es None a b → was ≡ None
no_fault_before writes [] was a b wrote = sym wrote.1
no_fault_before writes (e ∷ es) None a b wrote = refl
no_fault_before writes (e ∷ es) (Some first) a b wrote = sym wrote.2.1 ∙ no_fault_before writes es wrote.0 wrote.1 b wrote.3

-- and then the lines of all events stand behind the others
lines_written : (es : List Event) (a b : LineRecording) → WritesAll writes_line None es None a b → b.bytes.items ≡ a.bytes.items ++ lines_text es
lines_written [] a b wrote = ap (λ (lines : LineRecording). lines.bytes.items) wrote.0 ∙ sym (append-nil a.bytes.items)
lines_written (e ∷ es) a b wrote =
    let none : wrote.0 ≡ None = no_fault_before writes_line es wrote.0 wrote.1 b wrote.3 in
    let one : writes_line a e None wrote.1 = subst (λ (kept : Option RecordingFault). writes_line a e kept wrote.1) none wrote.2 in
    let rest : WritesAll writes_line None es None wrote.1 b = subst (λ (kept : Option RecordingFault). WritesAll writes_line kept es None wrote.1 b) none wrote.3 in
    lines_written es wrote.1 b rest
    ∙ ap (λ (l : List ℕ). l ++ lines_text es) (one.1 ∙ ap (λ (l : List ℕ). a.bytes.items ++ l) one.2.text)
    ∙ append_assoc a.bytes.items (extended_text e) (lines_text es)

lines_of_both : (es fs : List Event) → lines_text (es ++ fs) ≡ lines_text es ++ lines_text fs
lines_of_both [] fs = refl
lines_of_both (e ∷ es) fs = ap (λ (l : List ℕ). extended_text e ++ l) (lines_of_both es fs) ∙ sym (append_assoc (extended_text e) (lines_text es) (lines_text fs))

-- the bytes of a reader that has gone on through events whose lines were all added
bytes_on : {F : Type 0} (taken : F → Option (List ℕ)) (began : Option (List ℕ)) (first : List ℕ) (earlier es : List Event) (old new : FileRecorder F)
    → HasWritten taken began first earlier old → new.file ≡ old.file → new.lines.bytes.items ≡ old.lines.bytes.items ++ lines_text es
    → HasWritten taken began first (earlier ++ es) new
bytes_on {F} taken began first earlier es old new had file lines = record {
  written = had.written;
  file = subst (λ (f : RecordingFile F). Appends began (taken f.sink) had.written) (sym file) had.file;
  whole = ap (λ (l : List ℕ). had.written ++ l) lines
      ∙ sym (append_assoc had.written old.lines.bytes.items (lines_text es))
      ∙ ap (λ (l : List ℕ). l ++ lines_text es) had.whole
      ∙ append_assoc first (lines_text earlier) (lines_text es)
      ∙ ap (λ (l : List ℕ). first ++ l) (sym (lines_of_both earlier es));
}

-- a poll goes on through the events that it writes
pub poll_goes_on : {F : Type 0} (taken : F → Option (List ℕ)) (now : ℕ) (answer : Next (Result Message (Error OrderedErrorKind))) (old new : FileRecorder F) (before after : LinkView)
    → PollsFile now answer old new before after → GoesOn taken old new
poll_goes_on {F} taken now answer old new before after polled = record {
  es = polled.polls.es;
  worked = polled.polls.worked;
  records = λ began first earlier done stood. record {
    stands = polled.polls.stands (replay_input first.setup) first.setup.start earlier done stood.stands;
    bytes = λ whole none.
        let es = polled.polls.es in
        let wrote : WritesAll writes_line old.recorder.fault es None old.lines new.lines =
        subst (λ (told : Option RecordingFault). WritesAll writes_line old.recorder.fault es told old.lines new.lines) none polled.polls.wrote in
        let was : old.recorder.fault ≡ None = no_fault_before writes_line es old.recorder.fault old.lines new.lines wrote in
        let all : WritesAll writes_line None es None old.lines new.lines =
        subst (λ (fault : Option RecordingFault). WritesAll writes_line fault es None old.lines new.lines) was wrote in
        let unfailed : old.file.has_failed ≡ false = ap (λ (f : RecordingFile F). f.has_failed) (sym polled.file) ∙ whole in
        bytes_on taken began first.line.items earlier es old new (stood.bytes unfailed was) polled.file (lines_written es old.lines new.lines all);
  };
}

-- a file that takes more in the end took more before
pub open_before : (was now : Bool) → (was ≡ true → now ≡ true) → now ≡ false → was ≡ false
open_before false now stays is = refl
open_before true now stays is = sym (stays refl) ∙ is

-- what waited was written
pub keep_stays : {F : Type 0} (taken : F → Option (List ℕ)) (old new : FileRecorder F)
    → new.recorder ≡ old.recorder → new.lines.bytes.items ≡ []
    → (new.file.has_failed ≡ false → old.file.has_failed ≡ false)
    → (new.file.has_failed ≡ false → Appends (taken old.file.sink) (taken new.file.sink) old.lines.bytes.items)
    → StaysRecorded taken old new
keep_stays taken old new recorder lines was wrote = λ began first es worked stood. record {
  stands = subst (λ (r : Recorder). IsAt (replay_input first.setup) first.setup.start es worked r) (sym recorder) stood.stands;
  bytes = λ whole none.
      let had : HasWritten taken began first.line.items es old =
      stood.bytes (was whole) (ap (λ (r : Recorder). r.fault) (sym recorder) ∙ none) in
      record {
        written = had.written ++ old.lines.bytes.items;
        file = Appends-trans began (taken old.file.sink) (taken new.file.sink) had.written old.lines.bytes.items had.file (wrote whole);
        whole = ap (λ (l : List ℕ). (had.written ++ old.lines.bytes.items) ++ l) lines ∙ append-nil (had.written ++ old.lines.bytes.items) ∙ had.whole;
      };
}

-- a reader that was just opened has the first line
pub open_records : {F : Type 0} (taken : F → Option (List ℕ)) (began : Option (List ℕ)) (first : FirstLine) (reader : FileRecorder F)
    → IsAt (replay_input first.setup) first.setup.start [] [] reader.recorder → reader.lines.bytes.items ≡ []
    → (reader.file.has_failed ≡ false → Appends began (taken reader.file.sink) first.line.items)
    → Records taken began first [] [] reader
open_records taken began first reader stands lines wrote = record {
  stands = stands;
  bytes = λ whole none. record {
    written = first.line.items;
    file = wrote whole;
    whole = ap (λ (l : List ℕ). first.line.items ++ l) lines;
  };
}
