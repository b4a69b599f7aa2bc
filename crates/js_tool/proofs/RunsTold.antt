-- The text of a report: what bytes call for, and that the text of a run is one.
use Rattle.std.proofs.Common.{◌≡◌, ℕ, Bool, List, Option, Some, None, IfSome, refl}
use Rattle.std.specs.Prelude.{Result}
use Rattle.std.specs.Io.KnownBytes.{Appends}
use Rattle.js_tool_io.specs.Causes.{AppendsPrefix}
use Rattle.js_ordered_table.specs.declared.consumer.ReplayInput.{ReplayInput}
use Rattle.js_ordered_table.specs.declared.event.Event.{Event}
use Rattle.js_ordered_table.specs.declared.run.Run.{Run}
use Rattle.js_ordered_table.specs.Fold.{fold}
use Rattle.js_ordered_table.proofs.Promises.{fold_replays}
use Rattle.js_tool.specs.declared.status.Status.{Status}
use Rattle.js_tool.specs.Answer.{AnswersText, IsAcceptedAs, Texts, text_of}
use Rattle.js_tool.specs.Progress.{Tells, HasReplayed, ReplaysTold}
use Rattle.js_tool.specs.Program.{AnswersReading}
use Rattle.js_tool_transcript.specs.declared.transcript.Transcript.{Transcript}
use Rattle.js_tool_transcript.specs.Text.{run_text}
use Rattle.js_tool_transcript.specs.TranscriptReplay.{replay_input, ReplaysAs}

-- the text of a report that tells of the whole replay is what the bytes call for
pub text_told : (R : Type 0) (tells : Tells R) (text : Texts) (reading : Result Transcript ℕ) (bytes : List ℕ) (report : R) (ended : Bool) (events : ℕ) (written : List ℕ)
    → ReplaysTold tells reading bytes report ended events
    → ((g : ReplayInput) (start : ℕ) (es : List Event) → HasReplayed tells g start es report ended events → written ≡ text g start es)
    → (t : Transcript) × IsAcceptedAs reading bytes t × (written ≡ text_of text t)
text_told R tells text reading bytes report ended events written is finished =
    let (t, reads, has) = is.by in
    (t, record { within = is.within; reads = reads; accepted = has.accepted }, finished (replay_input t.setup) t.setup.start t.events has)

-- the run of a transcript that is accepted
run_of : (P : List ℕ → Type 0) (reading : Result Transcript ℕ) (bytes : List ℕ) → (t : Transcript) × IsAcceptedAs reading bytes t × P (run_text (fold (replay_input t.setup) t.setup.start t.events))
    → (run : Run) × ReplaysAs reading bytes run × P (run_text run)
run_of P reading bytes (t, is, says) =
    let g = replay_input t.setup in
    let run : Run = fold g t.setup.start t.events in
    (run, record { within = is.within; by = (t, is.reads, fold_replays g t.setup.start t.events run is.accepted refl) }, says)

by_source : (P : List ℕ → Type 0) (reading : List ℕ → Result Transcript ℕ) (left : Option (List ℕ))
    → IfSome left (λ bytes. (t : Transcript) × IsAcceptedAs (reading bytes) bytes t × P (run_text (fold (replay_input t.setup) t.setup.start t.events)))
    → IfSome left (λ bytes. (run : Run) × ReplaysAs (reading bytes) bytes run × P (run_text run))
by_source P reading None told = tt
by_source P reading (Some bytes) told = run_of P (reading bytes) bytes told

-- so what is answered is that of the run
pub as_run : (reading : List ℕ → Result Transcript ℕ) (left left_after taken taken_after : Option (List ℕ)) (faults faults_after : ℕ) (answer : Status)
    → AnswersText (λ g start es. run_text (fold g start es)) reading left left_after taken taken_after faults faults_after answer
    → AnswersReading reading left left_after taken taken_after faults faults_after answer
as_run reading left left_after taken taken_after faults faults_after answer answers = record {
  done = λ is. by_source (Appends taken taken_after) reading left (answers.done is);
  refused = answers.refused;
  written_before_fault = λ is. by_source (AppendsPrefix taken taken_after) reading left (answers.written_before_fault is);
  at_end = answers.at_end;
  otherwise = answers.otherwise;
  valid = answers.valid;
}
