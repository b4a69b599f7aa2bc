-- What is answered to a transcript, where extended lines are read too, is what is answered where they are not.
use Rattle.std.proofs.Common.{◌≡◌, ℕ, List, Option, Some, Result, Ok, sym, ◌∙◌, subst}
use Rattle.std.specs.Io.KnownBytes.{Appends}
use Rattle.js_tool_io.specs.Causes.{AppendsPrefix}
use Rattle.js_ordered_table.specs.declared.run.ReplayError.{ReplayError}
use Rattle.js_tool.specs.declared.status.Status.{Status}
use Rattle.js_tool.specs.declared.status.Status.TheVariants as status
use Rattle.js_tool.specs.Answer.{Texts, AnswersText, IsAcceptedAs, text_of}
use Rattle.js_tool.specs.Program.{IsUnlessFailed, WritesUnlessFault, called_by}
use Rattle.js_tool_transcript.specs.declared.transcript.Transcript.{Transcript}
use Rattle.js_tool_transcript.specs.declared.transcript.lines.Lines.TheVariants.{Extended}
use Rattle.js_tool_transcript.specs.Text.{refusal_text}
use Rattle.js_tool_transcript.specs.Transcript.{transcript, extended_transcript}
use Rattle.js_tool_transcript.specs.TranscriptReplay.{IsRefusedAs, IsValidAs}
use Rattle.js_tool_transcript.proofs.TranscriptsAgree.{transcripts_alike}

module _ (text : Texts) (after taken taken_after : Option (List ℕ)) (faults faults_after : ℕ) (answer : Status) (bytes : List ℕ) where
  -- two ways to read bytes that read the same
  as_read : (one other : List ℕ → Result Transcript ℕ) → one bytes ≡ other bytes → AnswersText text one (Some bytes) after taken taken_after faults faults_after answer
      → AnswersText text other (Some bytes) after taken taken_after faults faults_after answer
  as_read one other same answers = record {
    done = λ is. subst (λ (r : Result Transcript ℕ). (t : Transcript) × IsAcceptedAs r bytes t × Appends taken taken_after (text_of text t)) same (answers.done is);
    refused = λ is. subst (λ (r : Result Transcript ℕ). (refusal : ReplayError) × IsRefusedAs r bytes refusal × WritesUnlessFault taken taken_after faults faults_after (refusal_text refusal)) same (answers.refused is);
    written_before_fault = λ is. subst (λ (r : Result Transcript ℕ). (t : Transcript) × IsAcceptedAs r bytes t × AppendsPrefix taken taken_after (text_of text t)) same (answers.written_before_fault is);
    at_end = answers.at_end;
    otherwise = subst (λ (r : Result Transcript ℕ). IsUnlessFailed answer (called_by r bytes)) same answers.otherwise;
    valid = subst (λ (r : Result Transcript ℕ). IsValidAs r bytes → IsUnlessFailed answer status.Done) same answers.valid;
  }

  pub as_transcript : (left : Option (List ℕ)) (t : Transcript) → left ≡ Some bytes → transcript bytes ≡ Ok t → AnswersText text extended_transcript left after taken taken_after faults faults_after answer
      → AnswersText text transcript left after taken taken_after faults faults_after answer
  as_transcript left t is reads answers =
      subst (λ (l : Option (List ℕ)). AnswersText text transcript l after taken taken_after faults faults_after answer) (sym is)
      (as_read extended_transcript transcript (transcripts_alike Extended bytes t reads ∙ sym reads)
      (subst (λ (l : Option (List ℕ)). AnswersText text extended_transcript l after taken taken_after faults faults_after answer) is answers))
