use Rattle.std.proofs.Common.{◌≡◌, Ok, Err, ap, ◌∙◌, rules}
use Rattle.std.specs.Io.KnownBytes.{Appends}
use Rattle.js_tool_io.specs.Causes.{AppendsPrefix}
use Rattle.js_tool_io.specs.Lines.{lines_of}
use Rattle.js_tool.specs.Answer.{IsAcceptedAs, text_of}
use Rattle.js_tool_transcript.specs.declared.transcript.Transcript.{Transcript}
use Rattle.js_tool.specs.declared.status.Status.TheVariants as status
use Rattle.js_tool.specs.Program.{IsUnlessFailed, called_by}
use Rattle.js_tool.specs.Progress.{line_error}
use Rattle.js_tool_transcript.specs.Transcript.{transcript_in}
use Rattle.js_tool.proofs.Called.{of_source, writes_text, valid_by, called_outcome, too_long_by, outcome_status}
use Rattle.js_tool.proofs.answer.answer_text.Goals as goal

pub returns-in-Err-TooLong-clause-answers : goal.returns-in-Err-TooLong-clause-answers
returns-in-Err-TooLong-clause-answers g c =
    let left = g.S.Source.left c.args.input.now in
    let called = too_long_by (transcript_in c.args.form) left (c.in-Err-TooLong.ensures.too_long (ap Err c.in-Err-TooLong.field-0-is)) in
    record {
      done = search rules;
      refused = search rules;
      written_before_fault = search rules;
      at_end = search rules;
      otherwise = called;
      valid = valid_by (transcript_in c.args.form) left status.TooLong called;
    }

pub returns-in-Ok-written-clause-answers : goal.returns-in-Ok-written-clause-answers
returns-in-Ok-written-clause-answers g c =
    let left = g.S.Source.left c.args.input.now in
    let called = called_outcome g.R.TextReport.text (transcript_in c.args.form c.in-Ok.bytes) c.in-Ok-Done.field-0 c.in-Ok.bytes c.in-Ok-Done.ensures.outcome ∙ ap outcome_status c.in-Ok-Done.field-0-is in
    let done = of_source left c.in-Ok.bytes (λ bytes. called_by (transcript_in c.args.form bytes) bytes ≡ status.Done) c.in-Ok.ensures.whole called in
    let taken = g.K.Sink.taken c.args.output.now in
    let taken_after = g.K.Sink.taken c.write_all-written.new.output in
    let told = rw c.in-Ok-Done.field-0-is at c.in-Ok-Done.ensures.outcome in
    record {
      done = λ is. of_source left c.in-Ok.bytes (λ bytes. (t : Transcript) × IsAcceptedAs (transcript_in c.args.form bytes) bytes t × Appends taken taken_after (text_of g.R.TextReport.text t)) c.in-Ok.ensures.whole
          (writes_text g.R.TextReport.text _ c.in-Ok.bytes (Appends taken taken_after) _ c.in-Ok-Done.text.items told c.deref.ensures.value c.in-Ok-written.ensures.ok);
      refused = search rules;
      written_before_fault = search rules;
      at_end = search rules;
      otherwise = done;
      valid = valid_by (transcript_in c.args.form) left status.Done done;
    }

pub returns-in-Ok-Refused-clause-answers : goal.returns-in-Ok-Refused-clause-answers
returns-in-Ok-Refused-clause-answers g c =
    let left = g.S.Source.left c.args.input.now in
    let called = called_outcome g.R.TextReport.text (transcript_in c.args.form c.in-Ok.bytes) c.in-Ok-Refused.field-0 c.in-Ok.bytes c.in-Ok-Refused.ensures.outcome ∙ ap outcome_status c.in-Ok-Refused.field-0-is in
    let refused = of_source left c.in-Ok.bytes (λ bytes. called_by (transcript_in c.args.form bytes) bytes ≡ status.Refused) c.in-Ok.ensures.whole called in
    record {
      done = search rules;
      refused = search rules;
      written_before_fault = search rules;
      at_end = search rules;
      otherwise = refused;
      valid = valid_by (transcript_in c.args.form) left status.Refused refused;
    }

pub returns-in-Ok-BadLine-clause-answers : goal.returns-in-Ok-BadLine-clause-answers
returns-in-Ok-BadLine-clause-answers g c =
    let left = g.S.Source.left c.args.input.now in
    let called = called_outcome g.R.TextReport.text (transcript_in c.args.form c.in-Ok.bytes) c.in-Ok-BadLine.field-0 c.in-Ok.bytes c.in-Ok-BadLine.ensures.outcome ∙ ap outcome_status c.in-Ok-BadLine.field-0-is in
    let bad = of_source left c.in-Ok.bytes (λ bytes. called_by (transcript_in c.args.form bytes) bytes ≡ status.BadLine c.in-Ok-BadLine.line) c.in-Ok.ensures.whole called in
    record {
      done = search rules;
      refused = search rules;
      written_before_fault = search rules;
      at_end = search rules;
      otherwise = bad;
      valid = valid_by (transcript_in c.args.form) left (status.BadLine c.in-Ok-BadLine.line) bad;
    }

pub returns-in-Ok-BadLine-clause-told : goal.returns-in-Ok-BadLine-clause-told
returns-in-Ok-BadLine-clause-told g c = λ none line is.
    of_source (g.S.Source.left c.args.input.now) c.in-Ok.bytes (λ bytes. c.outcome_of.new.error ≡ line_error c.args.form (lines_of bytes)) c.in-Ok.ensures.whole
    (c.outcome_of.ensures.told none c.in-Ok-BadLine.line (c.in-Ok-BadLine.is ∙ ap Ok c.in-Ok-BadLine.field-0-is))

pub returns-in-Err-written-clause-answers : goal.returns-in-Err-written-clause-answers
returns-in-Err-written-clause-answers g c =
    let left = g.S.Source.left c.args.input.now in
    let unless = of_source left c.in-Ok.bytes (λ bytes. IsUnlessFailed status.WriteFault (called_by (transcript_in c.args.form bytes) bytes)) c.in-Ok.ensures.whole tt in
    let taken = g.K.Sink.taken c.args.output.now in
    let taken_after = g.K.Sink.taken c.write_all-written.new.output in
    let told = rw c.in-Ok-Done.field-0-is at c.in-Ok-Done.ensures.outcome in
    record {
      done = search rules;
      refused = search rules;
      written_before_fault = λ is. of_source left c.in-Ok.bytes (λ bytes. (t : Transcript) × IsAcceptedAs (transcript_in c.args.form bytes) bytes t × AppendsPrefix taken taken_after (text_of g.R.TextReport.text t)) c.in-Ok.ensures.whole
          (writes_text g.R.TextReport.text _ c.in-Ok.bytes (AppendsPrefix taken taken_after) _ c.in-Ok-Done.text.items told c.deref.ensures.value c.in-Err-written.ensures.err);
      at_end = search rules;
      otherwise = unless;
      valid = valid_by (transcript_in c.args.form) left status.WriteFault unless;
    }
