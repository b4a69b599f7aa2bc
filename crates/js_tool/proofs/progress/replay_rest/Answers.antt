use Rattle.std.proofs.Common.{◌≡◌, ◌++◌, Option, None, Err, refl, sym, subst, ◌∙◌, rules}
use Rattle.js_tool_transcript.specs.declared.transcript.Unread.TheVariants as unread
use Rattle.js_json_members.specs.declared.error.ReadError.{ReadError}
use Rattle.js_tool_io.specs.Lines.{lines_of}
use Rattle.js_tool_transcript.specs.ExtendedSetup.{setup_line_in}
use Rattle.js_tool.specs.Progress.{TellsOutcome, event_error}
use Rattle.js_tool.proofs.LineErrors.{goes_on, stays, told_by}
use Rattle.js_tool.proofs.progress.replay_rest.Goals as goal

pub returns-in-Ok-clause-outcome : goal.returns-in-Ok-clause-outcome
returns-in-Ok-clause-outcome g c = λ line reads.
    let read = rw c.in-Ok.is at reads in
    rw read c.replay_events.ensures.outcome

pub returns-in-Ok-clause-told : goal.returns-in-Ok-clause-told
returns-in-Ok-clause-told g c = λ line tells.
    let none = rw c.in-Ok.is at tells in
    let lines = lines_of c.args.piece.now ++ lines_of c.args.bytes in
    subst (λ (e : Option ReadError). TellsOutcome e c.replay_events.new.error c.replay_events.result)
    (sym (goes_on (setup_line_in c.args.form line) None (event_error c.args.form lines) (event_error c.args.form lines) (λ same. refl) none)) c.replay_events.ensures.told

pub returns-in-Err-BadLine-clause-told : goal.returns-in-Err-BadLine-clause-told
returns-in-Err-BadLine-clause-told g c = λ line tells.
    let bad : c.args.first.now ≡ Err (unread.BadLine c.in-Err-BadLine.line) = search rules in
    let (e, told, is) = told_by _ _ _ c.args.first.now c.in-Err-BadLine.line bad tells in
    told ∙ sym (stays (setup_line_in c.args.form line) None (event_error c.args.form (lines_of c.args.piece.now ++ lines_of c.args.bytes)) e (λ never. absurd (cc)) is)
