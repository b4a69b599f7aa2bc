use Rattle.std.proofs.Common.{sym, ◌∙◌}
use Rattle.js_tool.proofs.LinesPassed.{concludes, one_stops}
use Rattle.js_tool.proofs.progress.replay_events.Goals as goal

pub returns-in-Ok-pass_all-clause-outcome : goal.returns-in-Ok-pass_all-clause-outcome
returns-in-Ok-pass_all-clause-outcome g c = concludes _ g.R.StepReport.tells c.args.form c.args.setup.now c.in-Ok.progress c.pass_all.new.progress _ c.finish.result c.in-Ok.ensures c.in-Ok-pass_all.ensures.lines c.finish.ensures

pub returns-in-Err-BadLine-clause-outcome : goal.returns-in-Err-BadLine-clause-outcome
returns-in-Err-BadLine-clause-outcome g c =
    let stops = rw c.in-Err-BadLine.field-0-is at c.in-Err-BadLine.ensures.lines in
    rw c.in-Err-BadLine.line-is (one_stops _ g.R.StepReport.tells c.args.form c.args.setup.now c.in-Ok.progress _ c.in-Err-BadLine.line c.in-Ok.ensures stops)

pub returns-in-Err-BadLine-clause-told : goal.returns-in-Err-BadLine-clause-told
returns-in-Err-BadLine-clause-told g c =
    let (e, told, is) = rw c.in-Err-BadLine.field-0-is at c.in-Err-BadLine.ensures.told in
    told ∙ sym is
