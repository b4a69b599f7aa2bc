use Rattle.js_tool.proofs.RunsTold.{text_told}
use Rattle.js_tool.proofs.answer.outcome_of.Goals as goal

pub returns-in_ok-finish-in-Done-clause-outcome : goal.returns-in_ok-finish-in-Done-clause-outcome
returns-in_ok-finish-in-Done-clause-outcome g c =
    let told = rw c.in-Done.is at c.in_ok-report.ensures.outcome in
    text_told _ g.R.StepReport.tells g.R.TextReport.text _ c.args.bytes c.in-Done.report c.in-Done.ended c.in-Done.events c.in_ok-finish-in-Done.field-0.items told c.in_ok-finish-in-Done.ensures
