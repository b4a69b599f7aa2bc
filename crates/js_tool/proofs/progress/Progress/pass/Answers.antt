use Rattle.std.proofs.Common.{refl}
use Rattle.js_tool.proofs.LinesPassed.{passes_one}
use Rattle.js_tool.proofs.progress.Progress.pass.Goals as goal

pub returns-clause-passed : goal.returns-clause-passed
returns-clause-passed g c = passes_one _ g.R.StepReport.tells c.pass.result c.args.self.now _ c.args.event.now refl c.pass.ensures.come c.pass.ensures.told
