use Rattle.js_tool.proofs.RunText.{text_opens}
use Rattle.std.proofs.Common.{refl}
use Rattle.js_tool.proofs.run_text.RunTextStepReport.open.Goals as goal

pub returns : goal.returns
returns c = λ come. text_opens _ _ 0 c.args.replay.now c.outputs.result.now _ come refl c.outputs.ensures (rw c.new-text.ensures.items at c.in_ok-push_outputs.ensures)
