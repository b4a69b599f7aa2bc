use Rattle.js_tool_event_log.proofs.YieldsPassed.{yields_open}
use Rattle.js_tool_event_log.proofs.replay_entries.YieldsStepReport.open.Goals as goal

pub returns : goal.returns
returns c = λ come. yields_open _ _ c.args.replay.now c.outputs.result.now _ come c.outputs.ensures (rw c.new-entries.ensures at c.in_ok-add_yields.ensures)
