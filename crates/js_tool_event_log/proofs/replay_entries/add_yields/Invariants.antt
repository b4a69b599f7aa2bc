use Rattle.std.proofs.Common.{◌≡◌, ◌++◌, drop}
use Rattle.js_event_log.specs.RunProjection.{yielded}
use Rattle.js_tool_event_log.proofs.replay_entries.add_yields.Given as goal

abbrev pub invariant-loop-output : goal.invariant-loop-output
invariant-loop-output l = l.entries ++ yielded (drop l.output-index l.outputs) ≡ l.initial.entries ++ yielded l.outputs
