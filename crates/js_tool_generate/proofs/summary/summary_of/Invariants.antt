use Rattle.std.proofs.Common.{◌≡◌, ◌++◌, length, take}
use Rattle.js_ordered_table.specs.Gapless.{joined}
use Rattle.js_tool_generate.specs.Summary.{counts}
use Rattle.js_tool_generate.proofs.summary.summary_of.Given as goal

abbrev pub invariant-loop-step : goal.invariant-loop-step
invariant-loop-step l = l.summary ≡ counts (length l.steps) (l.run.opening.outputs ++ joined (take l.step-index l.steps))
