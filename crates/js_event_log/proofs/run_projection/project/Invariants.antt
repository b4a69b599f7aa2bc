use Rattle.std.proofs.Common.{◌≡◌, ◌++◌, take}
use Rattle.js_ordered_table.specs.Gapless.{joined}
use Rattle.js_event_log.specs.RunProjection.{yielded, projected}
use Rattle.js_event_log.proofs.run_projection.project.Given as goal

abbrev pub invariant-loop-step : goal.invariant-loop-step
invariant-loop-step l = l.projection ≡ projected (yielded (l.run.opening.outputs ++ joined (take l.step-index l.step-items)))
