use Rattle.std.proofs.Common.{◌≡◌, ◌++◌, List, take}
use Rattle.js_ordered_table.specs.declared.run.Output.{Output}
use Rattle.js_event_log.specs.RunProjection.{yielded, projected}
use Rattle.js_event_log.proofs.run_projection.RunProjection.advance.Given as goal

abbrev pub invariant-loop-output : goal.invariant-loop-output
invariant-loop-output l = (before : List Output) → l.fn.self ≡ projected (yielded before) → l.self ≡ projected (yielded (before ++ take l.output-index l.outputs))
