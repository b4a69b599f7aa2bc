use Rattle.std.proofs.Common.{◌≡◌, ◌++◌, ℕ, List, take}
use Rattle.js_ordered_table.specs.declared.run.Output.{Output}
use Rattle.js_tool_generate.specs.Summary.{counts}
use Rattle.js_tool_generate.proofs.summary.Summary.count_all.Given as goal

abbrev pub invariant-loop-output : goal.invariant-loop-output
invariant-loop-output l = (events : ℕ) (before : List Output) → l.initial.self ≡ counts events before → l.self ≡ counts events (before ++ take l.output-index l.step)
