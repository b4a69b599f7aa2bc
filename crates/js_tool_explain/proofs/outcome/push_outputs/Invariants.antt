use Rattle.std.proofs.Common.{◌≡◌, ◌++◌, drop, flat_map}
use Rattle.js_tool_explain.specs.Outcome.{output_text, place_of}
use Rattle.js_tool_explain.proofs.outcome.push_outputs.Given as goal

abbrev pub invariant-loop-output : goal.invariant-loop-output
invariant-loop-output l = l.out.items ++ flat_map (output_text (place_of l.place)) (drop l.output-index l.outputs) ≡ l.initial.out.items ++ flat_map (output_text (place_of l.place)) l.outputs
