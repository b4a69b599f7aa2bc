use Rattle.std.proofs.Common.{◌≡◌, ◌++◌, drop, flat_map}
use Rattle.js_tool_transcript.specs.Text.{output_text}
use Rattle.js_tool_transcript.proofs.text.push_outputs.Given as goal

abbrev pub invariant-loop-output : goal.invariant-loop-output
invariant-loop-output l = l.out.items ++ flat_map (output_text l.number) (drop l.output-index l.outputs) ≡ l.initial.out.items ++ flat_map (output_text l.number) l.outputs
