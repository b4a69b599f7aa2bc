use Rattle.std.proofs.Common.{◌≡◌, ◌++◌, drop, flat_map}
use Rattle.js_tool_follow.specs.Details.{details_line}
use Rattle.js_tool_follow.proofs.details.push_each_details.Given as goal

abbrev pub invariant-loop-output : goal.invariant-loop-output
invariant-loop-output l =
    l.out.items ++ flat_map (details_line l.step l.messages) (drop l.output-index l.outputs) ≡ l.initial.out.items ++ flat_map (details_line l.step l.messages) l.outputs
