use Rattle.std.proofs.Common.{◌≡◌, ◌++◌, flat_map}
use Rattle.js_base.specs.Headers.{pairs}
use Rattle.js_tool_follow.specs.Details.{header_line}
use Rattle.js_tool_follow.proofs.details.push_each_header.Given as goal

abbrev pub invariant-loop-header : goal.invariant-loop-header
invariant-loop-header l =
    l.out.items ++ flat_map (header_line l.step l.sequence) (pairs l.header-iterator) ≡ l.initial.out.items ++ flat_map (header_line l.step l.sequence) (pairs l.headers)
