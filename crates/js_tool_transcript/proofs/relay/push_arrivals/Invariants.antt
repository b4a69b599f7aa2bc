use Rattle.std.proofs.Common.{◌≡◌, ◌+◌, ◌++◌, ◌<◌, ◌^◌, drop, take}
use Rattle.std.specs.List.{AllByRecursion}
use Rattle.js_base.specs.declared.message.Entry.{Entry}
use Rattle.js_tool_transcript.specs.RelayText.{arrivals, value_lines}
use Rattle.js_tool_transcript.proofs.relay.push_arrivals.Given as goal

abbrev pub invariant-loop-entry : goal.invariant-loop-entry
invariant-loop-entry l = record {
  text : l.out.items ++ value_lines (arrivals l.stream l.name (l.number + 1) (drop l.entry-index l.entries)) ≡ l.initial.out.items ++ value_lines (arrivals l.stream l.name 1 l.entries);
  count : l.number ≡ l.entry-index;
  fit : AllByRecursion (λ (entry : Entry). entry.sequence < 2 ^ 64) (take l.entry-index l.entries);
}
