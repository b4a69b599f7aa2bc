use Rattle.std.proofs.Common.{◌≡◌, ◌++◌, drop}
use Rattle.js_tool_event_log.specs.LogTexts.{last_after, slots_text}
use Rattle.js_tool_event_log.proofs.mirror.push_slots.Given as goal

abbrev pub invariant-loop-entry : goal.invariant-loop-entry
invariant-loop-entry l = record {
  text : l.out.items ++ slots_text l.last (drop l.entry-index l.entries) ≡ l.initial.out.items ++ slots_text l.from l.entries;
  last : last_after l.last (drop l.entry-index l.entries) ≡ last_after l.from l.entries;
}
