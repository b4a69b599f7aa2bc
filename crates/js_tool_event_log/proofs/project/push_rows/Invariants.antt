use Rattle.std.proofs.Common.{◌≡◌, ◌++◌, drop, flat_map}
use Rattle.js_tool_event_log.specs.LogTexts.{entry_text}
use Rattle.js_tool_event_log.proofs.project.push_rows.Given as goal

abbrev pub invariant-loop-row : goal.invariant-loop-row
invariant-loop-row l = l.out.items ++ flat_map entry_text (drop l.row-index l.rows) ≡ l.initial.out.items ++ flat_map entry_text l.rows
