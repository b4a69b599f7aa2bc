use Rattle.std.proofs.Common.{◌≡◌, drop}
use Rattle.js_event_log.specs.RunProjection.{not_rising}
use Rattle.js_tool_event_log.proofs.mirror.not_rising_from.Given as goal

abbrev pub invariant-loop-entry : goal.invariant-loop-entry
invariant-loop-entry l = not_rising l.last (drop l.entry-index l.entries) ≡ not_rising l.from l.entries
