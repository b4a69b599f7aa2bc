use Rattle.std.proofs.Common.{◌≡◌, drop}
use Rattle.js_event_log.specs.Projection.{last_sequence, up_to}
use Rattle.js_tool_event_log.specs.LogTexts.{last_after}
use Rattle.js_tool_event_log.proofs.project.last_up_to.Given as goal

abbrev pub invariant-loop-entry : goal.invariant-loop-entry
invariant-loop-entry l = last_after l.last (up_to l.sequence (drop l.entry-index l.entries)) ≡ last_sequence (up_to l.sequence l.entries)
