use Rattle.std.proofs.Common.{◌≡◌, Option, Ok, subst}
use Rattle.std.specs.Prelude.{IfSome}
use Rattle.js_ordered_table.specs.declared.event.Event.{Event}
use Rattle.js_tool_transcript.specs.Event.{event_line}
use Rattle.js_tool_event_log.proofs.EventLines.{event_says}
use Rattle.js_tool_event_log.proofs.sessions.line.any_line.Goals as goal

pub returns-in-Some : goal.returns-in-Some
returns-in-Some c =
    event_says c.args.line.now c.in-Some.event (subst (λ (found : Option Event). IfSome found (λ event. event_line c.args.line.now ≡ Ok event)) c.in-Some.is c.in_ok-event.ensures)
