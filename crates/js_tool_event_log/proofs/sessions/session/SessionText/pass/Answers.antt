use Rattle.std.proofs.Common.{refl}
use Rattle.js_tool_event_log.proofs.TextSoFar.{event_passes, save_passes}
use Rattle.js_tool_event_log.proofs.sessions.session.SessionText.pass.Goals as goal

pub returns-in_ok-push_outputs-in-Event : goal.returns-in_ok-push_outputs-in-Event
returns-in_ok-push_outputs-in-Event c = λ next done setup some has.
    event_passes c.args.self.now _ c.args.line.now c.in-Event.event c.count.result c.outputs.result.now c.in-Event.is c.in_ok-advance-in-Event.ensures.passed c.count.ensures c.outputs.ensures
    c.in_ok-push_outputs-in-Event.ensures next done setup some has

pub returns-in-Save : goal.returns-in-Save
returns-in-Save c = λ next done setup some has. save_passes c.args.self.now _ c.args.line.now c.in-Save.is c.save.ensures refl next done setup some has
