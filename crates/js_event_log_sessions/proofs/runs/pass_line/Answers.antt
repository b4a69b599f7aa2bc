use Rattle.js_event_log_sessions.proofs.AllSessions.{stepped_event, stepped_save}
use Rattle.js_event_log_sessions.proofs.runs.pass_line.Goals as goal

pub returns-in_ok-step_of-in-Event : goal.returns-in_ok-step_of-in-Event
returns-in_ok-step_of-in-Event c = λ next done s stepped.
    stepped_event next done s c.in-Event.event c.args.replay.now c.advance.new.self c.args.steps.now c.push.new.self c.in_ok-step_of-in-Event.field-0 c.outputs.result.now c.args.line.now c.push.result
    c.in-Event.is stepped (c.in_ok-advance-in-Event.ensures.passed next done s stepped.come) c.outputs.ensures c.in_ok-step_of-in-Event.ensures c.push.ensures.ok

pub returns-in-Save : goal.returns-in-Save
returns-in-Save c = λ next done s stepped.
    stepped_save next done s c.args.replay.now c.save.new.self c.args.steps.now c.args.line.now c.in-Save.is stepped (c.save.ensures next done s stepped.come)
