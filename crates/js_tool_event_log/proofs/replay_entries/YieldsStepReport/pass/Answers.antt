use Rattle.js_tool_event_log.proofs.YieldsPassed.{yields_pass}
use Rattle.js_tool_event_log.proofs.replay_entries.YieldsStepReport.pass.Goals as goal

pub returns-clause-told : goal.returns-clause-told
returns-clause-told c = λ start es come told.
    yields_pass _ start es c.args.event.now c.args.self.now.entries c.advance.new.self c.outputs.result.now _ told (c.in_ok-advance.ensures.passed _ start es come) c.outputs.ensures c.in_ok-add_yields.ensures
