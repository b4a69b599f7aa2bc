use Rattle.std.proofs.Common.{◌≡◌, ◌∙◌, ap, rules}
use Rattle.js_ordered_table.specs.declared.replay_state.ReplayState.{ReplayState}
use Rattle.js_tool_follow.proofs.LineAnswers.{asked_so}
use Rattle.js_tool_follow.proofs.answer.Listener.pass_event.Goals as goal

pub returns-in-Ok-clause-answers : goal.returns-in-Ok-clause-answers
returns-in-Ok-clause-answers c = λ setup es come.
    let lent : c.state.result.now ≡ c.args.self.now.replay.value.state = search rules in
    asked_so c.args.self.now.options c.pass-answer.result c.as_slice.result.now c.state.result.now.consumer.phase setup es c.args.event.now (c.as_slice.ensures ∙ c.in-Ok.ensures)
    (ap (λ (w : ReplayState). w.consumer.phase) (lent ∙ come.state)) (c.pass-answer.ensures.answers setup es come)
