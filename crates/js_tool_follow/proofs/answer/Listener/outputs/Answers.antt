use Rattle.std.proofs.Common.{◌≡◌, rules}
use Rattle.js_tool_follow.proofs.AnswerTexts.{outputs_so}
use Rattle.js_tool_follow.proofs.answer.Listener.outputs.Goals as goal

pub returns : goal.returns
returns c = λ setup es come.
    let counted : c.count-step.result ≡ c.args.self.now.replay.value.count = search rules in
    let put : c.outputs-outputs.result.now ≡ c.args.self.now.replay.value.outputs = search rules in
    let lent : c.state.result.now ≡ c.args.self.now.replay.value.state = search rules in
    outputs_so c.args.self.now.options c.args.messages.now setup es c.args.self.now.replay.value c.count-step.result c.outputs-outputs.result.now c.state.result.now c.new-text.result.items c.push_outputs.new.out.items
    c.push_details.new.out.items c.push_wakes.new.out.items come counted put lent c.new-text.ensures.items c.in_ok-push_outputs.ensures c.in_ok-push_details.ensures c.in_ok-push_wakes.ensures
