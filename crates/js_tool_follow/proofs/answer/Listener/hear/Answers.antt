use Rattle.std.proofs.Common.{◌≡◌, ◌+◌, ◌∙◌, ℕ, length, ap, rules}
use Rattle.js_tool_follow.proofs.LineAnswers.{passed_so, unread_so}
use Rattle.js_tool_follow.proofs.answer.Listener.hear.Goals as goal

pub returns-in-Err-BadLine-clause-told : goal.returns-in-Err-BadLine-clause-told
returns-in-Err-BadLine-clause-told c = λ asked lines told.
    let same : c.count.result ≡ c.args.self.now.replay.value.count = search rules in
    let counted : c.count.result ≡ length told.es = same ∙ told.come.count in
    let number : c.in-Some.number ≡ length told.es + 2 = c.in-Some.ensures.1 ∙ ap (λ (n : ℕ). n + 2) counted in
    let fails = rw c.in-Err-BadLine.field-0-is at c.in-Err-BadLine.ensures in
    unread_so asked lines c.args.line.now c.bad_line.result.text.items told.setup told.es _ c.in-Some.number c.bad_line.result.ending _ told.stands number fails c.bad_line.ensures.0 (rw c.in-Err-BadLine.line-is at c.bad_line.ensures.1)

pub returns-clause-told : goal.returns-clause-told
returns-clause-told c = λ asked lines told.
    let same : c.count.result ≡ c.args.self.now.replay.value.count = search rules in
    let counted : c.count.result ≡ length told.es = same ∙ told.come.count in
    let number : c.in-Some.number ≡ length told.es + 2 = c.in-Some.ensures.1 ∙ ap (λ (n : ℕ). n + 2) counted in
    passed_so asked c.pass_event-answer.result lines c.args.line.now told.setup told.es c.in-Ok.event c.in-Some.number c.args.self.now c.pass_event-answer.new.self told.stands number c.in-Ok.ensures
    told.options c.pass_event-answer.ensures.options (c.pass_event-answer.ensures.come told.setup told.es told.come) (c.pass_event-answer.ensures.answers told.setup told.es told.come)
