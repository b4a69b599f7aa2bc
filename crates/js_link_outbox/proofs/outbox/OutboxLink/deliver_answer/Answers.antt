use Rattle.std.proofs.Common.{◌≡◌, refl, sym, ◌∙◌, rules}
use Rattle.js_link_outbox.specs.Numbered.{at}
use Rattle.js_link_outbox.specs.Outbox.{all_sent_by, answer_subject, front, numbers_of, outbox_view}
use Rattle.js_link_outbox.proofs.Numerals.{same_request}
use Rattle.js_link_outbox.proofs.Views.{responds, same_requests, waits_not}
use Rattle.js_link_outbox.proofs.outbox.OutboxLink.deliver_answer.Goals as goal

pub returns-then-give_answer-clause-brings : goal.returns-then-give_answer-clause-brings
returns-then-give_answer-clause-brings c =
    let o = c.args.self.now in
    responds (outbox_view o) (numbers_of o) o.requests c.give_answer.new.requests (all_sent_by o.outgoing.items) _ c.args.message c.give_answer.ensures.next (rw c.if-give_answer.true at c.give_answer.ensures.given)

pub returns-else-give_answer-clause-brings : goal.returns-else-give_answer-clause-brings
returns-else-give_answer-clause-brings c =
    let o = c.args.self.now in
    let given = rw c.if-give_answer.false at c.give_answer.ensures.given in
    same_requests (outbox_view o) (numbers_of o) o.requests.next c.give_answer.new.requests.next (at o.requests) (at c.give_answer.new.requests) (all_sent_by o.outgoing.items) c.give_answer.ensures.next given.1

pub returns-else-give_answer-clause-wanted : goal.returns-else-give_answer-clause-wanted
returns-else-give_answer-clause-wanted c =
    let o = c.args.self.now in
    let n = c.in-Some.number in
    let given = rw c.if-give_answer.false at c.give_answer.ensures.given in
    let own : c.args.message.subject ≡ answer_subject (front o) n = search rules in
    (λ apart. absurd (apart refl), λ _ r small e. rw (same_request (front o) r n small c.in-Some.ensures.small (sym e ∙ own)) (waits_not (at o.requests n) given.0))
