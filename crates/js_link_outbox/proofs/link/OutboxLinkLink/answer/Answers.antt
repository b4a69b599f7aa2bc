use Rattle.js_link_outbox.specs.Outbox.{all_sent_by, numbers_of, outbox_view}
use Rattle.js_link_outbox.proofs.Views.{answers_of}
use Rattle.js_link_outbox.proofs.link.OutboxLinkLink.answer.Goals as goal

pub returns-clause-call : goal.returns-clause-call
returns-clause-call c = answers_of (outbox_view c.args.self.now) (numbers_of c.args.self.now) c.args.self.now.requests c.take_answer.new.requests (all_sent_by c.args.self.now.outgoing.items) c.args.request.0 c.take_answer.result c.take_answer.ensures.next c.take_answer.ensures.taken
