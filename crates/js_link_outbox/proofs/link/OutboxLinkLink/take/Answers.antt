use Rattle.js_link_outbox.specs.Outbox.{all_sent_by, numbers_of, outbox_view}
use Rattle.js_link_outbox.proofs.Views.{takes_of}
use Rattle.js_link_outbox.proofs.link.OutboxLinkLink.take.Goals as goal

pub returns-clause-call : goal.returns-clause-call
returns-clause-call c = takes_of (outbox_view c.args.self.now) (numbers_of c.args.self.now) c.args.self.now.inboxes c.take_from.new.inboxes (all_sent_by c.args.self.now.outgoing.items) c.args.inbox.0 c.take_from.result c.take_from.ensures.next c.take_from.ensures.taken
