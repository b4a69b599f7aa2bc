use Rattle.std.proofs.Common.{refl}
use Rattle.std.specs.Prelude.{None}
use Rattle.js_link_outbox.specs.Inboxes.{queues}
use Rattle.js_link_outbox.specs.Outbox.{all_sent_by, numbers_of, outbox_view}
use Rattle.js_link_outbox.proofs.Views.{all_sent_by-end, closes, queues_put}
use Rattle.js_link_outbox.proofs.link.OutboxLinkLink.unsubscribe.Goals as goal

pub returns-in-Some-clause-call : goal.returns-in-Some-clause-call
returns-in-Some-clause-call c =
    let o = c.args.self.now in
    closes (outbox_view o) (numbers_of o) o.inboxes.next c.remove.new.self.next c.args.inbox.0 (queues o.inboxes) (queues c.remove.new.self) (all_sent_by o.outgoing.items) (all_sent_by c.push_back_reserved.new.self.items)
    c.remove.ensures.next
    (queues_put o.inboxes c.remove.new.self c.args.inbox.0 None c.remove.ensures.values)
    (all_sent_by-end o.outgoing.items c.push_back_reserved.new.self.items c.args.inbox.0 c.push_back_reserved.ensures.items)

pub returns-in_default-clause-call : goal.returns-in_default-clause-call
returns-in_default-clause-call c =
    let o = c.args.self.now in
    closes (outbox_view o) (numbers_of o) o.inboxes.next c.remove.new.self.next c.args.inbox.0 (queues o.inboxes) (queues c.remove.new.self) (all_sent_by o.outgoing.items) (all_sent_by o.outgoing.items)
    c.remove.ensures.next
    (queues_put o.inboxes c.remove.new.self c.args.inbox.0 None c.remove.ensures.values)
    refl
