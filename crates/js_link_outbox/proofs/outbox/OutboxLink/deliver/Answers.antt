use Rattle.js_link_outbox.specs.Inboxes.{queues}
use Rattle.js_link_outbox.specs.Outbox.{all_sent_by, numbers_of, outbox_view}
use Rattle.js_link_outbox.proofs.Views.{delivers, same_inboxes}
use Rattle.js_link_outbox.proofs.outbox.OutboxLink.deliver.Goals as goal

pub returns-in-Ok-true-clause-brings : goal.returns-in-Ok-true-clause-brings
returns-in-Ok-true-clause-brings c =
    let o = c.args.self.now in
    delivers (outbox_view o) (numbers_of o) o.inboxes c.put_into.new.inboxes (all_sent_by o.outgoing.items) c.args.subscription c.args.message c.put_into.ensures.next (rw c.in-Ok-true.field-0-test at c.in-Ok-true.ensures.ok)

pub returns-in-Ok-false-clause-brings : goal.returns-in-Ok-false-clause-brings
returns-in-Ok-false-clause-brings c =
    let o = c.args.self.now in
    let kept = rw c.in-Ok-false.field-0-test at c.in-Ok-false.ensures.ok in
    same_inboxes (outbox_view o) (numbers_of o) o.inboxes.next c.put_into.new.inboxes.next (queues o.inboxes) (queues c.put_into.new.inboxes) (all_sent_by o.outgoing.items) c.put_into.ensures.next kept.1

pub returns-in-Err-clause-err : goal.returns-in-Err-clause-err
returns-in-Err-clause-err c =
    let o = c.args.self.now in
    same_inboxes (outbox_view o) (numbers_of o) o.inboxes.next c.put_into.new.inboxes.next (queues o.inboxes) (queues c.put_into.new.inboxes) (all_sent_by o.outgoing.items) c.put_into.ensures.next c.in-Err.ensures.err
