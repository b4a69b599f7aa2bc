use Rattle.std.proofs.Common.{ap, refl, sym, ◌∙◌, Some}
use Rattle.js_link.specs.LinkView.{put}
use Rattle.js_link.specs.Memory.{Queue}
use Rattle.js_link_outbox.specs.declared.numbered.Numbered.{Numbered}
use Rattle.js_link_outbox.specs.Inboxes.{items_of, queues}
use Rattle.js_link_outbox.specs.Outbox.{all_sent_by, numbers_of, outbox_view}
use Rattle.js_link_outbox.proofs.Views.{all_sent_by-push, kept_view, opens, opens_after, queues_put, queues_same, same_inboxes}
use Rattle.js_link_outbox.proofs.outbox.OutboxLink.add_inbox.Goals as goal

pub returns-in-Err-add-clause-err : goal.returns-in-Err-add-clause-err
returns-in-Err-add-clause-err c =
    let o = c.args.self.now in
    let m = c.make_room.new.self in
    let e = c.in-Err-add.ensures.err in
    same_inboxes (outbox_view m) (numbers_of m) m.inboxes.next c.add.new.self.next (queues m.inboxes) (queues c.add.new.self) (all_sent_by m.outgoing.items) e.next (queues_same m.inboxes c.add.new.self e.values)
    ∙ kept_view o m c.make_room.ensures.same c.make_room.ensures.items

pub returns-in-Ok-clause-opens : goal.returns-in-Ok-clause-opens
returns-in-Ok-clause-opens c =
    let o = c.args.self.now in
    let m = c.make_room.new.self in
    let n = c.in-Ok in
    opens_after _ _ _ _ _ _ (kept_view o m c.make_room.ensures.same c.make_room.ensures.items)
    (opens (outbox_view m) (numbers_of m) m.inboxes.next c.add.new.self.next o.inboxes.next (queues m.inboxes) (queues c.add.new.self) (all_sent_by m.outgoing.items) (all_sent_by c.push_back_reserved.new.self.items) c.args.subject c.args.group
    refl (ap (λ (q : Numbered Queue). q.next) (sym c.make_room.ensures.same.inboxes)) n.ensures.next (ap items_of n.ensures.unused)
    (queues_put m.inboxes c.add.new.self m.inboxes.next _ n.ensures.values ∙ ap (λ xs. put (queues m.inboxes) m.inboxes.next (Some xs)) c.new.ensures.items)
    (ap all_sent_by c.push_back_reserved.ensures.items ∙ all_sent_by-push m.outgoing.items _))
