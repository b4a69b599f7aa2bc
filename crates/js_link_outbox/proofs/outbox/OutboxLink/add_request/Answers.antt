use Rattle.std.proofs.Common.{◌≡◌, Option, ap, refl, sym, ◌∙◌, rules, ◌++◌, ◌∷◌, []}
use Rattle.js_base.specs.declared.message.Message.{Message}
use Rattle.js_link.specs.declared.sent.Sent.TheVariants as sents
use Rattle.js_link_outbox.specs.declared.numbered.Numbered.{Numbered}
use Rattle.js_link_outbox.specs.Numbered.{at}
use Rattle.js_link_outbox.specs.Outbox.{all_sent_by, numbers_of, outbox_view}
use Rattle.js_link_outbox.proofs.Views.{all_sent_by-push, asks, asks_after, kept_view, same_requests, waits}
use Rattle.js_link_outbox.proofs.outbox.OutboxLink.add_request.Goals as goal

pub returns-in-Err-add-clause-err : goal.returns-in-Err-add-clause-err
returns-in-Err-add-clause-err c =
    let o = c.args.self.now in
    let m = c.make_room.new.self in
    let e = c.in-Err-add.ensures.err in
    same_requests (outbox_view m) (numbers_of m) m.requests.next c.add.new.self.next (at m.requests) (at c.add.new.self) (all_sent_by m.outgoing.items) e.next e.values
    ∙ kept_view o m c.make_room.ensures.same c.make_room.ensures.items

pub returns-in-Ok-clause-asks : goal.returns-in-Ok-clause-asks
returns-in-Ok-clause-asks c =
    let o = c.args.self.now in
    let m = c.make_room.new.self in
    let n = c.in-Ok in
    let message : c.in_ok-reply.message ≡ (c.args.subject, c.args.headers, c.args.payload) = search rules in
    asks_after _ _ _ _ _ _ _ (kept_view o m c.make_room.ensures.same c.make_room.ensures.items)
    (asks (outbox_view m) (numbers_of m) m.requests.next c.add.new.self.next o.requests.next (at m.requests) (at c.add.new.self) (all_sent_by m.outgoing.items) (all_sent_by c.push_back_reserved.new.self.items) c.args.subject c.args.headers c.args.payload
    refl (ap (λ (r : Numbered (Option Message)). r.next) (sym c.make_room.ensures.same.requests)) n.ensures.next n.ensures.unused n.ensures.values
    (ap all_sent_by c.push_back_reserved.ensures.items ∙ all_sent_by-push m.outgoing.items _ ∙ ap (λ x. all_sent_by m.outgoing.items ++ sents.Request o.requests.next x.0 x.1 x.2 ∷ []) message))

pub returns-in-Ok-clause-waits : goal.returns-in-Ok-clause-waits
returns-in-Ok-clause-waits c =
    let m = c.make_room.new.self in
    waits (at m.requests) (at c.add.new.self) m.requests.next c.args.self.now.requests.next (ap (λ (r : Numbered (Option Message)). r.next) (sym c.make_room.ensures.same.requests)) c.in-Ok.ensures.values
