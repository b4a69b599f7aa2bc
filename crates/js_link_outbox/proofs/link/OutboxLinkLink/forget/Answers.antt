use Rattle.js_link_outbox.specs.Numbered.{at}
use Rattle.js_link_outbox.specs.Outbox.{all_sent_by, numbers_of, outbox_view}
use Rattle.js_link_outbox.proofs.Views.{forgets}
use Rattle.js_link_outbox.proofs.link.OutboxLinkLink.forget.Goals as goal

pub returns-clause-call : goal.returns-clause-call
returns-clause-call c =
    let o = c.args.self.now in
    forgets (outbox_view o) (numbers_of o) o.requests.next c.remove.new.self.next c.args.request.0 (at o.requests) (at c.remove.new.self) (all_sent_by o.outgoing.items) c.remove.ensures.next c.remove.ensures.values
