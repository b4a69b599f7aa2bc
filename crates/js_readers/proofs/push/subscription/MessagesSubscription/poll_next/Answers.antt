use Rattle.js_readers.proofs.IdlePolls.{push_idles}
use Rattle.js_readers.proofs.KeptReads.{keeps_push_poll}
use Rattle.js_readers.proofs.push.subscription.MessagesSubscription.poll_next.Goals as goal

pub returns-clause-keeps : goal.returns-clause-keeps
returns-clause-keeps g c =
    let view = g.L.Link.view in
    keeps_push_poll c.args.now c.args.self.now c.poll_next.new.self c.poll_next.result (view c.args.link.now) (view c.poll_next.new.link) c.poll_next.ensures.polls

pub returns-clause-idles : goal.returns-clause-idles
returns-clause-idles g c =
    let view = g.L.Link.view in
    push_idles c.args.now c.args.self.now c.poll_next.new.self (view c.args.link.now) (view c.poll_next.new.link) c.poll_next.result c.poll_next.ensures.sleeps
