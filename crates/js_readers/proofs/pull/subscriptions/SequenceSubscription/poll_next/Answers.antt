use Rattle.js_readers.proofs.KeptReads.{keeps_sequence_poll}
use Rattle.js_readers.proofs.pull.subscriptions.SequenceSubscription.poll_next.Goals as goal

pub returns-clause-keeps : goal.returns-clause-keeps
returns-clause-keeps g c =
    let view = g.L.Link.view in
    keeps_sequence_poll c.args.now c.args.self.now c.poll_next.new.self c.poll_next.result (view c.args.link.now) (view c.poll_next.new.link) c.poll_next.ensures.polls
