use Rattle.js_pull.specs.Stream.{position_of}
use Rattle.js_readers.specs.Stream.{given_answer}
use Rattle.js_readers.proofs.IdlePolls.{stream_idles}
use Rattle.js_readers.proofs.KeptConnections.{keeps_stream_poll}
use Rattle.js_readers.proofs.pull.subscriptions.StreamSubscription.poll_next.Goals as goal

pub returns-clause-polls : goal.returns-clause-polls
returns-clause-polls g c = record { polls = c.poll_next.ensures.polls; timed = c.poll_next.ensures.timed; kept = c.poll_next.ensures.kept }

pub returns-clause-keeps : goal.returns-clause-keeps
returns-clause-keeps g c =
    let view = g.L.Link.view in
    let old = c.args.self.now.reader in
    let new = c.poll_next.new.self.reader in
    keeps_stream_poll c.args.now (position_of old) (position_of new) old.held new.held old.reader.source.inbox new.reader.source.inbox (view c.args.link.now) (view c.poll_next.new.link)
    (given_answer c.poll_next.result) c.poll_next.ensures.polls

pub returns-clause-idles : goal.returns-clause-idles
returns-clause-idles g c =
    let view = g.L.Link.view in
    stream_idles c.args.now c.args.self.now c.poll_next.new.self (view c.args.link.now) (view c.poll_next.new.link) c.poll_next.result c.poll_next.ensures.sleeps
