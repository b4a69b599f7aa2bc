use Rattle.js_ordered_stream.specs.Opening.{input_of_pull, position_of_pull}
use Rattle.js_readers.specs.OrderedPolls.{given_answer}
use Rattle.js_readers.specs.declared.ordered.pull.Ordered.{Ordered}
use Rattle.js_readers.proofs.IdlePolls.{ordered_idles}
use Rattle.js_readers.proofs.KeptConnections.{keeps_ordered_poll}
use Rattle.js_readers.proofs.ordered.consumers.PullOrderedSubscription.poll_next.Goals as goal

pub returns-clause-polls : goal.returns-clause-polls
returns-clause-polls g c = record {
  given = c.poll_next.ensures.given;
  polls = c.poll_next.ensures.polls;
  sources = c.poll_next.ensures.sources;
  kinds = c.poll_next.ensures.kinds;
  sleeps = c.poll_next.ensures.sleeps;
  timed = c.poll_next.ensures.timed;
  kept = c.poll_next.ensures.kept;
}

pub returns-clause-keeps : goal.returns-clause-keeps
returns-clause-keeps g c =
    let view = g.L.Link.view in
    let old = c.args.self.now.reader in
    let new = c.poll_next.new.self.reader in
    keeps_ordered_poll (input_of_pull old) c.args.now (position_of_pull old) (position_of_pull new) (view c.args.link.now) (view c.poll_next.new.link) (given_answer c.poll_next.result) c.poll_next.ensures.polls

pub returns-clause-idles : goal.returns-clause-idles
returns-clause-idles g c =
    let view = g.L.Link.view in
    ordered_idles (λ (o : Ordered). input_of_pull o.reader) (λ (o : Ordered). position_of_pull o.reader) c.args.now c.args.self.now c.poll_next.new.self (view c.args.link.now) (view c.poll_next.new.link)
    c.poll_next.result c.poll_next.ensures.given c.poll_next.ensures.sleeps
