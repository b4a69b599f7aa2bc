use Rattle.js_readers.proofs.IdlePolls.{rising_idles, rising_polls}
use Rattle.js_readers.proofs.ordered.rising.Rising.read.Goals as goal

pub returns-clause-polls : goal.returns-clause-polls
returns-clause-polls g c =
    let view = g.L.Link.view in
    rising_polls g.R.Subscription.polls c.args.now c.args.self.now c.tell.new.self c.poll_next-answer.new.self (view c.args.link.now) (view c.poll_next-answer.new.link) c.poll_next-answer.result c.tell.result
    c.poll_next-answer.ensures.polls c.tell.ensures.reader c.tell.ensures.told c.tell.ensures.last c.tell.ensures.breach

pub returns-clause-idles : goal.returns-clause-idles
returns-clause-idles g c =
    let below = g.R.Subscription in
    let view = g.L.Link.view in
    rising_idles below.due below.quiet c.args.now c.args.self.now c.tell.new.self c.poll_next-answer.new.self (view c.args.link.now) (view c.poll_next-answer.new.link) c.poll_next-answer.result c.tell.result
    c.poll_next-answer.ensures.idles c.tell.ensures.reader c.tell.ensures.told c.tell.ensures.breach
