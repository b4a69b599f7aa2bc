use Rattle.js_readers_worker.proofs.Polls.{take_idles, take_polls}
use Rattle.js_readers_worker.proofs.worker.Worker.take.Goals as goal

pub returns-clause-takes : goal.returns-clause-takes
returns-clause-takes g c =
    let view = g.L.Link.view in
    take_polls g.R.Subscription.polls c.args.now c.args.self.now c.begin.new.self c.poll_next-answer.new.self (view c.args.link.now) (view c.poll_next-answer.new.link) c.poll_next-answer.result c.begin.result
    c.poll_next-answer.ensures.polls c.begin.ensures.told c.begin.ensures.begins

pub returns-clause-idles : goal.returns-clause-idles
returns-clause-idles g c =
    let below = g.R.Subscription in
    let view = g.L.Link.view in
    take_idles below.due below.quiet c.args.now c.args.self.now c.begin.new.self c.poll_next-answer.new.self (view c.args.link.now) (view c.poll_next-answer.new.link) c.poll_next-answer.result c.begin.result
    c.requires.idle c.requires.goes_on c.poll_next-answer.ensures.idles c.begin.ensures.told c.begin.ensures.begins
