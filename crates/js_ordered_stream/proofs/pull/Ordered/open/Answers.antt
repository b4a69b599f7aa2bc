use Rattle.js_ordered_stream.proofs.Opening.{opens_ordered, pull_gapless}
use Rattle.js_ordered_stream.proofs.SteadyStates.{pull_steady}
use Rattle.js_ordered_stream.proofs.pull.Ordered.open.Goals as goal

pub returns-in-Ok-clause-opens : goal.returns-in-Ok-clause-opens
returns-in-Ok-clause-opens g c =
    let view = g.L.Link.view in
    opens_ordered c.get.result.now c.in_ok-given.given c.in-Ok.consumer c.opening.result c.new.result c.args.settings c.args.config c.args.first (view c.args.link.now) (view c.open_first_consumer.new.link)
    c.in-Ok.ensures c.get.ensures c.in_ok-given.ensures c.opening.ensures.rows c.new.ensures

pub returns-in-Ok-clause-gapless : goal.returns-in-Ok-clause-gapless
returns-in-Ok-clause-gapless g c =
    let view = g.L.Link.view in
    pull_gapless (record { polled = c.new.result }) c.args.settings c.args.config c.args.first (view c.args.link.now) (view c.open_first_consumer.new.link)
    (opens_ordered c.get.result.now c.in_ok-given.given c.in-Ok.consumer c.opening.result c.new.result c.args.settings c.args.config c.args.first (view c.args.link.now) (view c.open_first_consumer.new.link)
    c.in-Ok.ensures c.get.ensures c.in_ok-given.ensures c.opening.ensures.rows c.new.ensures)

pub new-requires : goal.new-requires
new-requires g c =
    let view = g.L.Link.view in
    pull_steady c.get.result.now c.in_ok-given.given c.in-Ok.consumer c.opening.result (view c.args.link.now) (view c.open_first_consumer.new.link) c.in-Ok.ensures c.opening.ensures.rows c.opening.ensures.stands c.opening.ensures.held
