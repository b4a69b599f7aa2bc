use Rattle.js_ordered_stream.proofs.Opening.{opens_pushed, push_gapless}
use Rattle.js_ordered_stream.proofs.SteadyStates.{push_steady}
use Rattle.js_ordered_stream.proofs.push.Ordered.open.Goals as goal

pub returns-in-Ok-clause-opens : goal.returns-in-Ok-clause-opens
returns-in-Ok-clause-opens g c =
    let view = g.L.Link.view in
    opens_pushed c.get.result.now c.in_ok-given.given c.in-Ok.consumer c.arming.result c.new.result c.args.settings c.args.config c.args.first (view c.args.link.now) (view c.open_first_consumer.new.link)
    c.in-Ok.ensures c.get.ensures c.in_ok-given.ensures c.arming.ensures.rows c.new.ensures

pub returns-in-Ok-clause-gapless : goal.returns-in-Ok-clause-gapless
returns-in-Ok-clause-gapless g c =
    let view = g.L.Link.view in
    push_gapless (record { polled = c.new.result }) c.args.settings c.args.config c.args.first (view c.args.link.now) (view c.open_first_consumer.new.link)
    (opens_pushed c.get.result.now c.in_ok-given.given c.in-Ok.consumer c.arming.result c.new.result c.args.settings c.args.config c.args.first (view c.args.link.now) (view c.open_first_consumer.new.link)
    c.in-Ok.ensures c.get.ensures c.in_ok-given.ensures c.arming.ensures.rows c.new.ensures)

pub new-requires : goal.new-requires
new-requires g c =
    let view = g.L.Link.view in
    push_steady c.get.result.now c.in_ok-given.given c.in-Ok.consumer c.arming.result (view c.args.link.now) (view c.open_first_consumer.new.link) c.in-Ok.ensures c.arming.ensures.rows c.arming.ensures.stands c.arming.ensures.held
