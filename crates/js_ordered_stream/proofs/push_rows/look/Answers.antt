use Rattle.std.specs.Prelude.{Ok}
use Rattle.js_ordered_stream.specs.Rows.{seen_after}
use Rattle.js_ordered_table.specs.declared.row.Row.TheVariants as row
use Rattle.js_ordered_stream.proofs.Elsewhere.{looks_nowhere}
use Rattle.js_ordered_stream.proofs.KeptSeen.{passes_blind}
use Rattle.js_ordered_table.specs.Passes.{input_of}
use Rattle.js_ordered_stream.proofs.PushRows.{looks_at}
use Rattle.js_ordered_stream.proofs.push_rows.look.Goals as goal

pub returns-in-Pushes-clause-passes : goal.returns-in-Pushes-clause-passes
returns-in-Pushes-clause-passes g c =
    let view = g.L.Link.view in
    looks_at (input_of c.args.context.now) c.args.context.now.moment c.in-Pushes.inbox c.in-Pushes.heartbeat_timer c.args.consumer.now (view c.args.link.now) (view c.look_into.new.link) (seen_after c.look_into.result c.look_into.new.seen) c.look_into.result
    c.in-Pushes.is c.look_into.ensures.looks

pub returns-in_default-clause-passes : goal.returns-in_default-clause-passes
returns-in_default-clause-passes g c =
    let v = g.L.Link.view c.args.link.now in
    let given = input_of c.args.context.now in
    let now = c.args.context.now.moment in
    let same = c.args.consumer.now in
    passes_blind given now row.CheckArrival same same v v c.args.seen.now (Ok c.passed_over.result) (looks_nowhere given now same c.passed_over.result v c.in_default.not-Pushes c.passed_over.ensures)
