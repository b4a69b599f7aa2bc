use Rattle.std.proofs.Common.{sym, subst}
use Rattle.js_ordered_stream.specs.Rows.{AsksNothing, PassesRow, answer_in, seen_after}
use Rattle.js_pull.specs.Rows.{brought, row_of}
use Rattle.js_pull.specs.declared.rows.Due.{Due}
use Rattle.js_ordered_table.specs.Passes.{input_of}
use Rattle.js_ordered_table.specs.declared.row.Row.TheVariants as row
use Rattle.js_ordered_stream.proofs.KeptSeen.{passes_blind}
use Rattle.js_ordered_stream.proofs.pull_rows.pass_read.Goals as goal

pub returns-in-CheckArrival-clause-passes : goal.returns-in-CheckArrival-clause-passes
returns-in-CheckArrival-clause-passes g c =
    let view = g.L.Link.view in
    subst (λ (d : Due). PassesRow (input_of c.args.context.now) c.args.context.now.moment (row.Read (row_of (brought (answer_in c.args.seen.now)) d)) c.args.consumer.now c.pass_arrival.new.consumer (view c.args.link.now) (view c.pass_arrival.new.link) (seen_after c.pass_arrival.result c.pass_arrival.new.seen) c.pass_arrival.result)
    (sym c.in-CheckArrival.is) c.pass_arrival.ensures.passes

pub pass_alone-requires : goal.pass_alone-requires
pass_alone-requires g c = subst (AsksNothing c.args.due) c.if-asks_nothing.true c.asks_nothing.ensures

pub returns-then-asks_nothing-clause-passes : goal.returns-then-asks_nothing-clause-passes
returns-then-asks_nothing-clause-passes g c =
    let view = g.L.Link.view c.args.link.now in
    let reply = brought (answer_in c.args.seen.now) in
    passes_blind (input_of c.args.context.now) c.args.context.now.moment (row.Read (row_of reply c.args.due)) c.args.consumer.now c.pass_alone.new.consumer view view c.args.seen.now c.pass_alone.result (c.pass_alone.ensures reply view)

pub pass_asking-requires : goal.pass_asking-requires
pass_asking-requires g c = c.in_default.not-CheckArrival
