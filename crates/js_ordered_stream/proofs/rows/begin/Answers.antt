use Rattle.js_link.specs.Wish.{watch_met}
use Rattle.js_ordered_table.specs.Passes.{input_of}
use Rattle.std.proofs.Common.{sym, ◌∙◌}
use Rattle.js_ordered_stream.proofs.Elsewhere.{over_passes}
use Rattle.js_ordered_stream.proofs.RowMet.{watched}
use Rattle.js_ordered_stream.proofs.PassedRows.{event_passes}
use Rattle.js_ordered_stream.proofs.rows.begin.Goals as goal

pub returns : goal.returns
returns g c =
    let old = g.L.Link.view c.args.link.now in
    let new = g.L.Link.view c.state.new.self in
    event_passes (input_of c.args.context.now) c.args.context.now.moment c.args.consumer.now c.pass_event.new.consumer (watch_met c.state.result) c.change_met-change.result c.pass_event.result.told c.pass_event.result.next c.stepped_by.result old new
    (sym c.is_over.ensures ∙ c.if-is_over.false) (watched c.state.result old new c.state.ensures.value c.state.ensures.same) c.change_met-change.ensures c.pass_event.ensures (c.stepped_by.ensures.handed _) c.stepped_by.ensures.rest

pub returns-then-is_over : goal.returns-then-is_over
returns-then-is_over g c =
    over_passes (input_of c.args.context.now) c.args.context.now.moment c.args.consumer.now c.passed_over.result (g.L.Link.view c.args.link.now) (sym c.is_over.ensures ∙ c.if-is_over.true) c.passed_over.ensures
