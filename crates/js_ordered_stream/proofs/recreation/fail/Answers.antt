use Rattle.std.proofs.Common.{None}
use Rattle.js_link.specs.Wish.{row_input}
use Rattle.js_ordered_stream.specs.Rows.{read_by}
use Rattle.js_ordered_table.specs.Passes.{input_of}
use Rattle.js_ordered_stream.proofs.PassedRows.{fail_passes, meets_as}
use Rattle.js_ordered_stream.proofs.recreation.fail.Goals as goal

pub returns-in-Ok : goal.returns-in-Ok
returns-in-Ok g c =
    let view = g.L.Link.view in
    let now = c.args.context.now.moment in
    let met = c.in-Ok.met in
    fail_passes (input_of c.args.context.now) now c.args.recreation c.args.consumer.now c.pass_fail.new.consumer met c.pass_fail.result.told c.pass_fail.result.next c.stepped_by.result (view c.args.link.now) (view c.ask_for.new.link)
    (meets_as _ _ met (view c.args.link.now) (view c.ask_for.new.link) c.opened_dropped.ensures c.in-Ok.ensures.met) (c.pass_fail.ensures (read_by None None) (row_input now met)) (c.stepped_by.ensures.handed None) c.stepped_by.ensures.rest
