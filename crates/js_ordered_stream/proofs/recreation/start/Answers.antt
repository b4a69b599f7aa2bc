use Rattle.std.proofs.Common.{None}
use Rattle.js_ordered_stream.specs.Rows.{read_by}
use Rattle.js_ordered_table.specs.Passes.{input_of}
use Rattle.js_ordered_stream.proofs.PassedRows.{start_passes, meets_as}
use Rattle.js_ordered_stream.proofs.recreation.start.Goals as goal

pub returns : goal.returns
returns g c =
    let view = g.L.Link.view in
    let met = c.in-Ok-ask_for.met in
    start_passes (input_of c.args.context.now) c.args.context.now.moment c.args.consumer.now c.pass_start.new.consumer met c.pass_start.result.told c.pass_start.result.next c.stepped_by.result (view c.args.link.now) (view c.ask_for.new.link)
    (meets_as _ _ met (view c.args.link.now) (view c.ask_for.new.link) c.dropped.ensures c.in-Ok-ask_for.ensures.met) (c.pass_start.ensures (read_by None None)) (c.stepped_by.ensures.handed None) c.stepped_by.ensures.rest
