use Rattle.std.proofs.Common.{None}
use Rattle.js_link.specs.Wish.{row_input}
use Rattle.js_ordered_stream.specs.Rows.{read_by}
use Rattle.js_ordered_table.specs.Passes.{input_of}
use Rattle.js_ordered_stream.proofs.PassedRows.{ask_passes}
use Rattle.js_ordered_stream.proofs.recreation.ask_create.Goals as goal

pub returns-in-Ok : goal.returns-in-Ok
returns-in-Ok g c =
    let view = g.L.Link.view in
    let now = c.args.context.now.moment in
    let met = c.in-Ok.met in
    ask_passes (input_of c.args.context.now) now c.args.recreation c.args.consumer.now c.pass_ask.new.consumer met c.number_of-number.result c.pass_ask.result c.followed_by.result (view c.args.link.now) (view c.ask_met.new.link)
    c.in-Ok.ensures.met c.number_of-number.ensures (c.pass_ask.ensures (read_by None None) (row_input now met)) c.followed_by.ensures
