use Rattle.std.proofs.Common.{None}
use Rattle.js_link.specs.Wish.{row_input}
use Rattle.js_ordered_stream.specs.Rows.{read_by}
use Rattle.js_ordered_table.specs.Passes.{input_of}
use Rattle.js_ordered_stream.proofs.PassedRows.{create_push_passes}
use Rattle.js_ordered_stream.proofs.recreation.create_push.Goals as goal

pub returns-in-Ok : goal.returns-in-Ok
returns-in-Ok g c =
    let view = g.L.Link.view in
    let now = c.args.context.now.moment in
    let met = c.in-Ok.met in
    create_push_passes (input_of c.args.context.now) now c.args.recreation c.args.consumer.now c.pass_create.new.consumer met c.inbox_met-inbox.result c.pass_create.result c.followed_by.result (view c.args.link.now) (view c.ask_for.new.link)
    c.requires.push c.in-Ok.ensures.met c.inbox_met-inbox.ensures (c.pass_create.ensures (read_by None None) (row_input now met)) c.followed_by.ensures
