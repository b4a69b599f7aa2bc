use Rattle.std.proofs.Common.{None}
use Rattle.js_link.specs.declared.wish.Met.TheVariants.{Unasked}
use Rattle.js_link.specs.Wish.{row_input}
use Rattle.js_ordered_stream.specs.Rows.{read_by}
use Rattle.js_ordered_table.specs.Passes.{input_of}
use Rattle.js_ordered_stream.proofs.PassedRows.{create_passes}
use Rattle.js_ordered_stream.proofs.recreation.create.Goals as goal

pub returns-in-Pull : goal.returns-in-Pull
returns-in-Pull g c =
    let now = c.args.context.now.moment in
    create_passes (input_of c.args.context.now) now c.in-Pull.field-0 c.args.recreation c.args.consumer.now c.pass_create.new.consumer c.pass_create.result c.followed_by.result (g.L.Link.view c.args.link.now)
    c.in-Pull.is (c.pass_create.ensures (read_by None None) (row_input now Unasked)) c.followed_by.ensures
