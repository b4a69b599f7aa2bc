use Rattle.std.proofs.Common.{None}
use Rattle.js_link.specs.Wish.{row_input}
use Rattle.js_ordered_stream.specs.Rows.{read_by}
use Rattle.js_ordered_table.specs.Passes.{input_of}
use Rattle.js_ordered_stream.proofs.PassedRows.{succeed_passes}
use Rattle.js_ordered_stream.proofs.success.succeed_pull.Goals as goal

pub returns-in-Ok : goal.returns-in-Ok
returns-in-Ok g c =
    let view = g.L.Link.view in
    let now = c.args.context.now.moment in
    let met = c.in-Ok.reading.met in
    succeed_passes (input_of c.args.context.now) now c.args.info.now c.args.recreation c.args.consumer.now c.pass_succeed_pull.new.consumer met c.inbox_met-inbox.result c.pass_succeed_pull.result c.followed_by.result (view c.args.link.now) (view c.reading_for.new.link)
    c.requires.pull c.in-Ok.ensures.met c.inbox_met-inbox.ensures (c.pass_succeed_pull.ensures (read_by None None) (row_input now met) c.args.info.now c.in-Ok.ensures.source) c.followed_by.ensures
