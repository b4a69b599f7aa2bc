use Rattle.std.proofs.Common.{false}
use Rattle.js_link.specs.Wish.{row_input}
use Rattle.js_link.specs.declared.wish.Met.TheVariants.{Unasked}
use Rattle.js_ordered_table.specs.Tasks.{reader_rows}
use Rattle.js_ordered_table.proofs.PassedRows.{of_stream}
use Rattle.js_ordered_stream.proofs.ReaderRows.{takes_handed, yields_handed}
use Rattle.js_ordered_stream.proofs.pull_rows.take_with_message.Goals as goal

pub take_message-requires : goal.take_message-requires
take_message-requires c = of_stream c.args.consumer.now.core.consumer_sequence c.args.message.now c.heard_from-heard.result c.heard_from-heard.ensures

pub returns : goal.returns
returns c = λ m.
    let p = row_input 0 Unasked in
    takes_handed m p (reader_rows m c.args.due) c.args.message.now c.heard_from-heard.result c.args.consumer.now c.take_message.new.consumer (record { handed = c.handed_heard.result; next = c.take_message.result })
    c.heard_from-heard.ensures (c.take_message.ensures m p c.args.message.now)
    (yields_handed c.args.consumer.now.core.consumer_sequence c.args.message.now false p.up c.heard_from-heard.result c.handed_heard.result c.heard_from-heard.ensures c.handed_heard.ensures)
