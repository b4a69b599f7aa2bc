use Rattle.std.proofs.Common.{Some, None, refl, sym}
use Rattle.js_ordered_table.specs.Tasks.{reader_rows}
use Rattle.js_pull.specs.declared.rows.Notice.TheVariants as notice
use Rattle.js_ordered_stream.specs.Rows.{message_in}
use Rattle.js_ordered_stream.proofs.ReaderRows.{takes_known}
use Rattle.js_ordered_stream.proofs.pull_rows.take_in.Goals as goal

pub returns-in-Some : goal.returns-in-Some
returns-in-Some c = λ m.
    takes_known m c.args.told notice.Hands (message_in c.args.seen.now) (Some c.in-Some.message.now) (reader_rows m c.args.due) c.args.consumer.now c.take_with_message.new.consumer c.take_with_message.result c.in-Hands.is (sym c.in-Some.ensures) (c.take_with_message.ensures m)

pub returns-in-None : goal.returns-in-None
returns-in-None c = λ m.
    takes_known m c.args.told notice.Hands (message_in c.args.seen.now) None (reader_rows m c.args.due) c.args.consumer.now c.take_without_message.new.consumer c.take_without_message.result c.in-Hands.is (sym c.in-None.ensures) (c.take_without_message.ensures m None refl)

pub returns-in-Nothing : goal.returns-in-Nothing
returns-in-Nothing c = λ m.
    let message = message_in c.args.seen.now in
    takes_known m c.args.told notice.Nothing message message (reader_rows m c.args.due) c.args.consumer.now c.take_without_message-in-Nothing.new.consumer c.take_without_message-in-Nothing.result c.in-Nothing.is refl (c.take_without_message-in-Nothing.ensures m message refl)

pub returns-in-Tells : goal.returns-in-Tells
returns-in-Tells c = λ m.
    let message = message_in c.args.seen.now in
    takes_known m c.args.told (notice.Tells c.in-Tells.kind) message message (reader_rows m c.args.due) c.args.consumer.now c.take_without_message-in-Tells.new.consumer c.take_without_message-in-Tells.result c.in-Tells.is refl (c.take_without_message-in-Tells.ensures m message refl)
