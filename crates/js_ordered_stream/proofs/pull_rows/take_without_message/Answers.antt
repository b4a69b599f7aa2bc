use Rattle.std.proofs.Common.{None}
use Rattle.js_ordered_table.specs.Tasks.{reader_rows}
use Rattle.js_pull.specs.Rows.{told_shown}
use Rattle.js_ordered_stream.proofs.ReaderRows.{takes_told}
use Rattle.js_ordered_stream.proofs.pull_rows.take_without_message.Goals as goal

pub returns : goal.returns
returns c = λ m message is.
    takes_told m (told_shown c.args.told message) (told_shown c.args.told None) (reader_rows m c.args.due) message c.args.consumer.now c.take_notice-told.new.consumer c.take_notice-told.result.told
    (record { handed = c.handed_of.result; next = c.take_notice-told.result.next }) is (c.take_notice-told.ensures m) (c.handed_of.ensures message)
