use Rattle.std.proofs.Common.{sym, subst, []}
use Rattle.std.specs.Prelude.{None}
use Rattle.js_pull.specs.declared.rows.Notice.{Notice}
use Rattle.js_pull.specs.Rows.{told_shown}
use Rattle.js_ordered_table.specs.Tasks.{StepsTo, reader_rows, told_outputs}
use Rattle.js_ordered_table.specs.Arrivals.{told, with_sent}
use Rattle.js_ordered_table.proofs.transitions.pull.take_notice.Goals as goal

pub returns-in-Tells : goal.returns-in-Tells
returns-in-Tells c = λ m.
    subst (λ (n : Notice). StepsTo m (with_sent [] (reader_rows m c.args.due) (told (told_shown n None) c.args.consumer.now)) (told_outputs c.take_error.result.told) c.take_error.new.consumer c.take_error.result.next) (sym c.in-Tells.is) (c.take_error.ensures m)
