use Rattle.std.proofs.Common.{true, false, refl}
use Rattle.js_ordered_stream.specs.Rows.{todo_rows}
use Rattle.js_ordered_stream.proofs.LeftRows.{left_due, over_due, timer_due}
use Rattle.js_ordered_stream.proofs.NextRow.{not_rested, rows_left}
use Rattle.js_ordered_stream.proofs.timers.wakes_at.Goals as goal

pub returns-then-is_over : goal.returns-then-is_over
returns-then-is_over c = λ now m small stands.
    over_due now (record { consumer = c.args.consumer.now; todo = todo_rows m c.args.todo.now }) c.is_over.result c.is_over.ensures c.if-is_over.true

pub returns-then-not-is_empty : goal.returns-then-not-is_empty
returns-then-not-is_empty c = λ now m small stands.
    left_due now (record { consumer = c.args.consumer.now; todo = todo_rows m c.args.todo.now }) c.is_over.result true c.is_over.ensures c.if-is_over.false (rows_left m c.args.todo.now c.is_empty.result stands c.is_empty.ensures c.if-not-is_empty.true) refl

pub returns : goal.returns
returns c = λ now m small stands.
    timer_due now (record { consumer = c.args.consumer.now; todo = todo_rows m c.args.todo.now }) c.is_over.result false _ c.is_over.ensures c.if-is_over.false (not_rested m c.args.todo.now c.is_empty.result stands c.is_empty.ensures c.if-not-is_empty.false) refl
    (c.phase_wakes_at.ensures now small)
