use Rattle.std.proofs.Common.{◌∙◌, ap, sym, List, ◌++◌, append_assoc}
use Rattle.js_ordered_table.specs.declared.row.Row.{Row}
use Rattle.js_ordered.specs.Drive.{left_rows}
use Rattle.js_ordered_table.specs.Tasks.{next_rows, rows_of}
use Rattle.js_ordered.proofs.DrivenRows.{left_first}
use Rattle.js_ordered.proofs.TakenTasks.{tasks_same}
use Rattle.js_ordered.proofs.task_stack.TaskStack.push_next.Goals as goal

pub returns-in-One-clause-tasks : goal.returns-in-One-clause-tasks
returns-in-One-clause-tasks c = λ m. tasks_same m _ _ c.push_reserved.ensures.items ∙ left_first m c.args.self.now.tasks.items c.in-One.task ∙ ap (λ (n : _). next_rows m n ++ left_rows m c.args.self.now.tasks.items) (sym c.in-One.is)

pub returns-in-Two-clause-tasks : goal.returns-in-Two-clause-tasks
returns-in-Two-clause-tasks c = λ m.
    tasks_same m _ _ c.push_reserved-in-Two-2.ensures.items ∙ left_first m c.push_reserved-in-Two.new.self.items c.in-Two.first
    ∙ ap (λ (rows : List Row). rows_of m c.in-Two.first ++ rows) (tasks_same m _ _ c.push_reserved-in-Two.ensures.items ∙ left_first m c.args.self.now.tasks.items c.in-Two.second)
    ∙ sym (append_assoc (rows_of m c.in-Two.first) (rows_of m c.in-Two.second) (left_rows m c.args.self.now.tasks.items))
    ∙ ap (λ (n : _). next_rows m n ++ left_rows m c.args.self.now.tasks.items) (sym c.in-Two.is)
