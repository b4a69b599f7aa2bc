use Rattle.js_ordered.specs.Drive.{LeadsOn, left_rows, left_to_do, matter_now}
use Rattle.js_ordered.proofs.drive.pass_left.Given as goal

abbrev pub invariant-rows : goal.invariant-rows
invariant-rows l =
    LeadsOn l.context (left_rows (matter_now l.context) l.initial.todo.tasks.items) l.initial.state l.initial.outputs.items (left_rows (matter_now l.context) l.todo.tasks.items) l.state l.outputs.items

-- each turn passes a row, or lets a task go
abbrev pub decreases-rows : goal.decreases-rows
decreases-rows l = left_to_do l.context l.todo.tasks.items l.state
