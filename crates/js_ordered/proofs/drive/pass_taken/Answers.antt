use Rattle.std.proofs.Common.{ap, arith}
use Rattle.js_ordered_table.specs.Passes.{input_of}
use Rattle.js_ordered.specs.Drive.{first_rows, left_rows, matter_now}
use Rattle.js_ordered.proofs.DrivenRows.{fewer_on, leads_on}
use Rattle.js_ordered.proofs.TakenTasks.{err_passes, leads_without, left_again, less_by_row, less_without, ok_passes, refused_on}
use Rattle.js_ordered.proofs.drive.pass_taken.Goals as goal

pub returns-then-not-has_row-clause-leads : goal.returns-then-not-has_row-clause-leads
returns-then-not-has_row-clause-leads c =
    leads_without (input_of c.args.context.now.consumer) c.args.context.now.consumer.moment (matter_now c.args.context.now) c.args.todo.now.tasks.items c.args.task c.args.state.now c.args.outputs.now.items (c.has_row.ensures.none c.if-not-has_row.true)

pub returns-then-not-has_row-clause-less : goal.returns-then-not-has_row-clause-less
returns-then-not-has_row-clause-less c = less_without c.args.context.now c.args.todo.now.tasks.items c.args.task c.args.state.now (c.has_row.ensures.none c.if-not-has_row.true)

pub returns-in-Ok-clause-leads : goal.returns-in-Ok-clause-leads
returns-in-Ok-clause-leads c =
    let g = input_of c.args.context.now.consumer in
    let now = c.args.context.now.consumer.moment in
    let m = matter_now c.args.context.now in
    leads_on g now m c.args.task (first_rows m c.args.task) c.left_of.result c.in-Ok.next c.args.todo.now.tasks.items c.push_next.new.self.tasks.items c.push_next-in-Ok.new.self.tasks.items c.args.state.now _ c.args.outputs.now.items _
    (ok_passes c.args.context.now (first_rows m c.args.task) c.args.state.now _ c.args.outputs.now.items _ c.pass.result c.in-Ok.next c.in-Ok.is c.pass.ensures)
    (c.left_of.ensures m) (c.push_next.ensures.tasks m) (c.push_next-in-Ok.ensures.tasks m)

pub returns-in-Ok-clause-less : goal.returns-in-Ok-clause-less
returns-in-Ok-clause-less c =
    let g = input_of c.args.context.now.consumer in
    let now = c.args.context.now.consumer.moment in
    let m = matter_now c.args.context.now in
    let old = c.args.todo.now.tasks in
    let middle = c.push_next.new.self.tasks in
    let last = c.push_next-in-Ok.new.self.tasks in
    less_by_row _ _ _ old.items middle.items last.items c.args.task
    (fewer_on g now m c.args.task (first_rows m c.args.task) c.left_of.result c.in-Ok.next old.items middle.items last.items c.args.state.now _ c.args.outputs.now.items _
    (ok_passes c.args.context.now (first_rows m c.args.task) c.args.state.now _ c.args.outputs.now.items _ c.pass.result c.in-Ok.next c.in-Ok.is c.pass.ensures)
    (c.left_of.ensures m) (c.push_next.ensures.tasks m) (c.push_next-in-Ok.ensures.tasks m))
    (c.has_row.ensures.one c.if-not-has_row.false) (omega (arith, c.push_next.ensures.len, old.ok.0, middle.ok.0)) (omega (arith, c.push_next-in-Ok.ensures.len, middle.ok.0, last.ok.0))

pub returns-in-Err-clause-leads : goal.returns-in-Err-clause-leads
returns-in-Err-clause-leads c =
    let g = input_of c.args.context.now.consumer in
    let now = c.args.context.now.consumer.moment in
    let m = matter_now c.args.context.now in
    let same = err_passes c.args.context.now (first_rows m c.args.task) c.args.state.now _ c.args.outputs.now.items _ c.pass.result c.in-Err.refused c.in-Err.is c.pass.ensures in
    refused_on g now m c.args.todo.now.tasks.items c.push.new.self.tasks.items c.args.task c.args.state.now _ c.args.outputs.now.items _ same.0 same.1 (ap (left_rows m) c.push.ensures.tasks)

pub returns-in-Err-clause-refused : goal.returns-in-Err-clause-refused
returns-in-Err-clause-refused c = left_again c.args.todo.now.tasks.items c.push.new.self.tasks.items c.args.task c.push.ensures.tasks
