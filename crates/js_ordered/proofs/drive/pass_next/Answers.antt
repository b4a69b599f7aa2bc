use Rattle.js_ordered_table.specs.Passes.{input_of}
use Rattle.js_ordered.specs.Drive.{matter_now}
use Rattle.js_ordered.proofs.EventByEvent.{on_ok}
use Rattle.js_ordered.proofs.TakenTasks.{less_taken, took_on}
use Rattle.js_ordered.proofs.drive.pass_next.Goals as goal

pub returns-clause-leads : goal.returns-clause-leads
returns-clause-leads c =
    took_on (input_of c.args.context.now.consumer) c.args.context.now.consumer.moment (matter_now c.args.context.now) c.args.todo.now.tasks.items c.make_room.new.self.tasks.items c.pop-task.new.self.tasks.items c.pop-task.result c.pass_taken.new.todo.tasks.items c.args.state.now c.pass_taken.new.state
    c.args.outputs.now.items c.reserve.new.self.items c.pass_taken.new.outputs.items c.make_room.ensures.tasks c.pop-task.ensures.tasks c.reserve.ensures.items c.pass_taken.ensures.leads

pub returns-clause-less : goal.returns-clause-less
returns-clause-less c =
    on_ok c.pass_taken.result (λ less. less_taken c.args.context.now c.args.todo.now.tasks.items c.make_room.new.self.tasks.items c.pop-task.new.self.tasks.items c.pass_taken.new.todo.tasks.items c.pop-task.result c.args.state.now c.pass_taken.new.state
    c.make_room.ensures.tasks c.pop-task.ensures.tasks less) c.pass_taken.ensures.less
