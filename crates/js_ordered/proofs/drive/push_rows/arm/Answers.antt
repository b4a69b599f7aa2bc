use Rattle.std.proofs.Common.{refl, sym}
use Rattle.js_ordered_table.specs.declared.consumer.Phase.TheVariants.{Pulls, Pushes, Recreates, Idle, Ended, Exhausted}
use Rattle.js_ordered_table.specs.declared.row.Row.TheVariants as row
use Rattle.js_ordered_table.specs.Passes.{input_of}
use Rattle.js_ordered.specs.Drive.{matter_now}
use Rattle.js_ordered.proofs.DrivenRows.{look_nowhere, told_here}
use Rattle.js_ordered_table.specs.declared.transitions.task.NextTasks.TheVariants as next
use Rattle.js_ordered_table.specs.declared.transitions.task.RowOutput.TheVariants as tells
use Rattle.std.proofs.Common.{append-nil}
use Rattle.js_ordered.proofs.drive.push_rows.arm.Goals as goal

pub returns-in-Pushes : goal.returns-in-Pushes
returns-in-Pushes c = λ outputs.
    let g = input_of c.args.context.now.consumer in
    let now = c.args.context.now.consumer.moment in
    let m = matter_now c.args.context.now in
    let w = c.args.state.now in
    told_here g now m row.Arm (Pushes c.in-Pushes.inbox c.in-Pushes.heartbeat_timer) w _ tells.Nothing outputs outputs c.listen.new.consumer next.Nothing c.in-Pushes.is
    (record { consumer = c.listen.ensures; outputs = refl; next = refl }) (sym (append-nil outputs)) refl

pub returns-in-Pulls : goal.returns-in-Pulls
returns-in-Pulls c = λ outputs.
    let g = input_of c.args.context.now.consumer in
    let now = c.args.context.now.consumer.moment in
    let m = matter_now c.args.context.now in
    let w = c.args.state.now in
    look_nowhere g now m row.Arm w outputs (Pulls c.in-Pulls.field-0) c.in-Pulls.is refl

pub returns-in-Recreates : goal.returns-in-Recreates
returns-in-Recreates c = λ outputs.
    let g = input_of c.args.context.now.consumer in
    let now = c.args.context.now.consumer.moment in
    let m = matter_now c.args.context.now in
    let w = c.args.state.now in
    look_nowhere g now m row.Arm w outputs (Recreates c.in-Recreates.field-0) c.in-Recreates.is refl

pub returns-in-Idle : goal.returns-in-Idle
returns-in-Idle c = λ outputs.
    let g = input_of c.args.context.now.consumer in
    let now = c.args.context.now.consumer.moment in
    let m = matter_now c.args.context.now in
    let w = c.args.state.now in
    look_nowhere g now m row.Arm w outputs Idle c.in-Idle.is refl

pub returns-in-Ended : goal.returns-in-Ended
returns-in-Ended c = λ outputs.
    let g = input_of c.args.context.now.consumer in
    let now = c.args.context.now.consumer.moment in
    let m = matter_now c.args.context.now in
    let w = c.args.state.now in
    look_nowhere g now m row.Arm w outputs Ended c.in-Ended.is refl

pub returns-in-Exhausted : goal.returns-in-Exhausted
returns-in-Exhausted c = λ outputs.
    let g = input_of c.args.context.now.consumer in
    let now = c.args.context.now.consumer.moment in
    let m = matter_now c.args.context.now in
    let w = c.args.state.now in
    look_nowhere g now m row.Arm w outputs Exhausted c.in-Exhausted.is refl
