use Rattle.std.proofs.Common.{refl, []}
use Rattle.js_pull.specs.declared.reader.Row.TheVariants as read
use Rattle.js_ordered_table.specs.Passes.{input_of}
use Rattle.js_ordered.specs.Drive.{matter_now}
use Rattle.js_ordered.proofs.DrivenReads.{leads_armed}
use Rattle.js_ordered.proofs.Nowhere.{reads_here, reads_nowhere}
use Rattle.js_ordered.proofs.drive.pull_rows.arm.Goals as goal

pub returns-in-Pulls : goal.returns-in-Pulls
returns-in-Pulls c = λ outputs.
    let g = input_of c.args.context.now.consumer in
    let now = c.args.context.now.consumer.moment in
    let m = matter_now c.args.context.now in
    let w = c.args.state.now in
    let r = c.in-Pulls.reader in
    reads_here g now m read.Arm r w _ outputs outputs [] c.in-Pulls.is (leads_armed g now m r c.arm_silence.new.self w _ outputs c.arm_silence.ensures refl)

pub returns-in_default : goal.returns-in_default
returns-in_default c = λ outputs.
    let g = input_of c.args.context.now.consumer in
    let now = c.args.context.now.consumer.moment in
    let m = matter_now c.args.context.now in
    let w = c.args.state.now in
    reads_nowhere g now m read.Arm w outputs c.in_default.not-Pulls
