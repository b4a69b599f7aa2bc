use Rattle.std.proofs.Common.{refl, None}
use Rattle.js_ordered_table.specs.Tasks.{next_rows}
use Rattle.js_pull.specs.Rows.{brought}
use Rattle.js_pull.specs.declared.reader.Row.TheVariants as read
use Rattle.js_pull.specs.Reader as pull
use Rattle.js_ordered_table.specs.Fold.{passing}
use Rattle.js_ordered_table.specs.Passes.{input_of}
use Rattle.js_ordered.specs.Drive.{matter_now}
use Rattle.js_ordered.proofs.DrivenReads.{leads_finish}
use Rattle.js_ordered_table.proofs.ReaderSteps.{answered_sends}
use Rattle.js_ordered.proofs.Nowhere.{reads_here, reads_nowhere}
use Rattle.js_ordered.proofs.drive.pull_rows.answered.Goals as goal

pub returns-in_ok-informed-in-Pulls : goal.returns-in_ok-informed-in-Pulls
returns-in_ok-informed-in-Pulls c =
    let g = input_of c.args.context.now.consumer in
    let now = c.args.context.now.consumer.moment in
    let m = matter_now c.args.context.now in
    let w = c.args.state.now in
    let r = c.in-Pulls.reader in
    let reply = brought m.answer in
    reads_here g now m (read.Answered reply c.args.failures) r w _ c.args.outputs.now.items _ (next_rows m c.finish.result) c.in-Pulls.is
    (leads_finish g now m (read.Answered reply c.args.failures) r c.answered-step.new.reader w _ (passing g now w) c.answered-step.result (pull.answered c.args.failures (pull.info_reply reply) r) c.args.outputs.now.items _ c.finish.result refl refl
    (c.answered-step.ensures reply None c.in_ok-informed-in-Pulls.ensures) (answered_sends c.args.failures (pull.info_reply reply) r) (c.finish.ensures m))

pub returns-in_default : goal.returns-in_default
returns-in_default c =
    let g = input_of c.args.context.now.consumer in
    let now = c.args.context.now.consumer.moment in
    let m = matter_now c.args.context.now in
    let w = c.args.state.now in
    reads_nowhere g now m (read.Answered (brought m.answer) c.args.failures) w c.args.outputs.now.items c.in_default.not-Pulls
