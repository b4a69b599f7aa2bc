use Rattle.std.proofs.Common.{refl, None}
use Rattle.js_ordered_table.specs.Tasks.{next_rows}
use Rattle.js_pull.specs.Rows.{brought}
use Rattle.js_pull.specs.declared.reader.Row.TheVariants as read
use Rattle.js_pull.specs.Reader as pull
use Rattle.js_ordered_table.specs.Fold.{passing}
use Rattle.js_ordered_table.specs.Passes.{input_of}
use Rattle.js_ordered.specs.Drive.{matter_now}
use Rattle.js_ordered.proofs.DrivenReads.{leads_finish}
use Rattle.js_ordered_table.proofs.ReaderSteps.{silence_sends}
use Rattle.js_ordered.proofs.Nowhere.{reads_here, reads_nowhere}
use Rattle.js_ordered.proofs.drive.pull_rows.check_silence.Goals as goal

pub returns-in-Pulls : goal.returns-in-Pulls
returns-in-Pulls c =
    let g = input_of c.args.context.now.consumer in
    let now = c.args.context.now.consumer.moment in
    let m = matter_now c.args.context.now in
    let w = c.args.state.now in
    let r = c.in-Pulls.reader in
    reads_here g now m (read.CheckSilence) r w _ c.args.outputs.now.items _ (next_rows m c.finish.result) c.in-Pulls.is
    (leads_finish g now m (read.CheckSilence) r c.check_silence-step.new.reader w _ (passing g now w) c.check_silence-step.result (pull.check_silence (passing g now w) r) c.args.outputs.now.items _ c.finish.result refl refl
    (c.check_silence-step.ensures (passing g now w) (brought m.answer) None) (silence_sends (passing g now w) r) (c.finish.ensures m))

pub returns-in_default : goal.returns-in_default
returns-in_default c =
    let g = input_of c.args.context.now.consumer in
    let now = c.args.context.now.consumer.moment in
    let m = matter_now c.args.context.now in
    let w = c.args.state.now in
    reads_nowhere g now m (read.CheckSilence) w c.args.outputs.now.items c.in_default.not-Pulls
