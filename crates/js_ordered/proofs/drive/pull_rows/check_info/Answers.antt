use Rattle.std.proofs.Common.{refl, subst, None}
use Rattle.js_ordered_table.specs.Tasks.{next_rows}
use Rattle.js_pull.specs.declared.reader.Row.TheVariants as read
use Rattle.js_pull.specs.Reader as pull
use Rattle.js_ordered_table.specs.Fold.{passing}
use Rattle.js_ordered_table.specs.Passes.{at, input_of}
use Rattle.js_ordered_table.specs.declared.consumer.Phase.{Phase}
use Rattle.js_ordered.specs.Drive.{Finishes, matter_now}
use Rattle.js_ordered.proofs.DrivenReads.{leads_finish}
use Rattle.js_ordered_table.proofs.ReaderSteps.{inquiry_sends}
use Rattle.js_pull.proofs.Inquiries.{inquiry_read}
use Rattle.js_ordered.proofs.Nowhere.{reads_here, reads_nowhere}
use Rattle.js_ordered.proofs.drive.pull_rows.check_info.Goals as goal

pub returns-in-Pulls : goal.returns-in-Pulls
returns-in-Pulls c =
    let g = input_of c.args.context.now.consumer in
    let now = c.args.context.now.consumer.moment in
    let m = matter_now c.args.context.now in
    let w = c.args.state.now in
    let r = c.in-Pulls.reader in
    reads_here g now m (read.CheckInfoRequest) r w _ c.args.outputs.now.items _ (next_rows m c.finish.result) c.in-Pulls.is
    (leads_finish g now m (read.CheckInfoRequest) r r w _ (passing g now w) c.check_inquiry-step.result (pull.check_inquiry (passing g now w) m.answer r.inquiry r) c.args.outputs.now.items _ c.finish.result refl refl
    (inquiry_read (passing g now w) None m.answer r.inquiry c.is_answered-answered.result r c.check_inquiry-step.result c.is_answered-answered.ensures c.check_inquiry-step.ensures) (inquiry_sends (passing g now w) m.answer r.inquiry r)
    (subst (λ (q : Phase). Finishes m (at q w) c.finish.new.state c.check_inquiry-step.result c.args.outputs.now.items c.finish.new.outputs.items c.finish.result) c.in-Pulls.is (c.finish.ensures m)))

pub returns-in_default : goal.returns-in_default
returns-in_default c =
    let g = input_of c.args.context.now.consumer in
    let now = c.args.context.now.consumer.moment in
    let m = matter_now c.args.context.now in
    let w = c.args.state.now in
    reads_nowhere g now m (read.CheckInfoRequest) w c.args.outputs.now.items c.in_default.not-Pulls
