use Rattle.std.proofs.Common.{refl, None}
use Rattle.std.specs.Prelude.{codes}
use Rattle.js_ordered_table.specs.Tasks.{next_rows}
use Rattle.js_pull.specs.Rows.{brought}
use Rattle.js_pull.specs.declared.reader.Row.TheVariants as read
use Rattle.js_pull.specs.Reader as pull
use Rattle.js_ordered_table.specs.Fold.{passing}
use Rattle.js_ordered_table.specs.Passes.{input_of}
use Rattle.js_ordered.specs.Drive.{matter_now}
use Rattle.js_ordered.proofs.DrivenReads.{leads_inquired}
use Rattle.js_ordered.proofs.Nowhere.{reads_here, reads_nowhere}
use Rattle.js_ordered.proofs.drive.pull_rows.inquire.Goals as goal

pub returns-in_ok-request-in-Pulls : goal.returns-in_ok-request-in-Pulls
returns-in_ok-request-in-Pulls c =
    let g = input_of c.args.context.now.consumer in
    let now = c.args.context.now.consumer.moment in
    let m = matter_now c.args.context.now in
    let w = c.args.state.now in
    let r = c.in-Pulls.reader in
    let subject = pull.info_subject r.source in
    reads_here g now m (read.Inquire c.args.failures) r w _ c.args.outputs.now.items _ (next_rows m c.after.result) c.in-Pulls.is
    (leads_inquired g now m c.args.failures r c.inquire-step.new.reader w _ c.send-number.result c.send-number.new.requests_sent c.args.outputs.now.items c.send-number.new.outputs.items c.inquire-step.result c.after.result
    (c.send-number.ensures w.link_up subject (codes "{}") c.in_ok-request-in-Pulls.ensures)
    (c.inquire-step.ensures (passing g now w) (brought m.answer) None) (c.after.ensures m) refl)

pub returns-in_default : goal.returns-in_default
returns-in_default c =
    let g = input_of c.args.context.now.consumer in
    let now = c.args.context.now.consumer.moment in
    let m = matter_now c.args.context.now in
    let w = c.args.state.now in
    reads_nowhere g now m (read.Inquire c.args.failures) w c.args.outputs.now.items c.in_default.not-Pulls
