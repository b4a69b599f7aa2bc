use Rattle.std.proofs.Common.{subst}
use Rattle.js_ordered_table.specs.Tasks.{next_rows}
use Rattle.js_pull.specs.Rows.{brought}
use Rattle.js_pull.specs.declared.reader.Row.TheVariants as read
use Rattle.js_ordered_table.specs.Passes.{input_of}
use Rattle.js_ordered.specs.Drive.{Arrives, matter_now}
use Rattle.js_ordered_table.specs.declared.consumer.Phase.{Phase}
use Rattle.js_ordered.proofs.DrivenReads.{leads_status}
use Rattle.js_ordered.proofs.Nowhere.{reads_here, reads_nowhere}
use Rattle.js_ordered.proofs.drive.arrivals.hear_status.Goals as goal

pub returns-in-Ok : goal.returns-in-Ok
returns-in-Ok c =
    let g = input_of c.args.context.now.consumer in
    let now = c.args.context.now.consumer.moment in
    let m = matter_now c.args.context.now in
    let w = c.args.state.now in
    let r = c.in-Pulls.reader in
    let arrives = subst (λ (q : Phase). Arrives m c.args.message.now q) c.in-Pulls.is c.requires.arrives in
    reads_here g now m read.CheckArrival r w _ c.args.outputs.now.items _ (next_rows m c.finish.result) c.in-Pulls.is
    (leads_status g now m c.args.message.now r c.note.new.reader c.hear-step.new.self w _ c.hear-step.result c.args.outputs.now.items _ c.finish.result arrives c.requires.kind c.in-Ok.ensures.heard
    (c.hear-step.ensures (brought m.answer)) (c.finish.ensures m))

pub returns-in_default : goal.returns-in_default
returns-in_default c =
    let g = input_of c.args.context.now.consumer in
    let now = c.args.context.now.consumer.moment in
    let m = matter_now c.args.context.now in
    let w = c.args.state.now in
    reads_nowhere g now m (read.CheckArrival) w c.args.outputs.now.items c.in_default.not-Pulls
