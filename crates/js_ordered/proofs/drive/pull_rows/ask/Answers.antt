use Rattle.std.proofs.Common.{false, refl, ap, ◌∙◌, Some, None, []}
use Rattle.std.specs.Prelude.{Ok}
use Rattle.js_ordered_table.specs.Tasks.{next_rows}
use Rattle.js_pull.specs.Rows.{brought}
use Rattle.js_pull.specs.declared.reader.Row.TheVariants as read
use Rattle.js_pull.specs.Reader as pull
use Rattle.js_ordered_table.specs.Fold.{passing}
use Rattle.js_ordered_table.specs.Passes.{input_of}
use Rattle.js_ordered.specs.Drive.{matter_now}
use Rattle.js_ordered.specs.Give.{IsPublishing}
use Rattle.js_ordered.proofs.DrivenRows.{ok_holds}
use Rattle.js_ordered.proofs.DrivenReads.{leads_asked, leads_finish, sent_is}
use Rattle.js_ordered.proofs.Nowhere.{reads_here, reads_nowhere}
use Rattle.js_ordered.proofs.drive.pull_rows.ask.Goals as goal

pub returns-in-Ok-None : goal.returns-in-Ok-None
returns-in-Ok-None c =
    let g = input_of c.args.context.now.consumer in
    let now = c.args.context.now.consumer.moment in
    let m = matter_now c.args.context.now in
    let w = c.args.state.now in
    let r = c.in-Pulls.reader in
    let p = record (passing g now w) { up = false } in
    reads_here g now m (read.Ask c.args.reason) r w _ c.args.outputs.now.items _ (next_rows m c.finish.result) c.in-Pulls.is
    (leads_finish g now m (read.Ask c.args.reason) r c.ask-step.new.reader w _ p c.ask-step.result (pull.ask p c.args.reason r) c.args.outputs.now.items _ c.finish.result
    (sent_is g now w false (ok_holds (λ output. IsPublishing w.link_up r output) c.pull_request.result None (c.in-Ok-None.is ∙ ap Ok c.in-Ok-None.field-0-is) c.pull_request.ensures)) refl
    (c.ask-step.ensures (passing g now w) (brought m.answer) None) refl (c.finish.ensures m))

pub returns-in-Ok-Some : goal.returns-in-Ok-Some
returns-in-Ok-Some c =
    let g = input_of c.args.context.now.consumer in
    let now = c.args.context.now.consumer.moment in
    let m = matter_now c.args.context.now in
    let w = c.args.state.now in
    let r = c.in-Pulls.reader in
    let ready = ok_holds (λ output. IsPublishing w.link_up r output) c.pull_request.result (Some c.in-Ok-Some.output) (c.in-Ok-Some.is ∙ ap Ok c.in-Ok-Some.field-0-is) c.pull_request.ensures in
    reads_here g now m (read.Ask c.args.reason) r w _ c.args.outputs.now.items _ [] c.in-Pulls.is
    (leads_asked g now m c.args.reason r c.ask.new.reader w _ c.in-Ok-Some.output c.args.outputs.now.items _ ready.0 (c.ask.ensures (passing g now w) (brought m.answer) None).reader ready.1 c.push_reserved.ensures.items refl)

pub returns-in_default : goal.returns-in_default
returns-in_default c =
    let g = input_of c.args.context.now.consumer in
    let now = c.args.context.now.consumer.moment in
    let m = matter_now c.args.context.now in
    let w = c.args.state.now in
    reads_nowhere g now m (read.Ask c.args.reason) w c.args.outputs.now.items c.in_default.not-Pulls
