use Rattle.std.proofs.Common.{refl}
use Rattle.std.specs.Prelude.{codes}
use Rattle.js_ordered_table.specs.Passes.{input_of}
use Rattle.js_ordered.specs.Drive.{matter_now}
use Rattle.js_ordered_table.specs.declared.row.Row.TheVariants as row
use Rattle.js_ordered.specs.Give.{IsSending}
use Rattle.js_ordered_table.specs.Fold.{passing}
use Rattle.js_ordered_table.specs.Texts.{delete_subject}
use Rattle.js_ordered.proofs.DrivenRows.{leads_sent, ok_holds}
use Rattle.js_ordered.proofs.drive.recreation.begin_try.Goals as goal

pub returns-in-Ok : goal.returns-in-Ok
returns-in-Ok c =
    let g = input_of c.args.context.now.consumer in
    let now = c.args.context.now.consumer.moment in
    let m = matter_now c.args.context.now in
    let w = c.args.state.now in
    leads_sent g now m row.Try c.args.recreation w _ (delete_subject g c.args.recreation) (codes "{}") c.send-number.result c.send-number.new.requests_sent c.args.outputs.now.items c.send-number.new.outputs.items c.pass_try.new.consumer c.pass_try.result
    (c.send-number.ensures w.link_up (delete_subject g c.args.recreation) (codes "{}") (ok_holds (λ request. IsSending w.link_up w.requests_sent (delete_subject g c.args.recreation) (codes "{}") request) c.try_request.result c.in-Ok.request c.in-Ok.is c.try_request.ensures))
    (c.pass_try.ensures m (passing g now w)) refl
