use Rattle.std.proofs.Common.{refl}
use Rattle.js_ordered_table.specs.Passes.{input_of}
use Rattle.js_ordered.specs.Drive.{matter_now}
use Rattle.js_ordered_table.specs.declared.row.Row.TheVariants as row
use Rattle.js_ordered_table.specs.Fold.{passing}
use Rattle.js_ordered_table.specs.declared.consumer.Phase.TheVariants.{Recreates}
use Rattle.js_ordered.proofs.DrivenRows.{leads_told}
use Rattle.js_ordered.proofs.drive.recreation.fail.Goals as goal

pub returns : goal.returns
returns c =
    let g = input_of c.args.context.now.consumer in
    let now = c.args.context.now.consumer.moment in
    let m = matter_now c.args.context.now in
    leads_told g now m row.Fail (Recreates c.args.recreation) c.args.state.now _ c.pass_fail-told.result.told c.args.outputs.now.items c.tell.new.outputs.items c.pass_fail-told.new.consumer c.pass_fail-told.result.next
    (c.pass_fail-told.ensures m (passing g now c.args.state.now)) c.tell.ensures refl
