use Rattle.std.proofs.Common.{refl}
use Rattle.js_ordered_table.specs.Passes.{input_of}
use Rattle.js_ordered.specs.Drive.{matter_now}
use Rattle.js_ordered_table.specs.declared.row.Row.TheVariants as row
use Rattle.js_ordered_table.specs.Fold.{passing}
use Rattle.js_ordered_table.specs.declared.consumer.Phase.TheVariants.{Recreates}
use Rattle.js_ordered.proofs.DrivenRows.{leads_quietly}
use Rattle.js_ordered.proofs.drive.recreation.look_on.Goals as goal

pub returns : goal.returns
returns c =
    let g = input_of c.args.context.now.consumer in
    let now = c.args.context.now.consumer.moment in
    let m = matter_now c.args.context.now in
    leads_quietly g now m row.Await (Recreates c.args.recreation) c.args.state.now _ c.args.outputs.now.items c.pass_await.new.consumer c.pass_await.result
    (c.pass_await.ensures m (passing g now c.args.state.now) c.is_answered-answered.ensures) refl
