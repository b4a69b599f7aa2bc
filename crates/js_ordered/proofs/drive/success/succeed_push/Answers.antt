use Rattle.std.proofs.Common.{refl, ◌∙◌}
use Rattle.js_ordered_table.specs.Passes.{input_of}
use Rattle.js_ordered.specs.Drive.{matter_now}
use Rattle.js_ordered_table.specs.Fold.{passing}
use Rattle.js_ordered.proofs.DrivenRows.{succeeds_push}
use Rattle.js_ordered.proofs.drive.success.succeed_push.Goals as goal

pub returns-in-Ok : goal.returns-in-Ok
returns-in-Ok c =
    let g = input_of c.args.context.now.consumer in
    let now = c.args.context.now.consumer.moment in
    let m = matter_now c.args.context.now in
    let listens = c.pass_succeed_push-held.ensures (passing g now c.args.state.now) in
    succeeds_push g now m c.args.info.now c.args.recreation c.args.state.now _ c.args.outputs.now.items c.pass_succeed_push-held.new.consumer c.held_next.result c.requires.push
    (record { consumer = listens.consumer; outputs = listens.outputs; next = c.held_next.ensures m ∙ listens.next }) refl
