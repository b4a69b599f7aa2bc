use Rattle.std.proofs.Common.{refl}
use Rattle.js_ordered_table.specs.Passes.{input_of}
use Rattle.js_ordered.specs.Drive.{matter_now}
use Rattle.js_ordered_table.specs.Fold.{passing}
use Rattle.js_ordered.proofs.DrivenRows.{creates_pull}
use Rattle.js_ordered.proofs.drive.recreation.create_pull.Goals as goal

pub returns : goal.returns
returns c =
    let g = input_of c.args.context.now.consumer in
    let now = c.args.context.now.consumer.moment in
    let m = matter_now c.args.context.now in
    creates_pull g now m c.args.recreation c.args.state.now _ c.args.outputs.now.items c.pass_create.new.consumer c.pass_create.result c.requires.pull
    (c.pass_create.ensures m (passing g now c.args.state.now)) refl
