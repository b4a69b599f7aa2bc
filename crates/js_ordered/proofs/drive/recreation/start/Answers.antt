use Rattle.std.proofs.Common.{refl}
use Rattle.js_ordered_table.specs.Passes.{input_of}
use Rattle.js_ordered.specs.Drive.{matter_now}
use Rattle.js_ordered.proofs.DrivenRows.{starts}
use Rattle.js_ordered.proofs.drive.recreation.start.Goals as goal

pub returns : goal.returns
returns c =
    let g = input_of c.args.context.now.consumer in
    let now = c.args.context.now.consumer.moment in
    let m = matter_now c.args.context.now in
    starts g now m c.args.state.now _ c.pass_start-told.result.told c.args.outputs.now.items c.tell.new.outputs.items c.pass_start-told.new.consumer c.pass_start-told.result.next (c.pass_start-told.ensures m) c.tell.ensures refl
