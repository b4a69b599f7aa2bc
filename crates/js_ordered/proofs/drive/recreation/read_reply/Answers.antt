use Rattle.std.proofs.Common.{refl}
use Rattle.js_ordered_table.specs.Passes.{input_of}
use Rattle.js_ordered.specs.Drive.{matter_now}
use Rattle.js_ordered.proofs.DrivenRows.{reply_read}
use Rattle.js_ordered.proofs.drive.recreation.read_reply.Goals as goal

pub returns : goal.returns
returns c = λ message is.
    let g = input_of c.args.context.now.consumer in
    let now = c.args.context.now.consumer.moment in
    let m = matter_now c.args.context.now in
    reply_read g now m message c.args.recreation c.args.state.now _ c.args.reply c.pass_answered-told.result.told c.args.outputs.now.items c.tell.new.outputs.items c.pass_answered-told.new.consumer c.pass_answered-told.result.next
    is (c.pass_answered-told.ensures m) c.tell.ensures refl
