use Rattle.std.proofs.Common.{ap, arith, length, List}
use Rattle.js_base.specs.declared.message.Message.{Message}
use Rattle.js_ordered_table.specs.Passes.{input_of}
use Rattle.js_ordered.specs.Drive.{matter_now}
use Rattle.js_ordered.proofs.DrivenRows.{held_heard, held_nothing}
use Rattle.js_ordered.proofs.drive.hear_held.Goals as goal

pub returns-then-place-messages : goal.returns-then-place-messages
returns-then-place-messages c =
    let same = ap (λ (ms : List Message). length ms) c.as_slice-messages.ensures in
    held_nothing (input_of c.args.context.now.consumer) c.args.context.now.consumer.moment (matter_now c.args.context.now) c.args.held.now.inbox c.args.held.now.messages c.args.held.now.place c.args.state.now c.args.outputs.now.items (omega (arith, c.if-place-messages.true, same))

pub returns : goal.returns
returns c =
    let same = ap (λ (ms : List Message). length ms) c.as_slice-messages.ensures in
    held_heard c.args.context.now c.args.held.now.inbox c.args.held.now.messages c.as_slice-messages.result.now c.args.held.now.place c.index-messages-place.result c.args.state.now c.hear.new.state c.args.outputs.now.items c.hear.new.outputs.items c.hear.result
    c.as_slice-messages.ensures (omega (arith, c.if-place-messages.false, same)) c.index-messages-place.is c.hear.ensures
