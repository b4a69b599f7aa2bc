use Rattle.std.proofs.Common.{refl, sym, ◌∙◌}
use Rattle.js_ordered_table.specs.Passes.{input_of}
use Rattle.js_ordered.specs.Drive.{matter_now}
use Rattle.js_ordered_table.specs.Fold.{passing}
use Rattle.js_ordered.proofs.DrivenRows.{event_over, event_passed}
use Rattle.js_ordered.proofs.drive.event.Goals as goal

pub returns-then-is_over : goal.returns-then-is_over
returns-then-is_over c =
    let g = input_of c.args.context.now.consumer in
    let now = c.args.context.now.consumer.moment in
    let m = matter_now c.args.context.now in
    event_over g now m c.args.state.now c.args.outputs.now.items (sym c.is_over.ensures ∙ c.if-is_over.true)

pub returns : goal.returns
returns c =
    let g = input_of c.args.context.now.consumer in
    let now = c.args.context.now.consumer.moment in
    let m = matter_now c.args.context.now in
    event_passed g now m c.args.state.now _ c.pass_event-told.result.told c.args.outputs.now.items c.tell.new.outputs.items c.pass_event-told.new.consumer c.pass_event-told.result.next
    (c.pass_event-told.ensures (passing g now c.args.state.now) m (sym c.change.ensures)) c.tell.ensures refl
