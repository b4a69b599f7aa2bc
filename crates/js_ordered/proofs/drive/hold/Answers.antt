use Rattle.std.proofs.Common.{ap}
use Rattle.js_ordered_table.specs.declared.consumer.Phase.{Phase}
use Rattle.js_ordered_table.specs.Passes.{at, input_of}
use Rattle.js_ordered.specs.Drive.{matter_now}
use Rattle.js_ordered.proofs.DrivenRows.{holds_on}
use Rattle.js_ordered.proofs.drive.hold.Goals as goal

pub returns : goal.returns
returns c =
    let g = input_of c.args.context.now.consumer in
    let now = c.args.context.now.consumer.moment in
    let m = matter_now c.args.context.now in
    holds_on g now m c.args.state.now _ c.args.outputs.now.items (ap (λ (q : Phase). at q c.args.state.now) c.in_ok-hold_at.ensures.held)
