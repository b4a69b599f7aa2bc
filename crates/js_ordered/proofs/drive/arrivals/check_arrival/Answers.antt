use Rattle.std.proofs.Common.{sym, subst, [], ◌∷◌}
use Rattle.js_pull.specs.declared.reader.Row.TheVariants as read
use Rattle.js_ordered_table.specs.Passes.{at, input_of}
use Rattle.js_ordered.specs.Drive.{Arrives, Passes, matter_now}
use Rattle.js_ordered_table.specs.declared.consumer.Phase.{Phase}
use Rattle.js_ordered_table.specs.declared.row.Row.TheVariants as row
use Rattle.js_ordered.proofs.DrivenReads.{leads_silent}
use Rattle.js_ordered.proofs.Nowhere.{reads_nowhere}
use Rattle.js_ordered.proofs.drive.arrivals.check_arrival.Goals as goal

pub returns-in-None : goal.returns-in-None
returns-in-None c =
    let g = input_of c.args.context.now.consumer in
    let now = c.args.context.now.consumer.moment in
    let m = matter_now c.args.context.now in
    let w = c.args.state.now in
    let r = c.in-Pulls.reader in
    let outputs = c.args.outputs.now.items in
    subst (λ (q : Phase). Passes g now m (row.Read read.CheckArrival ∷ []) (at q w) outputs (row.Read read.CheckSilence ∷ []) (at q w) outputs) (sym c.in-Pulls.is)
    (leads_silent g now m r w outputs c.in-None.ensures)

pub returns-in_default : goal.returns-in_default
returns-in_default c =
    let g = input_of c.args.context.now.consumer in
    let now = c.args.context.now.consumer.moment in
    let m = matter_now c.args.context.now in
    let w = c.args.state.now in
    reads_nowhere g now m (read.CheckArrival) w c.args.outputs.now.items c.in_default.not-Pulls

pub hear_arrival-requires-clause-arrives : goal.hear_arrival-requires-clause-arrives
hear_arrival-requires-clause-arrives c = subst (λ (q : Phase). Arrives (matter_now c.args.context.now) c.in-Some.message.now q) (sym c.in-Pulls.is) (sym c.in-Some.ensures)
