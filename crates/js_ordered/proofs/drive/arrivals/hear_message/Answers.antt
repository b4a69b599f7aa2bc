use Rattle.std.proofs.Common.{refl, ap, ◌∙◌, subst, List, ◌++◌}
use Rattle.js_ordered_table.specs.Tasks.{next_rows}
use Rattle.js_pull.specs.declared.reader.Row.TheVariants as read
use Rattle.js_pull.specs.Reader as pull
use Rattle.js_ordered_table.specs.Fold.{passing}
use Rattle.js_ordered_table.specs.Passes.{input_of}
use Rattle.js_ordered.specs.Drive.{Arrives, matter_now}
use Rattle.js_pull.specs.declared.reader.Reader.{Reader}
use Rattle.js_ordered_table.specs.declared.consumer.Phase.{Phase}
use Rattle.js_ordered_table.specs.declared.run.Output.{Output}
use Rattle.js_ordered.proofs.DrivenReads.{leads_heard}
use Rattle.js_ordered_table.proofs.PassedRows.{of_stream}
use Rattle.js_ordered.proofs.Nowhere.{reads_here, reads_nowhere}
use Rattle.js_ordered.proofs.drive.arrivals.hear_message.Goals as goal

pub returns-in-Ok : goal.returns-in-Ok
returns-in-Ok c =
    let g = input_of c.args.context.now.consumer in
    let now = c.args.context.now.consumer.moment in
    let m = matter_now c.args.context.now in
    let w = c.args.state.now in
    let r = c.in-Pulls.reader in
    let arrives = subst (λ (q : Phase). Arrives m c.args.message.now q) c.in-Pulls.is c.requires.arrives in
    reads_here g now m read.CheckArrival r w _ c.args.outputs.now.items _ (next_rows m c.take_message-next.result) c.in-Pulls.is
    (leads_heard g now m c.args.message.now c.args.ready.heard r c.lower.new.self w _ c.args.outputs.now.items c.push_output.new.outputs.items c.take_message-next.new.consumer c.take_message-next.result arrives c.requires.kind c.requires.heard
    (c.lower.ensures ∙ ap (λ (x : Reader). pull.lowered 1 c.args.message.now.length x) c.in-Ok.ensures.heard)
    (c.take_message-next.ensures m (passing g now w) c.args.message.now) (c.push_output.ensures ∙ ap (λ (o : List Output). c.args.outputs.now.items ++ o) c.requires.output) refl)

pub returns-in_default : goal.returns-in_default
returns-in_default c =
    let g = input_of c.args.context.now.consumer in
    let now = c.args.context.now.consumer.moment in
    let m = matter_now c.args.context.now in
    let w = c.args.state.now in
    reads_nowhere g now m (read.CheckArrival) w c.args.outputs.now.items c.in_default.not-Pulls

pub take_message-next-requires : goal.take_message-next-requires
take_message-next-requires c = of_stream c.args.state.now.consumer.core.consumer_sequence c.args.message.now c.args.ready.heard c.requires.heard
