use Rattle.std.proofs.Common.{refl, sym, ap, ◌∙◌, List, ◌++◌}
use Rattle.js_ordered_table.specs.declared.run.Output.{Output}
use Rattle.js_ordered_table.specs.Passes.{input_of}
use Rattle.js_ordered.specs.Drive.{matter_now}
use Rattle.js_ordered_table.specs.Fold.{passing}
use Rattle.js_ordered.proofs.DrivenRows.{hears_on, heard_elsewhere}
use Rattle.js_ordered.proofs.drive.push_rows.hear.Goals as goal

pub returns-then-not-listens : goal.returns-then-not-listens
returns-then-not-listens c =
    let g = input_of c.args.context.now.consumer in
    let now = c.args.context.now.consumer.moment in
    let m = matter_now c.args.context.now in
    heard_elsewhere g now m c.args.inbox c.args.message.now c.args.state.now c.args.outputs.now.items (sym c.listens.ensures ∙ c.if-not-listens.true)

pub returns : goal.returns
returns c =
    let g = input_of c.args.context.now.consumer in
    let now = c.args.context.now.consumer.moment in
    let m = matter_now c.args.context.now in
    let w = c.args.state.now in
    hears_on g now m c.args.inbox c.args.message.now c.heard_as-heard.result w _ c.args.outputs.now.items c.push_output.new.outputs.items c.pass_hear-next.new.consumer c.pass_hear-next.result
    (sym c.listens.ensures ∙ c.if-not-listens.false) c.heard_as-heard.ensures (c.pass_hear-next.ensures m (passing g now w) c.args.message.now)
    (c.push_output.ensures ∙ ap (λ (o : List Output). c.args.outputs.now.items ++ o) c.in_ok-output.ensures) refl
