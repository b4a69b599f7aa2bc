use Rattle.js_ordered_stream.specs.declared.rows.RowItem.TheVariants as hands
use Rattle.js_ordered_stream.specs.declared.rows.Stepped.{Stepped}
use Rattle.js_ordered_table.specs.Passes.{input_of}
use Rattle.js_ordered_table.specs.Consumer.{at_phase}
use Rattle.js_ordered_table.specs.declared.consumer.Phase.TheVariants.{Recreates}
use Rattle.js_ordered_table.specs.declared.row.Row.TheVariants as row
use Rattle.std.proofs.Common.{ap, ◌∙◌}
use Rattle.js_ordered_stream.proofs.KeptSeen.{seen_kept}
use Rattle.js_ordered_stream.proofs.PassedRows.{await_passes, meets_as}
use Rattle.js_ordered_stream.proofs.recreation.look_on.Goals as goal

pub returns-in-Ok-clause-passes : goal.returns-in-Ok-clause-passes
returns-in-Ok-clause-passes g c =
    let old = g.L.Link.view c.args.link.now in
    let new = g.L.Link.view c.ask_for.new.link in
    let given = input_of c.args.context.now in
    let now = c.args.context.now.moment in
    let met = c.in-Ok.met in
    let done : Stepped = record { handed = hands.Nothing; looked = c.is_something.result; next = c.pass_await-next.result } in
    seen_kept given now row.Await (at_phase (Recreates c.args.recreation) c.args.consumer.now) c.pass_await-next.new.consumer old new c.replace_with.new.place done
    (await_passes given now c.args.recreation c.args.consumer.now c.pass_await-next.new.consumer met c.request_of.result c.is_answer.result c.pass_await-next.result c.replace_with.new.place done old new
    (meets_as _ _ met old new c.awaited.ensures c.in-Ok.ensures.met) c.is_answer.ensures c.request_of.ensures c.pass_await-next.ensures (c.replace_with.ensures ∙ c.seen_of.ensures) (ap (λ b. record done { looked = b }) c.is_something.ensures))
