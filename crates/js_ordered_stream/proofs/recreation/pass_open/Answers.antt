use Rattle.std.proofs.Common.{◌≡◌, true, ap, sym, subst, ◌∙◌}
use Rattle.js_ordered_table.specs.Consumer.{at_phase}
use Rattle.js_ordered_table.specs.declared.consumer.Phase.{Phase}
use Rattle.js_ordered_stream.proofs.Elsewhere.{tries_nowhere}
use Rattle.js_ordered_stream.specs.Polled.{is_plain}
use Rattle.js_ordered_stream.specs.Rows.{read_in, seen_after}
use Rattle.js_ordered_table.specs.Passes.{input_of}
use Rattle.js_ordered_table.specs.Tasks.{rows_of}
use Rattle.js_ordered_table.specs.declared.consumer.Phase.TheVariants.{Recreates}
use Rattle.js_ordered_stream.proofs.KeptSeen.{row_open}
use Rattle.js_ordered_stream.proofs.recreation.pass_open.Goals as goal

pub returns-in-Recreates-clause-passes : goal.returns-in-Recreates-clause-passes
returns-in-Recreates-clause-passes g c =
    let view = g.L.Link.view in
    row_open (input_of c.args.context.now) c.args.context.now.moment (rows_of (read_in c.args.seen.now) c.args.task.now) (Recreates c.in-Recreates.recreation) c.args.consumer.now c.pass_recreating.new.consumer (view c.args.link.now) (view c.pass_recreating.new.link) (seen_after c.pass_recreating.result c.pass_recreating.new.seen) c.pass_recreating.result
    (sym c.replace.ensures.value ∙ c.in-Recreates.is) c.pass_recreating.ensures.passes

pub returns-in_default-clause-passes : goal.returns-in_default-clause-passes
returns-in_default-clause-passes g c =
    tries_nowhere (input_of c.args.context.now) c.args.context.now.moment c.args.task.now c.args.seen.now c.args.consumer.now _ c.replace.result c.passed_over.result (g.L.Link.view c.args.link.now)
    c.requires.task c.requires.stands c.in_default.not-Recreates c.replace.ensures.value (ap (λ (q : Phase). at_phase q c.args.consumer.now) c.replace_with.ensures) c.passed_over.ensures

pub pass_recreating-requires-clause-bare : goal.pass_recreating-requires-clause-bare
pass_recreating-requires-clause-bare g c = subst (λ (phase : Phase). is_plain c.args.context.now.setup.now phase ≡ true) (sym c.replace.ensures.value ∙ c.in-Recreates.is) c.requires.plain
