use Rattle.std.proofs.Common.{ap, sym, ◌∙◌}
use Rattle.js_ordered_table.specs.Tasks.{rows_of}
use Rattle.js_ordered_table.specs.declared.transitions.task.Task.TheVariants as task
use Rattle.js_ordered_stream.specs.Rows.{read_in, seen_after}
use Rattle.js_ordered_table.specs.Passes.{input_of}
use Rattle.js_ordered_table.specs.Consumer.{at_phase}
use Rattle.js_ordered_table.specs.declared.consumer.Phase.TheVariants.{Recreates}
use Rattle.js_ordered_table.specs.declared.row.Row.TheVariants as row
use Rattle.js_ordered_stream.proofs.KeptSeen.{blind_alone, blind_rows, row_alone, rows_known}
use Rattle.js_ordered_stream.proofs.LeftRows.{answer_met}
use Rattle.js_ordered_stream.proofs.recreation.pass_recreating.Goals as goal

pub returns-in-Try-clause-passes : goal.returns-in-Try-clause-passes
returns-in-Try-clause-passes g c =
    let view = g.L.Link.view in
    let given = input_of c.args.context.now in
    let now = c.args.context.now.moment in
    let old = at_phase (Recreates c.args.recreation) c.args.consumer.now in
    rows_known given now (read_in c.args.seen.now) c.args.task.now task.Try old c.begin_try.new.consumer (view c.args.link.now) (view c.begin_try.new.link) (seen_after c.begin_try.result c.args.seen.now) c.begin_try.result c.in-Try.is
    (blind_alone given now row.Try old c.begin_try.new.consumer (view c.args.link.now) (view c.begin_try.new.link) c.args.seen.now c.begin_try.result c.begin_try.ensures)

pub returns-in-Create-clause-passes : goal.returns-in-Create-clause-passes
returns-in-Create-clause-passes g c =
    let view = g.L.Link.view in
    let given = input_of c.args.context.now in
    let now = c.args.context.now.moment in
    let old = at_phase (Recreates c.args.recreation) c.args.consumer.now in
    rows_known given now (read_in c.args.seen.now) c.args.task.now task.Create old c.create.new.consumer (view c.args.link.now) (view c.create.new.link) (seen_after c.create.result c.args.seen.now) c.create.result c.in-Create.is
    (blind_alone given now row.Create old c.create.new.consumer (view c.args.link.now) (view c.create.new.link) c.args.seen.now c.create.result c.create.ensures)

pub returns-in-Ask-clause-passes : goal.returns-in-Ask-clause-passes
returns-in-Ask-clause-passes g c =
    let view = g.L.Link.view in
    let given = input_of c.args.context.now in
    let now = c.args.context.now.moment in
    let old = at_phase (Recreates c.args.recreation) c.args.consumer.now in
    rows_known given now (read_in c.args.seen.now) c.args.task.now task.Ask old c.ask_create.new.consumer (view c.args.link.now) (view c.ask_create.new.link) (seen_after c.ask_create.result c.args.seen.now) c.ask_create.result c.in-Ask.is
    (blind_alone given now row.Ask old c.ask_create.new.consumer (view c.args.link.now) (view c.ask_create.new.link) c.args.seen.now c.ask_create.result c.ask_create.ensures)

pub returns-in-Await-clause-passes : goal.returns-in-Await-clause-passes
returns-in-Await-clause-passes g c =
    let view = g.L.Link.view in
    let given = input_of c.args.context.now in
    let now = c.args.context.now.moment in
    let old = at_phase (Recreates c.args.recreation) c.args.consumer.now in
    rows_known given now (read_in c.args.seen.now) c.args.task.now task.Await old c.look_on.new.consumer (view c.args.link.now) (view c.look_on.new.link) (seen_after c.look_on.result c.look_on.new.seen) c.look_on.result c.in-Await.is
    (row_alone given now row.Await old c.look_on.new.consumer (view c.args.link.now) (view c.look_on.new.link) (seen_after c.look_on.result c.look_on.new.seen) c.look_on.result c.look_on.ensures.passes)

pub returns-in-Fail-clause-passes : goal.returns-in-Fail-clause-passes
returns-in-Fail-clause-passes g c =
    let view = g.L.Link.view in
    let given = input_of c.args.context.now in
    let now = c.args.context.now.moment in
    let old = at_phase (Recreates c.args.recreation) c.args.consumer.now in
    rows_known given now (read_in c.args.seen.now) c.args.task.now task.Fail old c.fail.new.consumer (view c.args.link.now) (view c.fail.new.link) (seen_after c.fail.result c.args.seen.now) c.fail.result c.in-Fail.is
    (blind_alone given now row.Fail old c.fail.new.consumer (view c.args.link.now) (view c.fail.new.link) c.args.seen.now c.fail.result c.fail.ensures)

pub returns-in-Succeed-clause-passes : goal.returns-in-Succeed-clause-passes
returns-in-Succeed-clause-passes g c =
    let view = g.L.Link.view in
    let given = input_of c.args.context.now in
    let now = c.args.context.now.moment in
    let old = at_phase (Recreates c.args.recreation) c.args.consumer.now in
    rows_known given now (read_in c.args.seen.now) c.args.task.now (task.Succeed c.get.result.now) old c.succeed.new.consumer (view c.args.link.now) (view c.succeed.new.link) (seen_after c.succeed.result c.args.seen.now) c.succeed.result (c.in-Succeed.is ∙ ap task.Succeed (sym c.get.ensures))
    (blind_alone given now (row.Succeed c.get.result.now) old c.succeed.new.consumer (view c.args.link.now) (view c.succeed.new.link) c.args.seen.now c.succeed.result c.succeed.ensures)

pub returns-in-Answered-clause-passes : goal.returns-in-Answered-clause-passes
returns-in-Answered-clause-passes g c =
    let v = g.L.Link.view c.args.link.now in
    rows_known (input_of c.args.context.now) c.args.context.now.moment (read_in c.args.seen.now) c.args.task.now (task.Answered c.in-Answered.request) (at_phase (Recreates c.args.recreation) c.args.consumer.now) c.answered.new.consumer v v (seen_after c.answered.result c.args.seen.now) c.answered.result c.in-Answered.is
    (blind_rows (input_of c.args.context.now) c.args.context.now.moment (rows_of (read_in c.args.seen.now) (task.Answered c.in-Answered.request)) (at_phase (Recreates c.args.recreation) c.args.consumer.now) c.answered.new.consumer v v c.args.seen.now c.answered.result (c.answered.ensures v))

pub answered-requires : goal.answered-requires
answered-requires g c = answer_met c.args.task.now c.in-Answered.request c.args.seen.now c.in-Answered.is c.requires.stands
