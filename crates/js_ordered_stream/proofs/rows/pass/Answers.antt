use Rattle.std.specs.Prelude.{Ok}
use Rattle.js_ordered_table.specs.declared.transitions.task.Task.TheVariants as task
use Rattle.js_ordered_stream.specs.Rows.{answer_in, read_in, seen_after}
use Rattle.js_ordered_table.specs.Passes.{input_of}
use Rattle.js_pull.specs.Rows.{brought}
use Rattle.js_pull.specs.Rows.{row_of}
use Rattle.js_ordered_table.specs.declared.row.Row.TheVariants as row
use Rattle.js_ordered_stream.proofs.KeptSeen.{blind_alone, row_alone, rows_known}
use Rattle.js_ordered_stream.proofs.LeftRows.{arrival_met}
use Rattle.js_ordered_stream.proofs.PassedRows.{hold_passes}
use Rattle.js_ordered_stream.proofs.rows.pass.Goals as goal

pub returns-in-Event-clause-passes : goal.returns-in-Event-clause-passes
returns-in-Event-clause-passes g c =
    let view = g.L.Link.view in
    let given = input_of c.args.context.now in
    let now = c.args.context.now.moment in
    let old = c.args.consumer.now in
    rows_known given now (read_in c.args.seen.now) c.args.task.now task.Event old c.begin.new.consumer (view c.args.link.now) (view c.begin.new.link) (seen_after c.begin.result c.args.seen.now) c.begin.result c.in-Event.is
    (blind_alone given now row.Event old c.begin.new.consumer (view c.args.link.now) (view c.begin.new.link) c.args.seen.now c.begin.result c.begin.ensures)

pub returns-in-Start-clause-passes : goal.returns-in-Start-clause-passes
returns-in-Start-clause-passes g c =
    let view = g.L.Link.view in
    let given = input_of c.args.context.now in
    let now = c.args.context.now.moment in
    let old = c.args.consumer.now in
    rows_known given now (read_in c.args.seen.now) c.args.task.now task.Start old c.start.new.consumer (view c.args.link.now) (view c.start.new.link) (seen_after c.start.result c.args.seen.now) c.start.result c.in-Start.is
    (blind_alone given now row.Start old c.start.new.consumer (view c.args.link.now) (view c.start.new.link) c.args.seen.now c.start.result c.start.ensures)

pub returns-in-Read-clause-passes : goal.returns-in-Read-clause-passes
returns-in-Read-clause-passes g c =
    let view = g.L.Link.view in
    let given = input_of c.args.context.now in
    let now = c.args.context.now.moment in
    let old = c.args.consumer.now in
    rows_known given now (read_in c.args.seen.now) c.args.task.now (task.Read c.in-Read.due) old c.pass_read.new.consumer (view c.args.link.now) (view c.pass_read.new.link) (seen_after c.pass_read.result c.pass_read.new.seen) c.pass_read.result c.in-Read.is
    (row_alone given now (row.Read (row_of (brought (answer_in c.args.seen.now)) c.in-Read.due)) old c.pass_read.new.consumer (view c.args.link.now) (view c.pass_read.new.link) (seen_after c.pass_read.result c.pass_read.new.seen) c.pass_read.result c.pass_read.ensures.passes)

pub returns-in-CheckArrival-clause-passes : goal.returns-in-CheckArrival-clause-passes
returns-in-CheckArrival-clause-passes g c =
    let view = g.L.Link.view in
    let given = input_of c.args.context.now in
    let now = c.args.context.now.moment in
    let old = c.args.consumer.now in
    rows_known given now (read_in c.args.seen.now) c.args.task.now task.CheckArrival old old (view c.args.link.now) (view c.look.new.link) (seen_after c.look.result c.look.new.seen) c.look.result c.in-CheckArrival.is
    (row_alone given now row.CheckArrival old old (view c.args.link.now) (view c.look.new.link) (seen_after c.look.result c.look.new.seen) c.look.result c.look.ensures.passes)

pub returns-in-Hear-clause-passes : goal.returns-in-Hear-clause-passes
returns-in-Hear-clause-passes g c =
    let view = g.L.Link.view in
    let given = input_of c.args.context.now in
    let now = c.args.context.now.moment in
    let old = c.args.consumer.now in
    rows_known given now (read_in c.args.seen.now) c.args.task.now (task.Hear c.in-Hear.inbox) old c.hear.new.consumer (view c.args.link.now) (view c.hear.new.link) (seen_after c.hear.result c.hear.new.seen) c.hear.result c.in-Hear.is
    c.hear.ensures.passes

pub returns-in-CheckSilence-clause-passes : goal.returns-in-CheckSilence-clause-passes
returns-in-CheckSilence-clause-passes g c =
    let v = g.L.Link.view c.args.link.now in
    let given = input_of c.args.context.now in
    let now = c.args.context.now.moment in
    let old = c.args.consumer.now in
    rows_known given now (read_in c.args.seen.now) c.args.task.now task.CheckSilence old old v v (seen_after c.look_at_silence.result c.args.seen.now) c.look_at_silence.result c.in-CheckSilence.is
    (blind_alone given now row.CheckSilence old old v v c.args.seen.now c.look_at_silence.result (c.look_at_silence.ensures v))

pub returns-in-Arm-clause-passes : goal.returns-in-Arm-clause-passes
returns-in-Arm-clause-passes g c =
    let v = g.L.Link.view c.args.link.now in
    let given = input_of c.args.context.now in
    let now = c.args.context.now.moment in
    let old = c.args.consumer.now in
    rows_known given now (read_in c.args.seen.now) c.args.task.now task.Arm old c.arm.new.consumer v v (seen_after c.arm.result c.args.seen.now) c.arm.result c.in-Arm.is
    (blind_alone given now row.Arm old c.arm.new.consumer v v c.args.seen.now c.arm.result (c.arm.ensures v))

pub returns-in-Hold-clause-passes : goal.returns-in-Hold-clause-passes
returns-in-Hold-clause-passes g c =
    let v = g.L.Link.view c.args.link.now in
    let given = input_of c.args.context.now in
    let now = c.args.context.now.moment in
    let old = c.args.consumer.now in
    rows_known given now (read_in c.args.seen.now) c.args.task.now task.Hold old old v v (seen_after (Ok c.followed_by.result) c.args.seen.now) (Ok c.followed_by.result) c.in-Hold.is
    (blind_alone given now row.Hold old old v v c.args.seen.now (Ok c.followed_by.result) (hold_passes given now old c.followed_by.result v c.followed_by.ensures))

pub returns-in-Try-clause-passes : goal.returns-in-Try-clause-passes
returns-in-Try-clause-passes g c = c.pass_open.ensures.passes

pub returns-in-Create-clause-passes : goal.returns-in-Create-clause-passes
returns-in-Create-clause-passes g c = c.pass_open-in-Create.ensures.passes

pub returns-in-Ask-clause-passes : goal.returns-in-Ask-clause-passes
returns-in-Ask-clause-passes g c = c.pass_open-in-Ask.ensures.passes

pub returns-in-Await-clause-passes : goal.returns-in-Await-clause-passes
returns-in-Await-clause-passes g c = c.pass_open-in-Await.ensures.passes

pub returns-in-Answered-clause-passes : goal.returns-in-Answered-clause-passes
returns-in-Answered-clause-passes g c = c.pass_open-in-Answered.ensures.passes

pub returns-in-Succeed-clause-passes : goal.returns-in-Succeed-clause-passes
returns-in-Succeed-clause-passes g c = c.pass_open-in-Succeed.ensures.passes

pub returns-in-Fail-clause-passes : goal.returns-in-Fail-clause-passes
returns-in-Fail-clause-passes g c = c.pass_open-in-Fail.ensures.passes

pub hear-requires : goal.hear-requires
hear-requires g c = arrival_met c.args.task.now c.in-Hear.inbox c.args.seen.now c.in-Hear.is c.requires.stands
