use Rattle.std.proofs.Common.{sym, ap, ◌∙◌}
use Rattle.js_ordered_stream.specs.Rows.{is_first_held, read_in, seen_after}
use Rattle.js_ordered_table.specs.Passes.{input_of}
use Rattle.js_ordered_stream.proofs.NextRow.{begins_first, first_stands, left_with, passes_one, passes_two, second_stands}
use Rattle.js_ordered_stream.proofs.ordered.pass_first.Goals as goal

pub pass-requires-clause-stands : goal.pass-requires-clause-stands
pass-requires-clause-stands g c = first_stands (read_in c.args.seen.now) c.args.todo.now c.in-One.task c.in-One.is c.requires.stands

pub pass-requires-clause-held : goal.pass-requires-clause-held
pass-requires-clause-held g c = sym (ap is_first_held c.in-One.is) ∙ c.requires.held

pub pass-requires-in-Two-clause-stands : goal.pass-requires-in-Two-clause-stands
pass-requires-in-Two-clause-stands g c = second_stands (read_in c.args.seen.now) c.args.todo.now c.in-Two.task c.in-Two.field-1 c.in-Two.is c.requires.stands

pub pass-requires-in-Two-clause-held : goal.pass-requires-in-Two-clause-held
pass-requires-in-Two-clause-held g c = sym (ap is_first_held c.in-Two.is) ∙ c.requires.held

pub returns-in-Nothing-clause-passes : goal.returns-in-Nothing-clause-passes
returns-in-Nothing-clause-passes g c =
    let view = g.L.Link.view in
    begins_first (input_of c.args.context.now) c.args.context.now.moment (left_with c.args.todo.now c.args.seen.now) c.args.consumer.now c.begin.new.consumer (view c.args.link.now) (view c.begin.new.link) c.args.seen.now c.begin.result
    c.in-Nothing.is c.begin.ensures

pub returns-in-One-clause-passes : goal.returns-in-One-clause-passes
returns-in-One-clause-passes g c =
    let view = g.L.Link.view in
    passes_one (input_of c.args.context.now) c.args.context.now.moment (left_with c.args.todo.now c.args.seen.now) c.in-One.task c.args.consumer.now c.pass.new.consumer (view c.args.link.now) (view c.pass.new.link) (seen_after c.pass.result c.pass.new.seen) c.pass.result
    c.in-One.is c.pass.ensures.passes

pub returns-in-Two-clause-passes : goal.returns-in-Two-clause-passes
returns-in-Two-clause-passes g c =
    let view = g.L.Link.view in
    passes_two (input_of c.args.context.now) c.args.context.now.moment (left_with c.args.todo.now c.args.seen.now) c.in-Two.task c.in-Two.field-1 c.args.consumer.now c.pass-in-Two.new.consumer (view c.args.link.now) (view c.pass-in-Two.new.link) (seen_after c.pass-in-Two.result c.pass-in-Two.new.seen) c.pass-in-Two.result
    c.in-Two.is c.pass-in-Two.ensures.passes
