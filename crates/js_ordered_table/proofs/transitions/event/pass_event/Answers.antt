use Rattle.std.proofs.Common.{sym, ap, ◌∙◌}
use Rattle.js_ordered_table.specs.Tasks.{at_moment}
use Rattle.js_ordered_table.specs.Passes.{input_of, change_shown}
use Rattle.js_ordered_table.proofs.PassedRows.{event_goes_on, event_same, event_changes, event_unwatched, watcher_pulls}
use Rattle.js_ordered_table.proofs.transitions.event.pass_event.Goals as goal

pub returns-in-Unchanged : goal.returns-in-Unchanged
returns-in-Unchanged c = λ p m is.
    let g = input_of c.args.context.now in
    let q = at_moment c.args.context.now.moment p in
    event_goes_on g q m c.args.consumer.now c.go_on.new.consumer c.go_on.result c.silent_row.result c.requires.over (is ∙ ap change_shown c.in-Unchanged.is) (c.go_on.ensures p m) c.silent_row.ensures

pub returns-then-same_state : goal.returns-then-same_state
returns-then-same_state c = λ p m is.
    let g = input_of c.args.context.now in
    let q = at_moment c.args.context.now.moment p in
    event_same g q m c.in-Becomes.state c.args.consumer.now c.go_on-then-same_state.new.consumer c.go_on-then-same_state.result c.silent_row-then-same_state.result c.requires.over (is ∙ ap change_shown c.in-Becomes.is) (sym c.same_state.ensures ∙ c.if-same_state.true) (c.go_on-then-same_state.ensures p m) c.silent_row-then-same_state.ensures

pub returns-else-same_state : goal.returns-else-same_state
returns-else-same_state c = λ p m is.
    let g = input_of c.args.context.now in
    let q = at_moment c.args.context.now.moment p in
    event_changes g q m c.in-Becomes.state c.args.consumer.now c.change_state.new.consumer c.change_state.result c.silent_row-in-Becomes.result c.requires.over (is ∙ ap change_shown c.in-Becomes.is) (sym c.same_state.ensures ∙ c.if-same_state.false) (c.change_state.ensures p m) c.silent_row-in-Becomes.ensures

pub returns-in-Pull : goal.returns-in-Pull
returns-in-Pull c = λ p m is.
    let g = input_of c.args.context.now in
    let q = at_moment c.args.context.now.moment p in
    event_unwatched g q m c.args.consumer.now c.go_on-in-Pull.new.consumer c.go_on-in-Pull.result c.silent_row-in-Pull.result c.requires.over (is ∙ ap change_shown c.in-WatcherEnds.is) (watcher_pulls g q m c.in-Pull.field-0 c.args.consumer.now c.in-Pull.is) (c.go_on-in-Pull.ensures p m) c.silent_row-in-Pull.ensures
