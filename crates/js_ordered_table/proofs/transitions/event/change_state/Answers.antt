use Rattle.std.proofs.Common.{refl, sym, ◌∙◌}
use Rattle.js_ordered_table.specs.Tasks.{at_moment}
use Rattle.js_ordered_table.specs.Passes.{input_of}
use Rattle.js_ordered_table.proofs.PassedRows.{change_restarts, change_goes_on}
use Rattle.js_ordered_table.proofs.transitions.event.change_state.Goals as goal

pub returns-then-restarts : goal.returns-then-restarts
returns-then-restarts c = λ p m.
    change_restarts (input_of c.args.context.now) (at_moment c.args.context.now.moment p) m c.args.state c.args.consumer.now _ (sym c.is_lost-restarts.ensures ∙ c.if-restarts.true) refl

pub returns : goal.returns
returns c = λ p m.
    change_goes_on (input_of c.args.context.now) (at_moment c.args.context.now.moment p) m c.args.state c.args.consumer.now _ c.go_on.result (sym c.is_lost-restarts.ensures ∙ c.if-restarts.false) (c.go_on.ensures p m)
