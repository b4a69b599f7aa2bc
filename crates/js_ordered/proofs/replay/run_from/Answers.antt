use Rattle.std.proofs.Common.{◌∙◌}
use Rattle.js_ordered_table.specs.Passes.{input_of}
use Rattle.js_ordered.proofs.ReplayRuns.{run_folded}
use Rattle.js_ordered.proofs.replay.run_from.Goals as goal

pub returns-in-Ok : goal.returns-in-Ok
returns-in-Ok c =
    run_folded (input_of c.args.context.now) c.args.context.now.moment c.args.events.now c.args.state.now c.steps_of.new.state
    (record { opening = c.in_ok-opening.opening; steps = c.in-Ok.steps; ended = c.is_over.result }) c.requires.accepted
    c.requires.first (c.in_ok-opening.ensures.step ∙ c.requires.opened)
    c.in-Ok.ensures.steps c.in-Ok.ensures.state c.in-Ok.ensures.accepted c.is_over.ensures
