use Rattle.std.proofs.Common.{ap, sym, ◌∙◌}
use Rattle.js_ordered_table.specs.Fold.{Ran}
use Rattle.js_ordered_table.specs.Passes.{input_of}
use Rattle.js_ordered.proofs.ReplayRuns.{event_led}
use Rattle.js_ordered.proofs.replay.pass.Goals as goal

pub returns-clause-state : goal.returns-clause-state
returns-clause-state c =
    ap (λ (r : Ran). r.state) (sym (event_led (input_of c.args.context.now) c.args.event.now c.link_after-state.result c.args.state.now c.pass_left.new.state c.args.outputs.now.items c.pass_left.new.outputs.items
    c.make_room.new.self.tasks.items c.push.new.self.tasks.items c.pass_left.new.todo.tasks.items c.link_after-state.ensures c.requires.empty (c.make_room.ensures.tasks ∙ c.requires.rested) c.push.ensures.tasks c.in_ok-pass_left.ensures.rested c.pass_left.ensures.leads))

pub returns-clause-outputs : goal.returns-clause-outputs
returns-clause-outputs c =
    ap (λ (r : Ran). r.outputs) (sym (event_led (input_of c.args.context.now) c.args.event.now c.link_after-state.result c.args.state.now c.pass_left.new.state c.args.outputs.now.items c.pass_left.new.outputs.items
    c.make_room.new.self.tasks.items c.push.new.self.tasks.items c.pass_left.new.todo.tasks.items c.link_after-state.ensures c.requires.empty (c.make_room.ensures.tasks ∙ c.requires.rested) c.push.ensures.tasks c.in_ok-pass_left.ensures.rested c.pass_left.ensures.leads))
