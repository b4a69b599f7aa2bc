use Rattle.std.proofs.Common.{ap, sym, subst, ◌∙◌}
use Rattle.js_ordered.specs.Drive.{Leads, left_rows}
use Rattle.js_pull.specs.declared.reader.Reader.{Reader}
use Rattle.js_ordered_table.specs.declared.consumer.Phase.TheVariants.{Pulls}
use Rattle.js_ordered_table.specs.declared.replay_state.ReplayState.{ReplayState}
use Rattle.js_ordered_table.specs.Fold.{Ran, tick}
use Rattle.js_ordered_table.specs.Passes.{at, input_of}
use Rattle.js_ordered.proofs.ReplayRuns.{opening_led}
use Rattle.js_ordered.proofs.replay.open_pull.Goals as goal

pub returns-clause-state : goal.returns-clause-state
returns-clause-state c = ap (λ (r : Ran). r.state) (sym (
    opening_led (input_of c.args.context.now) c.args.context.now.moment c.args.state.now c.pass_left.new.state c.args.outputs.now.items c.pass_left.new.outputs.items c.make_room.new.self.tasks.items c.push_next.new.self.tasks.items c.pass_left.new.todo.tasks.items
    c.requires.pull c.requires.first c.requires.empty (c.make_room.ensures.tasks ∙ c.requires.rested) (c.push_next.ensures.tasks tick) c.in_ok-pass_left.ensures.rested
    (subst (λ (w : ReplayState). Leads (input_of c.args.context.now) c.args.context.now.moment tick (left_rows tick c.push_next.new.self.tasks.items) w c.args.outputs.now.items (left_rows tick c.pass_left.new.todo.tasks.items) c.pass_left.new.state c.pass_left.new.outputs.items) (c.set_phase.ensures ∙ ap (λ (r : Reader). at (Pulls r) c.args.state.now) c.in_ok-reader.ensures) c.pass_left.ensures.leads)))

pub returns-clause-outputs : goal.returns-clause-outputs
returns-clause-outputs c = ap (λ (r : Ran). r.outputs) (sym (
    opening_led (input_of c.args.context.now) c.args.context.now.moment c.args.state.now c.pass_left.new.state c.args.outputs.now.items c.pass_left.new.outputs.items c.make_room.new.self.tasks.items c.push_next.new.self.tasks.items c.pass_left.new.todo.tasks.items
    c.requires.pull c.requires.first c.requires.empty (c.make_room.ensures.tasks ∙ c.requires.rested) (c.push_next.ensures.tasks tick) c.in_ok-pass_left.ensures.rested
    (subst (λ (w : ReplayState). Leads (input_of c.args.context.now) c.args.context.now.moment tick (left_rows tick c.push_next.new.self.tasks.items) w c.args.outputs.now.items (left_rows tick c.pass_left.new.todo.tasks.items) c.pass_left.new.state c.pass_left.new.outputs.items) (c.set_phase.ensures ∙ ap (λ (r : Reader). at (Pulls r) c.args.state.now) c.in_ok-reader.ensures) c.pass_left.ensures.leads)))
