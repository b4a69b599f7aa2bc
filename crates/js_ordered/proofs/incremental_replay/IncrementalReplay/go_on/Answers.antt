use Rattle.std.proofs.Common.{◌∙◌}
use Rattle.js_ordered.specs.IncrementalReplay.{replay_given}
use Rattle.js_ordered.proofs.EventByEvent.{on_ok, on_err, rest_passed_as, rest_kept_as}
use Rattle.js_ordered.proofs.incremental_replay.IncrementalReplay.go_on.Goals as goal

pub returns-clause-passed : goal.returns-clause-passed
returns-clause-passed c =
    on_ok c.pass_left-passed.result (λ over. rest_passed_as (replay_given c.args.self.now) c.args.event.now c.args.self.now.todo.tasks.items c.pass_left-passed.new.todo.tasks.items c.args.self.now.state c.pass_left-passed.new.state
    c.args.self.now.outputs c.into_vec-outputs.result.items c.pass_left-passed.new.outputs.items c.replace_outputs.new.outputs (c.into_vec-outputs.ensures ∙ c.replace.ensures.value) c.replace_outputs.ensures c.requires.left over c.pass_left-passed.ensures.leads) c.pass_left-passed.ensures.rested

pub returns-clause-refused : goal.returns-clause-refused
returns-clause-refused c =
    on_err c.pass_left-passed.result (λ left. rest_kept_as (replay_given c.args.self.now) c.args.event.now c.args.self.now.todo.tasks.items c.pass_left-passed.new.todo.tasks.items c.args.self.now.state c.pass_left-passed.new.state
    c.args.self.now.outputs c.into_vec-outputs.result.items c.pass_left-passed.new.outputs.items c.replace_outputs.new.outputs (c.into_vec-outputs.ensures ∙ c.replace.ensures.value) c.replace_outputs.ensures c.requires.left left c.pass_left-passed.ensures.leads) c.pass_left-passed.ensures.refused
