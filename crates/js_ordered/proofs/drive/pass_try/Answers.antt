use Rattle.std.proofs.Common.{sym, ◌∙◌}
use Rattle.js_ordered_table.specs.Passes.{input_of}
use Rattle.js_ordered.specs.Drive.{matter_now}
use Rattle.js_ordered.proofs.Nowhere.{tries_elsewhere, tries_here}
use Rattle.js_ordered.proofs.drive.pass_try.Goals as goal

pub returns-in_default : goal.returns-in_default
returns-in_default c =
    tries_elsewhere (input_of c.args.context.now.consumer) c.args.context.now.consumer.moment (matter_now c.args.context.now) c.args.task.now c.args.state.now _ c.args.outputs.now.items c.replace.result c.requires.task c.in_default.not-Recreates
    (sym c.replace.ensures.value) c.set_phase.ensures

pub returns-in-Recreates : goal.returns-in-Recreates
returns-in-Recreates c =
    tries_here c.args.context.now c.args.task.now c.in-Recreates.recreation c.args.state.now _ c.args.outputs.now.items _ c.pass_recreating.result (sym c.replace.ensures.value ∙ c.in-Recreates.is) c.pass_recreating.ensures
