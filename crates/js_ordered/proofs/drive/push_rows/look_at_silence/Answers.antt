use Rattle.std.proofs.Common.{refl}
use Rattle.js_ordered_table.specs.declared.consumer.Phase.TheVariants.{Pulls, Pushes, Recreates, Idle, Ended, Exhausted}
use Rattle.js_ordered_table.specs.declared.row.Row.TheVariants as row
use Rattle.js_ordered_table.specs.Fold.{passing}
use Rattle.js_ordered_table.specs.Passes.{input_of}
use Rattle.js_ordered.specs.Drive.{matter_now}
use Rattle.js_ordered.proofs.DrivenRows.{look_nowhere, looks_on}
use Rattle.js_ordered_table.specs.Consumer.{at_phase}
use Rattle.js_ordered.proofs.drive.push_rows.look_at_silence.Goals as goal

pub returns-in-Pushes : goal.returns-in-Pushes
returns-in-Pushes c =
    let g = input_of c.args.context.now.consumer in
    let now = c.args.context.now.consumer.moment in
    let m = matter_now c.args.context.now in
    let w = c.args.state.now in
    let phase = Pushes c.in-Pushes.inbox c.in-Pushes.heartbeat_timer in
    looks_on g now m row.CheckSilence phase w c.pass_silence-told.result.told c.args.outputs.now.items c.tell.new.outputs.items c.pass_silence-told.result.next c.in-Pushes.is
    (c.pass_silence-told.ensures m (passing g now w) (at_phase phase w.consumer)) c.tell.ensures

pub returns-in-Pulls : goal.returns-in-Pulls
returns-in-Pulls c =
    let g = input_of c.args.context.now.consumer in
    let now = c.args.context.now.consumer.moment in
    let m = matter_now c.args.context.now in
    let w = c.args.state.now in
    look_nowhere g now m row.CheckSilence w c.args.outputs.now.items (Pulls c.in-Pulls.field-0) c.in-Pulls.is refl

pub returns-in-Recreates : goal.returns-in-Recreates
returns-in-Recreates c =
    let g = input_of c.args.context.now.consumer in
    let now = c.args.context.now.consumer.moment in
    let m = matter_now c.args.context.now in
    let w = c.args.state.now in
    look_nowhere g now m row.CheckSilence w c.args.outputs.now.items (Recreates c.in-Recreates.field-0) c.in-Recreates.is refl

pub returns-in-Idle : goal.returns-in-Idle
returns-in-Idle c =
    let g = input_of c.args.context.now.consumer in
    let now = c.args.context.now.consumer.moment in
    let m = matter_now c.args.context.now in
    let w = c.args.state.now in
    look_nowhere g now m row.CheckSilence w c.args.outputs.now.items Idle c.in-Idle.is refl

pub returns-in-Ended : goal.returns-in-Ended
returns-in-Ended c =
    let g = input_of c.args.context.now.consumer in
    let now = c.args.context.now.consumer.moment in
    let m = matter_now c.args.context.now in
    let w = c.args.state.now in
    look_nowhere g now m row.CheckSilence w c.args.outputs.now.items Ended c.in-Ended.is refl

pub returns-in-Exhausted : goal.returns-in-Exhausted
returns-in-Exhausted c =
    let g = input_of c.args.context.now.consumer in
    let now = c.args.context.now.consumer.moment in
    let m = matter_now c.args.context.now in
    let w = c.args.state.now in
    look_nowhere g now m row.CheckSilence w c.args.outputs.now.items Exhausted c.in-Exhausted.is refl
