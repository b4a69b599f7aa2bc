use Rattle.std.proofs.Common.{ap, ◌∙◌}
use Rattle.std.specs.Prelude.{◌≡◌, Ok, Some, option_map}
use Rattle.js_ordered_table.specs.Passes.{input_of}
use Rattle.js_ordered.specs.Drive.{matter_now}
use Rattle.js_ordered_table.specs.Tasks.{next_rows}
use Rattle.js_pull.specs.Reader.{info_reply, reply_to}
use Rattle.js_ordered.proofs.DrivenRows.{ok_holds, reply_came}
use Rattle.js_ordered.proofs.drive.recreation.answered.Goals as goal

pub returns-in-Ok-Some : goal.returns-in-Ok-Some
returns-in-Ok-Some c =
    let g = input_of c.args.context.now.consumer in
    let now = c.args.context.now.consumer.moment in
    let m = matter_now c.args.context.now in
    let reply = reply_to c.args.request m.answer in
    reply_came g now m reply _ c.read_reply.new.state c.in-Ok-Some.reply c.args.outputs.now.items c.read_reply.new.outputs.items (next_rows m c.read_reply.result)
    (ok_holds (λ said. said ≡ option_map info_reply reply) c.reply_said.result (Some c.in-Ok-Some.reply) (c.in-Ok-Some.is ∙ ap Ok c.in-Ok-Some.field-0-is) c.reply_said.ensures) c.read_reply.ensures
