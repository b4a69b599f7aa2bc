use Rattle.js_ordered_table.specs.Recreation.{message_on}
use Rattle.js_ordered_table.specs.Passes.{input_of}
use Rattle.js_ordered.specs.Drive.{matter_now}
use Rattle.js_ordered.proofs.DrivenRows.{brought_heard, brought_nothing}
use Rattle.js_ordered.proofs.drive.hear_brought.Goals as goal

pub returns-in-None : goal.returns-in-None
returns-in-None c =
    brought_nothing (input_of c.args.context.now.consumer) c.args.context.now.consumer.moment (matter_now c.args.context.now) c.args.inbox (message_on c.args.inbox (matter_now c.args.context.now).arrival) c.args.state.now c.args.outputs.now.items c.in-None.ensures

pub returns-in-Some : goal.returns-in-Some
returns-in-Some c =
    brought_heard c.args.context.now c.args.inbox (message_on c.args.inbox (matter_now c.args.context.now).arrival) c.in-Some.message.now c.args.state.now c.hear.new.state c.args.outputs.now.items c.hear.new.outputs.items c.hear.result c.in-Some.ensures c.hear.ensures
