use Rattle.std.proofs.Common.{None}
use Rattle.js_ordered_stream.specs.Rows.{read_by, answer_in}
use Rattle.js_ordered_table.specs.Passes.{input_of}
use Rattle.js_ordered_stream.proofs.PassedRows.{answered_passes}
use Rattle.js_ordered_stream.proofs.recreation.answered.Goals as goal

pub returns-in-Ok : goal.returns-in-Ok
returns-in-Ok c = λ v.
    answered_passes (input_of c.args.context.now) c.args.context.now.moment c.args.recreation c.args.consumer.now c.pass_answered.new.consumer c.args.request (answer_in c.args.seen.now) c.in-Ok.reply
    c.pass_answered.result.told c.pass_answered.result.next c.stepped_by.result v c.in-Ok.ensures (c.pass_answered.ensures (read_by None None)) (c.stepped_by.ensures.handed None) c.stepped_by.ensures.rest
