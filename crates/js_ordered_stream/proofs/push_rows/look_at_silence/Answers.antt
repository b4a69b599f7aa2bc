use Rattle.std.proofs.Common.{None}
use Rattle.js_ordered_table.specs.Passes.{input_of}
use Rattle.js_ordered_stream.proofs.Elsewhere.{silence_nowhere}
use Rattle.js_ordered_stream.proofs.PushRows.{silence_passes}
use Rattle.js_ordered_stream.proofs.push_rows.look_at_silence.Goals as goal

pub returns-in-Pushes : goal.returns-in-Pushes
returns-in-Pushes c = λ v.
    silence_passes (input_of c.args.context.now) c.args.context.now.moment c.in-Pushes.inbox c.in-Pushes.heartbeat_timer c.args.consumer.now c.pass_silence.result.told c.pass_silence.result.next c.stepped_by.result v
    c.in-Pushes.is c.pass_silence.ensures (c.stepped_by.ensures.handed None) c.stepped_by.ensures.rest

pub returns-in_default : goal.returns-in_default
returns-in_default c = λ v. silence_nowhere (input_of c.args.context.now) c.args.context.now.moment c.args.consumer.now c.passed_over.result v c.in_default.not-Pushes c.passed_over.ensures
