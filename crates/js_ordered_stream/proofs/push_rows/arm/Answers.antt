use Rattle.js_ordered_table.specs.Passes.{input_of}
use Rattle.js_ordered_stream.proofs.Elsewhere.{arms_nowhere}
use Rattle.js_ordered_stream.proofs.PushRows.{arm_passes}
use Rattle.js_ordered_stream.proofs.push_rows.arm.Goals as goal

pub returns-in-Pushes : goal.returns-in-Pushes
returns-in-Pushes c = λ v.
    arm_passes (input_of c.args.context.now) c.args.context.now.moment c.in-Pushes.inbox c.in-Pushes.heartbeat_timer c.args.consumer.now c.listen.new.consumer c.followed_by.result v c.in-Pushes.is c.listen.ensures c.followed_by.ensures

pub returns-in_default : goal.returns-in_default
returns-in_default c = λ v. arms_nowhere (input_of c.args.context.now) c.args.context.now.moment c.args.consumer.now c.passed_over.result v c.in_default.not-Pushes c.passed_over.ensures
