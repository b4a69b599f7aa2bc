use Rattle.js_ordered_table.specs.Passes.{input_of}
use Rattle.js_ordered_stream.proofs.PassedRows.{succeed_push_passes}
use Rattle.js_ordered_stream.proofs.success.succeed_push.Goals as goal

pub returns : goal.returns
returns c = λ info v.
    succeed_push_passes (input_of c.args.context.now) c.args.context.now.moment info c.args.recreation c.args.consumer.now c.pass_succeed_push-held.new.consumer c.pass_succeed_push-held.result c.armed_after.result c.followed_by.result v
    c.requires.push c.requires.bare c.pass_succeed_push-held.ensures c.armed_after.ensures c.followed_by.ensures
