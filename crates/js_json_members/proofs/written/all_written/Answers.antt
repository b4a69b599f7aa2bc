use Rattle.std.proofs.Common.{arith}
use Rattle.std.proofs.lemmas.Grind.{common_steps}
use Rattle.js_json_members.proofs.Floats.{no_float_last}
use Rattle.js_json_members.proofs.written.all_written.Goals as goal

pub loop-item-preserved : goal.loop-item-preserved
loop-item-preserved g c = (
  grind (arith, common_steps),
  rw c.in_ok-push.ensures.items (no_float_last _ _ c.loop-item.invariant.1 c.in_ok-write.ensures.1),
)
