use Rattle.std.proofs.Common.{rules}
use Rattle.js_context.proofs.AckWait.{waited_none, waited_more}
use Rattle.js_context.proofs.context.Context.wait_for_acks.Goals as goal

pub loop-init : goal.loop-init
loop-init g c = record { can_next = tt; is_finite = tt; waited = waited_none _; same = search rules }

pub loop-preserved : goal.loop-preserved
loop-preserved g c = record {
  can_next = tt;
  is_finite = tt;
  waited = waited_more _ _ _ _ c.loop.invariant.waited c.acks_settled.ensures.call;
  same = search rules;
}
