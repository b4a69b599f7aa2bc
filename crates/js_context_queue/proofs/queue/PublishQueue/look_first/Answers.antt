use Rattle.std.proofs.Common.{refl, rules}
use Rattle.std.proofs.lemmas.Grind.{common_steps}
use Rattle.js_context_queue.proofs.AwaitedAcks.{behind, landed}
use Rattle.js_context_queue.proofs.Sleep.{pending_is_sent}
use Rattle.js_context_queue.proofs.queue.PublishQueue.look_first.Goals as goal

pub invariant_of-self-in-Ready : goal.invariant_of-self-in-Ready
invariant_of-self-in-Ready g c = landed _ _ _ _ _ _ _ c.in-Some.ensures.items c.in-Ready.ensures.permit c.self.invariant

pub invariant_of-self-in-Pending : goal.invariant_of-self-in-Pending
invariant_of-self-in-Pending g c = behind _ _ _ _ _ _ _ _ _ c.in-Some.ensures.items c.push_back_reserved.ensures.items (search rules) c.in-Pending.ensures.permit.0 c.in-Pending.ensures.permit.1 c.self.invariant

pub invariant_of-self-in-OutOfMemory : goal.invariant_of-self-in-OutOfMemory
invariant_of-self-in-OutOfMemory g c = behind _ _ _ _ _ _ _ _ _ c.in-Some.ensures.items c.push_back_reserved-in-OutOfMemory.ensures.items (search rules) c.in-OutOfMemory.ensures.permit.0 c.in-OutOfMemory.ensures.permit.1 c.self.invariant

pub returns-in-Pending-clause-on : goal.returns-in-Pending-clause-on
returns-in-Pending-clause-on g c = (
  c.in-Some.field-0,
  record { tag = c.in-Some.field-0.tag; future = c.in-Pending.future },
  c.pop_front.new.self.items,
  search (rules, common_steps),
  search (rules, common_steps),
  pending_is_sent _ _ _ _ _ _ _ _ refl c.in-Pending.ensures.polled,
)
