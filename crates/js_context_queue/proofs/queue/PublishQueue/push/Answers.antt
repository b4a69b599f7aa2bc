use Rattle.std.proofs.Common.{refl, rules}
use Rattle.js_context_queue.proofs.AwaitedAcks.{pushed}
use Rattle.js_context_queue.proofs.Counts.{next_is_fresh}
use Rattle.js_context_queue.proofs.queue.PublishQueue.push.Goals as goal

pub returns-in_default-clause-fresh : goal.returns-in_default-clause-fresh
returns-in_default-clause-fresh c = rw (← c.self.view_is) (next_is_fresh _ _ _ _ c.self.invariant)

pub returns-in_err-push_back-clause-fresh : goal.returns-in_err-push_back-clause-fresh
returns-in_err-push_back-clause-fresh c = rw (← c.self.view_is) (next_is_fresh _ _ _ _ c.self.invariant)

pub returns-clause-fresh : goal.returns-clause-fresh
returns-clause-fresh c = rw (← c.self.view_is) (next_is_fresh _ _ _ _ c.self.invariant)

pub invariant_of-self-2 : goal.invariant_of-self-2
invariant_of-self-2 c = pushed _ _ _ _ _ _ _ c.in_ok-push_back.ensures.items refl (search rules) c.self.invariant
