use Rattle.js_context_queue.proofs.Counts.{next_is_fresh}
use Rattle.js_context_queue.proofs.queue.PublishQueue.publish.Goals as goal

pub returns-in_err-reserve-clause-fresh : goal.returns-in_err-reserve-clause-fresh
returns-in_err-reserve-clause-fresh c = rw (← c.self.view_is) (next_is_fresh _ _ _ _ c.self.invariant)

pub returns-in_err-subject-clause-fresh : goal.returns-in_err-subject-clause-fresh
returns-in_err-subject-clause-fresh c = rw (← c.self.view_is) (next_is_fresh _ _ _ _ c.self.invariant)

pub returns-in_err-payload-clause-fresh : goal.returns-in_err-payload-clause-fresh
returns-in_err-payload-clause-fresh c = rw (← c.self.view_is) (next_is_fresh _ _ _ _ c.self.invariant)
