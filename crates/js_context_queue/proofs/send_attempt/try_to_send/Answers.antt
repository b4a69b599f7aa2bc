use Rattle.js_context.specs.declared.sending.Attempt.TheVariants.{Went}
use Rattle.js_link.specs.declared.link.LinkError.TheVariants.{Failed, OutOfMemory}
use Rattle.js_context_queue.proofs.NoPermit.{full_in_vain, has_none, unsent_has_none, unsent_in_vain}
use Rattle.js_context_queue.proofs.send_attempt.try_to_send.Goals as goal

pub returns-in-Went-clause-full : goal.returns-in-Went-clause-full
returns-in-Went-clause-full g c =
    has_none c.args.message.now (Went c.in-Went.future) c.args.context.now c.try_to_send.new.context (g.L.Link.view c.args.link.now) (g.L.Link.view c.try_to_send.new.link) c.in-Went.ensures.tries

pub returns-in-Unsent-Failed-clause-full : goal.returns-in-Unsent-Failed-clause-full
returns-in-Unsent-Failed-clause-full g c =
    unsent_has_none c.args.message.now _ Failed c.args.context.now c.try_to_send.new.context (g.L.Link.view c.args.link.now) (g.L.Link.view c.try_to_send.new.link) c.in-Unsent-Failed.field-0-is c.in-Unsent-Failed.ensures.tries

pub returns-in-Unsent-OutOfMemory-clause-full : goal.returns-in-Unsent-OutOfMemory-clause-full
returns-in-Unsent-OutOfMemory-clause-full g c =
    unsent_has_none c.args.message.now _ OutOfMemory c.args.context.now c.try_to_send.new.context (g.L.Link.view c.args.link.now) (g.L.Link.view c.try_to_send.new.link) c.in-Unsent-OutOfMemory.field-0-is c.in-Unsent-OutOfMemory.ensures.tries

pub returns-in-Full-clause-stays : goal.returns-in-Full-clause-stays
returns-in-Full-clause-stays g c = full_in_vain _ _ _ _ _ c.in-Full.ensures.tries

pub returns-in-Unsent-Failed-clause-stays : goal.returns-in-Unsent-Failed-clause-stays
returns-in-Unsent-Failed-clause-stays g c = unsent_in_vain _ _ _ _ _ _ c.in-Unsent-Failed.field-0-is c.in-Unsent-Failed.ensures.tries
