use Rattle.js_context_queue.proofs.Tried.{flight_left, rests_in_vain}
use Rattle.js_context_queue.proofs.queue.PublishQueue.look_on.Goals as goal

pub returns-in-Made-clause-each : goal.returns-in-Made-clause-each
returns-in-Made-clause-each g c = λ tag. rw c.rest.ensures.nothing (c.in-Made.ensures.each tag)

pub returns-in-Stays-clause-each : goal.returns-in-Stays-clause-each
returns-in-Stays-clause-each g c = λ tag. rw c.rest-in-Stays.ensures.nothing (c.in-Stays.ensures.each tag)

pub returns-in-NoMemory-clause-end : goal.returns-in-NoMemory-clause-end
returns-in-NoMemory-clause-end g c = flight_left c.look.new.self c.in-NoMemory.ensures.looked

pub returns-in-Made-clause-pending : goal.returns-in-Made-clause-pending
returns-in-Made-clause-pending g c = rests_in_vain c.args.now c.rest.result c.args.self.now c.look.new.self (g.L.Link.view c.args.link.now) (g.L.Link.view c.look.new.link) c.in-Made.ensures.looked

pub returns-in-Stays-clause-pending : goal.returns-in-Stays-clause-pending
returns-in-Stays-clause-pending g c = rests_in_vain c.args.now c.rest-in-Stays.result c.args.self.now c.look.new.self (g.L.Link.view c.args.link.now) (g.L.Link.view c.look.new.link) c.in-Stays.ensures.looked
