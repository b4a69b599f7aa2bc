use Rattle.std.proofs.Common.{length, ap, arith}
use Rattle.js_context_queue.proofs.Tried.{flight_left, unsent_left}
use Rattle.js_context_queue.proofs.queue.PublishQueue.rest.Goals as goal
use Rattle.js_context_queue.proofs.queue.PublishQueue.rest.Goals.{else-unsent_len-eq0-via-then-unsent_len-eq0+else-in_flight-eq0, else-unsent_len-eq0-via-else-unsent_len-eq0}

pub returns-else-unsent_len-eq0-clause-end : goal.returns-else-unsent_len-eq0-clause-end
returns-else-unsent_len-eq0-clause-end c = elim c.else-unsent_len-eq0.branch [
  | else-unsent_len-eq0-via-then-unsent_len-eq0+else-in_flight-eq0 w ↦ flight_left c.args.self.now (λ none. omega (arith, ap length none, w.in_flight.ensures.count, w.if-in_flight-eq0.false))
  | else-unsent_len-eq0-via-else-unsent_len-eq0 w ↦ unsent_left c.args.self.now (λ none. omega (arith, ap length none, c.unsent_len.ensures, w.if-unsent_len-eq0.false))
]
