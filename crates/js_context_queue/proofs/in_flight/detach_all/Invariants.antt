use Rattle.std.proofs.Common.{◌≡◌, ◌+◌, ◌++◌, length}
use Rattle.std.specs.VecDeque.{deque_len}
use Rattle.js_context_queue.specs.InFlight.{AreAwaited, detached_acks}
use Rattle.js_context_queue.proofs.in_flight.detach_all.Given as goal

abbrev pub invariant-loop-future : goal.invariant-loop-future
invariant-loop-future l = record {
  awaited : AreAwaited l.in_flight.items l.context;
  same : l.context ≡ record l.fn.context { awaited = l.context.awaited; detached = l.context.detached };
  counted : l.context.awaited + length l.initial.in_flight.items ≡ l.fn.context.awaited + length l.in_flight.items;
  list : l.context.detached ++ detached_acks l.in_flight.items ≡ l.fn.context.detached ++ detached_acks l.initial.in_flight.items;
}

abbrev pub decreases-loop-future : goal.decreases-loop-future
decreases-loop-future l = deque_len l.in_flight
