use Rattle.std.proofs.Common.{◌≡◌, ◌||◌, ◌<◌, ◌^◌, ℕ}
use Rattle.std.specs.VecDeque.Iter.{deque_iter_rest}
use Rattle.js_base.specs.Clock.{has_come}
use Rattle.js_context_queue.specs.InFlight.{waits_of}
use Rattle.js_context_queue.specs.Wakes.{is_one_due, queue_due}
use Rattle.js_context_queue.proofs.queue.PublishQueue.wakes_at.Given as goal

abbrev pub invariant-loop-sent : goal.invariant-loop-sent
invariant-loop-sent l = (now : ℕ) → now < 2 ^ 64 → queue_due l.self now ≡ (has_come l.first now || is_one_due (waits_of (deque_iter_rest l.sent-iterator)) now)
