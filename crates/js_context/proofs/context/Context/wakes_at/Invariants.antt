use Rattle.std.proofs.Common.{◌≡◌, ◌||◌, ◌<◌, ◌^◌, ℕ}
use Rattle.std.specs.VecDeque.Iter.{deque_iter_rest}
use Rattle.js_base.specs.Clock.{has_come}
use Rattle.js_context.specs.AckTimers.{is_one_due}
use Rattle.js_context.proofs.context.Context.wakes_at.Given as goal

abbrev pub invariant-loop-ack : goal.invariant-loop-ack
invariant-loop-ack l = (now : ℕ) → now < 2 ^ 64
    → is_one_due l.self.settings.ack_timeout now l.self.detached ≡ (has_come l.first now || is_one_due l.self.settings.ack_timeout now (deque_iter_rest l.ack-iterator))
