-- When the acks of a context have something to do by themselves.
use Rattle.std.specs.Prelude.{ℕ, Bool, false, ◌||◌, Option, Some, None, List, [], ◌∷◌}
use Rattle.js_base.specs.Clock.{is_over}
use Rattle.js_base.specs.declared.message.Message.{Message}
use Rattle.js_link.specs.declared.sent.RequestId.{RequestId}
use Rattle.js_call.specs.declared.open_request.OpenRequest.{OpenRequest}
use Rattle.js_context.specs.declared.ack_future.Clock.{Clock}
use Rattle.js_context.specs.declared.ack_future.PublishAckFuture.{PublishAckFuture}
use Rattle.js_context.specs.declared.context.Detached.{Detached}
use Rattle.js_context.specs.AckClock.{timed}

-- a request whose clock has begun, where no reply to it was kept
abbrev pub unless_kept : Option Message → Option Clock → RequestId → Option OpenRequest
unless_kept None (Some clock) request = Some (timed request clock)
unless_kept None None request = None
unless_kept (Some reply) clock request = None

-- the request whose answer an ack waits for
abbrev pub ack_waits_for : PublishAckFuture → Option OpenRequest
ack_waits_for future = unless_kept future.reply future.clock future.request

-- a clock has begun, and its wait is over
abbrev pub is_clock_over : Option ℕ → ℕ → ℕ → Bool
is_clock_over None wait now = false
is_clock_over (Some since) wait now = is_over since wait now

-- the clock of one of these acks is over
abbrev pub is_one_due : ℕ → ℕ → List Detached → Bool
is_one_due wait now [] = false
is_one_due wait now (ack ∷ more) = is_clock_over ack.since wait now || is_one_due wait now more
