-- When a queue has something to do by itself.
use Rattle.std.specs.Prelude.{ℕ, Bool, false, ◌||◌, Option, List, [], ◌∷◌}
use Rattle.js_base.specs.Clock.{is_over}
use Rattle.js_call.specs.declared.open_request.OpenRequest.{OpenRequest}
use Rattle.js_call.specs.Wakes.{is_due}
use Rattle.js_context_queue.specs.declared.unsent.Unsent.{Unsent}
use Rattle.js_context_queue.specs.InFlight.{waits_of}
use Rattle.js_context_queue.specs.Queue.{QueueView}

-- the time of one of these requests is over
abbrev pub is_one_due : List (Option OpenRequest) → ℕ → Bool
is_one_due [] now = false
is_one_due (sent ∷ more) now = is_due sent now || is_one_due more now

-- the time of the first of these messages is over. Those behind it wait for it
abbrev pub is_first_over : ℕ → List Unsent → ℕ → Bool
is_first_over send_timeout [] now = false
is_first_over send_timeout (first ∷ more) now = is_over first.since send_timeout now

-- it is the time of a queue to be polled, though nothing came and no permit is free
abbrev pub queue_due : QueueView → ℕ → Bool
queue_due q now = is_first_over q.send_timeout q.unsent now || is_one_due (waits_of q.in_flight) now
