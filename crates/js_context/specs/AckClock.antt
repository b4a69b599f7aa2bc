-- The clocks of acks, which begin at the first look.
use Rattle.std.specs.Prelude.{ℕ, Option, Some, None}
use Rattle.js_link.specs.declared.sent.RequestId.{RequestId}
use Rattle.js_call.specs.declared.open_request.OpenRequest.{OpenRequest}
use Rattle.js_context.specs.declared.ack_future.Clock.{Clock}

-- when the clock of a detached ack began, which is now where it had not
abbrev pub begun : Option ℕ → ℕ → ℕ
begun None now = now
begun (Some since) now = since

-- a request with its clock
abbrev pub clocked : RequestId → Option ℕ → ℕ → ℕ → OpenRequest
clocked request since now wait = record { request = request; since = begun since now; timeout = Some wait }

-- the clock of an ack that is awaited: it begins now, and runs for that wait, where it had not begun
abbrev pub started : Option Clock → ℕ → ℕ → Clock
started None now wait = record { since = now; wait = wait }
started (Some clock) now wait = clock

-- a request by its clock
abbrev pub timed : RequestId → Clock → OpenRequest
timed request clock = record { request = request; since = clock.since; timeout = Some clock.wait }
