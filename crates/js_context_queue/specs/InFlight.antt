-- Messages that were sent, and whose acks are awaited.
use Rattle.std.specs.Prelude.{ℕ, ◌≡◌, ◌+◌, ◌≤◌, ◌++◌, Option, None, List, length, map, All}
use Rattle.js_call.specs.declared.open_request.OpenRequest.{OpenRequest}
use Rattle.js_context.specs.declared.ack_future.PublishAckFuture.{PublishAckFuture}
use Rattle.js_context.specs.declared.context.Detached.{Detached}
use Rattle.js_context.specs.Context.{ContextView}
use Rattle.js_context.specs.AckTimers.{ack_waits_for}
use Rattle.js_context_queue.specs.declared.in_flight.InFlight.{InFlight}

-- this caller awaits each of these acks, and maybe more
pub record AreAwaited (in_flight : List InFlight) (c : ContextView) : Type 0 where
  pub counted : length in_flight ≤ c.awaited
  pub bear : All (λ f. f.future.permit ≡ c.pass.number) in_flight
  pub given : All (λ f. f.future.window.value ≡ c.pass.window) in_flight

-- the tags of messages that were sent
abbrev pub tags_of : List InFlight → List ℕ
tags_of in_flight = map (λ f. f.tag.0) in_flight

-- the request that each of them waits for. None where its ack is to be polled at once
abbrev pub waits_of : List InFlight → List (Option OpenRequest)
waits_of in_flight = map (λ f. ack_waits_for f.future) in_flight

-- an ack once nobody awaits it: it bears its permit still, and its clock has not begun
abbrev pub detached_ack : PublishAckFuture → Detached
detached_ack future = record { request = future.request; permit = future.permit; window = future.window; since = None }

-- the same of each of these
abbrev pub detached_acks : List InFlight → List Detached
detached_acks in_flight = map (λ f. detached_ack f.future) in_flight

-- Nobody awaits these acks any more: they stand behind those that were detached before, and nothing else of the context has changed.
pub record Detaches (in_flight : List InFlight) (c d : ContextView) : Type 0 where
  pub same : d ≡ record c { awaited = d.awaited; detached = d.detached }
  pub awaited : d.awaited + length in_flight ≡ c.awaited
  pub list : d.detached ≡ c.detached ++ detached_acks in_flight
