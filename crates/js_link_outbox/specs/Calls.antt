-- What each call of the end of a connection does to what it means, and to what it has to send.
use Rattle.std.specs.Prelude.{ℕ, ◌≡◌, ◌≢◌, ◌<◌, ◌^◌, ◌-◌, ◌++◌, ◌&&◌, Bool, true, false, not, nat_lt, Option, Some, None, List, [], ◌∷◌, Result, Ok, Err, refl}
use Rattle.js_base.specs.declared.message.Message.{Message}
use Rattle.js_base.specs.declared.message.State.{State}
use Rattle.js_link.specs.declared.link.LinkError.{LinkError}
use Rattle.js_link.specs.declared.link.Watch.{Watch}
use Rattle.js_link.specs.declared.link.Watch.TheVariants as watch
use Rattle.js_link.specs.LinkView.{LinkView, Waits, Ended}
use Rattle.js_link.specs.Memory.{DeliversAs, RespondsAs}
use Rattle.js_link_outbox.specs.declared.outgoing.Outgoing.{Outgoing}
use Rattle.js_link_outbox.specs.declared.outgoing.Outgoing.TheVariants.{Unsubscribe}
use Rattle.js_link_outbox.specs.declared.outgoing.Delivery.{Delivery}
use Rattle.js_link_outbox.specs.declared.outgoing.Delivery.TheVariants as delivery
use Rattle.js_link_outbox.specs.declared.outbox.OutboxLink.{OutboxLink}
use Rattle.js_link_outbox.specs.Outbox.{answer_subject, front, outbox_view, outgoing}

-- ---- what it has to send

-- nothing more, and nothing less
pub record SendsNothing (old new : OutboxLink) : Type 0 where
  pub items : outgoing new ≡ outgoing old
  pub same_front : front new ≡ front old

-- one thing more, behind all others
pub record Adds (item : Outgoing) (old new : OutboxLink) : Type 0 where
  pub items : outgoing new ≡ outgoing old ++ item ∷ []
  pub same_front : front new ≡ front old

-- nothing but what it has to send is other than before
pub record KeepsRest (old new : OutboxLink) : Type 0 where
  pub same_front : new.front ≡ old.front
  pub inboxes : new.inboxes ≡ old.inboxes
  pub requests : new.requests ≡ old.requests
  pub fresh : new.fresh ≡ old.fresh
  pub faults : new.faults ≡ old.faults
  pub watch : new.watch ≡ old.watch
  pub max_payload : new.max_payload ≡ old.max_payload
  pub request_timeout : new.request_timeout ≡ old.request_timeout

-- a call that was not refused has one thing more to send, and one that was refused has none more
abbrev pub AddsUnlessRefused : {T : Type 0} → Result T LinkError → (T → Outgoing) → OutboxLink → OutboxLink → Type 0
AddsUnlessRefused (Ok made) item old new = Adds (item made) old new
AddsUnlessRefused (Err e) item old new = SendsNothing old new

-- the first thing that is to be sent was taken, and is to be sent no more
abbrev pub TakesNext : Option Outgoing → List Outgoing → List Outgoing → Type 0
TakesNext None old new = (old ≡ []) × (new ≡ [])
TakesNext (Some item) old new = old ≡ item ∷ new

-- worked: the first of two is taken. Refused: it is taken and stays, or the one behind it goes with it
worked_taken : TakesNext (Some (Unsubscribe 1)) (Unsubscribe 1 ∷ Unsubscribe 2 ∷ []) (Unsubscribe 2 ∷ [])
worked_taken = refl

refused_twice : TakesNext (Some (Unsubscribe 1)) (Unsubscribe 1 ∷ []) (Unsubscribe 1 ∷ []) → ⊥
refused_twice e = cc

refused_left_out : TakesNext (Some (Unsubscribe 1)) (Unsubscribe 1 ∷ Unsubscribe 2 ∷ []) [] → ⊥
refused_left_out e = cc

-- ---- whether it may send

-- nothing more will be told of the connection, and nothing is sent any more
abbrev pub is_closed : Watch → Bool
is_closed (watch.State state) = false
is_closed watch.Ended = true

-- it is not closed
abbrev pub is_live : OutboxLink → Bool
is_live o = not (is_closed o.watch)

-- it is not closed, and there is a number for one inbox more
abbrev pub can_open : OutboxLink → Bool
can_open o = is_live o && nat_lt o.inboxes.next (2 ^ 64 - 1)

-- it is not closed, and there is a number for one request more
abbrev pub can_request : OutboxLink → Bool
can_request o = is_live o && nat_lt o.requests.next (2 ^ 64 - 1)

-- ---- what comes

-- who wants a message that came for a subscription
abbrev pub IsWantedBy : Delivery → ℕ → Message → OutboxLink → Type 0
IsWantedBy (delivery.Inbox inbox) subscription message o =
    (subscription ≢ 0) × (subscription ≡ inbox.0) × ((outbox_view o).is_open inbox.0 ≡ true)
IsWantedBy (delivery.Request request) subscription message o =
    (subscription ≡ 0) × (message.subject ≡ answer_subject (front o) request.0) × ((outbox_view o).status request.0 ≡ Waits)
IsWantedBy delivery.Nobody subscription message o =
    (subscription ≢ 0 → (outbox_view o).is_open subscription ≡ false)
    × (subscription ≡ 0 → (r : ℕ) → r < 2 ^ 64 → message.subject ≡ answer_subject (front o) r → (outbox_view o).status r ≢ Waits)

-- what it does to what the link means: an inbox has one message more, a request has its answer, and nothing else changes
abbrev pub Brings : Delivery → Message → LinkView → LinkView → Type 0
Brings (delivery.Inbox inbox) message old new = DeliversAs true inbox.0 message old new
Brings (delivery.Request request) message old new = RespondsAs Waits request.0 (Some message) old new
Brings delivery.Nobody message old new = new ≡ old

-- a state that was told: a closed link stays closed
abbrev pub watch_after : Watch → State → Watch
watch_after watch.Ended state = watch.Ended
watch_after (watch.State before) state = watch.State state

-- a closed link: no inbox is open, no request waits or has an answer, and nothing is to be sent
abbrev pub closed_view : LinkView → LinkView
closed_view view = record view {
  is_open = λ _. false;
  count = λ _. 0;
  status = λ _. Ended;
  watch = watch.Ended;
  buffer = λ _. Some [];
  reply = λ _. None;
  sent = Some [];
}
