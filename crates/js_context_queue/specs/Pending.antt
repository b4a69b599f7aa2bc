-- What a poll that is pending has done: it has looked at each ack, and has tried the first message that it leaves unsent.
use Rattle.std.specs.Prelude.{ℕ, ◌≡◌, ◌≢◌, ⊤, false, Option, Some, None, List, [], ◌∷◌, All}
use Rattle.std.proofs.lemmas.List.Elements.{All-head}
use Rattle.js_base.specs.Clock.{is_over}
use Rattle.js_base.specs.declared.message.Message.{Message}
use Rattle.js_base.specs.declared.turn.Next.{Next}
use Rattle.js_base.specs.declared.turn.Next.TheVariants as next
use Rattle.js_link.specs.LinkView.{LinkView, Status, Waits, Answered}
use Rattle.js_link.specs.declared.sent.RequestId.{RequestId}
use Rattle.js_call.specs.Wakes.{IsLeftAlone}
use Rattle.js_context.specs.AckTimers.{ack_waits_for, unless_kept}
use Rattle.js_context.specs.declared.ack_future.Clock.{Clock}
use Rattle.js_context_queue.specs.declared.in_flight.InFlight.{InFlight}
use Rattle.js_context_queue.specs.declared.published.Published.{Published}
use Rattle.js_context_queue.specs.declared.unsent.Unsent.{Unsent}
use Rattle.js_context_queue.specs.declared.step_result.StepResult.{StepResult}
use Rattle.js_context_queue.specs.declared.step_result.StepResult.TheVariants as steps
use Rattle.js_context_queue.specs.InFlight.{waits_of}
use Rattle.js_context_queue.specs.Queue.{QueueView}
use Rattle.js_context_queue.specs.QueuePoll.{Place}
use Rattle.js_context_queue.specs.SendAttempt.{IsTriedInVain}
use Rattle.js_context_queue.specs.Steps.{SendsFirst}

-- each of these acks waits: its clock has begun and is not over, and the link has no answer to its request and still expects one
abbrev pub AcksWait : ℕ → List InFlight → LinkView → Type 0
AcksWait now in_flight v = All (λ sent. IsLeftAlone sent now v) (waits_of in_flight)

-- messages were sent, each the first of those that were left, and nothing else was done
abbrev pub SendsInTurn : Place → List Place → Place → Type 0
SendsInTurn p [] q = p ≡ q
SendsInTurn p (next ∷ more) q = SendsFirst p.queue next.queue p.link next.link × SendsInTurn next more q

-- Those before this message were sent, then it was tried in vain, and nothing has changed since of the context and the link. Its time is not over.
pub record WasTried (now : ℕ) (first : Unsent) (p q : Place) : Type 0 where
  pub through : List Place
  pub at : Place  -- before the try
  pub sends : SendsInTurn p through at
  pub left : at.queue.unsent ≡ q.queue.unsent
  pub tried : IsTriedInVain first.message at.queue.context q.queue.context at.link q.link
  pub early : is_over first.since p.queue.send_timeout now ≡ false

-- the first of these messages was tried, if there is one. Those behind it wait for it
abbrev pub FirstWasTried : ℕ → List Unsent → Place → Place → Type 0
FirstWasTried now [] p q = ⊤
FirstWasTried now (first ∷ more) p q = WasTried now first p q

-- nothing more can be done now: each ack in flight waits, and the first message that is left unsent was tried in vain
pub record HasTriedAll (now : ℕ) (p q : Place) : Type 0 where
  pub acks : AcksWait now q.queue.in_flight q.link
  pub first : FirstWasTried now q.queue.unsent p q

-- a poll is pending only if nothing more can be done
abbrev pub PendsInVain : ℕ → Next Published → Place → Place → Type 0
PendsInVain now next.Pending p q = HasTriedAll now p q
PendsInVain now next.End p q = ⊤
PendsInVain now next.OutOfMemory p q = ⊤
PendsInVain now (next.Item published) p q = ⊤

-- ---- the steps

-- a message that stays unsent was tried in vain, and its time is not over
abbrev pub StaysInVain : ℕ → StepResult → QueueView → QueueView → LinkView → LinkView → Type 0
StaysInVain now steps.Stays old new before after =
    (first : Unsent) (more : List Unsent) → old.unsent ≡ first ∷ more
    → IsTriedInVain first.message old.context new.context before after × (is_over first.since old.send_timeout now ≡ false)
StaysInVain now steps.Made old new before after = ⊤
StaysInVain now steps.NoMemory old new before after = ⊤
StaysInVain now (steps.Over published) old new before after = ⊤

-- what trying the messages in order comes to: all were sent, the first that is left was tried in vain, or memory ran out for one
abbrev pub TriesInOrder : ℕ → StepResult → Place → Place → Type 0
TriesInOrder now steps.Made p q = q.queue.unsent ≡ []
TriesInOrder now steps.Stays p q = FirstWasTried now q.queue.unsent p q
TriesInOrder now steps.NoMemory p q = q.queue.unsent ≢ []
TriesInOrder now (steps.Over published) p q = ⊤

-- each ack waits, and of the queue nothing has changed but clocks
pub record FindsNone (now : ℕ) (old new : QueueView) (before after : LinkView) : Type 0 where
  pub unsent : new.unsent ≡ old.unsent
  pub context : new.context ≡ old.context
  pub link : after ≡ before
  pub acks : AcksWait now new.in_flight after

-- what looking at each ack comes to: each waits, or memory ran out for one
abbrev pub LooksAtEach : ℕ → StepResult → QueueView → QueueView → LinkView → LinkView → Type 0
LooksAtEach now steps.Made old new before after = FindsNone now old new before after
LooksAtEach now steps.Stays old new before after = FindsNone now old new before after
LooksAtEach now steps.NoMemory old new before after = new.in_flight ≢ []
LooksAtEach now (steps.Over published) old new before after = ⊤

-- the same, and what is handed out
abbrev pub LooksOnInVain : ℕ → Next Published → QueueView → QueueView → LinkView → LinkView → Type 0
LooksOnInVain now next.Pending old new before after = FindsNone now old new before after
LooksOnInVain now next.End old new before after = ⊤
LooksOnInVain now next.OutOfMemory old new before after = ⊤
LooksOnInVain now (next.Item published) old new before after = ⊤

-- ---- worked: what these refuse

not_waiting : (status : Status) → status ≡ Answered → status ≡ Waits → ⊥
not_waiting status came waits = cc

answered : (reply : Option Message) (clock : Option Clock) (request : RequestId) (now : ℕ) (v : LinkView) → v.status request.0 ≡ Answered → IsLeftAlone (unless_kept reply clock request) now v → ⊥
answered None (Some clock) request now v came (waits, early) = not_waiting (v.status request.0) came waits
answered None None request now v came waits = waits
answered (Some kept) clock request now v came waits = waits

-- an ack to which the answer has come does not wait
pub answered_waits_not : (now : ℕ) (ack : InFlight) (more : List InFlight) (v : LinkView) → v.status ack.future.request.0 ≡ Answered → AcksWait now (ack ∷ more) v → ⊥
answered_waits_not now ack more v came wait =
    answered ack.future.reply ack.future.clock ack.future.request now v came (All-head (λ sent. IsLeftAlone sent now v) (ack_waits_for ack.future) (waits_of more) wait)
