-- That a queue may be left alone until it wakes.
use Rattle.std.specs.Prelude.{ℕ, ◌≡◌, ◌++◌, ◌⊎◌, ⊤, false, Option, Some, None, List, [], ◌∷◌, All}
use Rattle.js_base.specs.declared.turn.Next.{Next}
use Rattle.js_base.specs.declared.turn.Next.TheVariants as next
use Rattle.js_link.specs.LinkView.{LinkView, Waits}
use Rattle.js_call.specs.declared.open_request.OpenRequest.{OpenRequest}
use Rattle.js_call.specs.Wakes.{IsLeftAlone, IsSent}
use Rattle.js_context.specs.Context.{ContextView, Takes}
use Rattle.js_context.specs.Sending.{LacksPermit}
use Rattle.js_context.specs.AckTimers.{ack_waits_for}
use Rattle.js_context_queue.specs.declared.in_flight.InFlight.{InFlight}
use Rattle.js_context_queue.specs.declared.published.Published.{Published}
use Rattle.js_context_queue.specs.declared.unsent.Unsent.{Unsent}
use Rattle.js_context_queue.specs.declared.step_result.StepResult.{StepResult}
use Rattle.js_context_queue.specs.declared.step_result.StepResult.TheVariants as steps
use Rattle.js_context_queue.specs.InFlight.{waits_of}
use Rattle.js_context_queue.specs.Queue.{QueueView, open_tags}
use Rattle.js_context_queue.specs.Steps.{outcome_of}
use Rattle.js_context_queue.specs.Wakes.{is_first_over, queue_due}

-- no answer has come to a request
abbrev pub IsUnanswered : LinkView → Option OpenRequest → Type 0
IsUnanswered v None = ⊥
IsUnanswered v (Some sent) = v.status sent.request.0 ≡ Waits

-- the first of these messages, for which those behind it wait, lacks a permit, if there is one
abbrev pub CanSendNone : List Unsent → ContextView → LinkView → Type 0
CanSendNone [] c v = ⊤
CanSendNone (first ∷ more) c v = LacksPermit first.message c v

-- no message can be sent, each ack in flight has its clock, no answer to it has come, and it is not the time to wake
pub record IsQueueLeftAlone (now : ℕ) (q : QueueView) (v : LinkView) : Type 0 where
  pub sends_none : CanSendNone q.unsent q.context v
  pub unanswered : All (IsUnanswered v) (waits_of q.in_flight)
  pub early : queue_due q now ≡ false

-- no outcome is handed out
abbrev pub IsQuiet : Next Published → QueueView → Type 0
IsQuiet next.Pending q = ⊤
IsQuiet next.OutOfMemory q = ⊤
IsQuiet next.End q = open_tags q ≡ []
IsQuiet (next.Item published) q = ⊥

-- it asked for a permit, and none was free
pub record AskedInVain (old new : QueueView) : Type 0 where
  pub takes : Takes None old.context new.context
  pub same : new ≡ record old { context = new.context }

-- the queue is what it was, though where a message was to be sent it may have asked for a permit in vain
abbrev pub IsAsItWas : List Unsent → QueueView → QueueView → Type 0
IsAsItWas [] old new = new ≡ old
IsAsItWas (first ∷ more) old new = (new ≡ old) ⊎ AskedInVain old new

-- nothing was sent, nothing is handed out, and the queue is what it was
pub record QueueSleeps (old new : QueueView) (before after : LinkView) (result : Next Published) : Type 0 where
  pub quiet : IsQuiet result new
  pub link : after ≡ before
  pub same : IsAsItWas old.unsent old new

abbrev pub SleepsIfLeftAlone : ℕ → QueueView → QueueView → LinkView → LinkView → Next Published → Type 0
SleepsIfLeftAlone now old new before after result = IsQueueLeftAlone now old before → QueueSleeps old new before after result

-- after it has pended each ack in flight has its clock
abbrev pub QueuePends : Next Published → QueueView → Type 0
QueuePends next.Pending q = All IsSent (waits_of q.in_flight)
QueuePends next.End q = ⊤
QueuePends next.OutOfMemory q = ⊤
QueuePends (next.Item published) q = ⊤

-- ---- the steps

-- where no message can be sent and the first is not over, nothing is sent and no outcome is known
abbrev pub SendsNothing : ℕ → StepResult → QueueView → QueueView → LinkView → LinkView → Type 0
SendsNothing now step old new before after =
    CanSendNone old.unsent old.context before → is_first_over old.send_timeout old.unsent now ≡ false
    → (outcome_of step ≡ []) × (after ≡ before) × IsAsItWas old.unsent old new

-- the first ack goes behind the others with its clock, unless it is known
abbrev pub GoesOn : StepResult → QueueView → QueueView → Type 0
GoesOn steps.Made old new = (first : InFlight) × (next : InFlight) × (more : List InFlight) × (old.in_flight ≡ first ∷ more) × (new.in_flight ≡ more ++ next ∷ []) × IsSent (ack_waits_for next.future)
GoesOn steps.Stays old new = new.in_flight ≡ []
GoesOn steps.NoMemory old new = ⊤
GoesOn (steps.Over published) old new = ⊤

-- an ack that is left alone goes behind the others as it is
abbrev pub LooksInVain : ℕ → StepResult → QueueView → QueueView → LinkView → LinkView → Type 0
LooksInVain now step old new before after =
    (first : InFlight) (more : List InFlight) → old.in_flight ≡ first ∷ more → IsLeftAlone (ack_waits_for first.future) now before
    → (step ≡ steps.Made) × (after ≡ before) × (new ≡ record old { in_flight = more ++ first ∷ [] })

-- each ack was looked at, and has its clock
abbrev pub HaveClocks : StepResult → QueueView → Type 0
HaveClocks steps.Made q = All IsSent (waits_of q.in_flight)
HaveClocks steps.Stays q = All IsSent (waits_of q.in_flight)
HaveClocks steps.NoMemory q = ⊤
HaveClocks (steps.Over published) q = ⊤

-- acks that are left alone are what they were
abbrev pub LooksAtNothing : ℕ → StepResult → QueueView → QueueView → LinkView → LinkView → Type 0
LooksAtNothing now step old new before after =
    All (λ sent. IsLeftAlone sent now before) (waits_of old.in_flight) → (step ≡ steps.Made) × (after ≡ before) × (new ≡ old)

-- the same, and what is handed out
abbrev pub LooksOnAtNothing : ℕ → Next Published → QueueView → QueueView → LinkView → LinkView → Type 0
LooksOnAtNothing now result old new before after =
    All (λ sent. IsLeftAlone sent now before) (waits_of old.in_flight) → IsQuiet result new × (after ≡ before) × (new ≡ old)
