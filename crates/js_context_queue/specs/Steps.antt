-- The steps of a queue.
use Rattle.std.specs.Prelude.{ℕ, ◌≡◌, ◌++◌, ◌⊎◌, true, Option, Some, None, List, [], ◌∷◌, Err}
use Rattle.js_base.specs.Clock.{is_over}
use Rattle.js_base.specs.Error.{plain}
use Rattle.js_base.specs.declared.turn.Turn.TheVariants.{Pending, Ready, OutOfMemory}
use Rattle.js_link.specs.LinkView.{LinkView}
use Rattle.js_context.specs.AckFuture.{AckPolled, AckTurn}
use Rattle.js_context.specs.Context.{ContextView}
use Rattle.js_context.specs.Sending.{IsBarred, SendsUnder}
use Rattle.js_context.specs.declared.ack_future.PublishAckFuture.{PublishAckFuture}
use Rattle.js_context.specs.declared.publish_error.PublishErrorKind.{PublishErrorKind}
use Rattle.js_context_queue.specs.declared.in_flight.InFlight.{InFlight}
use Rattle.js_context_queue.specs.declared.published.Published.{Published}
use Rattle.js_context_queue.specs.declared.unsent.Unsent.{Unsent}
use Rattle.js_context_queue.specs.declared.step_result.StepResult.{StepResult}
use Rattle.js_context_queue.specs.declared.step_result.StepResult.TheVariants.{Made, Stays, Over, NoMemory}
use Rattle.js_context_queue.specs.Queue.{QueueView}
use Rattle.js_context_queue.specs.SendAttempt.{IsPrevented, SendsNone}

-- the tag of the outcome that a step brings
abbrev pub outcome_of : StepResult → List ℕ
outcome_of (Over published) = published.tag.0 ∷ []
outcome_of Made = []
outcome_of Stays = []
outcome_of NoMemory = []

-- the outcome that a step brings
abbrev pub brought : StepResult → Option Published
brought (Over published) = Some published
brought Made = None
brought Stays = None
brought NoMemory = None

-- no message has gone on
pub record Stands (old new : QueueView) : Type 0 where
  pub unsent : new.unsent ≡ old.unsent
  pub in_flight : new.in_flight ≡ old.in_flight

-- nothing was sent, and no message has gone on
pub record StaysFirst (old new : QueueView) (before after : LinkView) : Type 0 where
  pub stands : Stands old new
  pub none : SendsNone old.context new.context before after

-- the first message was sent under a permit, and its ack is awaited under its tag
pub record SendsFirst (old new : QueueView) (before after : LinkView) : Type 0 where
  pub first : Unsent
  pub ack : InFlight
  pub was : old.unsent ≡ first ∷ new.unsent
  pub is : new.in_flight ≡ old.in_flight ++ ack ∷ []
  pub tag : ack.tag ≡ first.tag
  pub sends : SendsUnder first.message ack.future old.context new.context before after

-- Why a message is given up. It can't be sent; or it could not be sent now, and has waited for as long as a message may.
abbrev pub IsGivenUpFor : PublishErrorKind → Unsent → ℕ → ℕ → ContextView → ContextView → LinkView → LinkView → Type 0
IsGivenUpFor why u send_timeout now c d before after =
    IsBarred why u.message before ⊎ (IsPrevented why u.message c d before after × (is_over u.since send_timeout now ≡ true))

-- the first message was given up, and the reason is its outcome
pub record GivesUp (now : ℕ) (published : Published) (old new : QueueView) (before after : LinkView) : Type 0 where
  pub first : Unsent
  pub was : old.unsent ≡ first ∷ new.unsent
  pub in_flight : new.in_flight ≡ old.in_flight
  pub tag : published.tag ≡ first.tag
  pub why : PublishErrorKind
  pub outcome : published.outcome ≡ Err (plain why)
  pub because : IsGivenUpFor why first old.send_timeout now old.context new.context before after
  pub none : SendsNone old.context new.context before after

-- what a try to send the first message comes to
abbrev pub TriesFirst : ℕ → StepResult → QueueView → QueueView → LinkView → LinkView → Type 0
TriesFirst now Made old new before after = SendsFirst old new before after
TriesFirst now (Over published) old new before after = GivesUp now published old new before after
TriesFirst now Stays old new before after = StaysFirst old new before after
TriesFirst now NoMemory old new before after = StaysFirst old new before after

-- the first ack was looked at, is not known, and went behind the others
pub record GoesBehind (now : ℕ) (left : PublishAckFuture → AckTurn) (old new : QueueView) (before after : LinkView) : Type 0 where
  pub unsent : new.unsent ≡ old.unsent
  pub first : InFlight
  pub next : InFlight
  pub rest : List InFlight
  pub was : old.in_flight ≡ first ∷ rest
  pub is : new.in_flight ≡ rest ++ next ∷ []
  pub tag : next.tag ≡ first.tag
  pub polled : AckPolled first.future.reply first.future now (left next.future) old.context new.context before after

-- the first ack is known, and what it answered is the outcome of its message
pub record Settles (now : ℕ) (published : Published) (old new : QueueView) (before after : LinkView) : Type 0 where
  pub unsent : new.unsent ≡ old.unsent
  pub ack : InFlight
  pub was : old.in_flight ≡ ack ∷ new.in_flight
  pub tag : published.tag ≡ ack.tag
  pub polled : AckPolled ack.future.reply ack.future now (Ready published.outcome) old.context new.context before after

-- no message is in flight, and nothing was done
pub record LooksAtNone (old new : QueueView) (before after : LinkView) : Type 0 where
  pub none : old.in_flight ≡ []
  pub same : new ≡ old
  pub link : after ≡ before

-- what a look at the first ack comes to
abbrev pub Looks : ℕ → StepResult → QueueView → QueueView → LinkView → LinkView → Type 0
Looks now (Over published) old new before after = Settles now published old new before after
Looks now Made old new before after = GoesBehind now (λ next. Pending next) old new before after
Looks now NoMemory old new before after = GoesBehind now (λ next. OutOfMemory next) old new before after
Looks now Stays old new before after = LooksAtNone old new before after
