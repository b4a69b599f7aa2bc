-- What a poll of a queue does, and whose outcome it hands out.
use Rattle.std.specs.Prelude.{ℕ, ◌≡◌, ◌++◌, ◌⊎◌, ⊤, Option, Some, None, List, [], ◌∷◌, All}
use Rattle.std.specs.List.{Contains}
use Rattle.js_base.specs.declared.turn.Next.{Next}
use Rattle.js_base.specs.declared.turn.Next.TheVariants as next
use Rattle.js_base.specs.declared.turn.Turn.TheVariants.{OutOfMemory, Pending}
use Rattle.js_link.specs.LinkView.{LinkView}
use Rattle.js_link.specs.Calls.{Asks}
use Rattle.js_context_queue.specs.declared.in_flight.InFlight.{InFlight}
use Rattle.js_context_queue.specs.declared.published.Published.{Published}
use Rattle.js_context_queue.specs.declared.unsent.Unsent.{Unsent}
use Rattle.js_context_queue.specs.Queue.{QueueView, Keeps}
use Rattle.js_context_queue.specs.Steps.{GivesUp, GoesBehind, SendsFirst, Settles, StaysFirst}

-- a queue and its link at one time
pub record Place : Type 0 where
  pub queue : QueueView
  pub link : LinkView

-- this queue with this link
abbrev pub place : QueueView → LinkView → Place
place queue link = record { queue = queue; link = link }

-- A step that brings no outcome. The first message was sent, or stays; or the first ack was looked at, and went behind the others: it is pending, or found no memory.
pub record Passes (now : ℕ) (p q : Place) : Type 0 where
  pub keeps : Keeps p.queue q.queue
  pub does :
      (SendsFirst p.queue q.queue p.link q.link ⊎ StaysFirst p.queue q.queue p.link q.link)
      ⊎ (GoesBehind now (λ next. Pending next) p.queue q.queue p.link q.link ⊎ GoesBehind now (λ next. OutOfMemory next) p.queue q.queue p.link q.link)

-- such steps, one after another, each of which ends where the next begins
abbrev pub Leads : ℕ → Place → List Place → Place → Type 0
Leads now p [] q = p ≡ q
Leads now p (next ∷ more) q = Passes now p next × Leads now next more q

-- a step that brings an outcome: what the first ack answered, or why the first message was given up
pub record Tells (now : ℕ) (published : Published) (p q : Place) : Type 0 where
  pub keeps : Keeps p.queue q.queue
  pub does : Settles now published p.queue q.queue p.link q.link ⊎ GivesUp now published p.queue q.queue p.link q.link

-- the end of a poll: its last step, where an outcome is handed out, and else the place that was reached
abbrev pub Ends : ℕ → Option Published → Place → Place → Type 0
Ends now None at q = at ≡ q
Ends now (Some published) at q = Tells now published at q

-- steps, of which only the last brings an outcome
pub record Runs (now : ℕ) (given : Option Published) (p q : Place) : Type 0 where
  pub through : List Place
  pub at : Place  -- before the step that brings the outcome, or else at the end
  pub leads : Leads now p through at
  pub ends : Ends now given at q

-- the outcome that a poll hands out
abbrev pub handed_out : Next Published → Option Published
handed_out (next.Item published) = Some published
handed_out next.Pending = None
handed_out next.End = None
handed_out next.OutOfMemory = None

-- some of these messages have gone, from the front, and the others stand as they stood
pub record IsLeftOf (before left : List Unsent) : Type 0 where
  pub gone : List Unsent
  pub is : before ≡ gone ++ left

-- the ack was asked for by the request that sent one of these messages, and is awaited under its tag
pub record IsSentFrom (unsent : List Unsent) (ack : InFlight) : Type 0 where
  pub message : Unsent
  pub pushed : Contains unsent message
  pub tag : ack.tag ≡ message.tag
  pub before : LinkView
  pub after : LinkView
  pub asks : Asks ack.future.request.0 message.message.subject message.message.headers message.message.payload before after

-- the ack is one of these, of the same request and under the same tag, though its clock may have begun and a reply may be kept
pub record IsStillOneOf (in_flight : List InFlight) (ack : InFlight) : Type 0 where
  pub was : InFlight
  pub flew : Contains in_flight was
  pub tag : ack.tag ≡ was.tag
  pub request : ack.future.request ≡ was.future.request

-- the ack is that of a message of this queue, which was in flight or was sent since
abbrev pub IsAckOf : QueueView → InFlight → Type 0
IsAckOf q ack = IsStillOneOf q.in_flight ack ⊎ IsSentFrom q.unsent ack

-- the outcome is what the ack of its own message answered
pub record IsAnswered (now : ℕ) (published : Published) (p at q : Place) : Type 0 where
  pub settles : Settles now published at.queue q.queue at.link q.link
  pub own : IsAckOf p.queue settles.ack

-- the outcome is why its own message was given up
pub record IsGivenUp (now : ℕ) (published : Published) (p at q : Place) : Type 0 where
  pub gives_up : GivesUp now published at.queue q.queue at.link q.link
  pub own : Contains p.queue.unsent gives_up.first

-- an outcome is that of its own message
abbrev pub IsOwn : ℕ → Option Published → Place → Place → Place → Type 0
IsOwn now None p at q = ⊤
IsOwn now (Some published) p at q = IsAnswered now published p at q ⊎ IsGivenUp now published p at q

-- What a poll does. By its steps one outcome may be handed out, that of its own message, and each ack that is in flight then was in flight before or was sent by them.
pub record Polls (now : ℕ) (given : Option Published) (p q : Place) : Type 0 where
  pub runs : Runs now given p q
  pub own : IsOwn now given p runs.at q
  pub in_flight : All (IsAckOf p.queue) q.queue.in_flight
