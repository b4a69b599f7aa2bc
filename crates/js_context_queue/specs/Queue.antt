-- A queue of messages that are published, and what each of its calls does.
use Rattle.std.specs.Prelude.{ℕ, ◌≡◌, ◌≢◌, ◌<◌, ◌++◌, ◌==◌, List, [], ◌∷◌, map, count_by, All}
use Rattle.js_base.specs.declared.turn.Next.{Next}
use Rattle.js_base.specs.declared.turn.Next.TheVariants as next
use Rattle.js_context.specs.Context.{ContextView}
use Rattle.js_context_queue.specs.declared.published.Published.{Published}
use Rattle.js_context_queue.specs.declared.unsent.Unsent.{Unsent}
use Rattle.js_context_queue.specs.declared.in_flight.InFlight.{InFlight}
use Rattle.js_context_queue.specs.SendAttempt.{IsSameCaller}
use Rattle.js_context_queue.specs.InFlight.{AreAwaited, tags_of}

-- what a queue is to those that use it
pub record QueueView : Type 0 where
  pub context : ContextView
  pub unsent : List Unsent  -- the messages that were not sent, in the order in which they were pushed
  pub in_flight : List InFlight  -- the acks of those that were sent, each with the tag of its message
  pub next : ℕ  -- the tag that is given next
  pub send_timeout : ℕ  -- how long a message may wait for its sending

-- the tags of messages that were not sent
abbrev pub waiting_tags : List Unsent → List ℕ
waiting_tags unsent = map (λ u. u.tag.0) unsent

-- the tags of all messages whose outcome is not known
abbrev pub open_tags : QueueView → List ℕ
open_tags q = tags_of q.in_flight ++ waiting_tags q.unsent

-- how often a tag stands among tags
abbrev pub times : ℕ → List ℕ → ℕ
times tag tags = count_by (λ t. t == tag) tags

-- the tag of the outcome that a poll hands out
abbrev pub handed : Next Published → List ℕ
handed (next.Item published) = published.tag.0 ∷ []
handed next.Pending = []
handed next.End = []
handed next.OutOfMemory = []

-- each message whose outcome was not known has it now, and it is handed out, or it is still not known, as often as the message was pushed
abbrev pub EachHasOne : List ℕ → QueueView → QueueView → Type 0
EachHasOne outcomes old new = (tag : ℕ) → times tag (open_tags old) ≡ times tag (outcomes ++ open_tags new)

-- what a poll leaves as it is
pub record Keeps (old new : QueueView) : Type 0 where
  pub caller : IsSameCaller old.context new.context
  pub next : new.next ≡ old.next
  pub send_timeout : new.send_timeout ≡ old.send_timeout

-- where no outcome is handed out, the end comes exactly if no message is left
abbrev pub EndsEmpty : Next Published → QueueView → Type 0
EndsEmpty next.End q = open_tags q ≡ []
EndsEmpty (next.Item published) q = Unit {0}
EndsEmpty next.Pending q = open_tags q ≢ []
EndsEmpty next.OutOfMemory q = open_tags q ≢ []

-- its acks are awaited by its context, and each tag that it gave is below the next
pub record IsQueue (c : ContextView) (unsent : List Unsent) (in_flight : List InFlight) (next : ℕ) : Type 0 where
  pub awaited : AreAwaited in_flight c
  pub sent_below : All (λ f. f.tag.0 < next) in_flight
  pub unsent_below : All (λ u. u.tag.0 < next) unsent
