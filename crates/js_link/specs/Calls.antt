-- What each call of a link does to what the link means.
use Rattle.std.specs.Prelude.{ℕ, ◌≡◌, ◌≢◌, ◌+◌, ◌≤◌, ◌<◌, true, false, Option, Some, None, IfSome, List, [], ◌∷◌, Result, Ok, Err, ◌⊎◌}
use Rattle.js_base.specs.declared.headers.Header.{Header}
use Rattle.js_base.specs.declared.message.Message.{Message}
use Rattle.js_base.specs.declared.subject.Subject.{Subject}
use Rattle.js_link.specs.declared.sent.Sent.TheVariants.{Request, Publish, Subscribe}
use Rattle.js_link.specs.declared.sent.InboxId.{InboxId}
use Rattle.js_link.specs.declared.sent.RequestId.{RequestId}
use Rattle.js_link.specs.declared.link.LinkError.{LinkError}
use Rattle.js_link.specs.declared.link.LinkError.TheVariants.{Failed, OutOfMemory}
use Rattle.js_link.specs.declared.link.Taken.{Taken}
use Rattle.js_link.specs.declared.link.Taken.TheVariants as taken
use Rattle.js_link.specs.declared.link.Answer.{Answer}
use Rattle.js_link.specs.declared.link.Answer.TheVariants as answer
use Rattle.js_link.specs.LinkView.{LinkView, Waits, Answered, Ended, put, after, with_first, past_inbox, past_request, past_fresh, HasRisen}

-- a call failed: a fault was counted, and nothing else has changed
pub record Fails (old new : LinkView) : Type 0 where
  pub rises : old.faults ≤ new.faults
  pub risen : HasRisen old.faults new.faults
  pub same : new ≡ record old { faults = new.faults }

-- a send failed, at a link that is not known to be up
pub record FailsToSend (old new : LinkView) : Type 0 where
  pub not_up : old.up ≢ Some true
  pub fails : Fails old new

-- no subject was named: told numbers are at their end
pub record FailsToName (old new : LinkView) : Type 0 where
  pub at_end : IfSome old.numbers (λ n. n.fresh ≡ 18446744073709551615)
  pub fails : Fails old new

-- a call that sends was refused: it has changed nothing, and a failure is counted
abbrev pub RefusedSend : LinkError → LinkView → LinkView → Type 0
RefusedSend Failed old new = FailsToSend old new
RefusedSend OutOfMemory old new = new ≡ old

-- a message was sent, at a link that is not known to be down
pub record Publishes (subject : List ℕ) (reply : Option (List ℕ)) (headers : Option (List Header)) (payload : List ℕ) (old new : LinkView) : Type 0 where
  pub not_down : old.up ≢ Some false
  pub same : new ≡ record old { sent = after old.sent (Publish subject reply headers payload ∷ []) }

-- an inbox was opened, which holds no message
pub record Opens (inbox : ℕ) (subject : List ℕ) (group : Option (List ℕ)) (old new : LinkView) : Type 0 where
  pub not_down : old.up ≢ Some false
  pub unused : old.is_open inbox ≡ false
  pub next : IfSome old.numbers (λ n. inbox ≡ n.inbox)
  pub same : new ≡ record old {
    numbers = past_inbox old.numbers;
    is_open = put old.is_open inbox true;
    count = put old.count inbox 0;
    buffer = put old.buffer inbox (new.buffer inbox);
    sent = after old.sent (Subscribe inbox subject group ∷ []);
  }

-- an inbox was opened under the subject that the link has for it
pub record OpensOwn (inbox : ℕ) (subject : List ℕ) (old new : LinkView) : Type 0 where
  pub opens : Opens inbox subject None old new
  pub named : IfSome old.numbers (λ n. subject ≡ n.inbox_subject inbox)

-- a fresh subject was named
pub record Names (subject : List ℕ) (old new : LinkView) : Type 0 where
  pub named : IfSome old.numbers (λ n. subject ≡ n.fresh_subject n.fresh)
  pub below : IfSome old.numbers (λ n. n.fresh < 18446744073709551615)
  pub same : new ≡ record old { numbers = past_fresh old.numbers }

-- a request was made
pub record Asks (number : ℕ) (subject : List ℕ) (headers : Option (List Header)) (payload : List ℕ) (old new : LinkView) : Type 0 where
  pub not_down : old.up ≢ Some false
  pub unused : old.status number ≡ Ended
  pub next : IfSome old.numbers (λ n. number ≡ n.request)
  pub same : new ≡ record old {
    numbers = past_request old.numbers;
    status = put old.status number (new.status number);
    reply = put old.reply number (new.reply number);
    sent = after old.sent (Request number subject headers payload ∷ []);
  }

-- an inbox is no more
pub record Closes (inbox : ℕ) (old new : LinkView) : Type 0 where
  pub same : new ≡ record old {
    is_open = put old.is_open inbox false;
    count = put old.count inbox 0;
    buffer = put old.buffer inbox (new.buffer inbox);
  }

-- the first message was taken from an inbox
pub record Takes (inbox : ℕ) (message : Message) (old new : LinkView) : Type 0 where
  pub was_open : old.is_open inbox ≡ true
  pub one_less : old.count inbox ≡ new.count inbox + 1
  pub first : old.buffer inbox ≡ with_first message (new.buffer inbox)
  pub same : new ≡ record old {
    count = put old.count inbox (new.count inbox);
    buffer = put old.buffer inbox (new.buffer inbox);
  }

-- the answer to a request was given, and the request is no more
pub record Answers (number : ℕ) (message : Message) (old new : LinkView) : Type 0 where
  pub had_come : old.status number ≡ Answered
  pub told : IfSome (old.reply number) (λ m. m ≡ message)
  pub same : new ≡ record old {
    status = put old.status number Ended;
    reply = put old.reply number (new.reply number);
  }

-- a request is no more, and an answer that came to it is lost
abbrev pub EndsRequest : ℕ → LinkView → LinkView → Type 0
EndsRequest number old new = new ≡ record old { status = put old.status number Ended; reply = put old.reply number None }

-- nobody awaits the answer to a request any more: it is no more, or the link keeps it as it is
abbrev pub Forgets : ℕ → LinkView → LinkView → Type 0
Forgets number old new = (new ≡ old) ⊎ EndsRequest number old new

-- what `take` gives
abbrev pub TakesOf : ℕ → Taken → LinkView → LinkView → Type 0
TakesOf inbox (taken.Message message) old new = Takes inbox message old new
TakesOf inbox taken.Empty old new = (new ≡ old) × (old.is_open inbox ≡ true) × (old.count inbox ≡ 0)
TakesOf inbox taken.Closed old new = (new ≡ old) × (old.is_open inbox ≡ false)

-- what `answer` gives
abbrev pub AnswersOf : ℕ → Answer → LinkView → LinkView → Type 0
AnswersOf number (answer.Got message) old new = Answers number message old new
AnswersOf number answer.Waiting old new = (new ≡ old) × (old.status number ≡ Waits)
AnswersOf number answer.Gone old new = (new ≡ old) × (old.status number ≡ Ended)

-- what `subscribe` does
abbrev pub SubscribesOf : Result InboxId LinkError → List ℕ → Option (List ℕ) → LinkView → LinkView → Type 0
SubscribesOf (Ok inbox) subject group old new = Opens inbox.0 subject group old new
SubscribesOf (Err e) subject group old new = RefusedSend e old new

-- what `open_inbox` does
abbrev pub OpensOf : Result (InboxId × Subject) LinkError → LinkView → LinkView → Type 0
OpensOf (Ok made) old new = OpensOwn made.0.0 made.1 old new
OpensOf (Err e) old new = RefusedSend e old new

-- what `fresh_subject` does
abbrev pub NamesOf : Result Subject LinkError → LinkView → LinkView → Type 0
NamesOf (Ok subject) old new = Names subject old new
NamesOf (Err Failed) old new = FailsToName old new
NamesOf (Err OutOfMemory) old new = new ≡ old

-- what `publish` does
abbrev pub PublishesOf : Result (Unit {0}) LinkError → List ℕ → Option (List ℕ) → Option (List Header) → List ℕ → LinkView → LinkView → Type 0
PublishesOf (Ok _) subject reply headers payload old new = Publishes subject reply headers payload old new
PublishesOf (Err e) subject reply headers payload old new = RefusedSend e old new

-- what `request` does
abbrev pub AsksOf : Result RequestId LinkError → List ℕ → Option (List Header) → List ℕ → LinkView → LinkView → Type 0
AsksOf (Ok request) subject headers payload old new = Asks request.0 subject headers payload old new
AsksOf (Err e) subject headers payload old new = RefusedSend e old new
