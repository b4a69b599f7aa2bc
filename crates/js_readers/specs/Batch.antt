-- A batch: how it is opened, and what a poll of it does.
use Rattle.std.specs.Prelude.{ℕ, ◌≡◌, ◌==◌, ◌+◌, ◌-◌, ◌*◌, Bool, true, false, Option, Some, None, List, [], ◌∷◌, Result, Ok, Err, if◌then◌else◌}
use Rattle.std.specs.List.{AllByRecursion}
use Rattle.js_base.specs.Clock.{second, is_any_due}
use Rattle.js_base.specs.Error.{plain}
use Rattle.js_base.specs.declared.clock.Timer.{Timer}
use Rattle.js_base.specs.declared.error.Error.{Error}
use Rattle.js_base.specs.declared.message.Message as base
use Rattle.js_base.specs.declared.turn.Next.{Next}
use Rattle.js_base.specs.declared.turn.Next.TheVariants as next
use Rattle.js_json.specs.declared.pull.batch.BatchConfig.{BatchConfig}
use Rattle.js_json.specs.declared.pull.Config as pull
use Rattle.js_link.specs.LinkView.{LinkView}
use Rattle.js_link.specs.Calls.{Takes, TakesOf, Closes}
use Rattle.js_link.specs.declared.link.Taken.{Taken}
use Rattle.js_link.specs.declared.link.Taken.TheVariants as taken
use Rattle.js_link.specs.declared.sent.InboxId.{InboxId}
use Rattle.js_message.specs.declared.message.Message.{Message}
use Rattle.js_call_consumers.specs.declared.consumer.Consumer.{Consumer}
use Rattle.js_pull.specs.Reader.{timer_from}
use Rattle.js_readers.specs.declared.pull.error.BatchErrorKind.{BatchErrorKind}
use Rattle.js_readers.specs.declared.pull.error.BatchErrorKind.TheVariants as kind
use Rattle.js_readers.specs.declared.pull.request.OpenFault.{OpenFault}
use Rattle.js_readers.specs.declared.pull.request.OpenFault.TheVariants as fault
use Rattle.js_readers.specs.declared.pull.batch.Batch.{Batch}
use Rattle.js_readers.specs.declared.pull.batch.BatchOutcome.{BatchOutcome}
use Rattle.js_readers.specs.declared.pull.batch.BatchOutcome.TheVariants.{Skips, Hands, Refuses}
use Rattle.js_readers.specs.declared.pull.batch.BatchOutcome.TheVariants as heard_as
use Rattle.js_readers.specs.declared.pull.batch_item.ArrivalKind.{ArrivalKind}
use Rattle.js_readers.specs.declared.pull.batch_item.ArrivalKind.TheVariants.{Delivered, Heartbeat, Over, Refusal}
use Rattle.js_readers.specs.declared.pull.batch_item.BatchItemError.{BatchItemError}
use Rattle.js_readers.specs.BatchItem.{arrival_of}
use Rattle.js_readers.specs.PullConsumer.{is_pinned, message_timeout, pull_request}
use Rattle.js_readers.specs.PullRequest.{OpensFor}

-- ---- it is opened

-- five seconds after the expiry, where there is one; a wait that is longer than any time is none
abbrev pub batch_timer : ℕ → Option ℕ → Option Timer
batch_timer now None = None
batch_timer now (Some expires) = timer_from now (expires + 5 * second)

-- a batch of so many messages, which come to this inbox
abbrev pub new_batch : ℕ → ℕ → Option Timer → ℕ → Batch
new_batch inbox left timer timeout = record { inbox = Some inbox; left = left; timer = timer; timeout = timeout }

abbrev pub batch_fault : OpenFault → BatchErrorKind
batch_fault fault.Subscribe = kind.Subscribe
batch_fault fault.Pull = kind.Pull
batch_fault fault.OutOfMemory = kind.OutOfMemory

-- an inbox is open, the request has gone out, and the batch has its number of messages before it
pub record AsksForBatch (b : Batch) (now : ℕ) (c : Consumer pull.Config) (config : BatchConfig) (old new : LinkView) : Type 0 where
  pub inbox : ℕ
  pub sends : OpensFor (Ok inbox) (pull_request c config) old new
  pub batch : b ≡ new_batch inbox config.batch (batch_timer now config.expires) (message_timeout c.scope.timeout)

-- no batch, and why
pub record RefusesBatch (e : Error BatchErrorKind) (c : Consumer pull.Config) (config : BatchConfig) (old new : LinkView) : Type 0 where
  pub cause : OpenFault
  pub fails : OpensFor (Err cause) (pull_request c config) old new
  pub error : e ≡ plain (batch_fault cause)

-- pinned clients are refused first, and nothing is sent
abbrev pub OpensUnlessPinned : Bool → Result Batch (Error BatchErrorKind) → ℕ → Consumer pull.Config → BatchConfig → LinkView → LinkView → Type 0
OpensUnlessPinned true result now c config old new = (result ≡ Err (plain kind.PinnedClient)) × (new ≡ old)
OpensUnlessPinned false (Ok b) now c config old new = AsksForBatch b now c config old new
OpensUnlessPinned false (Err e) now c config old new = RefusesBatch e c config old new

-- what `messages` of the builders of batches does
abbrev pub OpensBatch : Result Batch (Error BatchErrorKind) → ℕ → Consumer pull.Config → BatchConfig → LinkView → LinkView → Type 0
OpensBatch result now c config old new = OpensUnlessPinned (is_pinned c.config.priority_policy) result now c config old new

-- ---- it is let go

-- the inbox that it reads, until it has ended
abbrev pub inbox_id : Option ℕ → Option InboxId
inbox_id None = None
inbox_id (Some inbox) = Some (record { 0 = inbox })

-- ---- it is polled

-- what a poll answers
abbrev pub BatchAnswer : Type 0
BatchAnswer = Next (Result Message BatchItemError)

-- what a message is
abbrev pub heard_message : ArrivalKind → base.Message → BatchOutcome
heard_message Delivered m = Hands m
heard_message Heartbeat m = Skips
heard_message Over m = heard_as.Ends
heard_message (Refusal status) m = Refuses (record { status = status; description = m.description })

-- what a batch makes of what its inbox gave: an empty one ends it where its time is over, and a closed one ends it
abbrev pub heard : ℕ → Batch → Taken → BatchOutcome
heard now b (taken.Message m) = heard_message (arrival_of m.status) m
heard now b taken.Empty = if is_any_due b.timer now then heard_as.Ends else heard_as.Waits
heard now b taken.Closed = heard_as.Ends

-- it has ended
abbrev pub ended : Batch → Batch
ended b = record b { inbox = None }

-- one message less is to come, and with the last one it ends
abbrev pub after_message : Batch → Batch
after_message b = record b { left = b.left - 1; inbox = (if b.left == 1 then None else b.inbox) }

-- an inbox is closed, or nothing is done
abbrev pub ClosesIf : Bool → ℕ → LinkView → LinkView → Type 0
ClosesIf true inbox old new = Closes inbox old new
ClosesIf false inbox old new = new ≡ old

-- these messages are taken from an inbox, one after the other
abbrev pub TakesAll : ℕ → List base.Message → LinkView → LinkView → Type 0
TakesAll inbox [] old new = new ≡ old
TakesAll inbox (m ∷ ms) old new = (between : LinkView) × (Takes inbox m old between × TakesAll inbox ms between new)

-- what was heard is answered, and no inbox stays open of a batch that ends
abbrev pub AnswersTo : BatchOutcome → ℕ → Batch → BatchAnswer → Batch → LinkView → LinkView → Type 0
AnswersTo Skips inbox old answer new v u = ⊥
AnswersTo heard_as.Waits inbox old answer new v u = (answer ≡ next.Pending) × (new ≡ old) × (u ≡ v)
AnswersTo (Hands m) inbox old answer new v u =
    (answer ≡ next.Item (Ok (record { message = m; timeout = old.timeout }))) × (new ≡ after_message old) × ClosesIf (old.left == 1) inbox v u
AnswersTo (Refuses e) inbox old answer new v u = (answer ≡ next.Item (Err e)) × (new ≡ ended old) × Closes inbox v u
AnswersTo heard_as.Ends inbox old answer new v u = (answer ≡ next.End) × (new ≡ ended old) × Closes inbox v u

-- a message is a heartbeat
abbrev pub IsHeartbeat : base.Message → Type 0
IsHeartbeat m = arrival_of m.status ≡ Heartbeat

-- heartbeats are passed over, and what the inbox gives after them is answered
pub record ReadsBatch (now inbox : ℕ) (old : Batch) (answer : BatchAnswer) (new : Batch) (before after : LinkView) : Type 0 where
  pub heartbeats : List base.Message
  pub are : AllByRecursion IsHeartbeat heartbeats
  pub passed : LinkView
  pub takes_all : TakesAll inbox heartbeats before passed
  pub found : Taken
  pub between : LinkView
  pub takes : TakesOf inbox found passed between
  pub answers : AnswersTo (heard now old found) inbox old answer new between after

-- one that has ended ends again, and so does one of which nothing is to come
abbrev pub PollsFrom : Option ℕ → Bool → ℕ → Batch → BatchAnswer → Batch → LinkView → LinkView → Type 0
PollsFrom None none_left now old answer new before after = (answer ≡ next.End) × (new ≡ old) × (after ≡ before)
PollsFrom (Some inbox) true now old answer new before after = (answer ≡ next.End) × (new ≡ ended old) × Closes inbox before after
PollsFrom (Some inbox) false now old answer new before after = ReadsBatch now inbox old answer new before after

-- what `poll_next` does
abbrev pub PollsBatch : ℕ → Batch → BatchAnswer → Batch → LinkView → LinkView → Type 0
PollsBatch now old answer new before after = PollsFrom old.inbox (old.left == 0) now old answer new before after

-- ---- when it has something to do by itself

abbrev pub due_from : Option ℕ → Bool → Option Timer → ℕ → Bool
due_from None none_left timer now = false
due_from (Some inbox) true timer now = true
due_from (Some inbox) false timer now = is_any_due timer now

-- its time is over, or nothing is to come; one that has ended has nothing to do
abbrev pub batch_due : ℕ → Batch → Bool
batch_due now b = due_from b.inbox (b.left == 0) b.timer now

-- its inbox is open, and nothing lies in it
abbrev pub IsQuietAt : Option ℕ → LinkView → Type 0
IsQuietAt None v = ⊥
IsQuietAt (Some inbox) v = (v.is_open inbox ≡ true) × (v.count inbox ≡ 0)

-- it waits then, and does nothing
pub record Sleeps (old : Batch) (answer : BatchAnswer) (new : Batch) (before after : LinkView) : Type 0 where
  pub waits : answer ≡ next.Pending
  pub stays : new ≡ old
  pub same : after ≡ before

abbrev pub SleepsIfQuiet : ℕ → Batch → BatchAnswer → Batch → LinkView → LinkView → Type 0
SleepsIfQuiet now old answer new before after = IsQuietAt old.inbox before → batch_due now old ≡ false → Sleeps old answer new before after
