-- A worker of a queue: what each of its calls does.
use Rattle.std.specs.Prelude.{ℕ, ◌≡◌, ◌==◌, ◌/◌, ◌*◌, ◌-◌, Bool, true, false, ◌&&◌, not, is_none, ⊤, List, Option, Some, None, option_map, Result, Ok, Err, if◌then◌else◌, refl}
use Rattle.js_base.specs.Clock.{is_any_due, second}
use Rattle.js_base.specs.declared.clock.Timer.{Timer}
use Rattle.js_base.specs.declared.turn.Next.{Next}
use Rattle.js_base.specs.declared.turn.Next.TheVariants as next
use Rattle.js_link.specs.LinkView.{LinkView}
use Rattle.js_link.specs.declared.sent.InboxId.{InboxId}
use Rattle.js_message.specs.Acknowledgement.{Acks, ack_body}
use Rattle.js_message.specs.declared.ack_kind.AckKind.{AckKind}
use Rattle.js_message.specs.declared.ack_kind.AckKind.TheVariants.{Nak, Progress}
use Rattle.js_message.specs.declared.acker.AckError.{AckError}
use Rattle.js_message.specs.declared.acker.AckError.TheVariants.{NoReply, OutOfMemory}
use Rattle.js_message.specs.declared.message.Message.{Message}
use Rattle.js_ordered_stream.specs.Inbox.{ClosesInbox}
use Rattle.js_readers_worker.specs.declared.error.WorkerError.{WorkerError}
use Rattle.js_readers_worker.specs.declared.error.WorkerError.TheVariants as error
use Rattle.js_readers_worker.specs.declared.job.Job.{Job}
use Rattle.js_readers_worker.specs.declared.worker.Worker.{Worker}

-- ---- a message that is being worked on

-- half of an ack wait, from a moment on; without a wait there is none
abbrev pub extension : ℕ → ℕ → Option Timer
extension now ack_wait = if ack_wait == 0 then None else Some (record { set = now; wait = ack_wait / 2 })

-- the work on a message, which begins at this moment
abbrev pub new_job : ℕ → ℕ → Message → Job
new_job now ack_wait message = record { message = message; extension = extension now ack_wait }

-- the server has to be told that the message is still being worked on
abbrev pub job_due : ℕ → Job → Bool
job_due now job = is_any_due job.extension now

-- the half begins anew
abbrev pub extended : ℕ → ℕ → Job → Job
extended now ack_wait job = record job { extension = extension now ack_wait }

-- the message that is being worked on
abbrev pub message_of : Option Job → Option Message
message_of job = option_map (λ job. job.message) job

-- worked: of thirty seconds, which begin at 100 seconds, the half is over at 115, and not before
worked_half : (is_any_due (extension (100 * second) (30 * second)) (115 * second) ≡ true) × (is_any_due (extension (100 * second) (30 * second)) (115 * second - 1) ≡ false)
worked_half = (refl, refl)

-- worked: a consumer without an ack wait is told nothing
worked_none : (now : ℕ) → is_any_due (extension 0 0) now ≡ false
worked_none now = refl

-- ---- its ack wait is extended

-- why Progress was not sent, if it was not
abbrev pub ack_of : Option AckError → Result (Unit {0}) AckError
ack_of None = Ok tt
ack_of (Some e) = Err e

-- the half begins anew once Progress was sent, and where the link refused it; where there was no memory the next poll sends it
abbrev pub after_extension : Option AckError → ℕ → ℕ → Job → Job
after_extension (Some OutOfMemory) now ack_wait job = job
after_extension told now ack_wait job = extended now ack_wait job

-- Progress goes to the reply subject of the message
abbrev pub SendsProgress : ℕ → ℕ → Job → Job → Option AckError → LinkView → LinkView → Type 0
SendsProgress now ack_wait old new told before after =
    Acks old.message.message.reply (ack_body Progress) (ack_of told) before after × (new ≡ after_extension told now ack_wait old)

-- it is sent where it is due, and else nothing is done
abbrev pub ExtendsIf : Bool → ℕ → ℕ → Job → Job → Option AckError → LinkView → LinkView → Type 0
ExtendsIf true now ack_wait old new told before after = SendsProgress now ack_wait old new told before after
ExtendsIf false now ack_wait old new told before after = (told ≡ None) × (new ≡ old) × (after ≡ before)

abbrev pub Extends : ℕ → ℕ → Job → Job → Option AckError → LinkView → LinkView → Type 0
Extends now ack_wait old new told before after = ExtendsIf (job_due now old) now ack_wait old new told before after

-- ---- a poll

-- what a poll answers, where the errors of its subscription are of this type
abbrev pub Told : Type 0 → Type 0
Told E = Next (Result (Unit {0}) (WorkerError E))

-- what a poll of a subscription does
abbrev pub ReaderPolls : Type 0 → Type 0 → Type 1
ReaderPolls R E = ℕ → R → R → LinkView → LinkView → Next (Result Message E) → Type 0

-- a new worker, which has no message
abbrev pub new_worker : {R : Type 0} → R → ℕ → Worker R
new_worker reader ack_wait = record { reader = reader; job = None; ack_wait = ack_wait; is_stopped = false }

-- an extension is told where it failed
abbrev pub told_by_ack : {E : Type 0} → Option AckError → Told E
told_by_ack None = next.Pending
told_by_ack (Some OutOfMemory) = next.OutOfMemory
told_by_ack (Some e) = next.Item (Err (error.Ack e))

-- the answer of the subscription is told: of a message, that there is one
abbrev pub told_of : {E : Type 0} → Next (Result Message E) → Told E
told_of (next.Item (Ok message)) = next.Item (Ok tt)
told_of (next.Item (Err e)) = next.Item (Err (error.Subscription e))
told_of next.Pending = next.Pending
told_of next.End = next.End
told_of next.OutOfMemory = next.OutOfMemory

-- the work begins on a message that was answered
abbrev pub job_after : {E : Type 0} → ℕ → ℕ → Next (Result Message E) → Option Job
job_after now ack_wait (next.Item (Ok message)) = Some (new_job now ack_wait message)
job_after now ack_wait answer = None

-- the subscription is polled once, and the work begins on its message
pub record TakesNext {R E : Type 0} (polls : ReaderPolls R E) (now : ℕ) (old : Worker R) (told : Told E) (new : Worker R) (before after : LinkView) : Type 0 where
  pub answer : Next (Result Message E)
  pub polled : polls now old.reader new.reader before after answer
  pub is_told : told ≡ told_of answer
  pub begins : new ≡ record old { reader = new.reader; job = job_after now old.ack_wait answer }

-- the ack wait of its message is extended if that is due
pub record ExtendsJob {R E : Type 0} (now : ℕ) (job : Job) (old : Worker R) (told : Told E) (new : Worker R) (before after : LinkView) : Type 0 where
  pub later : Job
  pub refused : Option AckError
  pub extends : Extends now old.ack_wait job later refused before after
  pub is_told : told ≡ told_by_ack refused
  pub keeps : new ≡ record old { job = Some later }

-- a worker with a message extends its ack wait, and takes none; one without takes the next, unless it was stopped
abbrev pub PollsAt : {R E : Type 0} → Option Job → Bool → ReaderPolls R E → ℕ → Worker R → Told E → Worker R → LinkView → LinkView → Type 0
PollsAt (Some job) is_stopped polls now old told new before after = ExtendsJob now job old told new before after
PollsAt None true polls now old told new before after = (told ≡ next.End) × (new ≡ old) × (after ≡ before)
PollsAt None false polls now old told new before after = TakesNext polls now old told new before after

abbrev pub PollsWorker : {R E : Type 0} → ReaderPolls R E → ℕ → Worker R → Told E → Worker R → LinkView → LinkView → Type 0
PollsWorker polls now old told new before after = PollsAt old.job old.is_stopped polls now old told new before after

-- ---- when it has something to do by itself

-- its message has to be extended, or its subscription has something to do; one that was stopped and has no message has nothing
abbrev pub due_at : Option Job → Bool → ℕ → Bool → Bool
due_at (Some job) is_stopped now below = job_due now job
due_at None true now below = false
due_at None false now below = below

abbrev pub worker_due : {R : Type 0} → (ℕ → R → Bool) → ℕ → Worker R → Bool
worker_due due now w = due_at w.job w.is_stopped now (due now w.reader)

-- it has a message, for which nothing need come; or nothing has come for its subscription. One that was stopped and has no message is at its end
abbrev pub IsQuietAt : Option Job → Bool → Type 0 → Type 0
IsQuietAt (Some job) is_stopped below = ⊤
IsQuietAt None true below = ⊥
IsQuietAt None false below = below

abbrev pub IsWorkerQuiet : {R : Type 0} → (R → LinkView → Type 0) → Worker R → LinkView → Type 0
IsWorkerQuiet quiet w v = IsQuietAt w.job w.is_stopped (quiet w.reader v)

-- ---- a message is settled

-- whether there was a message, or why nothing was sent
abbrev pub settled_by : Result (Unit {0}) AckError → Result Bool AckError
settled_by (Ok done) = Ok true
settled_by (Err e) = Err e

-- the message is let go once it was sent what became of it, or where there is no subject to send it to
abbrev pub job_left : Result (Unit {0}) AckError → Job → Option Job
job_left (Ok done) job = None
job_left (Err NoReply) job = None
job_left (Err e) job = Some job

-- what became of the message goes to its reply subject
pub record SettlesJob {R : Type 0} (kind : AckKind) (job : Job) (old : Worker R) (result : Result Bool AckError) (new : Worker R) (before after : LinkView) : Type 0 where
  pub ack : Result (Unit {0}) AckError
  pub acks : Acks job.message.message.reply (ack_body kind) ack before after
  pub told : result ≡ settled_by ack
  pub leaves : new ≡ record old { job = job_left ack job }

-- without a message nothing is done
abbrev pub SettlesAt : {R : Type 0} → Option Job → AckKind → Worker R → Result Bool AckError → Worker R → LinkView → LinkView → Type 0
SettlesAt None kind old result new before after = (result ≡ Ok false) × (new ≡ old) × (after ≡ before)
SettlesAt (Some job) kind old result new before after = SettlesJob kind job old result new before after

abbrev pub Settles : {R : Type 0} → AckKind → Worker R → Result Bool AckError → Worker R → LinkView → LinkView → Type 0
Settles kind old result new before after = SettlesAt old.job kind old result new before after

-- ---- it ends

-- there is a message
abbrev pub has_job : Option Job → Bool
has_job None = false
has_job (Some job) = true

-- the message is let go without a word
pub record ReleasesJob {R : Type 0} (old : Worker R) (result : Bool) (new : Worker R) : Type 0 where
  pub told : result ≡ has_job old.job
  pub leaves : new ≡ record old { job = None }

-- it was stopped, and has no message
abbrev pub IsDone : {R : Type 0} → Bool → Worker R → Type 0
IsDone result w = result ≡ w.is_stopped && not (has_job w.job)

-- a message that is left is naked, or the link did not send that
abbrev pub NaksJob : Option Job → LinkView → LinkView → Type 0
NaksJob None before after = after ≡ before
NaksJob (Some job) before after = (ack : Result (Unit {0}) AckError) × Acks job.message.message.reply (ack_body (Nak None)) ack before after

-- a message that is left is naked, and then the inbox is closed
pub record ClosesWorker (inbox : Option InboxId) (job : Option Job) (before after : LinkView) : Type 0 where
  pub between : LinkView
  pub naks : NaksJob job before between
  pub closes : ClosesInbox inbox between after
