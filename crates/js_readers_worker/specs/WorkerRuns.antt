-- A worker over many calls: each message that it takes is settled once, before it takes another.
use Rattle.std.specs.Prelude.{ℕ, ◌≡◌, ◌⊎◌, ⊤, Bool, true, false, List, [], ◌∷◌, ◌++◌, Option, Some, None, Result, Ok, Err}
use Rattle.std.specs.List.{AllByRecursion}
use Rattle.js_base.specs.declared.turn.Next.TheVariants as next
use Rattle.js_link.specs.LinkView.{LinkView}
use Rattle.js_message.specs.declared.ack_kind.AckKind.{AckKind}
use Rattle.js_message.specs.declared.ack_kind.AckKind.TheVariants as kinds
use Rattle.js_message.specs.declared.acker.AckError.{AckError}
use Rattle.js_message.specs.declared.acker.AckError.TheVariants.{NoReply}
use Rattle.js_message.specs.declared.message.Message.{Message}
use Rattle.js_readers_worker.specs.Worker.{PollsWorker, ReaderPolls, ReleasesJob, Settles, Told, job_due, message_of}
use Rattle.js_readers_worker.specs.declared.job.Job.{Job}
use Rattle.js_readers_worker.specs.declared.worker.Worker.{Worker}

-- what a worker does with a message: it takes it, extends its ack wait, settles it by an acknowledgement of this kind, or lets go of it without one
pub data Act : Type 0 where
  Took Extended Released : Message → Act
  Settled : Message → AckKind → Act

-- ---- what is wanted

-- the kinds that settle a message
abbrev pub IsFinal : AckKind → Type 0
IsFinal kinds.Ack = ⊤
IsFinal (kinds.Nak delay) = ⊤
IsFinal kinds.Term = ⊤
IsFinal kind = ⊥

-- These acts follow each other in turn, from the message that the worker has, or none, to the one that it has after them: it takes a message only where it has
-- none, extends the ack wait of the one that it has, and settles or releases that one, after which it has none.
abbrev pub InTurn : Option Message → List Act → Option Message → Type 0
InTurn has [] last = last ≡ has
InTurn None (Took message ∷ acts) last = InTurn (Some message) acts last
InTurn (Some message) (Extended of ∷ acts) last = (of ≡ message) × InTurn (Some message) acts last
InTurn (Some message) (Settled of kind ∷ acts) last = (of ≡ message) × IsFinal kind × InTurn None acts last
InTurn (Some message) (Released of ∷ acts) last = (of ≡ message) × InTurn None acts last
InTurn has acts last = ⊥

-- worked: a message cannot be acknowledged twice, nor another be taken before
worked_twice : (m : Message) (last : Option Message) → InTurn None (Took m ∷ Settled m kinds.Ack ∷ Settled m kinds.Ack ∷ []) last → ⊥
worked_twice m last (same, final, twice) = twice

worked_two : (m n : Message) (last : Option Message) → InTurn None (Took m ∷ Took n ∷ []) last → ⊥
worked_two m n last both = both

-- ---- what each call did

-- the act of a poll: it took the message that the worker has now, or extended the ack wait of the one that it had
abbrev pub polled_acts : {E : Type 0} → Option Job → Option Job → Bool → Told E → List Act
polled_acts None (Some job) due told = Took job.message ∷ []
polled_acts (Some job) later true next.Pending = Extended job.message ∷ []
polled_acts had later due told = []

-- the act of a call that settles
abbrev pub settled_acts : AckKind → Option Job → Result Bool AckError → List Act
settled_acts kind (Some job) (Ok done) = Settled job.message kind ∷ []
settled_acts kind (Some job) (Err NoReply) = Released job.message ∷ []
settled_acts kind had result = []

-- the act of a release
abbrev pub released_acts : Option Job → List Act
released_acts None = []
released_acts (Some job) = Released job.message ∷ []

-- whether its ack wait has to be extended
abbrev pub extension_due : ℕ → Option Job → Bool
extension_due now None = false
extension_due now (Some job) = job_due now job

pub record IsPolled {R E : Type 0} (polls : ReaderPolls R E) (acts : List Act) (old new : Worker R) : Type 0 where
  pub now : ℕ
  pub told : Told E
  pub before : LinkView
  pub after : LinkView
  pub poll : PollsWorker polls now old told new before after
  pub did : acts ≡ polled_acts old.job new.job (extension_due now old.job) told

pub record IsSettled {R : Type 0} (acts : List Act) (old new : Worker R) : Type 0 where
  pub kind : AckKind
  pub final : IsFinal kind
  pub result : Result Bool AckError
  pub before : LinkView
  pub after : LinkView
  pub settles : Settles kind old result new before after
  pub did : acts ≡ settled_acts kind old.job result

pub record IsReleased {R : Type 0} (acts : List Act) (old new : Worker R) : Type 0 where
  pub result : Bool
  pub releases : ReleasesJob old result new
  pub did : acts ≡ released_acts old.job

pub record IsStopped {R : Type 0} (acts : List Act) (old new : Worker R) : Type 0 where
  pub stops : new ≡ record old { is_stopped = true }
  pub did : acts ≡ []

-- one call, at any moment and over any link
abbrev pub IsCall : {R E : Type 0} → ReaderPolls R E → List Act → Worker R → Worker R → Type 0
IsCall polls acts old new = IsPolled polls acts old new ⊎ (IsSettled acts old new ⊎ (IsReleased acts old new ⊎ IsStopped acts old new))

-- ---- all calls

-- call after call, which did these acts
abbrev pub Runs : {R E : Type 0} → ReaderPolls R E → List (List Act) → Worker R → Worker R → Type 0
Runs polls [] first last = last ≡ first
Runs {R = R} polls (acts ∷ calls) first last = (middle : Worker R) × IsCall polls acts first middle × Runs polls calls middle last

-- all acts, one after the other
abbrev pub joined : List (List Act) → List Act
joined [] = []
joined (acts ∷ calls) = acts ++ joined calls

-- however it is called from here on, its acts follow each other in turn
abbrev pub SettlesInTurn : {R E : Type 0} → ReaderPolls R E → Worker R → Type 0
SettlesInTurn {R = R} polls first = (calls : List (List Act)) (last : Worker R) → Runs polls calls first last → InTurn (message_of first.job) (joined calls) (message_of last.job)

-- a message is taken
abbrev pub is_taking : Act → Bool
is_taking (Took message) = true
is_taking act = false

-- however it is called from here on, it takes no message
abbrev pub TakesNothing : {R E : Type 0} → ReaderPolls R E → Worker R → Type 0
TakesNothing {R = R} polls first = (calls : List (List Act)) (last : Worker R) → Runs polls calls first last → AllByRecursion (λ act. is_taking act ≡ false) (joined calls)
