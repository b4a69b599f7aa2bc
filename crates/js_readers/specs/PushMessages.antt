-- What a poll of a push consumer's reader does, and when the reader may be left alone.
use Rattle.std.specs.Prelude.{ℕ, ◌≡◌, ◌≢◌, Bool, true, false, List, [], ◌∷◌, Option, None, Result, Ok, Err}
use Rattle.js_base.specs.Clock.{is_any_due}
use Rattle.js_base.specs.Error.{plain}
use Rattle.js_base.specs.declared.clock.Timer.{Timer}
use Rattle.js_base.specs.declared.error.Error.{Error}
use Rattle.js_base.specs.declared.memory.OutOfMemory.{OutOfMemory}
use Rattle.js_base.specs.declared.message.Message as base
use Rattle.js_base.specs.declared.turn.Next.{Next}
use Rattle.js_base.specs.declared.turn.Next.TheVariants as next
use Rattle.js_link.specs.LinkView.{LinkView}
use Rattle.js_link.specs.Meets.{Meets}
use Rattle.js_link.specs.declared.wish.Met.{Met}
use Rattle.js_link.specs.declared.wish.Met.TheVariants.{Took, Empty, Shut}
use Rattle.js_link.specs.declared.link.Taken.{Taken}
use Rattle.js_link.specs.declared.link.Taken.TheVariants as taken
use Rattle.js_message.specs.declared.message.Message.{Message}
use Rattle.js_ordered_table.specs.Arrivals.{answer_subject}
use Rattle.js_readers.specs.PushRows.{answer_wish, pass, wish}
use Rattle.js_readers.specs.declared.push.error.MessagesErrorKind.{MessagesErrorKind}
use Rattle.js_readers.specs.declared.push.error.MessagesErrorKind.TheVariants as error
use Rattle.js_readers.specs.declared.push.messages.Messages.{Messages}
use Rattle.js_readers.specs.declared.push.row.Row.{Row}
use Rattle.js_readers.specs.declared.push.row.Row.TheVariants.{Arm, CheckArrival, Answer, Ended}
use Rattle.js_readers.specs.declared.push.row.RowOutcome.{RowOutcome}
use Rattle.js_readers.specs.declared.push.row.RowOutcome.TheVariants.{Hands, MissesHeartbeat, Waits, Ends}
use Rattle.js_readers.specs.declared.push.row.RowOutcome.TheVariants as tells

-- ---- one row

-- what an inbox gave, as what is met
abbrev pub met_of : Taken → Met
met_of (taken.Message m) = Took m
met_of taken.Empty = Empty
met_of taken.Closed = Shut

-- a heartbeat was answered where it asks for that, or the link refused to
pub record IsAnswered (m : base.Message) (before after : LinkView) : Type 0 where
  pub met : Met
  pub meets : Meets (answer_wish (answer_subject m)) met before after

-- the next row is passed with what the link gives it, and tells this
pub record Passes (now : ℕ) (told : RowOutcome) (old new : Messages) (before after : LinkView) : Type 0 where
  pub met : Met
  pub meets : Meets (wish old.next old.inbox) met before after
  pub passed : pass now met old.next old ≡ record { told = told; messages = new }

-- there was no memory for an answer that is asked for, and nothing was done
abbrev pub IsUnanswered : base.Message → LinkView → LinkView → Type 0
IsUnanswered m before after = (answer_subject m ≢ None) × (after ≡ before)

-- nothing but such an answer wants memory, and it is still to be given
pub record Lacks (old new : Messages) (before after : LinkView) : Type 0 where
  pub message : base.Message
  pub row : old.next ≡ Answer message
  pub unanswered : IsUnanswered message before after
  pub stays : new ≡ old

-- what a call of `pass` does
abbrev pub PassesRow : Result RowOutcome OutOfMemory → ℕ → Messages → Messages → LinkView → LinkView → Type 0
PassesRow (Ok told) now old new before after = Passes now told old new before after
PassesRow (Err e) now old new before after = Lacks old new before after

-- ---- a poll

-- what a poll answers
abbrev pub PollAnswer : Type 0
PollAnswer = Next (Result Message (Error MessagesErrorKind))

-- row after row is passed that tells nothing
abbrev pub PassesQuietly : ℕ → List Met → Messages → Messages → LinkView → LinkView → Type 0
PassesQuietly now [] old new before after = (new ≡ old) × (after ≡ before)
PassesQuietly now (met ∷ mets) old new before after =
    (next : Messages) × (between : LinkView)
    × Meets (wish old.next old.inbox) met before between
    × (pass now met old.next old ≡ record { told = tells.Nothing; messages = next })
    × PassesQuietly now mets next new between after

-- what the last row tells for an answer
abbrev pub AnswersBy : PollAnswer → ℕ → Messages → Messages → LinkView → LinkView → Type 0
AnswersBy next.Pending now old new before after = Passes now Waits old new before after
AnswersBy (next.Item (Ok m)) now old new before after = Passes now (Hands m.message) old new before after × (m.timeout ≡ new.timeout)
AnswersBy (next.Item (Err e)) now old new before after = Passes now MissesHeartbeat old new before after × (e ≡ plain error.MissingHeartbeat)
AnswersBy next.End now old new before after = Passes now Ends old new before after
AnswersBy next.OutOfMemory now old new before after = Lacks old new before after

-- what `poll_next` does: rows are passed up to the first that tells something, which is the answer
pub record IsPoll (now : ℕ) (old : Messages) (answer : PollAnswer) (new : Messages) (before after : LinkView) : Type 0 where
  pub mets : List Met
  pub last : Messages
  pub between : LinkView
  pub silent : PassesQuietly now mets old last before between
  pub answers : AnswersBy answer now last new between after

-- ---- when it has something to do by itself

abbrev pub due_at : Row → Option Timer → ℕ → Bool
due_at Arm timer now = true
due_at CheckArrival timer now = is_any_due timer now
due_at (Answer m) timer now = true
due_at Ended timer now = false

-- a row is left, or its heartbeat is missing; one that has ended has nothing to do
abbrev pub something_due : ℕ → Messages → Bool
something_due now r = due_at r.next r.heartbeat_timer now

-- it rests, its inbox is open, and nothing lies in it
pub record IsLeftAlone (now : ℕ) (r : Messages) (v : LinkView) : Type 0 where
  pub rests : r.next ≡ CheckArrival
  pub early : something_due now r ≡ false
  pub is_open : v.is_open r.inbox ≡ true
  pub empty : v.count r.inbox ≡ 0

-- it waits then, sends nothing, and is what it was
pub record Sleeps (old : Messages) (answer : PollAnswer) (new : Messages) (before after : LinkView) : Type 0 where
  pub waits : answer ≡ next.Pending
  pub stays : new ≡ old
  pub same : after ≡ before

abbrev pub SleepsIfLeftAlone : ℕ → Messages → PollAnswer → Messages → LinkView → LinkView → Type 0
SleepsIfLeftAlone now old answer new before after = IsLeftAlone now old before → Sleeps old answer new before after
