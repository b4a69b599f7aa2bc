-- The readers of consumers as subscriptions: what a poll of each does, what is due, and when nothing has come for it.
use Rattle.std.specs.Prelude.{ℕ, ◌≡◌, Bool, true, false, [], ⊤, Option, Some, None, Result}
use Rattle.js_base.specs.declared.error.Error.{Error}
use Rattle.js_base.specs.declared.turn.Next.{Next}
use Rattle.js_link.specs.LinkView.{LinkView}
use Rattle.js_link.specs.Meets.{Meets}
use Rattle.js_link.specs.Wish.{watch_met}
use Rattle.js_link.specs.declared.sent.InboxId.{InboxId}
use Rattle.js_message.specs.declared.message.Message.{Message}
use Rattle.js_pull.specs.Poll.{IsPoll, Position, change_met}
use Rattle.js_pull.specs.Stream.{position_of, seen_by}
use Rattle.js_pull.specs.Timers.{IsUnanswered, something_due}
use Rattle.js_pull.specs.declared.reader.MessagesErrorKind.{MessagesErrorKind}
use Rattle.js_readers.specs.Batch.{IsQuietAt}
use Rattle.js_readers.specs.Sequence.{KeepsAsking, PollsSequence}
use Rattle.js_readers.specs.Stream.{IsTimed, given_answer}
use Rattle.js_readers.specs.declared.pull.batch.Batch.{Batch}
use Rattle.js_readers.specs.declared.pull.sequence.Sequence.{Sequence}
use Rattle.js_readers.specs.declared.pull.stream.Stream.{Stream}
use Rattle.js_readers.specs.declared.push.messages.Messages.{Messages}
use Rattle.js_readers.specs.declared.push.row.Row.TheVariants.{CheckArrival}

-- ---- a stream

-- a poll of a stream, whose messages wait as long as before for the answer to a double ack
pub record PollsStream (now : ℕ) (old new : Stream) (before after : LinkView) (result : Next (Result Message (Error MessagesErrorKind))) : Type 0 where
  pub polls : IsPoll Meets now (position_of old.reader) (position_of new.reader) (seen_by old.reader before) (seen_by new.reader after) (given_answer result)
  pub timed : IsTimed old.timeout result
  pub kept : new.timeout ≡ old.timeout

-- a row of its last event is left, or one of its timers is due
abbrev pub stream_due : ℕ → Stream → Bool
stream_due now s = something_due now (position_of s.reader)

-- nothing has come for a stream at rest: its inbox is open and empty, and there is no answer to its info request
pub record IsRestingAt (at : Position) (v : LinkView) : Type 0 where
  pub rests : at.todo ≡ []
  pub alive : at.reader.ended ≡ false
  pub connection : change_met at.connection (watch_met v.watch) ≡ None
  pub is_open : v.is_open at.reader.source.inbox ≡ true
  pub empty : v.count at.reader.source.inbox ≡ 0
  pub unanswered : IsUnanswered at.reader.inquiry v

abbrev pub IsStreamQuiet : Stream → LinkView → Type 0
IsStreamQuiet s v = IsRestingAt (position_of s.reader) (seen_by s.reader v)

abbrev pub stream_inbox : Stream → Option InboxId
stream_inbox s = Some (record { 0 = (position_of s.reader).reader.source.inbox })

-- ---- batches

abbrev pub IsBatchQuiet : Batch → LinkView → Type 0
IsBatchQuiet b v = IsQuietAt b.inbox v

-- a poll of a sequence, which keeps what it asks for
abbrev pub PollsBatches : ℕ → Sequence → Sequence → LinkView → LinkView → Next (Result Batch (Error MessagesErrorKind)) → Type 0
PollsBatches now old new before after result = PollsSequence now old result new before after × KeepsAsking old new

-- a sequence asks for the next batch whenever it is polled
abbrev pub sequence_due : ℕ → Sequence → Bool
sequence_due now s = true

abbrev pub IsSequenceQuiet : Sequence → LinkView → Type 0
IsSequenceQuiet s v = ⊤

-- ---- the messages of a push consumer

-- no heartbeat is to be answered, and its inbox is open and empty
pub record IsPushQuiet (r : Messages) (v : LinkView) : Type 0 where
  pub rests : r.next ≡ CheckArrival
  pub is_open : v.is_open r.inbox ≡ true
  pub empty : v.count r.inbox ≡ 0

abbrev pub messages_inbox : Messages → Option InboxId
messages_inbox r = Some (record { 0 = r.inbox })
