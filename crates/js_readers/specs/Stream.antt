-- A stream of messages.
use Rattle.std.specs.Prelude.{ℕ, ◌≡◌, ⊤, Bool, None, List, Result, Ok, Err}
use Rattle.js_base.specs.Error.{plain}
use Rattle.js_base.specs.declared.error.Error.{Error}
use Rattle.js_base.specs.declared.message.Message as base
use Rattle.js_base.specs.declared.turn.Next.{Next}
use Rattle.js_base.specs.declared.turn.Next.TheVariants as next
use Rattle.js_json.specs.declared.pull.batch.BatchConfig.{BatchConfig}
use Rattle.js_json.specs.declared.pull.Config as pull
use Rattle.js_link.specs.LinkView.{LinkView}
use Rattle.js_link.specs.Calls.{OpensOwn, RefusedSend}
use Rattle.js_link.specs.declared.link.LinkError.{LinkError}
use Rattle.js_link.specs.declared.link.LinkError.TheVariants as link
use Rattle.js_message.specs.declared.message.Message.{Message}
use Rattle.js_call.specs.declared.scope.ApiScope.{ApiScope}
use Rattle.js_call_consumers.specs.declared.consumer.Consumer.{Consumer}
use Rattle.js_json.specs.declared.consumer.info.Info.{Info}
use Rattle.js_pull.specs.declared.reader.MessagesErrorKind.{MessagesErrorKind}
use Rattle.js_pull.specs.Poll.{PollAnswer}
use Rattle.js_pull.specs.Stream.{advance_answer, opened_at, poll_answer, position_of}
use Rattle.js_pull.specs.declared.stream.Advance as below
use Rattle.js_pull.specs.declared.stream.Advance.TheVariants as part
use Rattle.js_readers.specs.declared.pull.stream_step.Advance.{Advance}
use Rattle.js_readers.specs.declared.pull.stream_step.Advance.TheVariants as advance
use Rattle.js_readers.specs.declared.pull.error.StreamErrorKind.{StreamErrorKind}
use Rattle.js_readers.specs.declared.pull.error.StreamErrorKind.TheVariants.{Other, OutOfMemory}
use Rattle.js_readers.specs.declared.pull.stream.Stream.{Stream}
use Rattle.js_readers.specs.PullConsumer.{info_timeout, is_pinned, message_timeout}

-- why no stream was opened
abbrev pub stream_error_kind : LinkError → StreamErrorKind
stream_error_kind link.Failed = Other
stream_error_kind link.OutOfMemory = OutOfMemory

-- a stream before its opening, over an inbox that was opened: its requests are those of the consumer that the info tells of, for so much
pub record OpensStreamOf (s : Stream) (scope : ApiScope) (info : Info) (config : BatchConfig) (pinned : Bool) (old new : LinkView) : Type 0 where
  pub inbox : ℕ
  pub subject : List ℕ
  pub opens : OpensOwn inbox subject old new
  pub unread : s.reader.held ≡ None
  pub place : position_of s.reader ≡ opened_at scope.prefix info.stream_name info.name (info_timeout scope.timeout old.request_timeout) config pinned inbox subject
  pub timeout : s.timeout ≡ message_timeout scope.timeout

-- nothing was sent, and why
pub record RefusesStream (e : Error StreamErrorKind) (old new : LinkView) : Type 0 where
  pub fault : LinkError
  pub refused : RefusedSend fault old new
  pub error : e ≡ plain (stream_error_kind fault)

-- what `open` does: a stream of the consumer that an info tells of, for so much at a time, where one of its clients is pinned or none
abbrev pub OpensStream : Result Stream (Error StreamErrorKind) → ApiScope → Info → BatchConfig → Bool → LinkView → LinkView → Type 0
OpensStream (Ok s) scope info config pinned old new = OpensStreamOf s scope info config pinned old new
OpensStream (Err e) scope info config pinned old new = RefusesStream e old new

-- what `messages` does
abbrev pub OpensMessages : Result Stream (Error StreamErrorKind) → Consumer pull.Config → BatchConfig → LinkView → LinkView → Type 0
OpensMessages result c config old new = OpensStream result c.scope c.info config (is_pinned c.config.priority_policy) old new

-- an answer as the reader below gives it: its message, without how long its acknowledgement waits
abbrev pub untimed : {E : Type 0} → Next (Result Message E) → Next (Result base.Message E)
untimed (next.Item (Ok given)) = next.Item (Ok given.message)
untimed (next.Item (Err e)) = next.Item (Err e)
untimed next.Pending = next.Pending
untimed next.End = next.End
untimed next.OutOfMemory = next.OutOfMemory

-- a message that is given waits so long for its answer
abbrev pub IsTimed : {E : Type 0} → ℕ → Next (Result Message E) → Type 0
IsTimed timeout (next.Item (Ok given)) = given.timeout ≡ timeout
IsTimed timeout answer = ⊤

-- what `poll_next` answers
abbrev pub given_answer : Next (Result Message (Error MessagesErrorKind)) → PollAnswer
given_answer answer = poll_answer (untimed answer)

-- an event's part as the stream below gives it: its message, without how long its acknowledgement waits
abbrev pub untimed_advance : Advance → below.Advance
untimed_advance (advance.Item e) = part.Item e
untimed_advance (advance.Message given) = part.Message given.message
untimed_advance advance.Closed = part.Closed
untimed_advance advance.Done = part.Done
untimed_advance advance.OutOfMemory = part.OutOfMemory

-- a message that an event's part gives waits so long for its answer
abbrev pub IsTimedAdvance : ℕ → Advance → Type 0
IsTimedAdvance timeout (advance.Message given) = given.timeout ≡ timeout
IsTimedAdvance timeout answer = ⊤

-- what `advance` answers
abbrev pub given_advance : Advance → PollAnswer
given_advance answer = advance_answer (untimed_advance answer)
