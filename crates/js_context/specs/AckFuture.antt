-- The ack of a message that was sent.
use Rattle.std.specs.Prelude.{ℕ, ◌≡◌, ◌<◌, if◌then◌else◌, Option, Some, None, List, Result, Ok, Err}
use Rattle.js_base.specs.Error.{plain, caused}
use Rattle.js_base.specs.declared.error.Error.{Error}
use Rattle.js_base.specs.declared.message.Message.{Message}
use Rattle.js_base.specs.declared.turn.Turn.{Turn}
use Rattle.js_base.specs.declared.turn.Turn.TheVariants.{Pending, Ready, OutOfMemory}
use Rattle.js_json_members.specs.Member.{float_free}
use Rattle.js_json_members.specs.declared.error.ReadError.{ReadError}
use Rattle.js_json.specs.PublishAck.{publish_ack_fields}
use Rattle.js_json.specs.Response.{response_of}
use Rattle.js_json.specs.declared.publish_ack.PublishAck.{PublishAck}
use Rattle.js_json.specs.declared.response.Response.{Response}
use Rattle.js_json.specs.declared.response.Response.TheVariants as response
use Rattle.js_link.specs.LinkView.{LinkView}
use Rattle.js_call.specs.Failure.{failure_source}
use Rattle.js_call.specs.RawCall.{Shows, has_no_responders}
use Rattle.js_call.specs.declared.failure.Failure.TheVariants.{Read}
use Rattle.js_call.specs.declared.open_request.Shown.{Shown}
use Rattle.js_call.specs.declared.open_request.Shown.TheVariants.{Came, Gone, Due, Still}
use Rattle.js_context.specs.declared.ack_future.Clock.{Clock}
use Rattle.js_context.specs.declared.ack_future.PublishAckFuture.{PublishAckFuture}
use Rattle.js_context.specs.declared.publish_error.PublishErrorKind.{PublishErrorKind}
use Rattle.js_context.specs.declared.publish_error.PublishErrorKind.TheVariants as kind
use Rattle.js_context.specs.AckClock.{started, timed}
use Rattle.js_context.specs.PublishError.{refusal_by}
use Rattle.js_context.specs.Context.{ContextView, GivesBack, timeout_of}

-- where the message is stored, or why it is not
abbrev pub Acked : Type 0
Acked = Result PublishAck (Error PublishErrorKind)

-- what a poll of an ack gives
abbrev pub AckTurn : Type 0
AckTurn = Turn PublishAckFuture Acked

-- what a reply's body reads as
abbrev pub ack_in : List ℕ → Result (Response PublishAck) ReadError
ack_in payload = response_of (float_free publish_ack_fields) payload

-- what the server's answer means
abbrev pub meaning_of : Response PublishAck → Acked
meaning_of (response.Ok ack) = Ok ack
meaning_of (response.Err error) = Err (refusal_by error)

-- a reply that does not read, and why
abbrev pub unreadable : ReadError → Error PublishErrorKind
unreadable fault = caused kind.Other (failure_source (Read fault))

-- what a reply means that was read, or does not read
abbrev pub meaning_read : Result (Response PublishAck) ReadError → Acked
meaning_read (Ok response) = meaning_of response
meaning_read (Err fault) = Err (unreadable fault)

-- what a reply means
abbrev pub ack_of : Message → Acked
ack_of message =
    if has_no_responders message.status then Err (plain kind.StreamNotFound) else meaning_read (ack_in message.payload)

-- the ack is awaited by this caller: its permit is of the caller's window, and was taken by the caller's pass
pub record IsAwaitedBy (future : PublishAckFuture) (c : ContextView) : Type 0 where
  pub window : future.window.value ≡ c.pass.window
  pub permit : future.permit ≡ c.pass.number
  pub awaited : 0 < c.awaited

-- an answer, which gives the permit back
pub record Ends (answer : Acked) (turn : AckTurn) (c d : ContextView) : Type 0 where
  pub ready : turn ≡ Ready answer
  pub gives_back : GivesBack c d

-- a reply that came is answered, and kept where memory runs out
abbrev pub AckReads : PublishAckFuture → Message → AckTurn → ContextView → ContextView → Type 0
AckReads f message (Ready answer) c d = (answer ≡ ack_of message) × GivesBack c d
AckReads f message (OutOfMemory next) c d = (next ≡ record f { reply = Some message }) × (d ≡ c)
AckReads f message (Pending next) c d = ⊥

-- what is made of what the request shows
abbrev pub AckTurns : PublishAckFuture → Shown → AckTurn → ContextView → ContextView → Type 0
AckTurns f (Came message) turn c d = AckReads f message turn c d
AckTurns f Gone turn c d = Ends (Err (plain kind.BrokenPipe)) turn c d
AckTurns f Due turn c d = Ends (Err (plain kind.TimedOut)) turn c d
AckTurns f Still turn c d = (turn ≡ Pending f) × (d ≡ c)

-- the clock with which this poll looks: it begins with the first, and runs for what the context then waits
abbrev pub clock_at : PublishAckFuture → ℕ → ContextView → Clock
clock_at f now c = started f.clock now (timeout_of c.scope.timeout)

-- What a poll does. A reply that was kept is read again; else the request is looked at, and its clock has begun.
abbrev pub AckPolled : Option Message → PublishAckFuture → ℕ → AckTurn → ContextView → ContextView → LinkView → LinkView → Type 0
AckPolled (Some message) f now turn c d old new = (new ≡ old) × AckReads f message turn c d
AckPolled None f now turn c d old new =
    (shown : Shown) × Shows (timed f.request (clock_at f now c)) now shown old new
    × AckTurns (record f { clock = Some (clock_at f now c) }) shown turn c d

-- an ack that still bears the permit of another
pub record BearsThatOf (f next : PublishAckFuture) : Type 0 where
  pub window : next.window ≡ f.window
  pub permit : next.permit ≡ f.permit

-- an answer has given the permit back, and an ack without one still bears it
abbrev pub PermitAfter : AckTurn → PublishAckFuture → ContextView → ContextView → Type 0
PermitAfter (Ready answer) f c d = GivesBack c d
PermitAfter (Pending next) f c d = BearsThatOf f next × (d ≡ c)
PermitAfter (OutOfMemory next) f c d = BearsThatOf f next × (d ≡ c)
