-- Sending a message under a permit.
use Rattle.std.specs.Prelude.{◌≡◌, ◌+◌, ◌≤◌, ◌<◌, Bool, true, false, None, Result, Ok, Err, if◌then◌else◌}
use Rattle.js_base.specs.Error.{plain}
use Rattle.js_base.specs.Subject.{is_valid_subject}
use Rattle.js_base.specs.declared.error.Error.{Error}
use Rattle.js_base.specs.declared.turn.Turn.{Turn}
use Rattle.js_base.specs.declared.turn.Turn.TheVariants.{Pending, Ready, OutOfMemory}
use Rattle.js_link.specs.LinkView.{LinkView}
use Rattle.js_link.specs.Calls.{Asks, RefusedSend}
use Rattle.js_link.specs.declared.link.LinkError.TheVariants as link
use Rattle.js_message.specs.declared.publish_message.OutboundMessage.{OutboundMessage}
use Rattle.js_window.specs.Caller.{Caller, Makes, held}
use Rattle.js_window.specs.declared.history.Call.TheVariants as call
use Rattle.js_context.specs.declared.ack_future.PublishAckFuture.{PublishAckFuture}
use Rattle.js_context.specs.declared.publish_error.PublishErrorKind.{PublishErrorKind}
use Rattle.js_context.specs.declared.publish_error.PublishErrorKind.TheVariants as kind
use Rattle.js_context.specs.declared.sending.Attempt.{Attempt}
use Rattle.js_context.specs.declared.sending.Attempt.TheVariants.{Barred, NoRoom, Full, Unsent, Went}
use Rattle.js_context.specs.declared.sending.Sending.{Sending}
use Rattle.js_context.specs.AckFuture.{IsAwaitedBy}
use Rattle.js_context.specs.Publish.{size}
use Rattle.js_context.specs.Context.{ContextView, Takes}

-- what a poll of a message gives that is to be sent
abbrev pub SendTurn : Type 0
SendTurn = Turn Sending (Result PublishAckFuture (Error PublishErrorKind))

-- the message can be sent: its subject is one, and it is not too long
pub record IsSendable (m : OutboundMessage) (old : LinkView) : Type 0 where
  pub subject : is_valid_subject m.subject ≡ true
  pub short : size m ≤ old.max_payload

-- what keeps a message from being sent: a subject that is none, and then its size
abbrev pub IsBarred : PublishErrorKind → OutboundMessage → LinkView → Type 0
IsBarred kind.Other m old = is_valid_subject m.subject ≡ false
IsBarred kind.MaxPayloadExceeded m old = (is_valid_subject m.subject ≡ true) × (old.max_payload < size m)
IsBarred _ m old = ⊥

-- a permit was taken and given back
pub record TakesAndGives (c d : ContextView) : Type 0 where
  pub between : Caller
  pub takes : Makes call.Got c.pass between
  pub gives : Makes call.Give between d.pass
  pub same : d ≡ record c { pass = d.pass }

-- a permit of the window was taken and the message was sent: the ack bears the permit, and its clock has not begun
pub record SendsUnder (m : OutboundMessage) (future : PublishAckFuture) (c d : ContextView) (old new : LinkView) : Type 0 where
  pub takes : Makes call.Got c.pass d.pass
  pub one_more : d ≡ record c { pass = d.pass; awaited = c.awaited + 1 }
  pub asks : Asks future.request.0 m.subject m.headers m.payload old new
  pub bears : future.permit ≡ d.pass.number
  pub of : future.window.value ≡ d.pass.window
  pub clock : future.clock ≡ None
  pub reply : future.reply ≡ None

-- what a try to send does
abbrev pub Attempts : OutboundMessage → Attempt → ContextView → ContextView → LinkView → LinkView → Type 0
Attempts m (Barred kind) c d old new = (d ≡ c) × (new ≡ old) × IsBarred kind m old
Attempts m NoRoom c d old new = (d ≡ c) × (new ≡ old) × IsSendable m old
Attempts m Full c d old new = Makes call.Full c.pass d.pass × (d ≡ record c { pass = d.pass }) × (new ≡ old) × IsSendable m old
Attempts m (Unsent error) c d old new = TakesAndGives c d × RefusedSend error old new × IsSendable m old
Attempts m (Went future) c d old new = SendsUnder m future c d old new × IsSendable m old

-- what a poll answers
abbrev pub answer_to : Sending → Bool → Attempt → SendTurn
answer_to s backpressure (Barred kind) = Ready (Err (plain kind))
answer_to s backpressure NoRoom = OutOfMemory s
answer_to s backpressure Full = if backpressure then Pending s else Ready (Err (plain kind.MaxAckPending))
answer_to s backpressure (Unsent link.Failed) = Ready (Err (plain kind.Other))
answer_to s backpressure (Unsent link.OutOfMemory) = OutOfMemory s
answer_to s backpressure (Went future) = Ready (Ok future)

-- what a poll does: one try, which is answered
pub record SendPolled (s : Sending) (turn : SendTurn) (c d : ContextView) (old new : LinkView) : Type 0 where
  pub met : Attempt
  pub tries : Attempts s.message met c d old new
  pub answers : turn ≡ answer_to s c.settings.backpressure met

-- the message can be sent but for a permit: this caller holds all permits of its window, so that none is free
pub record LacksPermit (m : OutboundMessage) (c : ContextView) (v : LinkView) : Type 0 where
  pub sendable : IsSendable m v
  pub holds_all : c.pass.window.capacity ≤ held c.pass

-- No permit was free: the message waits where backpressure is on, and is refused where it is off. Or memory ran out before that.
abbrev pub GetsNone : Sending → SendTurn → ContextView → ContextView → Type 0
GetsNone s (Pending next) c d = (next ≡ s) × (c.settings.backpressure ≡ true) × Takes None c d
GetsNone s (Ready (Err error)) c d = (error ≡ plain kind.MaxAckPending) × (c.settings.backpressure ≡ false) × Takes None c d
GetsNone s (OutOfMemory next) c d = (next ≡ s) × (d ≡ c)
GetsNone s (Ready (Ok future)) c d = ⊥

-- a poll of a message that lacks a permit sends nothing
abbrev pub GetsNoneIfFull : Sending → SendTurn → ContextView → ContextView → LinkView → LinkView → Type 0
GetsNoneIfFull s turn c d old new = LacksPermit s.message c old → GetsNone s turn c d × (new ≡ old)

-- no permit more is held, and none less
pub record HoldsAsMany (c d : ContextView) : Type 0 where
  pub held : held d.pass ≡ held c.pass
  pub awaited : d.awaited ≡ c.awaited

-- one permit more is held, for this ack
pub record HoldsFor (future : PublishAckFuture) (c d : ContextView) : Type 0 where
  pub held : held d.pass ≡ held c.pass + 1
  pub by : IsAwaitedBy future d

-- only a message that was sent holds a permit
abbrev pub HoldsAfter : SendTurn → ContextView → ContextView → Type 0
HoldsAfter (Ready (Ok future)) c d = HoldsFor future c d
HoldsAfter (Ready (Err error)) c d = HoldsAsMany c d
HoldsAfter (Pending next) c d = HoldsAsMany c d
HoldsAfter (OutOfMemory next) c d = HoldsAsMany c d

-- the same, of a try
abbrev pub HoldsAfterTry : Attempt → ContextView → ContextView → Type 0
HoldsAfterTry (Went future) c d = HoldsFor future c d
HoldsAfterTry (Barred kind) c d = HoldsAsMany c d
HoldsAfterTry NoRoom c d = HoldsAsMany c d
HoldsAfterTry Full c d = HoldsAsMany c d
HoldsAfterTry (Unsent error) c d = HoldsAsMany c d
