-- One try to send a message.
use Rattle.std.specs.Prelude.{◌≡◌, ◌+◌, ◌⊎◌, ⊤, None}
use Rattle.js_base.specs.Error.{plain}
use Rattle.js_base.specs.declared.error.Error.{Error}
use Rattle.js_link.specs.LinkView.{LinkView}
use Rattle.js_link.specs.Calls.{FailsToSend}
use Rattle.js_message.specs.declared.publish_message.OutboundMessage.{OutboundMessage}
use Rattle.js_context.specs.Context.{ContextView, Takes}
use Rattle.js_context.specs.AckFuture.{IsAwaitedBy}
use Rattle.js_context.specs.Sending.{IsBarred, IsSendable, LacksPermit, SendsUnder, TakesAndGives}
use Rattle.js_context.specs.declared.ack_future.PublishAckFuture.{PublishAckFuture}
use Rattle.js_context.specs.declared.publish_error.PublishErrorKind.{PublishErrorKind}
use Rattle.js_context.specs.declared.publish_error.PublishErrorKind.TheVariants as kind
use Rattle.js_context_queue.specs.declared.send_attempt.SendResult.{SendResult}
use Rattle.js_context_queue.specs.declared.send_attempt.SendResult.TheVariants.{Went, Stays, Fails, NoMemory}

-- the same caller of the same window, with as many detached acks, and set as before
pub record IsSameCaller (c d : ContextView) : Type 0 where
  pub window : d.pass.window ≡ c.pass.window
  pub number : d.pass.number ≡ c.pass.number
  pub scope : d.scope ≡ c.scope
  pub settings : d.settings ≡ c.settings
  pub detached : d.detached ≡ c.detached

-- nothing went out, though the link may have counted a fault
abbrev pub LeavesLink : LinkView → LinkView → Type 0
LeavesLink old new = new ≡ record old { faults = new.faults }

-- no message was sent, and no permit more is held
pub record SendsNone (c d : ContextView) (old new : LinkView) : Type 0 where
  pub caller : IsSameCaller c d
  pub awaited : d.awaited ≡ c.awaited
  pub link : LeavesLink old new

-- the message was sent under a permit that its ack bears
pub record SendsIt (m : OutboundMessage) (future : PublishAckFuture) (c d : ContextView) (old new : LinkView) : Type 0 where
  pub caller : IsSameCaller c d
  pub awaited : d.awaited ≡ c.awaited + 1
  pub sends : SendsUnder m future c d old new
  pub bears : IsAwaitedBy future d

-- why a message was not sent that can be sent: no permit was free, or the link failed
abbrev pub Prevents : PublishErrorKind → ContextView → ContextView → LinkView → LinkView → Type 0
Prevents kind.MaxAckPending c d old new = Takes None c d × (new ≡ old)
Prevents kind.Other c d old new = FailsToSend old new
Prevents _ c d old new = ⊥

-- the message can be sent, and was not, for this reason
pub record IsPrevented (why : PublishErrorKind) (m : OutboundMessage) (c d : ContextView) (old new : LinkView) : Type 0 where
  pub sendable : IsSendable m old
  pub because : Prevents why c d old new

-- the message can never be sent, for this reason, which is the error
pub record IsLost (m : OutboundMessage) (error : Error PublishErrorKind) (old : LinkView) : Type 0 where
  pub why : PublishErrorKind
  pub is : error ≡ plain why
  pub barred : IsBarred why m old

-- what a try does
abbrev pub Tries : OutboundMessage → SendResult → ContextView → ContextView → LinkView → LinkView → Type 0
Tries m (Went future) c d old new = SendsIt m future c d old new
Tries m (Stays why) c d old new = SendsNone c d old new × IsPrevented why m c d old new
Tries m (Fails error) c d old new = SendsNone c d old new × IsLost m error old
Tries m NoMemory c d old new = SendsNone c d old new

-- one try to send the message, which can be sent: no permit was free, or one was taken and given back since the link failed
pub record IsTriedInVain (m : OutboundMessage) (c d : ContextView) (old new : LinkView) : Type 0 where
  pub sendable : IsSendable m old
  pub found : (Takes None c d × (new ≡ old)) ⊎ (TakesAndGives c d × FailsToSend old new)

-- a message that stays was tried in vain
abbrev pub StaysTried : OutboundMessage → SendResult → ContextView → ContextView → LinkView → LinkView → Type 0
StaysTried m (Stays why) c d old new = IsTriedInVain m c d old new
StaysTried m (Went future) c d old new = ⊤
StaysTried m (Fails error) c d old new = ⊤
StaysTried m NoMemory c d old new = ⊤

-- no permit was free and a later try may send it, or memory ran out before that
abbrev pub GetsNone : SendResult → ContextView → ContextView → Type 0
GetsNone (Stays kind) c d = Takes None c d
GetsNone NoMemory c d = d ≡ c
GetsNone (Went future) c d = ⊥
GetsNone (Fails error) c d = ⊥

-- a try of a message that lacks a permit sends nothing
abbrev pub GetsNoneIfFull : OutboundMessage → SendResult → ContextView → ContextView → LinkView → LinkView → Type 0
GetsNoneIfFull m tried c d old new = LacksPermit m c old → GetsNone tried c d × (new ≡ old)
