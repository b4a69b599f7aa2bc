-- Acknowledgements, and what they send.
use Rattle.std.specs.Prelude.{ℕ, ◌≡◌, ◌++◌, ◌⊎◌, true, false, Option, Some, None, List, [], Result, Ok, Err, codes}
use Rattle.std.specs.Fmt.{decimal}
use Rattle.js_base.specs.Clock.{is_over}
use Rattle.js_base.specs.declared.turn.Turn.{Turn}
use Rattle.js_base.specs.declared.turn.Turn.TheVariants as turn
use Rattle.js_base.specs.declared.message.Message.{Message}
use Rattle.js_link.specs.LinkView.{LinkView}
use Rattle.js_link.specs.Calls.{Publishes, OpensOwn, FailsToSend, Takes, Closes}
use Rattle.js_message.specs.declared.ack_kind.AckKind.{AckKind}
use Rattle.js_message.specs.declared.ack_kind.AckKind.TheVariants as kind
use Rattle.js_message.specs.declared.acker.AckError.{AckError}
use Rattle.js_message.specs.declared.acker.AckError.TheVariants.{NoReply, LinkFailed, TimedOut, SubscriptionDropped, OutOfMemory}
use Rattle.js_message.specs.declared.double_ack.DoubleAck.{DoubleAck}
use Rattle.js_message.specs.declared.double_ack.Outgoing.{Outgoing}
use Rattle.js_message.specs.declared.double_ack.Stage.{Stage}
use Rattle.js_message.specs.declared.double_ack.Stage.TheVariants.{Unsent, Opened, Waiting}

-- a negative acknowledgement with its delay in nanoseconds
abbrev pub delay_body : ℕ → List ℕ
delay_body delay = codes "-NAK {\"delay\":" ++ (decimal delay ++ codes "}")

-- the body of each kind
abbrev pub ack_body : AckKind → List ℕ
ack_body kind.Ack = codes "+ACK"
ack_body (kind.Nak None) = codes "-NAK"
ack_body (kind.Nak (Some delay)) = delay_body delay
ack_body kind.Progress = codes "+WPI"
ack_body kind.Next = codes "+NXT"
ack_body kind.Term = codes "+TERM"

-- what an acknowledgement does: one message with the body goes to the reply subject, and without one nothing goes
abbrev pub Acks : Option (List ℕ) → List ℕ → Result (Unit {0}) AckError → LinkView → LinkView → Type 0
Acks None body (Err NoReply) old new = new ≡ old
Acks None body answer old new = ⊥
Acks (Some subject) body (Ok done) old new = Publishes subject None None body old new
Acks (Some subject) body (Err LinkFailed) old new = FailsToSend old new
Acks (Some subject) body (Err OutOfMemory) old new = new ≡ old
Acks (Some subject) body (Err error) old new = ⊥

-- the answer to one poll of a double ack
abbrev pub Polled : Type 0
Polled = Turn DoubleAck (Result (Unit {0}) AckError)

-- what a double ack sends, where there is a reply subject
abbrev pub outgoing_of : ℕ → Option (List ℕ) → List ℕ → Option Outgoing
outgoing_of timeout None body = None
outgoing_of timeout (Some reply) body = Some (record { to = reply; body = body; timeout = timeout })

-- a double ack that has not begun
abbrev pub unsent : ℕ → Option (List ℕ) → List ℕ → DoubleAck
unsent timeout reply body = record { outgoing = outgoing_of timeout reply body; stage = Unsent }

-- one whose inbox is open
abbrev pub opened : Outgoing → ℕ → List ℕ → DoubleAck
opened outgoing inbox subject = record { outgoing = Some outgoing; stage = Opened (record { 0 = inbox }) subject }

-- one that was sent at a moment
abbrev pub waiting : Outgoing → ℕ → ℕ → DoubleAck
waiting outgoing inbox since = record { outgoing = Some outgoing; stage = Waiting (record { 0 = inbox }) since }

-- nothing lies in the open inbox
pub record FindsNone (inbox : ℕ) (old : LinkView) : Type 0 where
  pub is_open : old.is_open inbox ≡ true
  pub empty : old.count inbox ≡ 0

-- a message was taken from the inbox, which was then closed
pub record TakesAndCloses (inbox : ℕ) (old new : LinkView) : Type 0 where
  pub message : Message
  pub taken : LinkView
  pub takes : Takes inbox message old taken
  pub closes : Closes inbox taken new

-- the send failed, and the inbox was closed
pub record FailsAndCloses (inbox : ℕ) (old new : LinkView) : Type 0 where
  pub failed : LinkView
  pub fails : FailsToSend old failed
  pub closes : Closes inbox failed new

-- looking for the answer in the inbox, which was sent for at a moment
abbrev pub Looks : Outgoing → ℕ → ℕ → ℕ → Polled → LinkView → LinkView → Type 0
Looks outgoing inbox since now (turn.Ready (Ok done)) old new = TakesAndCloses inbox old new
Looks outgoing inbox since now (turn.Ready (Err TimedOut)) old new =
    FindsNone inbox old × (is_over since outgoing.timeout now ≡ true) × Closes inbox old new
Looks outgoing inbox since now (turn.Ready (Err SubscriptionDropped)) old new = (new ≡ old) × (old.is_open inbox ≡ false)
Looks outgoing inbox since now (turn.Pending next) old new =
    (new ≡ old) × FindsNone inbox old × (is_over since outgoing.timeout now ≡ false) × (next ≡ waiting outgoing inbox since)
Looks outgoing inbox since now answer old new = ⊥

-- the body was sent with the inbox's subject as its reply, and the answer was looked for
pub record SendsAndLooks (outgoing : Outgoing) (inbox : ℕ) (subject : List ℕ) (now : ℕ) (answer : Polled) (old new : LinkView) : Type 0 where
  pub sent : LinkView
  pub publishes : Publishes outgoing.to (Some subject) None outgoing.body old sent
  pub looks : Looks outgoing inbox now now answer sent new

-- sending, once the inbox is open
abbrev pub SendsAck : Outgoing → ℕ → List ℕ → ℕ → Polled → LinkView → LinkView → Type 0
SendsAck outgoing inbox subject now (turn.OutOfMemory next) old new = (new ≡ old) × (next ≡ opened outgoing inbox subject)
SendsAck outgoing inbox subject now (turn.Ready (Err LinkFailed)) old new = FailsAndCloses inbox old new
SendsAck outgoing inbox subject now answer old new = SendsAndLooks outgoing inbox subject now answer old new

-- no inbox was opened
abbrev pub FailsToOpen : Outgoing → Polled → LinkView → LinkView → Type 0
FailsToOpen outgoing (turn.OutOfMemory next) old new = (new ≡ old) × (next ≡ record { outgoing = Some outgoing; stage = Unsent })
FailsToOpen outgoing (turn.Ready (Err LinkFailed)) old new = FailsToSend old new
FailsToOpen outgoing answer old new = ⊥

-- an inbox was opened, and the send followed
pub record OpensAndSends (outgoing : Outgoing) (now : ℕ) (answer : Polled) (old new : LinkView) : Type 0 where
  pub inbox : ℕ
  pub subject : List ℕ
  pub open_view : LinkView
  pub opens : OpensOwn inbox subject old open_view
  pub sends : SendsAck outgoing inbox subject now answer open_view new

-- one poll of a double ack
abbrev pub Polls : Option Outgoing → Stage → ℕ → Polled → LinkView → LinkView → Type 0
Polls None stage now (turn.Ready (Err NoReply)) old new = new ≡ old
Polls None stage now answer old new = ⊥
Polls (Some outgoing) Unsent now answer old new = FailsToOpen outgoing answer old new ⊎ OpensAndSends outgoing now answer old new
Polls (Some outgoing) (Opened inbox subject) now answer old new = SendsAck outgoing inbox.0 subject now answer old new
Polls (Some outgoing) (Waiting inbox since) now answer old new = Looks outgoing inbox.0 since now answer old new

-- one poll of the double ack
abbrev pub PollsOf : DoubleAck → ℕ → Polled → LinkView → LinkView → Type 0
PollsOf call now answer old new = Polls call.outgoing call.stage now answer old new
