-- A message that is published and whose ack is awaited, in one call.
use Rattle.std.specs.Prelude.{ℕ, ◌≡◌, ◌+◌, ⊤, Option, None, List, [], ◌∷◌, Ok, Err}
use Rattle.js_base.specs.declared.turn.Turn.{Turn}
use Rattle.js_base.specs.declared.turn.Turn.TheVariants.{Pending, Ready, OutOfMemory}
use Rattle.js_link.specs.LinkView.{LinkView}
use Rattle.js_call.specs.declared.open_request.OpenRequest.{OpenRequest}
use Rattle.js_context.specs.declared.ack_future.PublishAckFuture.{PublishAckFuture}
use Rattle.js_context.specs.declared.context.Detached.{Detached}
use Rattle.js_context.specs.declared.sending.Sending.{Sending}
use Rattle.js_window.specs.Caller.{held}
use Rattle.js_context.specs.AckFuture.{Acked, AckPolled, AckTurn, IsAwaitedBy}
use Rattle.js_context.specs.Context.{ContextView}
use Rattle.js_context.specs.Sending.{SendPolled, SendTurn}
use Rattle.js_context.specs.AckTimers.{ack_waits_for}
use Rattle.js_context_queue.specs.InFlight.{detached_ack}
use Rattle.js_context_queue.specs.declared.confirm.Confirming.{Confirming}
use Rattle.js_context_queue.specs.declared.confirm.Confirming.TheVariants.{Sends, Awaits}

-- what a poll gives of a message that is published and confirmed
abbrev pub ConfirmTurn : Type 0
ConfirmTurn = Turn Confirming Acked

-- its ack, where it was sent, is awaited by this caller
abbrev pub BelongsTo : Confirming → ContextView → Type 0
BelongsTo (Sends sending) c = ⊤
BelongsTo (Awaits future) c = IsAwaitedBy future c

-- what a poll of the ack is to the whole
abbrev pub of_ack : AckTurn → ConfirmTurn
of_ack (Ready answer) = Ready answer
of_ack (Pending next) = Pending (Awaits next)
of_ack (OutOfMemory next) = OutOfMemory (Awaits next)

-- the ack is looked at
pub record Looks (future : PublishAckFuture) (now : ℕ) (turn : ConfirmTurn) (c d : ContextView) (old new : LinkView) : Type 0 where
  pub answer : AckTurn
  pub polled : AckPolled future.reply future now answer c d old new
  pub is : turn ≡ of_ack answer

-- What follows on a try to send: the ack of a message that was sent is looked at by the same poll. Nothing else is done.
abbrev pub Follows : SendTurn → ℕ → ConfirmTurn → ContextView → ContextView → LinkView → LinkView → Type 0
Follows (Ready (Ok future)) now turn c d old new = Looks future now turn c d old new
Follows (Ready (Err error)) now turn c d old new = (turn ≡ Ready (Err error)) × (d ≡ c) × (new ≡ old)
Follows (Pending next) now turn c d old new = (turn ≡ Pending (Sends next)) × (d ≡ c) × (new ≡ old)
Follows (OutOfMemory next) now turn c d old new = (turn ≡ OutOfMemory (Sends next)) × (d ≡ c) × (new ≡ old)

-- a try to send, and what follows on it
pub record TriesAndLooks (sending : Sending) (now : ℕ) (turn : ConfirmTurn) (c d : ContextView) (old new : LinkView) : Type 0 where
  pub sent : SendTurn
  pub between : ContextView
  pub seen : LinkView
  pub polled : SendPolled sending sent c between old seen
  pub follows : Follows sent now turn between d seen new

-- what a poll does
abbrev pub ConfirmPolled : Confirming → ℕ → ConfirmTurn → ContextView → ContextView → LinkView → LinkView → Type 0
ConfirmPolled (Sends sending) now turn c d old new = TriesAndLooks sending now turn c d old new
ConfirmPolled (Awaits future) now turn c d old new = Looks future now turn c d old new

-- the request whose answer it waits for: that of its ack, once it was sent
abbrev pub confirming_waits_for : Confirming → Option OpenRequest
confirming_waits_for (Sends sending) = None
confirming_waits_for (Awaits future) = ack_waits_for future

-- what is left to be polled is the caller's
abbrev pub IsStillOf : ConfirmTurn → ContextView → Type 0
IsStillOf (Ready answer) d = ⊤
IsStillOf (Pending next) d = BelongsTo next d
IsStillOf (OutOfMemory next) d = BelongsTo next d

-- it bears a permit once it was sent
abbrev pub permits : Confirming → ℕ
permits (Sends sending) = 0
permits (Awaits future) = 1

-- the ack that is detached with it, once it was sent
abbrev pub detached_of : Confirming → List Detached
detached_of (Sends sending) = []
detached_of (Awaits future) = detached_ack future ∷ []

-- what a poll leaves bears as many, and an answer bears none
abbrev pub permits_left : ConfirmTurn → ℕ
permits_left (Ready answer) = 0
permits_left (Pending next) = permits next
permits_left (OutOfMemory next) = permits next

-- the caller holds no permit beside: what it held is what it holds, but for the permit that the message bears
abbrev pub HoldsBeside : Confirming → ConfirmTurn → ContextView → ContextView → Type 0
HoldsBeside confirming turn c d = held d.pass + permits confirming ≡ held c.pass + permits_left turn
