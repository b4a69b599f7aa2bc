-- When a double ack has something to do by itself, where its answer comes, and that it may be left alone until then.
use Rattle.std.specs.Prelude.{ℕ, ◌≡◌, Bool, false, Option, Some, None}
use Rattle.js_base.specs.Clock.{is_over}
use Rattle.js_base.specs.declared.turn.Turn.TheVariants.{Pending}
use Rattle.js_link.specs.LinkView.{LinkView}
use Rattle.js_link.specs.declared.sent.InboxId.{InboxId}
use Rattle.js_message.specs.declared.double_ack.DoubleAck.{DoubleAck}
use Rattle.js_message.specs.declared.double_ack.Outgoing.{Outgoing}
use Rattle.js_message.specs.declared.double_ack.Stage.{Stage}
use Rattle.js_message.specs.declared.double_ack.Stage.TheVariants.{Unsent, Opened, Waiting}
use Rattle.js_message.specs.Acknowledgement.{FindsNone, Polled}

-- it was sent, and its timeout is over
abbrev pub stage_due : Option Outgoing → Stage → ℕ → Bool
stage_due None stage now = false
stage_due (Some outgoing) Unsent now = false
stage_due (Some outgoing) (Opened inbox subject) now = false
stage_due (Some outgoing) (Waiting inbox since) now = is_over since outgoing.timeout now

-- the same, of the double ack
abbrev pub times_out : DoubleAck → ℕ → Bool
times_out call now = stage_due call.outgoing call.stage now

-- it was sent, nothing lies in its open inbox, and its timeout is not over
abbrev pub IsStageLeftAlone : Option Outgoing → Stage → ℕ → LinkView → Type 0
IsStageLeftAlone None stage now v = ⊥
IsStageLeftAlone (Some outgoing) Unsent now v = ⊥
IsStageLeftAlone (Some outgoing) (Opened inbox subject) now v = ⊥
IsStageLeftAlone (Some outgoing) (Waiting inbox since) now v = FindsNone inbox.0 v × (is_over since outgoing.timeout now ≡ false)

-- a double ack that is left alone is pending, and neither it nor the link is changed
abbrev pub Sleeps : DoubleAck → ℕ → Polled → LinkView → LinkView → Type 0
Sleeps call now turn old new = IsStageLeftAlone call.outgoing call.stage now old → (turn ≡ Pending call) × (new ≡ old)

-- the inbox in which the answer to what was sent comes
abbrev pub stage_inbox : Option Outgoing → Stage → Option InboxId
stage_inbox None stage = None
stage_inbox (Some outgoing) Unsent = None
stage_inbox (Some outgoing) (Opened inbox subject) = None
stage_inbox (Some outgoing) (Waiting inbox since) = Some inbox

-- the same, of the double ack
abbrev pub awaited_inbox : DoubleAck → Option InboxId
awaited_inbox call = stage_inbox call.outgoing call.stage

-- nothing lies in that open inbox
abbrev pub FindsNoneIn : Option InboxId → LinkView → Type 0
FindsNoneIn None v = ⊥
FindsNoneIn (Some inbox) v = FindsNone inbox.0 v

-- while nothing lies in that inbox and its timeout is not over, it is left alone
abbrev pub WaitsIn : Option InboxId → DoubleAck → Type 0
WaitsIn inbox call = (now : ℕ) → (v : LinkView) → FindsNoneIn inbox v → times_out call now ≡ false → IsStageLeftAlone call.outgoing call.stage now v
