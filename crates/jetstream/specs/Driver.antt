-- A call that is polled in its place.
use Rattle.std.specs.Prelude.{◌≡◌, ℕ, Option, Some, None, Result, ⊤}
use Rattle.js_base.specs.declared.turn.Next.{Next}
use Rattle.js_base.specs.declared.turn.Next.TheVariants as next
use Rattle.js_base.specs.declared.turn.Turn.{Turn}
use Rattle.js_base.specs.declared.turn.Turn.TheVariants as turn
use Rattle.js_call.specs.Wakes.{IsLeftAlone, IsSent}
use Rattle.js_call.specs.declared.open_request.OpenRequest.{OpenRequest}
use Rattle.js_link.specs.LinkView.{LinkView}
use Rattle.js_message.specs.Wakes.{IsStageLeftAlone}
use Rattle.js_message.specs.declared.acker.AckError.{AckError}
use Rattle.js_message.specs.declared.double_ack.DoubleAck.{DoubleAck}

-- what stands in the place after a poll of this call that answers so
abbrev pub Leaves : {S A : Type 0} → (S → ℕ → Turn S A → LinkView → LinkView → Type 0) → S → Option S → ℕ → Next A → LinkView → LinkView → Type 0
Leaves polled call after now (next.Item answer) old new = polled call now (turn.Ready answer) old new × (after ≡ None)
Leaves {S = S} polled call after now next.Pending old new = (later : S) × polled call now (turn.Pending later) old new × (after ≡ Some later)
Leaves {S = S} polled call after now next.OutOfMemory old new = (later : S) × polled call now (turn.OutOfMemory later) old new × (after ≡ Some later)
Leaves polled call after now next.End old new = ⊥

-- an empty place answers `End` and does nothing
abbrev pub StaysEmpty : {S A : Type 0} → Option S → Next A → LinkView → LinkView → Type 0
StaysEmpty after next.End old new = (after ≡ None) × (new ≡ old)
StaysEmpty after _ old new = ⊥

-- what a poll in a place does: the call's poll, where there is a call
abbrev pub Drives : {S A : Type 0} → (S → ℕ → Turn S A → LinkView → LinkView → Type 0) → Option S → Option S → ℕ → Next A → LinkView → LinkView → Type 0
Drives polled None after now result old new = StaysEmpty after result old new
Drives polled (Some call) after now result old new = Leaves polled call after now result old new

-- a call that stands in a place and is left alone is pending there, and neither it nor the link is changed
abbrev pub SleepsInPlace : {S A : Type 0} → (S → Option OpenRequest) → Option S → Option S → ℕ → Next A → LinkView → LinkView → Type 0
SleepsInPlace waits_for None after now result old new = ⊤
SleepsInPlace waits_for (Some call) after now result old new =
    IsLeftAlone (waits_for call) now old → (result ≡ next.Pending) × (after ≡ Some call) × (new ≡ old)

-- a call that stands in a place after this answer waits for a request, where the answer is that it is pending
abbrev pub PendsInPlace : {S A : Type 0} → (S → Option OpenRequest) → Option S → Next A → Type 0
PendsInPlace waits_for (Some call) next.Pending = IsSent (waits_for call)
PendsInPlace waits_for place result = ⊤

-- a double ack that stands in a place and is left alone is pending there, and neither it nor the link is changed
abbrev pub AckSleepsInPlace : Option DoubleAck → Option DoubleAck → ℕ → Next (Result (Unit {0}) AckError) → LinkView → LinkView → Type 0
AckSleepsInPlace None after now result old new = ⊤
AckSleepsInPlace (Some call) after now result old new =
    IsStageLeftAlone call.outgoing call.stage now old → (result ≡ next.Pending) × (after ≡ Some call) × (new ≡ old)
