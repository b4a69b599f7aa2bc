-- What a call under way waits for: an answer, and the moment when its time is over. Before both a poll changes nothing.
use Rattle.std.specs.Prelude.{ℕ, ◌≡◌, ⊤, Bool, false, Option, Some, None, refl}
use Rattle.js_base.specs.Clock.{has_come}
use Rattle.js_base.specs.declared.turn.Turn.{Turn}
use Rattle.js_base.specs.declared.turn.Turn.TheVariants.{Pending, Ready, OutOfMemory}
use Rattle.js_link.specs.LinkView.{LinkView, Waits}
use Rattle.js_link.specs.declared.sent.RequestId.{RequestId}
use Rattle.js_call.specs.declared.call.Call.{Call}
use Rattle.js_call.specs.declared.call.Stage.{Stage}
use Rattle.js_call.specs.declared.call.Stage.TheVariants.{Asking, Answered, Failed}
use Rattle.js_call.specs.declared.open_request.OpenRequest.{OpenRequest}
use Rattle.js_call.specs.declared.call_sequence.Then.{Then}
use Rattle.js_call.specs.declared.call_sequence.Then.TheVariants.{First, Second}
use Rattle.js_call.specs.RawCall.{times_out}
use Rattle.js_call.specs.Table.{Table}

-- the request itself, without its clock
abbrev pub request_of : Option OpenRequest → Option RequestId
request_of None = None
request_of (Some sent) = Some sent.request

-- the time of a request is over, if there is one
abbrev pub is_due : Option OpenRequest → ℕ → Bool
is_due None now = false
is_due (Some sent) now = times_out sent.timeout sent.since now

-- a request that was sent at 7 and is waited for 5 has its end at 12
ends_at_twelve : (request : RequestId) → is_due (Some (record { request = request; since = 7; timeout = Some 5 })) 12 ≡ has_come (Some 12) 12
ends_at_twelve request = refl

waits_at_eleven : (request : RequestId) → is_due (Some (record { request = request; since = 7; timeout = Some 5 })) 11 ≡ false
waits_at_eleven request = refl

-- no answer has come to the request that is waited for, and its time is not over
abbrev pub IsLeftAlone : Option OpenRequest → ℕ → LinkView → Type 0
IsLeftAlone None now v = ⊥
IsLeftAlone (Some sent) now v = (v.status sent.request.0 ≡ Waits) × (times_out sent.timeout sent.since now ≡ false)

-- a call that is left alone is pending, and neither it nor the link is changed
abbrev pub Sleeps : {S A : Type 0} → Option OpenRequest → ℕ → S → Turn S A → LinkView → LinkView → Type 0
Sleeps sent now call turn old new = IsLeftAlone sent now old → (turn ≡ Pending call) × (new ≡ old)

-- there is one
abbrev pub IsSent : Option OpenRequest → Type 0
IsSent None = ⊥
IsSent (Some sent) = ⊤

-- a call that is pending waits for a request
abbrev pub PendsOn : {S A : Type 0} → (S → Option OpenRequest) → Turn S A → Type 0
PendsOn waits_for (Pending next) = IsSent (waits_for next)
PendsOn waits_for (Ready answer) = ⊤
PendsOn waits_for (OutOfMemory next) = ⊤

-- what a call waits for by its stage: its request, unless the answer has come
abbrev pub stage_waits_for : Stage → Option OpenRequest
stage_waits_for (Asking call) = call.sent
stage_waits_for (Answered message) = None
stage_waits_for (Failed failure) = None

-- a refused call waits for nothing
abbrev pub unless_refused : {A : Type 0} → Option A → Option OpenRequest → Option OpenRequest
unless_refused (Some refusal) sent = None
unless_refused None sent = sent

-- what a call of the API waits for
abbrev pub call_waits_for : {M R A : Type 0} → Table M R A → Call M → Option OpenRequest
call_waits_for t call = unless_refused (t.refused call.api_call) (stage_waits_for call.stage)

-- of two calls, what the one that is under way waits for
abbrev pub then_waits_for : {A B D : Type 0} → (A → Option OpenRequest) → (B → Option OpenRequest) → Then A B D → Option OpenRequest
then_waits_for first_waits_for second_waits_for (First first second decision) = first_waits_for first
then_waits_for first_waits_for second_waits_for (Second second) = second_waits_for second
