-- Calls on a bucket, each of which stands on another call: the rows of their table, and what a poll does.
use Rattle.std.specs.Prelude.{ℕ, ◌≡◌, Option, Some, None, Result, Ok, Err}
use Rattle.js_base.specs.declared.error.Source.{Source}
use Rattle.js_base.specs.declared.turn.Turn.{Turn}
use Rattle.js_base.specs.declared.turn.Turn.TheVariants.{Pending, Ready, OutOfMemory}
use Rattle.js_link.specs.LinkView.{LinkView}
use Rattle.js_call.specs.CallSequence.{Polls}
use Rattle.js_call.specs.Wakes.{unless_refused}
use Rattle.js_call.specs.declared.open_request.OpenRequest.{OpenRequest}
use Rattle.js_store.specs.declared.bucket_call.BucketCall.{BucketCall}
use Rattle.js_store.specs.declared.bucket_call.Stage.{Stage}
use Rattle.js_store.specs.declared.bucket_call.Stage.TheVariants.{Asking, Answered}

-- a call's row
pub record Row (Self X E Needs Answer : Type 0) : Type 0 where
  pub refused : Self → Option Answer  -- what its arguments are refused with
  pub needs : Self → X → Needs  -- what is made of what the other call gives
  pub accepts : Self → X → Needs → Answer  -- what the call answers to that
  pub refuses : Self → E → Source → Answer  -- what it answers to the other call's error, and to what that tells

-- a call whose other call is not answered
abbrev pub asking : {S X E M : Type 0} → M → S → BucketCall S X E M
asking meaning asked = record { row = meaning; stage = Asking asked }

-- a call whose other call has answered, which is not told yet
abbrev pub answered : {S X E M : Type 0} → M → Result X E → BucketCall S X E M
answered meaning given = record { row = meaning; stage = Answered given }

-- what the call answers to what the other call answered
abbrev pub means : {M X E N A : Type 0} → Row M X E N A → (E → Source) → M → Result X E → A
means t told meaning (Ok given) = t.accepts meaning given (t.needs meaning given)
means t told meaning (Err error) = t.refuses meaning error (told error)

-- it is told, or kept where memory runs out
abbrev pub AnswersOf : {S M X E N A : Type 0} → Row M X E N A → (E → Source) → M → Result X E → Turn (BucketCall S X E M) A → Type 0
AnswersOf t told meaning given (Ready answer) = answer ≡ means t told meaning given
AnswersOf t told meaning given (OutOfMemory next) = next ≡ answered meaning given
AnswersOf t told meaning given (Pending next) = ⊥

-- what the call answers to what the other call does
abbrev pub TurnsTo : {S M X E N A : Type 0} → Row M X E N A → (E → Source) → M → Turn S (Result X E) → Turn (BucketCall S X E M) A → Type 0
TurnsTo t told meaning (Pending asked) turn = turn ≡ Pending (asking meaning asked)
TurnsTo t told meaning (OutOfMemory asked) turn = turn ≡ OutOfMemory (asking meaning asked)
TurnsTo t told meaning (Ready given) turn = AnswersOf t told meaning given turn

-- an answer that was kept is told, and else the other call is polled
abbrev pub GoesOn : {S M X E N A : Type 0} → Row M X E N A → (E → Source) → Polls S (Result X E) → M → Stage S X E → ℕ
    → Turn (BucketCall S X E M) A → LinkView → LinkView → Type 0
GoesOn t told polls meaning (Answered given) now turn old new = (new ≡ old) × AnswersOf t told meaning given turn
GoesOn {S = S} {X = X} {E = E} t told polls meaning (Asking call) now turn old new =
    (asked : Turn S (Result X E)) × polls call now asked old new × TurnsTo t told meaning asked turn

-- refused arguments are answered, and nothing is sent
abbrev pub PolledUnless : {S M X E N A : Type 0} → Option A → Row M X E N A → (E → Source) → Polls S (Result X E) → BucketCall S X E M → ℕ
    → Turn (BucketCall S X E M) A → LinkView → LinkView → Type 0
PolledUnless (Some refusal) t told polls call now turn old new = (turn ≡ Ready refusal) × (new ≡ old)
PolledUnless None t told polls call now turn old new = GoesOn t told polls call.row call.stage now turn old new

-- what a poll of a call does
abbrev pub Polled : {S M X E N A : Type 0} → Row M X E N A → (E → Source) → Polls S (Result X E) → BucketCall S X E M → ℕ
    → Turn (BucketCall S X E M) A → LinkView → LinkView → Type 0
Polled t told polls call now turn old new = PolledUnless (t.refused call.row) t told polls call now turn old new

-- what a call waits for by its stage: what the other call does, unless that has answered
abbrev pub stage_waits_for : {S X E : Type 0} → (S → Option OpenRequest) → Stage S X E → Option OpenRequest
stage_waits_for waits_for (Asking call) = waits_for call
stage_waits_for waits_for (Answered given) = None

-- what a call waits for
abbrev pub bucket_waits_for : {S M X E N A : Type 0} → Row M X E N A → (S → Option OpenRequest) → BucketCall S X E M → Option OpenRequest
bucket_waits_for t waits_for call = unless_refused (t.refused call.row) (stage_waits_for waits_for call.stage)
