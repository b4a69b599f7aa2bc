-- A call of the API: what a poll answers, by the call's row of the table.
use Rattle.std.specs.Prelude.{ℕ, ◌≡◌, Option, Some, None, Result, Ok, Err}
use Rattle.js_base.specs.Error.{kind_of}
use Rattle.js_base.specs.declared.error.Error.{Error}
use Rattle.js_base.specs.declared.message.Message.{Message}
use Rattle.js_base.specs.declared.turn.Turn.{Turn}
use Rattle.js_base.specs.declared.turn.Turn.TheVariants.{Pending, Ready}
use Rattle.js_base.specs.declared.turn.Turn.TheVariants as turns
use Rattle.js_link.specs.LinkView.{LinkView}
use Rattle.js_json_members.specs.declared.error.ReadError.{ReadError}
use Rattle.js_json_members.specs.declared.error.ReadError.TheVariants.{OutOfMemory}
use Rattle.js_call.specs.declared.error.RequestErrorKind.{RequestErrorKind}
use Rattle.js_call.specs.declared.failure.Failure.{Failure}
use Rattle.js_call.specs.declared.failure.Failure.TheVariants.{Request, Read}
use Rattle.js_call.specs.declared.call.Call.{Call}
use Rattle.js_call.specs.declared.call.Stage.{Stage}
use Rattle.js_call.specs.declared.call.Stage.TheVariants.{Asking, Answered, Failed}
use Rattle.js_call.specs.declared.raw_call.RawCall.{RawCall}
use Rattle.js_call.specs.Failure.{failure_source}
use Rattle.js_call.specs.RawCall.{RawPolled}
use Rattle.js_call.specs.Table.{Table}

-- a call that asks this, which is not answered
abbrev pub calling : {M : Type 0} → M → RawCall → Call M
calling meaning asked = record { api_call = meaning; stage = Asking asked }

-- a call whose reply has come, and is not read yet
abbrev pub answered : {M : Type 0} → M → Message → Call M
answered meaning message = record { api_call = meaning; stage = Answered message }

-- a call that has failed, and has not told it yet
abbrev pub failed : {M : Type 0} → M → Failure → Call M
failed meaning failure = record { api_call = meaning; stage = Failed failure }

-- a failure is answered with its text as the source, and kept where memory runs out
abbrev pub Fails : {M R A : Type 0} → Table M R A → M → Failure → Turn (Call M) A → Type 0
Fails t meaning failure (Ready answer) = answer ≡ t.fails meaning failure (failure_source failure)
Fails t meaning failure (turns.OutOfMemory next) = next ≡ failed meaning failure
Fails t meaning failure (Pending next) = ⊥

-- a reply that was read is answered; one that does not read is a failure, and one for which no memory is left is kept
abbrev pub AnswersTo : {M R A : Type 0} → Table M R A → M → Message → Result R ReadError → Turn (Call M) A → Type 0
AnswersTo t meaning message (Ok reply) turn = turn ≡ Ready (t.means meaning reply)
AnswersTo t meaning message (Err OutOfMemory) turn = turn ≡ turns.OutOfMemory (answered meaning message)
AnswersTo t meaning message (Err fault) turn = Fails t meaning (Read fault) turn

-- a reply that came is answered by what it reads as
abbrev pub Reads : {M R A : Type 0} → Table M R A → M → Message → Turn (Call M) A → Type 0
Reads {R = R} t meaning message turn = (read : Result R ReadError) × t.reads message.payload read × AnswersTo t meaning message read turn

-- what a call answers to what its request does
abbrev pub Turns : {M R A : Type 0} → Table M R A → M → Turn RawCall (Result Message (Error RequestErrorKind)) → Turn (Call M) A → Type 0
Turns t meaning (Pending asked) turn = turn ≡ Pending (calling meaning asked)
Turns t meaning (turns.OutOfMemory asked) turn = turn ≡ turns.OutOfMemory (calling meaning asked)
Turns t meaning (Ready (Ok message)) turn = Reads t meaning message turn
Turns t meaning (Ready (Err error)) turn = Fails t meaning (Request (kind_of error)) turn

-- a reply that was kept is read, a failure that was kept is told, and else the request goes on
abbrev pub GoesOn : {M R A : Type 0} → Table M R A → M → Stage → ℕ → Turn (Call M) A → LinkView → LinkView → Type 0
GoesOn t meaning (Answered message) now turn old new = (new ≡ old) × Reads t meaning message turn
GoesOn t meaning (Failed failure) now turn old new = (new ≡ old) × Fails t meaning failure turn
GoesOn t meaning (Asking call) now turn old new =
    (asked : Turn RawCall (Result Message (Error RequestErrorKind))) × RawPolled call now asked old new × Turns t meaning asked turn

-- refused arguments are answered, and nothing is sent
abbrev pub PolledUnless : {M R A : Type 0} → Option A → Table M R A → Call M → ℕ → Turn (Call M) A → LinkView → LinkView → Type 0
PolledUnless (Some refusal) t call now turn old new = (turn ≡ Ready refusal) × (new ≡ old)
PolledUnless None t call now turn old new = GoesOn t call.api_call call.stage now turn old new

-- what a poll of a call does
abbrev pub Polled : {M R A : Type 0} → Table M R A → Call M → ℕ → Turn (Call M) A → LinkView → LinkView → Type 0
Polled t call now turn old new = PolledUnless (t.refused call.api_call) t call now turn old new
