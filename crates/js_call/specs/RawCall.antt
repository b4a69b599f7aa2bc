-- One request: when it may be sent, what a poll meets, and what it answers.
use Rattle.std.specs.Prelude.{ℕ, ◌≡◌, ◌==◌, Bool, true, false, not, nat_lt, if◌then◌else◌, Option, Some, None, length, Result, Ok, Err}
use Rattle.js_base.specs.Clock.{is_over}
use Rattle.js_base.specs.Subject.{is_valid_subject}
use Rattle.js_base.specs.Error.{plain}
use Rattle.js_base.specs.declared.error.Error.{Error}
use Rattle.js_base.specs.declared.message.Message.{Message}
use Rattle.js_base.specs.declared.message.StatusCode.{StatusCode}
use Rattle.js_base.specs.declared.turn.Turn.{Turn}
use Rattle.js_base.specs.declared.turn.Turn.TheVariants as turns
use Rattle.js_link.specs.LinkView.{LinkView, Waits, Ended}
use Rattle.js_link.specs.Calls.{Asks, Answers, Forgets, RefusedSend, FailsToSend}
use Rattle.js_link.specs.declared.link.LinkError.{LinkError}
use Rattle.js_call.specs.declared.error.RequestErrorKind.{RequestErrorKind}
use Rattle.js_call.specs.declared.error.RequestErrorKind.TheVariants.{TimedOut, InvalidSubject, NoResponders}
use Rattle.js_call.specs.declared.error.RequestErrorKind.TheVariants as kind
use Rattle.js_call.specs.declared.open_request.OpenRequest.{OpenRequest}
use Rattle.js_call.specs.declared.open_request.Shown.{Shown}
use Rattle.js_call.specs.declared.open_request.Shown.TheVariants.{Came, Gone, Due, Still}
use Rattle.js_call.specs.declared.raw_call.RawCall.{RawCall}
use Rattle.js_call.specs.declared.raw_call.RequestProgress.{RequestProgress}
use Rattle.js_call.specs.declared.raw_call.RequestProgress.TheVariants as met

-- a wait that has an end is over
abbrev pub times_out : Option ℕ → ℕ → ℕ → Bool
times_out None since now = false
times_out (Some wait) since now = is_over since wait now

-- What the link tells where an open request shows this. The answer goes before the clock.
abbrev pub Shows : OpenRequest → ℕ → Shown → LinkView → LinkView → Type 0
Shows asked now (Came message) old new = Answers asked.request.0 message old new
Shows asked now Gone old new = (new ≡ old) × (old.status asked.request.0 ≡ Ended)
Shows asked now Due old new = Forgets asked.request.0 old new × (old.status asked.request.0 ≡ Waits) × (times_out asked.timeout asked.since now ≡ true)
Shows asked now Still old new = (new ≡ old) × (old.status asked.request.0 ≡ Waits) × (times_out asked.timeout asked.since now ≡ false)

-- the timeout of the request or its context, and else the connection's
abbrev pub chosen_timeout : Option (Option ℕ) → Option ℕ → Option ℕ
chosen_timeout None connection = connection
chosen_timeout (Some own) connection = own

-- the request was sent at this moment, as the call has it
pub record SendsRawCall (call : RawCall) (now : ℕ) (asked : OpenRequest) (old new : LinkView) : Type 0 where
  pub asks : Asks asked.request.0 call.subject call.headers call.payload old new
  pub since : asked.since ≡ now
  pub timeout : asked.timeout ≡ chosen_timeout call.timeout old.request_timeout

-- the request was sent, or the link refused it
abbrev pub SendsRawCallOf : Result OpenRequest LinkError → RawCall → ℕ → LinkView → LinkView → Type 0
SendsRawCallOf (Ok asked) call now old new = SendsRawCall call now asked old new
SendsRawCallOf (Err e) call now old new = RefusedSend e old new

-- what keeps a request from being sent: a subject that is none, and then a body that is too long
abbrev pub refusal_of : RawCall → LinkView → Option RequestErrorKind
refusal_of call link =
    if not (is_valid_subject call.subject) then Some InvalidSubject
    else (if nat_lt link.max_payload (length call.payload) then Some kind.Other else None)

-- the request was sent, and shows this at once
pub record SendsAndShows (call : RawCall) (now : ℕ) (asked : OpenRequest) (shown : Shown) (old new : LinkView) : Type 0 where
  pub between : LinkView
  pub sends : SendsRawCall call now asked old between
  pub shows : Shows asked now shown between new

-- what a poll meets that sends a tested request, by what keeps it from being sent
abbrev pub ProgressesTested : Option RequestErrorKind → RawCall → ℕ → RequestProgress → LinkView → LinkView → Type 0
ProgressesTested (Some kind) call now (met.Barred barred) old new = (barred ≡ kind) × (new ≡ old)
ProgressesTested None call now (met.Shown asked shown) old new = SendsAndShows call now asked shown old new
ProgressesTested None call now met.Failed old new = FailsToSend old new
ProgressesTested None call now met.OutOfMemory old new = new ≡ old
ProgressesTested refusal_before_send call now other old new = ⊥

-- what a poll meets that sends: it tests first and looks at the end, or does neither
abbrev pub ProgressesUnsent : Bool → RawCall → ℕ → RequestProgress → LinkView → LinkView → Type 0
ProgressesUnsent true call now met old new = ProgressesTested (refusal_of call old) call now met old new
ProgressesUnsent false call now (met.Sent asked) old new = SendsRawCall call now asked old new
ProgressesUnsent false call now met.Failed old new = FailsToSend old new
ProgressesUnsent false call now met.OutOfMemory old new = new ≡ old
ProgressesUnsent false call now other old new = ⊥

-- What a poll meets. The request is sent at the first poll, and looked at later.
abbrev pub Progresses : Option OpenRequest → RawCall → ℕ → RequestProgress → LinkView → LinkView → Type 0
Progresses None call now met old new = ProgressesUnsent call.is_tested call now met old new
Progresses (Some sent) call now (met.Shown asked shown) old new = (asked ≡ sent) × Shows sent now shown old new
Progresses (Some sent) call now other old new = ⊥

-- the status says that nobody answers
abbrev pub has_no_responders : Option StatusCode → Bool
has_no_responders None = false
has_no_responders (Some status) = status.0 == 503

-- the reply, unless it says that nobody answers
abbrev pub reply_of : Message → Result Message (Error RequestErrorKind)
reply_of message = if has_no_responders message.status then Err (plain NoResponders) else Ok message

-- the same call, sent
abbrev pub sent_as : RawCall → OpenRequest → RawCall
sent_as call asked = record call { sent = Some asked }

-- what a call answers to what it met
abbrev pub progress_turn : RawCall → RequestProgress → Turn RawCall (Result Message (Error RequestErrorKind))
progress_turn call (met.Barred kind) = turns.Ready (Err (plain kind))
progress_turn call met.Failed = turns.Ready (Err (plain kind.Other))
progress_turn call met.OutOfMemory = turns.OutOfMemory call
progress_turn call (met.Sent asked) = turns.Pending (sent_as call asked)
progress_turn call (met.Shown asked (Came message)) = turns.Ready (reply_of message)
progress_turn call (met.Shown asked Gone) = turns.Ready (Err (plain kind.Other))
progress_turn call (met.Shown asked Due) = turns.Ready (Err (plain TimedOut))
progress_turn call (met.Shown asked Still) = turns.Pending (sent_as call asked)

-- what a poll of one request does
abbrev pub RawPolled : RawCall → ℕ → Turn RawCall (Result Message (Error RequestErrorKind)) → LinkView → LinkView → Type 0
RawPolled call now turn old new = (met : RequestProgress) × Progresses call.sent call now met old new × (turn ≡ progress_turn call met)
