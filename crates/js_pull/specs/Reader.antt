-- The pull reader, row by row.
use Rattle.std.specs.Prelude.{ℕ, ◌+◌, ◌-◌, ◌*◌, ◌/◌, ◌^◌, Bool, true, false, ◌&&◌, ◌||◌, not, List, [], ◌∷◌, Option, Some, None, option_map, Result, Ok, Err, min, nat_le, nat_lt, ◌==◌, codes, unwrap_or, if◌then◌else◌}
use Rattle.js_base.specs.declared.message.Message.{Message}
use Rattle.js_base.specs.declared.message.StatusCode.{StatusCode}
use Rattle.js_base.specs.Headers.{last_value, all_headers}
use Rattle.js_base.specs.Clock.{is_due, is_any_due, second}
use Rattle.js_base.specs.declared.clock.Timer.{Timer}
use Rattle.js_base.specs.declared.message.State.{State}
use Rattle.js_base.specs.declared.message.State.TheVariants.{Pending, Connected, Disconnected}
use Rattle.js_json.specs.declared.consumer.info.Info.{Info}
use Rattle.js_codes.specs.declared.error_code.ErrorCode.{ErrorCode}
use Rattle.js_json.specs.declared.response.Response.{Response}
use Rattle.js_json.specs.declared.response.Response.TheVariants as response
use Rattle.js_json.specs.Response.{response_of}
use Rattle.js_json.specs.ConsumerInfo.{info_fields}
use Rattle.js_json_members.specs.declared.error.ReadError.{ReadError}
use Rattle.js_json_members.specs.Member.{float_free}
use Rattle.js_link.specs.RowInput.{RowInput}
use Rattle.js_link.specs.Wish.{reply_of}
use Rattle.js_link.specs.declared.wish.Wish.{Wish}
use Rattle.js_link.specs.declared.wish.Wish.TheVariants.{Publishes, Requests, Reads, Awaits}
use Rattle.js_link.specs.declared.wish.Met.{Met}
use Rattle.js_link.specs.declared.wish.Wish.TheVariants as wishes
use Rattle.js_link.specs.declared.sent.Sent.{Sent}
use Rattle.js_link.specs.declared.sent.Sent.TheVariants.{Request, Publish}
use Rattle.js_pull.specs.declared.kind.Kind.{Kind}
use Rattle.js_pull.specs.declared.kind.Kind.TheVariants.{Delivered, IdleHeartbeat, Deleted, PushBased, Limit, Gone, Bad, Ledger}
use Rattle.js_pull.specs.Kind.{pull_kind}
use Rattle.js_pull.specs.Limits.{pull_body}
use Rattle.js_pull.specs.declared.reader.PullSource.{PullSource}
use Rattle.js_pull.specs.declared.reader.Reader.{Reader}
use Rattle.js_pull.specs.declared.reader.MessagesErrorKind.{MessagesErrorKind}
use Rattle.js_pull.specs.declared.reader.MessagesErrorKind.TheVariants as error
use Rattle.js_pull.specs.declared.reader.InfoRequest.{InfoRequest}
use Rattle.js_pull.specs.declared.reader.InfoRequest.TheVariants.{NoInfoRequest, Asked, Resting}
use Rattle.js_pull.specs.declared.reader.Reason.{Reason}
use Rattle.js_pull.specs.declared.reader.Reason.TheVariants.{Low, Expired, Informed}
use Rattle.js_pull.specs.declared.reader.Row.{Row}
use Rattle.js_pull.specs.declared.reader.Row.TheVariants.{Begin, Ask, Threshold, Arm, Inquire, FailInfoRequest, CheckInfoRequest, Answered, CheckExpiry, CheckArrival, CheckSilence}
use Rattle.js_pull.specs.declared.reader.ReaderOutput.{ReaderOutput}
use Rattle.js_base.specs.ApiSubject.{under, consumer_api_subject}
use Rattle.js_pull.specs.declared.reader.ReaderOutput.TheVariants.{Nothing, Hands, Tells}
use Rattle.js_pull.specs.declared.replies.InfoReply.{InfoReply}
use Rattle.js_pull.specs.declared.replies.InfoReply.TheVariants as says

-- a reader that has asked for nothing yet
abbrev pub new_reader : PullSource → Reader
new_reader source = record {
  source = source;
  pending = 0;
  pending_bytes = 0;
  waiting = false;
  unreset_requests = 0;
  pin = None;
  expiry = None;
  heartbeat_timer = None;
  inquiry = NoInfoRequest;
  ended = false;
}

-- the answer to a request: none where the replier is gone
pub record Answer : Type 0 where
  pub request : ℕ
  pub reply : Option Message

-- a row was passed: the reader after it, what went out, what its user is told, and the rows that follow at once
pub record Passed : Type 0 where
  pub reader : Reader
  pub sent : List Sent
  pub told : ReaderOutput
  pub next : List Row

-- nothing goes out, and nothing is told
abbrev pub silent_row : Reader → List Row → Passed
silent_row reader rows = record { reader = reader; sent = []; told = Nothing; next = rows }

-- the user is told of an error
abbrev pub tell : MessagesErrorKind → Reader → List Row → Passed
tell kind reader rows = record { reader = reader; sent = []; told = Tells kind; next = rows }

-- after an error that ends it, no row follows
abbrev pub end_with : MessagesErrorKind → Reader → Passed
end_with kind r = tell kind (record r { ended = true }) []

-- the last number that a counter holds
abbrev pub u64_max : ℕ
u64_max = 2 ^ 64 - 1

-- the wait after the nth failure
abbrev pub retry_wait : ℕ → ℕ
retry_wait n = if nat_lt n 5 then n * 500_000_000 else 10 * second

-- ---- texts

-- the dot between tokens
abbrev pub dot : List ℕ
dot = codes "."

-- of a request to the API that speaks of a consumer
abbrev pub api_subject : List ℕ → List ℕ → List ℕ → List ℕ → List ℕ
api_subject api words stream name = under api (consumer_api_subject words stream name)

-- of a pull request
abbrev pub pull_subject : PullSource → List ℕ
pull_subject s = api_subject s.api (codes "CONSUMER.MSG.NEXT") s.stream s.name

-- of an info request
abbrev pub info_subject : PullSource → List ℕ
info_subject s = api_subject s.api (codes "CONSUMER.INFO") s.stream s.name

-- ---- timers

-- a wait, or none where it is longer than any time
abbrev pub timer_from : ℕ → ℕ → Option Timer
timer_from now wait = if nat_le wait u64_max then Some (record { set = now; wait = wait }) else None

-- five seconds after the expiry, where there is one above 0
abbrev pub armed_expiry : ℕ → Option ℕ → Option Timer
armed_expiry now None = None
armed_expiry now (Some expires) = if expires == 0 then None else timer_from now (expires + 5 * second)

-- twice the heartbeat, where it is above 0
abbrev pub armed_silence : ℕ → ℕ → Option Timer
armed_silence now heartbeat = if heartbeat == 0 then None else timer_from now (2 * heartbeat)

-- a bound on an answer, where there is one
abbrev pub timeout_from : ℕ → Option ℕ → Option Timer
timeout_from now None = None
timeout_from now (Some wait) = Some (record { set = now; wait = wait })

-- the expiry is armed
abbrev pub with_expiry : ℕ → Reader → Reader
with_expiry now r = record r { expiry = armed_expiry now r.source.config.expires }

-- the heartbeat is armed
abbrev pub with_silence : ℕ → Reader → Reader
with_silence now r = record r { heartbeat_timer = armed_silence now r.source.config.idle_heartbeat }

-- ---- the ledger

-- a request that sets what is pending, and does not add to it
abbrev pub resets : Reason → Bool
resets Low = false
resets Expired = true
resets (Informed reset) = reset

-- what is pending after a request for so much
abbrev pub raised : Bool → ℕ → ℕ → ℕ
raised reset amount pending = if reset then amount else min (pending + amount) u64_max

-- the count of extra requests after a request
abbrev pub extra_after : Reason → ℕ → ℕ
extra_after Low unreset_requests = unreset_requests
extra_after Expired unreset_requests = 0
extra_after (Informed reset) unreset_requests = if reset then 0 else min (unreset_requests + 1) u64_max

-- a request has gone out
abbrev pub asked : Reason → Reader → Reader
asked reason r = record r {
  pending = raised (resets reason) r.source.config.batch r.pending;
  pending_bytes = raised (resets reason) r.source.config.max_bytes r.pending_bytes;
  waiting = false;
  unreset_requests = extra_after reason r.unreset_requests;
}

-- a pull request; the expiry is armed whether it goes out or not
abbrev pub ask : RowInput → Reason → Reader → Passed
ask p reason r =
    let armed = with_expiry p.now r in
    if p.up
    then record {
      reader = asked reason armed;
      sent = Publish (pull_subject r.source) (Some r.source.subject) None (pull_body r.pin r.source.config) ∷ [];
      told = Nothing;
      next = [];
    }
    else tell error.Pull armed []

-- an info is open
abbrev pub is_asking : InfoRequest → Bool
is_asking NoInfoRequest = false
is_asking _ = true

-- at most half of the messages are pending, or of the bytes where they are limited
abbrev pub is_low : Reader → Bool
is_low r =
    nat_le r.pending (r.source.config.batch / 2)
    || (nat_lt 0 r.source.config.max_bytes && nat_le r.pending_bytes (r.source.config.max_bytes / 2))

-- where little is pending the mark is set, and a request follows unless an info is open
abbrev pub threshold : Reader → Passed
threshold r =
    if is_low r && not r.waiting
    then silent_row (record r { waiting = true }) (if is_asking r.inquiry then [] else Ask Low ∷ [])
    else silent_row r []

-- ---- infos

-- a try: without the link it fails at once
abbrev pub inquire : RowInput → ℕ → Reader → Passed
inquire p failures r =
    if p.up
    then record {
      reader = record r { inquiry = Asked p.request (timeout_from p.now r.source.info_timeout) failures };
      sent = Request p.request (info_subject r.source) None (codes "{}") ∷ [];
      told = Nothing;
      next = [];
    }
    else silent_row r (FailInfoRequest failures ∷ [])

-- the sixth failure ends it
abbrev pub fail_inquiry : RowInput → ℕ → Reader → Passed
fail_inquiry p failures r =
    let n = failures + 1 in
    if nat_lt n 6
    then silent_row (record r { inquiry = Resting (record { set = p.now; wait = retry_wait n }) n }) []
    else tell error.Pull (record r { inquiry = NoInfoRequest }) (Ask (Informed false) ∷ [])

-- nobody listens to the subject of a request
abbrev pub is_unheard : Option StatusCode → Bool
is_unheard None = false
is_unheard (Some status) = status.0 == 503

-- an answer that reads as an info, or as an error of the API
abbrev pub read_reply : Result (Response Info) ReadError → InfoReply
read_reply (Ok (response.Ok info)) = says.Info info
read_reply (Ok (response.Err error)) = says.Error error.err_code
read_reply (Err error) = says.Nothing

-- what a payload says
abbrev pub payload_reply : List ℕ → InfoReply
payload_reply payload = read_reply (response_of (float_free info_fields) payload)

-- what a message says that is not of status 503
abbrev pub info_reply : Option Message → InfoReply
info_reply None = says.Nothing
info_reply (Some message) = if is_unheard message.status then says.Nothing else payload_reply message.payload

-- the info that an answer holds
abbrev pub info_in : InfoReply → Option Info
info_in (says.Info info) = Some info
info_in (says.Error code) = None
info_in says.Nothing = None

-- a message that is not of status 503, and reads as an info
abbrev pub info_of_reply : Option Message → Option Info
info_of_reply message = info_in (info_reply message)

-- the stream is not found
abbrev pub stream_not_found : ℕ
stream_not_found = 10059

-- the error that the API sends where the consumer is not found, or its stream
abbrev pub is_gone : ErrorCode → Bool
is_gone code = code.0 == 10014 || code.0 == stream_not_found

-- an error: that the consumer is gone ends the reader by the option; else the try has failed
abbrev pub refused : ℕ → Bool → Reader → Passed
refused failures gone r =
    if r.source.resilience.recreates_when_gone && gone then end_with error.ConsumerDeleted r else silent_row r (FailInfoRequest failures ∷ [])

-- a good answer brings a request, with reset where no pull request waits
abbrev pub answered : ℕ → InfoReply → Reader → Passed
answered failures (says.Info info) r = silent_row (record r { inquiry = NoInfoRequest }) (Ask (Informed (info.num_waiting == 0)) ∷ [])
answered failures (says.Error code) r = refused failures (is_gone code) r
answered failures says.Nothing r = silent_row r (FailInfoRequest failures ∷ [])

-- the reply to a request, if this answers it
abbrev pub reply_to : ℕ → Option Answer → Option (Option Message)
reply_to request None = None
reply_to request (Some answer) = if request == answer.request then Some answer.reply else None

-- an answer, which is read next, or the timeout
abbrev pub check_asked : RowInput → Option Timer → ℕ → Option (Option Message) → Reader → Passed
check_asked p timeout failures (Some reply) r = silent_row r (Answered reply failures ∷ [])
check_asked p timeout failures None r = silent_row r (if is_any_due timeout p.now then FailInfoRequest failures ∷ [] else [])

-- an open info looks at its answer before its clock
abbrev pub check_inquiry : RowInput → Option Answer → InfoRequest → Reader → Passed
check_inquiry p answer NoInfoRequest r = silent_row r []
check_inquiry p answer (Asked request timeout failures) r = check_asked p timeout failures (reply_to request answer) r
check_inquiry p answer (Resting wait failures) r = silent_row r (if is_due wait p.now then Inquire failures ∷ [] else [])

-- ---- arrivals

-- pending falls, not below 0
abbrev pub lowered : ℕ → ℕ → Reader → Reader
lowered messages bytes r = record r { pending = r.pending - messages; pending_bytes = r.pending_bytes - bytes }

-- what an arrival of a kind does
abbrev pub hear : Message → Kind → Reader → Passed
hear message Delivered r = record { reader = lowered 1 message.length r; sent = []; told = Hands message; next = Threshold ∷ [] }
hear message IdleHeartbeat r = silent_row r (Threshold ∷ [])
hear message Deleted r = end_with error.ConsumerDeleted r
hear message PushBased r = end_with error.PushBasedConsumer r
hear message Limit r = end_with error.RequestLimitExceeded r
hear message Gone r = tell error.NoResponders r (Threshold ∷ [])
hear message Bad r = tell error.Other r (Threshold ∷ [])
hear message (Ledger messages bytes) r =
    silent_row (lowered (unwrap_or messages r.source.config.batch) (unwrap_or bytes r.source.config.max_bytes) r) (Threshold ∷ [])

-- the header that names the pinned client
abbrev pub pin_header : List ℕ
pin_header = codes "Nats-Pin-Id"

-- the newer of two pins
abbrev pub newer : Option (List ℕ) → Option (List ℕ) → Option (List ℕ)
newer None old = old
newer (Some new) old = Some new

-- a message may name the pinned client, and status 423 says that it is another one
abbrev pub pin_after : Message → Option StatusCode → Option (List ℕ) → Option (List ℕ)
pin_after message None pin = newer (last_value pin_header (all_headers message.headers)) pin
pin_after message (Some status) pin =
    if status.0 == 200 then newer (last_value pin_header (all_headers message.headers)) pin else (
    if status.0 == 423 then None else pin)

-- only a pinned client keeps a pin
abbrev pub with_pin : Message → Reader → Reader
with_pin message r = record r { pin = (if r.source.pinned then pin_after message message.status r.pin else None) }

-- an arrival arms the heartbeat; without one it is looked at
abbrev pub check_arrival : RowInput → Option Message → Reader → Passed
check_arrival p None r = silent_row r (CheckSilence ∷ [])
check_arrival p (Some message) r = hear message (pull_kind message) (with_pin message (with_silence p.now r))

-- by the option an info is asked for after a missing heartbeat, unless one is open
abbrev pub silence_inquiry : Reader → List Row
silence_inquiry r = if r.source.resilience.asks_at_first_heartbeat && not (is_asking r.inquiry) then Inquire 0 ∷ [] else []

-- a heartbeat that is missing is told, and armed anew
abbrev pub check_silence : RowInput → Reader → Passed
check_silence p r =
    if is_any_due r.heartbeat_timer p.now then tell error.MissingHeartbeat (with_silence p.now r) (silence_inquiry r) else silent_row r []

-- ---- an event

-- without an open info a change to Connected begins one, and another change arms the expiry, which is else looked at
abbrev pub begin_change : RowInput → Option State → Reader → Passed
begin_change p None r = silent_row r (CheckExpiry ∷ CheckArrival ∷ [])
begin_change p (Some Connected) r = silent_row r (Inquire 0 ∷ CheckArrival ∷ [])
begin_change p (Some Pending) r = silent_row (with_expiry p.now r) (CheckArrival ∷ [])
begin_change p (Some Disconnected) r = silent_row (with_expiry p.now r) (CheckArrival ∷ [])

-- what an event does first; an ended reader passes nothing
abbrev pub begin_row : RowInput → Option State → Reader → Passed
begin_row p change r =
    if r.ended then silent_row r [] else (
    if is_asking r.inquiry then silent_row r (CheckInfoRequest ∷ CheckArrival ∷ []) else begin_change p change r)

-- what a new reader does first: it asks at once, and arms its heartbeat
abbrev pub opening : List Row
opening = Threshold ∷ Arm ∷ []

-- ---- the rows

-- one row is passed
abbrev pub row : RowInput → Option Answer → Option Message → Row → Reader → Passed
row p answer arrival (Begin change) r = begin_row p change r
row p answer arrival (Ask reason) r = ask p reason r
row p answer arrival Threshold r = threshold r
row p answer arrival Arm r = silent_row (with_silence p.now r) []
row p answer arrival (Inquire failures) r = inquire p failures r
row p answer arrival (FailInfoRequest failures) r = fail_inquiry p failures r
row p answer arrival CheckInfoRequest r = check_inquiry p answer r.inquiry r
row p answer arrival (Answered message failures) r = answered failures (info_reply message) r
row p answer arrival CheckExpiry r = silent_row r (if is_any_due r.expiry p.now then Ask Expired ∷ [] else [])
row p answer arrival CheckArrival r = check_arrival p arrival r
row p answer arrival CheckSilence r = check_silence p r

-- ---- what a row asks of the link

-- an open info that was asked for waits for its answer
abbrev pub awaited : InfoRequest → Wish
awaited (Asked request timeout failures) = Awaits request
awaited _ = wishes.Nothing

-- what each row asks: one thing at most
abbrev pub wish : Row → Reader → Wish
wish (Ask reason) r = Publishes (pull_subject r.source) (Some r.source.subject) (pull_body r.pin r.source.config)
wish (Inquire failures) r = Requests (info_subject r.source) (codes "{}")
wish CheckInfoRequest r = awaited r.inquiry
wish CheckArrival r = Reads r.source.inbox
wish _ r = wishes.Nothing

-- the answer that was met
abbrev pub answer_of : Wish → Met → Option Answer
answer_of (Awaits request) met = option_map (λ reply. record { request = request; reply = reply }) (reply_of met)
answer_of wish met = None
