-- What becomes of what the consumer waits for, and what is said of it.
use Rattle.std.specs.Prelude.{ℕ, Bool, false, not, List, [], ◌∷◌, codes, Option, Some, None, option_map, if◌then◌else◌}
use Rattle.js_base.specs.declared.clock.Timer.{Timer}
use Rattle.js_base.specs.declared.message.Message.{Message}
use Rattle.js_base.specs.declared.message.State.{State}
use Rattle.js_base.specs.Clock.{is_due}
use Rattle.js_json.specs.declared.consumer.info.Info.{Info}
use Rattle.js_pull.specs.declared.reader.InfoRequest.{InfoRequest}
use Rattle.js_pull.specs.declared.reader.InfoRequest.TheVariants.{NoInfoRequest, Asked, Resting}
use Rattle.js_pull.specs.declared.reader.Reader.{Reader}
use Rattle.js_pull.specs.Poll.{same_state}
use Rattle.js_pull.specs.Reader.{info_in, is_asking, is_unheard, payload_reply, reply_to}
use Rattle.js_ordered_table.specs.declared.consumer.Consumer.{Consumer}
use Rattle.js_ordered_table.specs.declared.consumer.Phase.{Phase}
use Rattle.js_ordered_table.specs.declared.consumer.Phase.TheVariants.{Pulls, Pushes, Recreates, Idle, Ended, Exhausted}
use Rattle.js_ordered_table.specs.declared.consumer.Recreation.{Recreation}
use Rattle.js_ordered_table.specs.declared.consumer.Stage.{Stage}
use Rattle.js_ordered_table.specs.declared.consumer.Stage.TheVariants.{Between, Deleting, Creating, Waiting}
use Rattle.js_ordered_table.specs.declared.event.Event as events
use Rattle.js_ordered_table.specs.declared.event.EventKind.{EventKind}
use Rattle.js_ordered_table.specs.declared.event.EventKind.TheVariants as what
use Rattle.js_ordered_table.specs.declared.run.Start as starts
use Rattle.js_ordered_table.specs.declared.run.Start.TheVariants as start
use Rattle.js_ordered_table.specs.declared.setup.OrderedSetup.{OrderedSetup}
use Rattle.js_ordered_table.specs.Fold.{matter_of}
use Rattle.js_ordered_table.specs.Recreation.{has_subject}
use Rattle.js_tool_explain.specs.declared.replies.Awaited.{Awaited}
use Rattle.js_tool_explain.specs.declared.replies.Awaited.TheVariants as news
use Rattle.js_tool_explain.specs.declared.replies.Reply.{Reply}
use Rattle.js_tool_explain.specs.declared.replies.Reply.TheVariants as answer
use Rattle.js_tool_explain.specs.OutsideEvents.{ends_unwatched}
use Rattle.js_tool_explain.specs.SentencePart.{Text, Number, Seconds, line_text}

-- ---- answers

-- an info, which for push needs a subject that is delivered to
abbrev pub info_reply : OrderedSetup → Option Info → Reply
info_reply setup None = answer.NoInfo
info_reply setup (Some info) = if has_subject setup info then answer.Good else answer.NoSubject

abbrev pub message_reply : OrderedSetup → Message → Reply
message_reply setup message =
    if is_unheard message.status then answer.Unheard else info_reply setup (info_in (payload_reply message.payload))

abbrev pub reply_kind : OrderedSetup → Option Message → Reply
reply_kind setup None = answer.Gone
reply_kind setup (Some message) = message_reply setup message

-- what answers a request in an event, if something does
abbrev pub reply_in : OrderedSetup → ℕ → EventKind → Option Reply
reply_in setup request e = option_map (reply_kind setup) (reply_to request (matter_of e).answer)

-- whether something does, whatever it is
abbrev pub any_reply : Option Message → Reply
any_reply None = answer.Gone
any_reply (Some message) = answer.Good

abbrev pub any_reply_in : ℕ → EventKind → Option Reply
any_reply_in request e = option_map any_reply (reply_to request (matter_of e).answer)

-- ---- pull

-- the time of the last pull request is over
abbrev pub expired : ℕ → Option Timer → Option Awaited
expired now None = None
expired now (Some timer) = if is_due timer now then Some (news.Expired timer.wait) else None

abbrev pub info_late : ℕ → ℕ → Option Timer → Option Awaited
info_late now request None = None
info_late now request (Some timer) = if is_due timer now then Some (news.InfoLate request timer.wait) else None

abbrev pub info_due : ℕ → Timer → Option Awaited
info_due now timer = if is_due timer now then Some (news.InfoDue timer.wait) else None

-- an answer goes before its time
abbrev pub info_answered : ℕ → ℕ → Option Timer → Option Reply → Option Awaited
info_answered now request timeout None = info_late now request timeout
info_answered now request timeout (Some reply) = Some (news.InfoAnswered request reply)

abbrev pub inquiry : OrderedSetup → InfoRequest → events.Event → Option Awaited
inquiry setup NoInfoRequest e = None
inquiry setup (Asked request timeout failures) e = info_answered e.at request timeout (reply_in setup request e.what)
inquiry setup (Resting wait failures) e = info_due e.at wait

-- the connection comes to another state
abbrev pub is_change : State → EventKind → Bool
is_change connection what.Tick = false
is_change connection (what.Arrival inbox message) = false
is_change connection (what.Answer request reply) = false
is_change connection (what.Link up) = false
is_change connection (what.Connection state) = not (same_state connection state)
is_change connection what.WatcherEnded = false

-- an open request for the info, or else the last pull request, unless the connection changes
abbrev pub reader_awaits : OrderedSetup → State → Reader → events.Event → Option Awaited
reader_awaits setup connection reader e =
    if is_asking reader.inquiry then inquiry setup reader.inquiry e
    else if is_change connection e.what then None else expired e.at reader.expiry

-- ---- a recreation

abbrev pub delete_late : ℕ → ℕ → Timer → Option Awaited
delete_late now request timeout = if is_due timeout now then Some (news.DeleteLate request timeout.wait) else None

-- any answer to the delete request will do, and goes before its time
abbrev pub delete_answered : ℕ → ℕ → Timer → Option Reply → Option Awaited
delete_answered now request timeout None = delete_late now request timeout
delete_answered now request timeout (Some reply) = Some (news.DeleteAnswered request reply)

abbrev pub deleting : ℕ → Timer → events.Event → Option Awaited
deleting request timeout e = delete_answered e.at request timeout (any_reply_in request e.what)

abbrev pub created : ℕ → starts.Start → Reply → Awaited
created request from answer.Good = news.Created request from
created request from answer.Gone = news.NotCreated request answer.Gone
created request from answer.Unheard = news.NotCreated request answer.Unheard
created request from answer.NoInfo = news.NotCreated request answer.NoInfo
created request from answer.NoSubject = news.NotCreated request answer.NoSubject

abbrev pub create_late : ℕ → ℕ → Timer → Option Awaited
create_late now request timeout = if is_due timeout now then Some (news.CreateLate request timeout.wait) else None

-- an answer goes before its time
abbrev pub create_answered : ℕ → ℕ → Timer → starts.Start → Option Reply → Option Awaited
create_answered now request timeout from None = create_late now request timeout
create_answered now request timeout from (Some reply) = Some (created request from reply)

abbrev pub creating : OrderedSetup → ℕ → Timer → starts.Start → events.Event → Option Awaited
creating setup request timeout from e = create_answered e.at request timeout from (reply_in setup request e.what)

abbrev pub try_due : ℕ → Timer → Option Awaited
try_due now timer = if is_due timer now then Some (news.TryDue timer.wait) else None

abbrev pub stage_awaits : OrderedSetup → starts.Start → Stage → events.Event → Option Awaited
stage_awaits setup from Between e = None
stage_awaits setup from (Deleting request timeout) e = deleting request timeout e
stage_awaits setup from (Creating request timeout) e = creating setup request timeout from e
stage_awaits setup from (Waiting wait) e = try_due e.at wait

abbrev pub recreation_awaits : OrderedSetup → Recreation → events.Event → Option Awaited
recreation_awaits setup r e = stage_awaits setup r.start r.stage e

-- ---- all

-- the watcher ends, and the consumer with it
abbrev pub ends_at : OrderedSetup → Phase → EventKind → Bool
ends_at setup phase what.Tick = false
ends_at setup phase (what.Arrival inbox message) = false
ends_at setup phase (what.Answer request reply) = false
ends_at setup phase (what.Link up) = false
ends_at setup phase (what.Connection state) = false
ends_at setup phase what.WatcherEnded = ends_unwatched setup phase

abbrev pub awaits_at : OrderedSetup → State → Phase → events.Event → Option Awaited
awaits_at setup connection (Pulls reader) e = reader_awaits setup connection reader e
awaits_at setup connection (Pushes inbox heartbeat_timer) e = None
awaits_at setup connection (Recreates r) e = recreation_awaits setup r e
awaits_at setup connection Idle e = Some news.GivenUp
awaits_at setup connection Ended e = None
awaits_at setup connection Exhausted e = None

abbrev pub phase_awaits : OrderedSetup → Consumer → events.Event → Option Awaited
phase_awaits setup c e = awaits_at setup c.connection c.phase e

-- what becomes of what this consumer waits for in an event
abbrev pub awaited : OrderedSetup → Consumer → events.Event → Option Awaited
awaited setup c e = if ends_at setup c.phase e.what then None else phase_awaits setup c e

-- ---- what is said of it

abbrev pub reply_text : Reply → List ℕ
reply_text answer.Gone = codes ", got no answer: its replier is gone."
reply_text answer.Unheard = codes ", was heard by nobody (status 503)."
reply_text answer.NoInfo = codes ", was answered without a consumer's info."
reply_text answer.NoSubject = codes ", was answered with a consumer that has no deliver subject."
reply_text answer.Good = codes ", was answered."

-- a request with its number and what it is for
abbrev pub answered_text : ℕ → ℕ → List ℕ → Reply → List ℕ
answered_text at request purpose reply = line_text at (Text (codes "Request ") ∷ Number request ∷ Text purpose ∷ Text (reply_text reply) ∷ [])

abbrev pub late_text : ℕ → ℕ → List ℕ → ℕ → List ℕ
late_text at request purpose wait = line_text at (
    Text (codes "Request ") ∷ Number request ∷ Text purpose ∷ Text (codes ", was not answered within ") ∷ Seconds wait ∷ Text (codes ".") ∷ [])

-- the new consumer's name, and where it reads from
abbrev pub created_text : ℕ → List ℕ → ℕ → starts.Start → List ℕ
created_text at name request start.All = line_text at (
    Text (codes "The new consumer \"") ∷ Text name ∷ Text (codes "\" was created (request ") ∷ Number request
    ∷ Text (codes "); it reads from the beginning of the stream.") ∷ [])
created_text at name request (start.From sequence) = line_text at (
    Text (codes "The new consumer \"") ∷ Text name ∷ Text (codes "\" was created (request ") ∷ Number request
    ∷ Text (codes "); it reads from stream sequence ") ∷ Number sequence ∷ Text (codes ".") ∷ [])

abbrev pub wait_text : ℕ → ℕ → List ℕ → List ℕ
wait_text at wait text = line_text at (Text (codes "After ") ∷ Seconds wait ∷ Text text ∷ [])

abbrev pub for_info : List ℕ
for_info = codes ", for the consumer's info"

abbrev pub to_delete : List ℕ
to_delete = codes ", to delete the old consumer"

abbrev pub to_create : List ℕ
to_create = codes ", to create the new consumer"

-- the line, with the name of the consumer that was requested last
abbrev pub awaited_text : ℕ → List ℕ → Awaited → List ℕ
awaited_text at name (news.Expired wait) = wait_text at wait (codes " the time of the last pull request is over.")
awaited_text at name (news.InfoAnswered request reply) = answered_text at request for_info reply
awaited_text at name (news.InfoLate request wait) = late_text at request for_info wait
awaited_text at name (news.InfoDue wait) = wait_text at wait (codes " the wait for the next request for the consumer's info is over.")
awaited_text at name (news.DeleteAnswered request reply) = answered_text at request to_delete reply
awaited_text at name (news.DeleteLate request wait) = late_text at request to_delete wait
awaited_text at name (news.Created request from) = created_text at name request from
awaited_text at name (news.NotCreated request reply) = answered_text at request to_create reply
awaited_text at name (news.CreateLate request wait) = late_text at request to_create wait
awaited_text at name (news.TryDue wait) = wait_text at wait (codes " the wait for the next try is over.")
awaited_text at name news.GivenUp = line_text at (Text (codes "The last recreation was given up, so another one begins.") ∷ [])
