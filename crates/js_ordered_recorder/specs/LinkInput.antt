-- What a recorder takes from its link, one thing a turn, and when nothing lies there.
use Rattle.std.specs.Prelude.{◌≡◌, ℕ, ◌==◌, max, Bool, true, false, Option, Some, None, if◌then◌else◌, refl, ⊤}
use Rattle.js_base.specs.declared.message.Message.{Message}
use Rattle.js_base.specs.declared.message.State.{State}
use Rattle.js_link.specs.Calls.{Answers, Takes}
use Rattle.js_link.specs.LinkView.{LinkView}
use Rattle.js_link.specs.LinkView as link
use Rattle.js_link.specs.declared.link.Watch.{Watch}
use Rattle.js_link.specs.declared.link.Watch.TheVariants as watch
use Rattle.js_link.specs.declared.sent.InboxId.{InboxId}
use Rattle.js_link.specs.declared.sent.RequestId.{RequestId}
use Rattle.js_ordered_recorder.specs.declared.sends.Asked.{Asked}
use Rattle.js_ordered_recorder.specs.declared.sends.LinkNumbers.{LinkNumbers}
use Rattle.js_ordered_recorder.specs.declared.link_event.Taken.{Taken}
use Rattle.js_ordered_recorder.specs.declared.link_event.Taken.TheVariants as taken
use Rattle.js_ordered_recorder.specs.declared.link_input.Awaited.{Awaited}
use Rattle.js_ordered_recorder.specs.declared.link_input.Awaited.TheVariants as awaited
use Rattle.js_ordered_recorder.specs.declared.link_input.Listened.{Listened}
use Rattle.js_ordered_table.specs.Timers.{phase_due}
use Rattle.js_ordered_table.specs.declared.consumer.Phase.{Phase}
use Rattle.js_ordered_table.specs.declared.consumer.Phase.TheVariants.{Pulls, Pushes, Recreates}
use Rattle.js_ordered_table.specs.declared.consumer.Stage.{Stage}
use Rattle.js_ordered_table.specs.declared.consumer.Stage.TheVariants.{Deleting, Creating}
use Rattle.js_ordered_table.specs.declared.event.EventKind.{EventKind}
use Rattle.js_ordered_table.specs.declared.event.EventKind.TheVariants as what
use Rattle.js_ordered_table.specs.declared.setup.OrderedSetup.{OrderedSetup}
use Rattle.js_ordered_table.specs.declared.setup.OrderedSetup.TheVariants.{Pull, Push}
use Rattle.js_pull.specs.Poll.{same_state}
use Rattle.js_pull.specs.declared.reader.InfoRequest.{InfoRequest}
use Rattle.js_pull.specs.declared.reader.InfoRequest.TheVariants as inquiry

-- ---- what was taken

-- what happens by what was taken
abbrev pub kind_of : Taken → EventKind
kind_of (taken.Link up) = what.Link up
kind_of (taken.Connection state) = what.Connection state
kind_of taken.WatcherEnded = what.WatcherEnded
kind_of (taken.Gone request) = what.Answer request None
kind_of (taken.Answer request message) = what.Answer request (Some message)
kind_of (taken.Arrival inbox message) = what.Arrival inbox message
kind_of taken.Tick = what.Tick

-- the message that was taken
abbrev pub message_in : Taken → Option Message
message_in (taken.Answer request message) = Some message
message_in (taken.Arrival inbox message) = Some message
message_in other = None

abbrev pub message_at : Option Taken → Option Message
message_at None = None
message_at (Some one) = message_in one

-- ---- what a consumer waits for

-- an open info waits for its answer
abbrev pub request_in : InfoRequest → Option ℕ
request_in (inquiry.Asked request timeout failures) = Some request
request_in other = None

-- a recreation waits for the answer to its request
abbrev pub stage_request : Stage → Option ℕ
stage_request (Deleting request timeout) = Some request
stage_request (Creating request timeout) = Some request
stage_request other = None

-- the replay's number of the request whose answer is awaited
abbrev pub awaited_in : Phase → Option ℕ
awaited_in (Pulls reader) = if reader.ended then None else request_in reader.inquiry
awaited_in (Recreates r) = stage_request r.stage
awaited_in other = None

-- a request that the link has sent or could not send
abbrev pub awaited_as : ℕ → Option RequestId → Awaited
awaited_as number (Some request) = awaited.Sent number request
awaited_as number None = awaited.Unsent number

-- the answer that is awaited, where its request is the one that was sent last
abbrev pub awaited_at : Option ℕ → Option Asked → Awaited
awaited_at None last = awaited.Nothing
awaited_at (Some number) None = awaited.Nothing
awaited_at (Some number) (Some last) = if number == last.number then awaited_as number last.request else awaited.Nothing

-- the replay's number of the inbox that is read: none while the consumer is recreated
abbrev pub read_in : Phase → Option ℕ
read_in (Pulls reader) = if reader.ended then None else Some reader.source.inbox
read_in (Pushes inbox heartbeat_timer) = Some inbox
read_in other = None

-- the inbox that is read, where it is the one that was opened last, and the link could open it
abbrev pub listened_as : ℕ → ℕ → Option InboxId → Option Listened
listened_as number last None = None
listened_as number last (Some inbox) = if number == last then Some (record { number = number; inbox = inbox }) else None

abbrev pub listened_at : Option ℕ → LinkNumbers → Option Listened
listened_at None sends = None
listened_at (Some number) sends = listened_as number sends.number sends.inbox

-- ---- what lies there

-- what the caller has said of the link, where the replay has it otherwise
abbrev pub link_in : Bool → Bool → Option Taken
link_in true true = None
link_in true false = Some (taken.Link true)
link_in false true = Some (taken.Link false)
link_in false false = None

-- a change of the connection; the end of its watcher is news for push alone
abbrev pub change_in : OrderedSetup → State → Watch → Option Taken
change_in setup last (watch.State state) = if same_state last state then None else Some (taken.Connection state)
change_in (Pull setup) last watch.Ended = None
change_in (Push setup) last watch.Ended = Some taken.WatcherEnded

-- no answer that is awaited has come, and none is gone
abbrev pub HasNoAnswer : Awaited → LinkView → Type 0
HasNoAnswer awaited.Nothing v = ⊤
HasNoAnswer (awaited.Unsent number) v = ⊥
HasNoAnswer (awaited.Sent number request) v = v.status request.0 ≡ link.Waits

-- the awaited answer is gone: its request could not be sent, or the link says so
abbrev pub IsGone : ℕ → Awaited → LinkView → Type 0
IsGone number awaited.Nothing v = ⊥
IsGone number (awaited.Unsent other) v = number ≡ other
IsGone number (awaited.Sent other request) v = (number ≡ other) × (v.status request.0 ≡ link.Ended)

-- the awaited answer, which the link gives once
abbrev pub GivesAnswer : ℕ → Message → Awaited → LinkView → LinkView → Type 0
GivesAnswer number message (awaited.Sent other request) old new = (number ≡ other) × Answers request.0 message old new
GivesAnswer number message other old new = ⊥

-- the awaited answer is taken, or that it is gone; else no answer has come
abbrev pub AnswersAs : Awaited → Option Taken → LinkView → LinkView → Type 0
AnswersAs waits None old new = (new ≡ old) × HasNoAnswer waits old
AnswersAs waits (Some (taken.Gone number)) old new = (new ≡ old) × IsGone number waits old
AnswersAs waits (Some (taken.Answer number message)) old new = GivesAnswer number message waits old new
AnswersAs waits (Some other) old new = ⊥

-- no message lies in the inbox that is read
abbrev pub HasNoArrival : Option Listened → LinkView → Type 0
HasNoArrival None v = ⊤
HasNoArrival (Some read) v = v.count read.inbox.0 ≡ 0

-- the first message of the inbox that is read
abbrev pub GivesArrival : ℕ → Message → Option Listened → LinkView → LinkView → Type 0
GivesArrival number message None old new = ⊥
GivesArrival number message (Some read) old new = (number ≡ read.number) × Takes read.inbox.0 message old new

-- the first message of the inbox that is read is taken; else none lies there
abbrev pub ArrivesAs : Option Listened → Option Taken → LinkView → LinkView → Type 0
ArrivesAs read None old new = (new ≡ old) × HasNoArrival read old
ArrivesAs read (Some (taken.Arrival number message)) old new = GivesArrival number message read old new
ArrivesAs read (Some other) old new = ⊥

-- time passes, where a timer is due
abbrev pub tick_in : ℕ → Phase → Option Taken
tick_in at phase = if phase_due at phase then Some taken.Tick else None
