-- What arrives on an inbox that the consumer reads, or does not in time, and what is said of it.
use Rattle.std.specs.Prelude.{ℕ, ◌+◌, Bool, true, false, ◌&&◌, ◌||◌, List, [], ◌∷◌, codes, Option, Some, None, nat_lt, ◌==◌, if◌then◌else◌}
use Rattle.js_base.specs.declared.clock.Timer.{Timer}
use Rattle.js_base.specs.declared.message.Message.{Message}
use Rattle.js_base.specs.declared.message.State.{State}
use Rattle.js_base.specs.declared.message.StatusCode.{StatusCode}
use Rattle.js_base.specs.Clock.{is_due}
use Rattle.js_message.specs.AckSubject.{Place, readable_as}
use Rattle.js_pull.specs.declared.kind.Kind.{Kind}
use Rattle.js_pull.specs.declared.kind.Kind.TheVariants as pull
use Rattle.js_pull.specs.declared.reader.Reader.{Reader}
use Rattle.js_pull.specs.Kind.{pull_kind}
use Rattle.js_ordered_table.specs.declared.consumer.Consumer.{Consumer}
use Rattle.js_ordered_table.specs.declared.consumer.Phase.{Phase}
use Rattle.js_ordered_table.specs.declared.consumer.Phase.TheVariants.{Pulls, Pushes, Recreates, Idle, Ended, Exhausted}
use Rattle.js_ordered_table.specs.declared.consumer.Recreation.{Recreation}
use Rattle.js_ordered_table.specs.declared.event.Event as events
use Rattle.js_ordered_table.specs.declared.event.EventKind.{EventKind}
use Rattle.js_ordered_table.specs.declared.event.EventKind.TheVariants as what
use Rattle.js_ordered_table.specs.declared.kind.PushKind.{PushKind}
use Rattle.js_ordered_table.specs.declared.kind.PushKind.TheVariants as push
use Rattle.js_ordered_table.specs.declared.setup.OrderedSetup.{OrderedSetup}
use Rattle.js_ordered_table.specs.Arrivals.{push_kind}
use Rattle.js_ordered_table.specs.Fold.{matter_of}
use Rattle.js_ordered_table.specs.Recreation.{message_on}
use Rattle.js_ordered_table.specs.Table.{is_connected}
use Rattle.js_tool_explain.specs.declared.arrivals.Arrived.{Arrived}
use Rattle.js_tool_explain.specs.declared.arrivals.Arrived.TheVariants as news
use Rattle.js_tool_explain.specs.Replies.{ends_at, is_change}
use Rattle.js_tool_explain.specs.OutsideEvents.{is_held}
use Rattle.js_tool_explain.specs.SentencePart.{Text, Number, Seconds, line_text}

-- 0 where there is no status
abbrev pub status_number : Option StatusCode → ℕ
status_number None = 0
status_number (Some status) = status.0

-- ---- a message of the stream

-- nothing is said of the one after the last one here: it is handed out
abbrev pub unless_next : ℕ → Place → Option Arrived
unless_next last place = if place.number == last + 1 then None else Some (news.OutOfOrder place.sequence place.number last)

abbrev pub placed : ℕ → Option Place → Option Arrived
placed last None = Some news.NoPlace
placed last (Some place) = unless_next last place

abbrev pub delivered : ℕ → Message → Option Arrived
delivered last message = placed last (readable_as message.reply)

-- ---- pull

-- by its kind
abbrev pub pulled_as : Consumer → Message → Kind → Option Arrived
pulled_as c message pull.Delivered = delivered c.core.consumer_sequence message
pulled_as c message pull.IdleHeartbeat = Some news.Heartbeat
pulled_as c message pull.Deleted = Some news.Deleted
pulled_as c message pull.PushBased = Some news.PushBased
pulled_as c message pull.Limit = Some (news.Limit c.limited)
pulled_as c message pull.Gone = Some news.NoResponders
pulled_as c message (pull.Ledger messages bytes) = Some (news.RequestEnded (status_number message.status))
pulled_as c message pull.Bad = Some (news.BadStatus (status_number message.status))

abbrev pub pulled : Consumer → Message → Option Arrived
pulled c message = pulled_as c message (pull_kind message)

-- no heartbeat in time
abbrev pub silence : ℕ → Option Timer → Bool → Option Arrived
silence now None second = None
silence now (Some timer) second = if is_due timer now then Some (news.Silence timer.wait second) else None

-- a message, or else the heartbeat
abbrev pub pulled_or_silent : Consumer → Reader → ℕ → Option Message → Option Arrived
pulled_or_silent c reader now None = silence now reader.heartbeat_timer c.missed
pulled_or_silent c reader now (Some message) = pulled c message

abbrev pub at_reader : Consumer → Reader → events.Event → Option Arrived
at_reader c reader e = pulled_or_silent c reader e.at (message_on reader.source.inbox (matter_of e.what).arrival)

-- ---- push

-- a heartbeat that names the last number that was accepted, or none, shows no gap
abbrev pub beat : ℕ → Option ℕ → Arrived
beat last None = news.Heartbeat
beat last (Some sent) = if sent == last then news.Heartbeat else news.Behind sent last

abbrev pub pushed_as : ℕ → Message → PushKind → Option Arrived
pushed_as last message push.Delivered = delivered last message
pushed_as last message (push.Beat sent) = Some (beat last sent)
pushed_as last message push.Bad = Some news.BadHeartbeat
pushed_as last message push.OtherStatus = Some (news.OtherStatus (status_number message.status))

abbrev pub pushed : ℕ → Message → Option Arrived
pushed last message = pushed_as last message (push_kind message)

abbrev pub push_silence : ℕ → Timer → Option Arrived
push_silence now timer = if is_due timer now then Some (news.PushSilence timer.wait) else None

-- a message, or else the heartbeat
abbrev pub pushed_or_silent : ℕ → ℕ → Timer → Option Message → Option Arrived
pushed_or_silent last now timer None = push_silence now timer
pushed_or_silent last now timer (Some message) = pushed last message

-- the connection comes or goes, so that push gives up its inbox
abbrev pub is_lost : State → EventKind → Bool
is_lost connection what.Tick = false
is_lost connection (what.Arrival inbox message) = false
is_lost connection (what.Answer request reply) = false
is_lost connection (what.Link up) = false
is_lost connection (what.Connection state) = is_change connection (what.Connection state) && (is_connected connection || is_connected state)
is_lost connection what.WatcherEnded = false

abbrev pub at_inbox : Consumer → ℕ → Timer → events.Event → Option Arrived
at_inbox c inbox timer e =
    if is_lost c.connection e.what then None
    else pushed_or_silent c.core.consumer_sequence e.at timer (message_on inbox (matter_of e.what).arrival)

-- ---- a recreation

abbrev pub held_in : ℕ → Recreation → EventKind → Option Arrived
held_in now r what.Tick = None
held_in now r (what.Arrival inbox message) = if is_held now inbox r then Some (news.Held inbox) else None
held_in now r (what.Answer request reply) = None
held_in now r (what.Link up) = None
held_in now r (what.Connection state) = None
held_in now r what.WatcherEnded = None

abbrev pub held : Recreation → events.Event → Option Arrived
held r e = held_in e.at r e.what

-- ---- all

abbrev pub receives_at : Consumer → Phase → events.Event → Option Arrived
receives_at c (Pulls reader) e = at_reader c reader e
receives_at c (Pushes inbox heartbeat_timer) e = at_inbox c inbox heartbeat_timer e
receives_at c (Recreates r) e = held r e
receives_at c Idle e = None
receives_at c Ended e = None
receives_at c Exhausted e = None

abbrev pub phase_receives : Consumer → events.Event → Option Arrived
phase_receives c e = receives_at c c.phase e

-- what arrives for this consumer in an event, unless it is handed out, or does not in time
abbrev pub arrived : OrderedSetup → Consumer → events.Event → Option Arrived
arrived setup c e = if ends_at setup c.phase e.what then None else phase_receives c e

-- ---- what is said of it

abbrev pub limit_text : Bool → List ℕ
limit_text true = codes "The server refused a pull request as too large, again with no message since the last time."
limit_text false = codes "The server refused a pull request as too large."

abbrev pub silence_text : Bool → List ℕ
silence_text true = codes " (twice its interval), again with no message since the last time."
silence_text false = codes " (twice its interval): the consumer waits as long once more."

-- a later number, or one that was there before
abbrev pub order_text : ℕ → ℕ → List ℕ
order_text number last = if nat_lt last number then codes " was next: a message before it is missing." else codes " was next: it is out of order."

-- a message with another number than the one after the last
abbrev pub out_of_order_text : ℕ → ℕ → ℕ → ℕ → List ℕ
out_of_order_text at sequence number last = line_text at (
    Text (codes "Message ") ∷ Number sequence ∷ Text (codes " arrived with consumer sequence ") ∷ Number number
    ∷ Text (codes " where ") ∷ Number (last + 1) ∷ Text (order_text number last) ∷ [])

abbrev pub behind_text : ℕ → ℕ → ℕ → List ℕ
behind_text at sent last = line_text at (
    Text (codes "A heartbeat came that names consumer sequence ") ∷ Number sent ∷ Text (codes " as the last one sent, where ") ∷ Number last
    ∷ Text (codes " was the last one that came.") ∷ [])

abbrev pub plain_text : ℕ → List ℕ → List ℕ
plain_text at text = line_text at (Text text ∷ [])

-- with a number in it
abbrev pub status_text : ℕ → List ℕ → ℕ → List ℕ → List ℕ
status_text at front number back = line_text at (Text front ∷ Number number ∷ Text back ∷ [])

-- with a time in it
abbrev pub silent_text : ℕ → List ℕ → ℕ → List ℕ → List ℕ
silent_text at front wait back = line_text at (Text front ∷ Seconds wait ∷ Text back ∷ [])

-- the line
abbrev pub arrived_text : ℕ → Arrived → List ℕ
arrived_text at (news.OutOfOrder sequence number last) = out_of_order_text at sequence number last
arrived_text at news.NoPlace = plain_text at (codes "A message came whose reply subject does not state its place in the stream.")
arrived_text at news.Heartbeat = plain_text at (codes "A heartbeat came.")
arrived_text at (news.Behind sent last) = behind_text at sent last
arrived_text at news.BadHeartbeat = plain_text at (codes "A heartbeat came whose last consumer sequence cannot be read.")
arrived_text at news.Deleted = plain_text at (codes "The server says that the consumer was deleted.")
arrived_text at news.PushBased = plain_text at (codes "The server says that the consumer is a push consumer, which cannot be pulled from.")
arrived_text at (news.Limit second) = plain_text at (limit_text second)
arrived_text at news.NoResponders = plain_text at (codes "Nobody listens to pull requests (status 503).")
arrived_text at (news.RequestEnded status) = status_text at (codes "A pull request has ended with status ") status (codes ".")
arrived_text at (news.BadStatus status) = status_text at (codes "A message with status ") status (codes " came that cannot be read.")
arrived_text at (news.OtherStatus status) = status_text at (codes "A message with status ") status (codes " came and was passed over.")
arrived_text at (news.Held inbox) = status_text at (codes "A message came on the new inbox ") inbox (codes " and is held until the create request is answered.")
arrived_text at (news.Silence wait second) = silent_text at (codes "No heartbeat was heard for ") wait (silence_text second)
arrived_text at (news.PushSilence wait) = silent_text at (codes "Nothing came from the server for ") wait (codes ".")
