-- What happens outside the consumer, and what is said of it.
use Rattle.std.specs.Prelude.{ℕ, Bool, true, false, not, ◌&&◌, List, [], ◌∷◌, codes, Option, Some, None, ◌==◌, if◌then◌else◌}
use Rattle.js_base.specs.declared.message.State.{State}
use Rattle.js_base.specs.declared.message.State.TheVariants.{Pending, Connected, Disconnected}
use Rattle.js_pull.specs.declared.reader.InfoRequest.{InfoRequest}
use Rattle.js_pull.specs.declared.reader.InfoRequest.TheVariants.{NoInfoRequest, Asked, Resting}
use Rattle.js_ordered_table.specs.declared.consumer.Consumer.{Consumer}
use Rattle.js_ordered_table.specs.declared.consumer.Opened.{Opened}
use Rattle.js_ordered_table.specs.declared.consumer.Phase.{Phase}
use Rattle.js_ordered_table.specs.declared.consumer.Phase.TheVariants.{Pulls, Pushes, Recreates, Idle, Ended, Exhausted}
use Rattle.js_ordered_table.specs.declared.consumer.Recreation.{Recreation}
use Rattle.js_ordered_table.specs.declared.consumer.Stage.{Stage}
use Rattle.js_ordered_table.specs.declared.consumer.Stage.TheVariants.{Between, Deleting, Creating, Waiting}
use Rattle.js_ordered_table.specs.declared.event.Event as events
use Rattle.js_ordered_table.specs.declared.event.EventKind.{EventKind}
use Rattle.js_ordered_table.specs.declared.event.EventKind.TheVariants as what
use Rattle.js_ordered_table.specs.declared.setup.OrderedSetup.{OrderedSetup}
use Rattle.js_ordered_table.specs.declared.setup.OrderedSetup.TheVariants.{Pull, Push}
use Rattle.js_ordered_table.specs.Fold.{is_over}
use Rattle.js_ordered_table.specs.Timers.{stage_due}
use Rattle.js_tool_explain.specs.declared.outside_events.Outside.{Outside}
use Rattle.js_tool_explain.specs.declared.outside_events.Outside.TheVariants as outside_of
use Rattle.js_tool_explain.specs.SentencePart.{Said, Text, Number, line_text}

-- ---- what it is

-- the end of the watcher ends push, if it has not ended before
abbrev pub ends_unwatched : OrderedSetup → Phase → Bool
ends_unwatched (Pull setup) phase = false
ends_unwatched (Push setup) phase = not (is_over phase)

-- push has opened this inbox
abbrev pub is_opened : ℕ → Option Opened → Bool
is_opened inbox None = false
is_opened inbox (Some opened) = inbox == opened.inbox

-- what arrives on this inbox is held, unless the wait of the recreation is over
abbrev pub is_held : ℕ → ℕ → Recreation → Bool
is_held now inbox r = is_opened inbox r.opened && not (stage_due now r.stage)

-- the consumer reads this inbox, or holds what arrives on it
abbrev pub is_read : ℕ → ℕ → Phase → Bool
is_read now inbox (Pulls reader) = inbox == reader.source.inbox
is_read now inbox (Pushes current heartbeat_timer) = inbox == current
is_read now inbox (Recreates r) = is_held now inbox r
is_read now inbox Idle = false
is_read now inbox Ended = false
is_read now inbox Exhausted = false

-- a reader waits for the answer to this request
abbrev pub is_asked : ℕ → InfoRequest → Bool
is_asked request NoInfoRequest = false
is_asked request (Asked asked timeout failures) = request == asked
is_asked request (Resting wait failures) = false

-- a recreation does
abbrev pub is_waited_for : ℕ → Stage → Bool
is_waited_for request Between = false
is_waited_for request (Deleting asked timeout) = request == asked
is_waited_for request (Creating asked timeout) = request == asked
is_waited_for request (Waiting wait) = false

-- the consumer does
abbrev pub is_awaited : ℕ → Phase → Bool
is_awaited request (Pulls reader) = is_asked request reader.inquiry
is_awaited request (Pushes inbox heartbeat_timer) = false
is_awaited request (Recreates r) = is_waited_for request r.stage
is_awaited request Idle = false
is_awaited request Ended = false
is_awaited request Exhausted = false

abbrev pub unless_read : Bool → ℕ → Option Outside
unless_read read inbox = if read then None else Some (outside_of.PassedOver inbox)

abbrev pub unless_awaited : Bool → ℕ → Option Outside
unless_awaited awaited request = if awaited then None else Some (outside_of.Unawaited request)

-- what happens at this consumer in an event
abbrev pub outside_in : OrderedSetup → Consumer → ℕ → EventKind → Option Outside
outside_in setup c now what.Tick = None
outside_in setup c now (what.Arrival inbox message) = unless_read (is_read now inbox c.phase) inbox
outside_in setup c now (what.Answer request reply) = unless_awaited (is_awaited request c.phase) request
outside_in setup c now (what.Link up) = Some (outside_of.Link up)
outside_in setup c now (what.Connection state) = Some (outside_of.Connection c.connection state)
outside_in setup c now what.WatcherEnded = Some (outside_of.Unwatched (ends_unwatched setup c.phase))

abbrev pub outside : OrderedSetup → Consumer → events.Event → Option Outside
outside setup c e = outside_in setup c e.at e.what

-- ---- what is said of it

abbrev pub state_name : State → List ℕ
state_name Pending = codes "pending"
state_name Connected = codes "connected"
state_name Disconnected = codes "disconnected"

abbrev pub link_text : Bool → List ℕ
link_text true = codes "The link is open: what the consumer sends goes out from now on."
link_text false = codes "The link is closed: what the consumer sends does not go out from now on."

abbrev pub unwatched_text : Bool → List ℕ
unwatched_text true = codes "Nothing watches the connection any more, which ends a push consumer."
unwatched_text false = codes "Nothing watches the connection any more."

-- the sentence
abbrev pub outside_sentence : Outside → List Said
outside_sentence (outside_of.Link up) = Text (link_text up) ∷ []
outside_sentence (outside_of.Connection was now) =
    Text (codes "The connection is ") ∷ Text (state_name now) ∷ Text (codes " from now on; it was ") ∷ Text (state_name was) ∷ Text (codes ".") ∷ []
outside_sentence (outside_of.Unwatched ends) = Text (unwatched_text ends) ∷ []
outside_sentence (outside_of.PassedOver inbox) =
    Text (codes "A message came on inbox ") ∷ Number inbox ∷ Text (codes ", which the consumer does not read now: it was passed over.") ∷ []
outside_sentence (outside_of.Unawaited request) =
    Text (codes "An answer to request ") ∷ Number request ∷ Text (codes " came, which the consumer does not wait for: it was passed over.") ∷ []

abbrev pub outside_text : ℕ → Outside → List ℕ
outside_text at news = line_text at (outside_sentence news)
