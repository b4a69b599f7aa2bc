-- What each row asks of the link, one thing at most, and what an event of a replay gives it.
use Rattle.std.specs.Prelude.{ℕ, ◌==◌, List, [], Option, Some, None, option_map, codes, if◌then◌else◌}
use Rattle.js_link.specs.Wish.{message_of}
use Rattle.js_link.specs.declared.wish.Wish.{Wish}
use Rattle.js_link.specs.declared.wish.Wish.TheVariants.{Nothing, Publishes, Requests, OpensInbox, Drops, Reads, Awaits, Watches}
use Rattle.js_link.specs.declared.wish.Met.{Met}
use Rattle.js_link.specs.declared.wish.Met.TheVariants.{Stands, WatchOver}
use Rattle.js_link.specs.Offer.{Offer, given}
use Rattle.js_link.specs.RowInput.{RowInput}
use Rattle.js_base.specs.declared.message.State.{State}
use Rattle.js_pull.specs.Reader.{answer_of, reply_to}
use Rattle.js_ordered_table.specs.Recreation.{message_on}
use Rattle.js_pull.specs.Reader as pull
use Rattle.js_ordered_table.specs.declared.consumer.Consumer.{Consumer}
use Rattle.js_ordered_table.specs.Consumer.{Matter, Change, Unchanged, Becomes, WatcherEnds}
use Rattle.js_ordered_table.specs.declared.consumer.Opened.{Opened}
use Rattle.js_ordered_table.specs.Texts.{delete_subject, create_subject, create_body}
use Rattle.js_ordered_table.specs.Arrivals.{beat_subject, push_kind}
use Rattle.js_ordered_table.specs.declared.kind.PushKind.{PushKind}
use Rattle.js_ordered_table.specs.declared.kind.PushKind.TheVariants.{Beat}
use Rattle.js_ordered_table.specs.declared.row.Arrival.{Arrival}
use Rattle.js_ordered_table.specs.declared.row.Row.{Row}
use Rattle.js_ordered_table.specs.declared.row.Row.TheVariants.{Event, Start, Try, Create, Ask, Await, Hold, Succeed, Fail, CheckArrival, Hear, Read}
use Rattle.js_ordered_table.specs.declared.consumer.ReplayInput.{ReplayInput}
use Rattle.js_ordered_table.specs.declared.consumer.Stage.{Stage}
use Rattle.js_ordered_table.specs.declared.consumer.Stage.TheVariants.{Deleting, Creating}
use Rattle.js_ordered_table.specs.declared.consumer.Phase.{Phase}
use Rattle.js_ordered_table.specs.declared.consumer.Phase.TheVariants.{Pulls, Pushes, Recreates, Ended, Exhausted}
use Rattle.js_ordered_table.specs.declared.setup.OrderedSetup.{OrderedSetup}
use Rattle.js_ordered_table.specs.declared.setup.OrderedSetup.TheVariants.{Pull, Push}

-- the answer that a recreation waits for
abbrev pub awaited : Stage → Wish
awaited (Deleting request timeout) = Awaits request
awaited (Creating request timeout) = Awaits request
awaited _ = Nothing

-- what arrives on the inbox of a create
abbrev pub opened_read : Option Opened → Wish
opened_read None = Nothing
opened_read (Some opened) = Reads opened.inbox

-- the inbox of a create is given up
abbrev pub opened_dropped : Option Opened → Wish
opened_dropped None = Nothing
opened_dropped (Some opened) = Drops opened.inbox

-- the inbox that a phase has is given up
abbrev pub dropped : Phase → Wish
dropped (Pulls reader) = Drops reader.source.inbox
dropped (Pushes inbox heartbeat_timer) = Drops inbox
dropped (Recreates r) = opened_dropped r.opened
dropped _ = Nothing

-- push's next inbox, before its create request
abbrev pub create_wish : OrderedSetup → Wish
create_wish (Pull setup) = Nothing
create_wish (Push setup) = OpensInbox

-- pull's next inbox, after a good answer
abbrev pub succeed_wish : OrderedSetup → Wish
succeed_wish (Pull setup) = OpensInbox
succeed_wish (Push setup) = Nothing

-- a beat that asks for an answer is answered
abbrev pub beat_wish : PushKind → Option (List ℕ) → Wish
beat_wish (Beat last) (Some reply) = Publishes reply None []
beat_wish _ _ = Nothing

-- what a row asks at a phase: nothing where it does not belong there, or where the consumer has ended
abbrev pub wish_at : ReplayInput → Row → Phase → Wish
wish_at g Event Ended = Nothing
wish_at g Event Exhausted = Nothing
wish_at g Event phase = Watches
wish_at g Start phase = dropped phase
wish_at g Try (Recreates r) = Requests (delete_subject g r) (codes "{}")
wish_at g Create (Recreates r) = create_wish g.setup
wish_at g Ask (Recreates r) = Requests (create_subject g r) (create_body g r)
wish_at g Await (Recreates r) = awaited r.stage
wish_at g Hold (Recreates r) = opened_read r.opened
wish_at g (Succeed info) (Recreates r) = succeed_wish g.setup
wish_at g Fail (Recreates r) = opened_dropped r.opened
wish_at g CheckArrival (Pushes inbox heartbeat_timer) = Reads inbox
wish_at g (Hear arrival) (Pushes inbox heartbeat_timer) =
    if arrival.inbox == inbox
    then beat_wish (push_kind arrival.message) (beat_subject g.settings.resilience.answers_stalled arrival.message)
    else Nothing
wish_at g (Read row) (Pulls reader) = pull.wish row reader
wish_at g _ phase = Nothing

-- what a row asks
abbrev pub wish : ReplayInput → Row → Consumer → Wish
wish g row c = wish_at g row c.phase

-- ---- what a row met, as an event brings it

-- what was met at the watch
abbrev pub change_of : Met → Change
change_of (Stands state) = Becomes state
change_of WatchOver = WatcherEnds
change_of met = Unchanged

-- what was met at the inbox that was read
abbrev pub arrival_of : Wish → Met → Option Arrival
arrival_of (Reads inbox) met = option_map (λ message. record { inbox = inbox; message = message }) (message_of met)
arrival_of wish met = None

-- what was met, as the matter of a row
abbrev pub matter_of : Wish → Met → Matter
matter_of wish met = record { change = change_of met; answer = answer_of wish met; arrival = arrival_of wish met }

-- ---- what an event gives to the rows of its turn

-- the watch tells the state that stands
abbrev pub watched : State → Change → Met
watched state Unchanged = Stands state
watched state (Becomes new) = Stands new
watched state WatcherEnds = WatchOver

-- an event answers each wish by what it brings
abbrev pub givings : RowInput → Matter → State → Offer
givings p m state = record {
  passing = p;
  answers = λ request. reply_to request m.answer;
  arrivals = λ inbox. message_on inbox m.arrival;
  watch = watched state m.change;
}

-- what a row meets in an event
abbrev pub met_in : ReplayInput → RowInput → Matter → Row → Consumer → Met
met_in g p m row c = given (givings p m c.connection) (wish g row c)
