-- One event, row after row.
use Rattle.std.specs.Prelude.{ℕ, Bool, true, false, ◌||◌, List, [], ◌∷◌, Option, Some, None, if◌then◌else◌}
use Rattle.js_base.specs.declared.message.State.{State}
use Rattle.js_base.specs.declared.message.State.TheVariants.{Pending, Connected, Disconnected}
use Rattle.js_link.specs.RowInput.{RowInput}
use Rattle.js_pull.specs.Reader as pull
use Rattle.js_pull.specs.declared.reader.Row.TheVariants as read
use Rattle.js_pull.specs.declared.reader.Reader.{Reader as PullReader}
use Rattle.js_pull.specs.declared.reader.Row.{Row as PullRow}
use Rattle.js_pull.specs.Poll.{same_state}
use Rattle.js_ordered_table.specs.declared.consumer.Consumer.{Consumer}
use Rattle.js_ordered_table.specs.Consumer.{Matter, Change, Unchanged, Becomes, WatcherEnds, Passed, silent_row, at_phase}
use Rattle.js_base.specs.declared.message.Message.{Message}
use Rattle.js_ordered_table.specs.declared.row.Row.{Row}
use Rattle.js_ordered_table.specs.declared.row.Row.TheVariants.{Event, Start, Try, Create, Ask, Await, Answered, Hold, Succeed, Fail, CheckArrival, Hear, CheckSilence, Arm, Read}
use Rattle.js_ordered_table.specs.declared.consumer.ReplayInput.{ReplayInput}
use Rattle.js_ordered_table.specs.declared.consumer.Phase.{Phase}
use Rattle.js_ordered_table.specs.declared.consumer.Phase.TheVariants.{Pulls, Pushes, Recreates, Idle, Ended, Exhausted}
use Rattle.js_ordered_table.specs.Recreation.{start_row, try_row, create_row, ask_row, succeed_row, fail_row, answered_row, stage_rows, hold_row, recreation_rows, message_on}
use Rattle.js_ordered_table.specs.Arrivals.{read_row, hear_row, silence_row, end_with, restart, armed}
use Rattle.js_ordered_table.specs.declared.setup.OrderedSetup.{OrderedSetup}
use Rattle.js_ordered_table.specs.declared.setup.OrderedSetup.TheVariants.{Pull, Push}
use Rattle.js_ordered_table.specs.declared.run.ItemKind.TheVariants as item

-- ---- a reader

-- a row of the current reader
abbrev pub reader_row : RowInput → Matter → PullRow → PullReader → Consumer → Passed
reader_row p m row reader c = read_row (pull.row p m.answer (message_on reader.source.inbox m.arrival) row reader) c

-- a message on the current inbox is heard; without one the heartbeat is looked at
abbrev pub push_rows : ℕ → Option Message → List Row
push_rows inbox None = CheckSilence ∷ []
push_rows inbox (Some message) = Hear (record { inbox = inbox; message = message }) ∷ []

-- ---- after the connection: a recreation starts, or goes on, or the reader does its step

-- what an event does where the connection is as it was
abbrev pub go_on : ReplayInput → RowInput → Matter → Phase → Consumer → Passed
go_on g p m Idle c = silent_row c (Start ∷ [])
go_on g p m (Recreates r) c = silent_row c (recreation_rows r.opened)
go_on g p m (Pulls reader) c = reader_row p m (read.Begin None) reader c
go_on g p m (Pushes inbox heartbeat_timer) c = silent_row c (CheckArrival ∷ [])
go_on g p m Ended c = silent_row c []
go_on g p m Exhausted c = silent_row c []

-- ---- a change of the connection

-- the connection stands
abbrev pub is_connected : State → Bool
is_connected Connected = true
is_connected Pending = false
is_connected Disconnected = false

-- the connection is another one from then on; where the old or the new state is Connected, push starts a recreation
abbrev pub changed : ReplayInput → RowInput → Matter → State → State → Phase → Consumer → Passed
changed g p m old new (Pulls reader) c = reader_row p m (read.Begin (Some new)) reader (record c { connection = new })
changed g p m old new (Pushes inbox heartbeat_timer) c =
    if is_connected old || is_connected new
    then restart (record c { connection = new })
    else go_on g p m (Pushes inbox heartbeat_timer) (record c { connection = new })
changed g p m old new phase c = go_on g p m phase (record c { connection = new })

-- the end of the watcher ends push
abbrev pub watcher_ended : ReplayInput → RowInput → Matter → OrderedSetup → Consumer → Passed
watcher_ended g p m (Pull setup) c = go_on g p m c.phase c
watcher_ended g p m (Push setup) c = end_with item.Other c

-- the state that stands already is no change
abbrev pub event_change : ReplayInput → RowInput → Matter → Change → Consumer → Passed
event_change g p m Unchanged c = go_on g p m c.phase c
event_change g p m (Becomes state) c =
    if same_state c.connection state then go_on g p m c.phase c else changed g p m c.connection state c.phase c
event_change g p m WatcherEnds c = watcher_ended g p m g.setup c

-- what an event does first; an ended consumer passes nothing
abbrev pub event_row : ReplayInput → RowInput → Matter → Phase → Consumer → Passed
event_row g p m Ended c = silent_row c []
event_row g p m Exhausted c = silent_row c []
event_row g p m phase c = event_change g p m m.change c

-- ---- the rows

-- a row at a phase: one that does not belong there does nothing
abbrev pub row_at : ReplayInput → RowInput → Matter → Row → Phase → Consumer → Passed
row_at g p m Event phase c = event_row g p m phase c
row_at g p m Start phase c = start_row g c
row_at g p m Try (Recreates r) c = try_row g p r c
row_at g p m Create (Recreates r) c = create_row g.setup p r c
row_at g p m Ask (Recreates r) c = ask_row g p r c
row_at g p m Await (Recreates r) c = silent_row c (stage_rows g p m r.stage)
row_at g p m (Answered reply) (Recreates r) c = answered_row g (pull.info_reply reply) c
row_at g p m Hold (Recreates r) c = hold_row m r c
row_at g p m (Succeed info) (Recreates r) c = succeed_row g.setup g p info r c
row_at g p m Fail (Recreates r) c = fail_row g p r c
row_at g p m CheckArrival (Pushes inbox heartbeat_timer) c = silent_row c (push_rows inbox (message_on inbox m.arrival))
row_at g p m (Hear arrival) (Pushes inbox heartbeat_timer) c = hear_row g.settings.resilience.answers_stalled p arrival inbox c
row_at g p m CheckSilence (Pushes inbox heartbeat_timer) c = silence_row p heartbeat_timer c
row_at g p m Arm (Pushes inbox heartbeat_timer) c = silent_row (at_phase (Pushes inbox (armed p.now)) c) []
row_at g p m (Read row) (Pulls reader) c = reader_row p m row reader c
row_at g p m _ phase c = silent_row c []

-- one row is passed
abbrev pub pass : ReplayInput → RowInput → Matter → Row → Consumer → Passed
pass g p m row c = row_at g p m row c.phase c
