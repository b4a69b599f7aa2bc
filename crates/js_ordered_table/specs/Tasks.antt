-- The rows that are left of an event, as the code keeps them, and what a function says that passes one.
use Rattle.std.specs.Prelude.{◌≡◌, ◌≢◌, ◌+◌, ℕ, Bool, true, false, ◌||◌, List, [], ◌∷◌, ◌++◌, map, drop, Option, Some, None, is_some, ⊤}
use Rattle.js_base.specs.declared.message.Message.{Message}
use Rattle.js_base.specs.declared.message.State.{State}
use Rattle.js_link.specs.RowInput.{RowInput}
use Rattle.js_message.specs.AckSubject.{readable_as}
use Rattle.js_pull.specs.Rows.{brought, row_list, row_of}
use Rattle.js_pull.specs.declared.rows.Due.{Due}
use Rattle.js_pull.specs.Reader.{reply_to}
use Rattle.js_ordered_table.specs.Passes.{hearings, place_shown, yielding}
use Rattle.js_ordered_table.specs.Arrivals.{put_item, restart, beat_answer, beat_rows, beat_subject, push_kind}
use Rattle.js_ordered_table.specs.Recreation.{message_on}
use Rattle.js_ordered_table.specs.Consumer.{Matter, Passed, silent_row as silent_passed}
use Rattle.js_ordered_table.specs.Table.{go_on, is_connected, reader_row}
use Rattle.js_pull.specs.declared.reader.Row.TheVariants as read
use Rattle.js_ordered_table.specs.declared.consumer.Consumer.{Consumer}
use Rattle.js_ordered_table.specs.declared.consumer.ReplayInput.{ReplayInput}
use Rattle.js_ordered_table.specs.declared.consumer.Phase.{Phase}
use Rattle.js_ordered_table.specs.declared.consumer.Phase.TheVariants.{Pulls, Pushes}
use Rattle.js_ordered_table.specs.declared.consumer.Stage.{Stage}
use Rattle.js_ordered_table.specs.declared.consumer.Stage.TheVariants.{Deleting, Creating}
use Rattle.js_ordered_table.specs.declared.kind.PushKind.{PushKind}
use Rattle.js_ordered_table.specs.declared.kind.PushKind.TheVariants as kind
use Rattle.js_ordered_table.specs.declared.place.Place.{Place}
use Rattle.js_ordered_table.specs.declared.row.Row.{Row}
use Rattle.js_ordered_table.specs.declared.row.Row.TheVariants as row
use Rattle.js_ordered_table.specs.declared.run.ItemKind.TheVariants as item
use Rattle.js_ordered_table.specs.declared.run.Output.{Output}
use Rattle.js_ordered_table.specs.declared.run.Output.TheVariants as out
use Rattle.js_ordered_table.specs.declared.setup.OrderedSetup.{OrderedSetup}
use Rattle.js_ordered_table.specs.declared.setup.OrderedSetup.TheVariants.{Pull, Push}
use Rattle.js_ordered_table.specs.declared.transitions.task.Heard.{Heard}
use Rattle.js_ordered_table.specs.declared.transitions.task.Heard.TheVariants as hears
use Rattle.js_ordered_table.specs.declared.transitions.task.Held.{Held}
use Rattle.js_ordered_table.specs.declared.transitions.task.Inbox.{Inbox}
use Rattle.js_ordered_table.specs.declared.transitions.task.NextTasks.{NextTasks}
use Rattle.js_ordered_table.specs.declared.transitions.task.NextTasks.TheVariants as next
use Rattle.js_ordered_table.specs.declared.transitions.task.Task.{Task}
use Rattle.js_ordered_table.specs.declared.transitions.task.Task.TheVariants as task
use Rattle.js_ordered_table.specs.declared.transitions.task.RowOutput.{RowOutput}
use Rattle.js_ordered_table.specs.declared.transitions.task.RowOutput.TheVariants as tells

-- ---- the rows that a task stands for

-- the reply to a request is read, where the event brings it
abbrev pub answered_rows : Option (Option Message) → List Row
answered_rows None = []
answered_rows (Some reply) = row.Answered reply ∷ []

-- what arrives on an inbox is heard, where the event brings something
abbrev pub heard_rows : ℕ → Option Message → List Row
heard_rows inbox None = []
heard_rows inbox (Some message) = row.Hear (record { inbox = inbox; message = message }) ∷ []

-- what was held is heard, from its place on
abbrev pub hearings_of : Held → List Row
hearings_of held = hearings held.inbox (drop held.place held.messages)

-- in an event that brings this
abbrev pub rows_of : Matter → Task → List Row
rows_of m task.Event = row.Event ∷ []
rows_of m task.Start = row.Start ∷ []
rows_of m task.Try = row.Try ∷ []
rows_of m task.Create = row.Create ∷ []
rows_of m task.Ask = row.Ask ∷ []
rows_of m task.Await = row.Await ∷ []
rows_of m (task.Answered request) = answered_rows (reply_to request m.answer)
rows_of m task.Hold = row.Hold ∷ []
rows_of m (task.Succeed info) = row.Succeed info ∷ []
rows_of m task.Fail = row.Fail ∷ []
rows_of m task.CheckArrival = row.CheckArrival ∷ []
rows_of m (task.Hear inbox) = heard_rows inbox (message_on inbox m.arrival)
rows_of m (task.HearHeld held) = hearings_of held.value
rows_of m task.CheckSilence = row.CheckSilence ∷ []
rows_of m task.Arm = row.Arm ∷ []
rows_of m (task.Read one) = row.Read (row_of (brought m.answer) one) ∷ []

-- the rows that follow a row at once
abbrev pub next_rows : Matter → NextTasks → List Row
next_rows m next.Nothing = []
next_rows m (next.One one) = rows_of m one
next_rows m (next.Two first second) = rows_of m first ++ rows_of m second

-- the reader's row that follows
abbrev pub reader_rows : Matter → Option Due → List Row
reader_rows m one = map row.Read (row_list (brought m.answer) one)

-- ---- one row

-- what is put out beside what is sent
abbrev pub told_outputs : RowOutput → List Output
told_outputs tells.Nothing = []
told_outputs (tells.Recreates recreation_count start) = out.Recreate recreation_count start ∷ []
told_outputs (tells.Tells kind) = out.Item kind ∷ []

-- a row was passed: the consumer after it, what it puts out, and the rows that follow at once
pub record StepsTo (m : Matter) (passed : Passed) (put : List Output) (new : Consumer) (rest : NextTasks) : Type 0 where
  pub consumer : new ≡ passed.consumer
  pub outputs : passed.outputs ≡ put
  pub next : next_rows m rest ≡ passed.next

-- what was held for push is heard first, and then its heartbeat is armed
abbrev pub held_rows : Option Held → List Row
held_rows None = []
held_rows (Some held) = hearings_of held ++ row.Arm ∷ []

-- push reads another inbox from now on, for which this was held
pub record Listens (passed : Passed) (new : Consumer) (held : Option Held) : Type 0 where
  pub consumer : new ≡ passed.consumer
  pub outputs : passed.outputs ≡ []
  pub next : held_rows held ≡ passed.next

-- a row that sends nothing is passed at this moment
abbrev pub at_moment : ℕ → RowInput → RowInput
at_moment now p = record p { now = now }

-- its request went out with this number, or could not
abbrev pub requesting : ℕ → Option ℕ → RowInput → RowInput
requesting now None p = record p { now = now; up = false }
requesting now (Some number) p = record p { now = now; up = true; request = number }

-- its inbox was opened, or could not be
abbrev pub opening_to : ℕ → Option Inbox → RowInput → RowInput
opening_to now None p = record p { now = now; up = false }
opening_to now (Some inbox) p = record p { now = now; up = true; inbox = inbox.number; subject = inbox.subject }

-- what goes out with a request
abbrev pub requested : List ℕ → List ℕ → Option ℕ → List Output
requested subject payload None = []
requested subject payload (Some number) = out.Request number subject payload ∷ []

-- and with an inbox
abbrev pub subscribed : Option Inbox → List Output
subscribed None = []
subscribed (Some inbox) = out.Subscribe inbox.number inbox.subject ∷ []

-- of a create, before which push opens its inbox
abbrev pub create_outputs : OrderedSetup → Option Inbox → List Output
create_outputs (Pull setup) inbox = []
create_outputs (Push setup) inbox = subscribed inbox

-- ---- what a pull reader hands out

-- a message of the stream was heard
abbrev pub IsOfStream : Heard → Type 0
IsOfStream (hears.Yields place) = ⊤
IsOfStream hears.Unreadable = ⊤
IsOfStream hears.Gap = ⊤
IsOfStream heard = ⊥

-- ---- an event

-- what follows after the connection, which may have changed for a reader
abbrev pub goes_on : ReplayInput → RowInput → Matter → Option State → Phase → Consumer → Passed
goes_on g p m change (Pulls reader) c = reader_row p m (read.Begin change) reader c
goes_on g p m change phase c = go_on g p m phase c

-- push drops its inbox where the connection comes or goes
abbrev pub is_lost : Phase → State → State → Bool
is_lost (Pushes inbox heartbeat_timer) old new = is_connected old || is_connected new
is_lost phase old new = false

-- ---- an open recreation

-- whether the event brings what a stage waits for
abbrev pub IsAnswered : Matter → Stage → Bool → Type 0
IsAnswered m (Deleting request timeout) answered = answered ≡ is_some (reply_to request m.answer)
IsAnswered m (Creating request timeout) answered = answered ≡ is_some (reply_to request m.answer)
IsAnswered m stage answered = ⊤

-- ---- what push hears

-- a message of the stream, after the one with this number
abbrev pub IsHeardFrom : ℕ → Message → Heard → Type 0
IsHeardFrom consumer_sequence message (hears.Yields place) = (readable_as message.reply ≡ Some (place_shown place)) × (place.number ≡ consumer_sequence + 1)
IsHeardFrom consumer_sequence message hears.Unreadable = readable_as message.reply ≡ None
IsHeardFrom consumer_sequence message hears.Gap = (place : Place) × (readable_as message.reply ≡ Some (place_shown place)) × (place.number ≢ consumer_sequence + 1)
IsHeardFrom consumer_sequence message _ = ⊥

-- an arrival, by its kind
abbrev pub IsHeardAs : ℕ → Message → PushKind → Heard → Type 0
IsHeardAs consumer_sequence message kind.Delivered heard = IsHeardFrom consumer_sequence message heard
IsHeardAs consumer_sequence message (kind.Beat last) heard = heard ≡ hears.Beat last
IsHeardAs consumer_sequence message kind.Bad heard = heard ≡ hears.Unreadable
IsHeardAs consumer_sequence message kind.OtherStatus heard = heard ≡ hears.OtherStatus

-- what an arrival is to a consumer that has accepted the message with this number
abbrev pub IsHeard : ℕ → Message → Heard → Type 0
IsHeard consumer_sequence message heard = IsHeardAs consumer_sequence message (push_kind message) heard

-- what is put out at it, where stalled consumers are answered or not
abbrev pub heard_outputs : Bool → Bool → Message → Heard → List Output
heard_outputs stalled up message (hears.Yields place) = out.Yield place.sequence place.number message.subject message.payload ∷ []
heard_outputs stalled up message hears.Unreadable = out.Item item.Other ∷ []
heard_outputs stalled up message (hears.Beat last) = beat_answer up (beat_subject stalled message)
heard_outputs stalled up message hears.Gap = []
heard_outputs stalled up message hears.OtherStatus = []

-- a message at this place is handed out, which leaves this consumer
abbrev pub handing : Place → Message → Consumer → Passed
handing place message c = record { consumer = c; outputs = out.Yield place.sequence place.number message.subject message.payload ∷ []; next = [] }

-- and what comes of it
abbrev pub heard_row : Bool → RowInput → Message → Heard → Consumer → Passed
heard_row stalled p message (hears.Yields place) c = handing place message (yielding (place_shown place) c)
heard_row stalled p message hears.Unreadable c = put_item item.Other c
heard_row stalled p message (hears.Beat last) c = record {
  consumer = c;
  outputs = beat_answer p.up (beat_subject stalled message);
  next = beat_rows last c.core.consumer_sequence;
}
heard_row stalled p message hears.Gap c = restart c
heard_row stalled p message hears.OtherStatus c = silent_passed c []
