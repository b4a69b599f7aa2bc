-- The rows that are left of a turn, as the code keeps them, and what a function says that passes one over a link.
use Rattle.std.specs.Prelude.{◌≡◌, ℕ, Bool, true, false, ◌&&◌, List, [], ◌∷◌, ◌++◌, Option, Some, None, IfSome, is_some, not, Result, Ok, Err, ⊤, if◌then◌else◌}
use Rattle.js_base.specs.declared.message.Message.{Message}
use Rattle.js_link.specs.LinkView.{LinkView}
use Rattle.js_link.specs.Meets.{Meets}
use Rattle.js_link.specs.Wish.{row_input, message_of, IsClosing, is_shut}
use Rattle.js_link.specs.declared.wish.Wish.TheVariants.{Nothing, Reads}
use Rattle.js_link.specs.declared.wish.Met.{Met}
use Rattle.js_link.specs.declared.wish.Met.TheVariants.{Opened, Shut, Took, Got, Gone}
use Rattle.js_message.specs.AckSubject.{readable_as}
use Rattle.js_ordered_table.specs.declared.transitions.task.Heard.{Heard}
use Rattle.js_ordered_table.specs.declared.transitions.task.Heard.TheVariants as hears
use Rattle.js_ordered_table.specs.declared.transitions.task.Held.{Held}
use Rattle.js_ordered_table.specs.declared.transitions.task.Inbox.{Inbox}
use Rattle.js_ordered_table.specs.declared.transitions.task.NextTasks.{NextTasks}
use Rattle.js_ordered_table.specs.declared.transitions.task.NextTasks.TheVariants as next
use Rattle.js_ordered_table.specs.declared.transitions.task.Task.{Task}
use Rattle.js_ordered_table.specs.declared.transitions.task.Task.TheVariants as tasks
use Rattle.js_ordered_table.specs.Tasks.{StepsTo, hearings_of, next_rows, rows_of}
use Rattle.js_ordered_stream.specs.declared.later_row.LaterRow.{LaterRow}
use Rattle.js_ordered_stream.specs.declared.later_row.LaterRow.TheVariants as later
use Rattle.js_ordered_stream.specs.declared.remaining_rows.RemainingRows.{RemainingRows}
use Rattle.js_ordered_stream.specs.declared.remaining_rows.Seen.{Seen}
use Rattle.js_ordered_stream.specs.declared.remaining_rows.Seen.TheVariants as sight
use Rattle.js_ordered_stream.specs.declared.remaining_rows.TaskQueue.{TaskQueue}
use Rattle.js_ordered_stream.specs.declared.remaining_rows.TaskQueue.TheVariants as todo
use Rattle.js_ordered_stream.specs.declared.pull_rows.ReadMet.{ReadMet}
use Rattle.js_ordered_stream.specs.declared.pull_rows.ReaderStep.{ReaderStep}
use Rattle.js_ordered_stream.specs.declared.rows.RowItem.{RowItem}
use Rattle.js_ordered_stream.specs.declared.rows.RowItem.TheVariants as hands
use Rattle.js_ordered_stream.specs.declared.rows.Stepped.{Stepped}
use Rattle.js_ordered_stream.specs.declared.rows.Stop.{Stop}
use Rattle.js_ordered_stream.specs.declared.rows.Stop.TheVariants as stop
use Rattle.js_pull.specs.Reader.{Answer}
use Rattle.js_pull.specs.Reader as pull
use Rattle.js_pull.specs.Rows.{IsInformed, row_of}
use Rattle.js_pull.specs.declared.rows.Due.{Due}
use Rattle.js_pull.specs.declared.rows.Due.TheVariants as due
use Rattle.js_pull.specs.declared.reader.Reader.{Reader}
use Rattle.js_pull.specs.declared.reader.ReaderOutput.{ReaderOutput}
use Rattle.js_pull.specs.declared.reader.Row.{Row as PullRow}
use Rattle.js_pull.specs.declared.reader.Row.TheVariants as read
use Rattle.js_ordered_table.specs.declared.consumer.Consumer.{Consumer}
use Rattle.js_ordered_table.specs.declared.consumer.ReplayInput.{ReplayInput}
use Rattle.js_ordered_table.specs.declared.consumer.Stage.{Stage}
use Rattle.js_ordered_table.specs.declared.consumer.Stage.TheVariants.{Deleting, Creating}
use Rattle.js_ordered_table.specs.declared.row.Arrival.{Arrival}
use Rattle.js_ordered_table.specs.declared.row.Row.{Row}
use Rattle.js_ordered_table.specs.declared.row.Row.TheVariants.{CheckArrival, Hear, Hold, Read}
use Rattle.js_ordered_table.specs.declared.run.ItemKind.TheVariants as item
use Rattle.js_ordered_table.specs.declared.run.Output.{Output}
use Rattle.js_ordered_table.specs.declared.run.Output.TheVariants as out
use Rattle.js_ordered_table.specs.Arrivals.{beat_subject, push_kind, told, with_sent}
use Rattle.js_pull.specs.declared.replies.Finding.TheVariants as finds
use Rattle.js_ordered_table.specs.Consumer.{Matter, Passed, Unchanged}
use Rattle.js_ordered_table.specs.Table.{pass, push_rows}
use Rattle.js_ordered_table.specs.Poll.{poll_wish_at, yielded}
use Rattle.js_ordered_table.specs.Walk.{handed}
use Rattle.js_ordered_table.specs.Wishes.{beat_wish, matter_of}

-- ---- what a row has looked at

-- the answer that the next row reads
abbrev pub answer_in : Seen → Option Answer
answer_in (sight.Reply reply) = Some (record { request = reply.request; reply = reply.message })
answer_in _ = None

-- the message that push has still to hear
abbrev pub arrival_in : Seen → Option Arrival
arrival_in (sight.Message (Some inbox) message) = Some (record { inbox = inbox; message = message })
arrival_in _ = None

-- the message that no row has still to hear
abbrev pub message_in : Seen → Option Message
message_in (sight.Message None message) = Some message
message_in _ = None

abbrev pub has_message : Seen → Bool
has_message (sight.Message unheard message) = true
has_message _ = false

abbrev pub is_something : Seen → Bool
is_something sight.Nothing = false
is_something _ = true

-- what was met, where an answer is one to this request
abbrev pub seen_met : ℕ → Met → Seen
seen_met request (Took message) = sight.Message None message
seen_met request (Got reply) = sight.Reply (record { request = request; message = Some reply })
seen_met request Gone = sight.Reply (record { request = request; message = None })
seen_met request met = sight.Nothing

-- what is left in its place after a row: what an earlier row looked at is let go
abbrev pub kept_if : Bool → Seen → Seen
kept_if looked seen = if looked then seen else sight.Nothing

abbrev pub seen_after : Result Stepped Stop → Seen → Seen
seen_after (Ok done) seen = kept_if done.looked seen
seen_after (Err e) seen = seen

-- ---- the rows that are left

-- what the rows read that are left
abbrev pub read_by : Option Answer → Option Arrival → Matter
read_by answer arrival = record { change = Unchanged; answer = answer; arrival = arrival }

abbrev pub read_in : Seen → Matter
read_in seen = read_by (answer_in seen) (arrival_in seen)

-- the row that waits behind the next one
abbrev pub later_row : LaterRow → Row
later_row later.Arm = Read read.Arm
later_row later.CheckArrival = Read read.CheckArrival
later_row later.Hold = Hold

-- in order
abbrev pub todo_rows : Matter → TaskQueue → List Row
todo_rows m todo.Nothing = []
todo_rows m (todo.One one) = rows_of m one
todo_rows m (todo.Two one waits) = rows_of m one ++ later_row waits ∷ []

-- a row is left
abbrev pub is_left : List Row → Bool
is_left [] = false
is_left (row ∷ rows) = true

-- what is left after the next row
abbrev pub later_of : TaskQueue → List Row
later_of (todo.Two one waits) = later_row waits ∷ []
later_of _ = []

abbrev pub left_rows : RemainingRows → List Row
left_rows left = todo_rows (read_in left.seen) left.todo

abbrev pub is_rested : TaskQueue → Bool
is_rested todo.Nothing = true
is_rested _ = false

-- the first task stands for no row
abbrev pub is_first_idle : Matter → TaskQueue → Bool
is_first_idle m todo.Nothing = false
is_first_idle m (todo.One one) = not (is_left (rows_of m one))
is_first_idle m (todo.Two one waits) = not (is_left (rows_of m one))

-- the first task stands for a row, where there is one
abbrev pub FirstStands : Matter → TaskQueue → Type 0
FirstStands m left = is_first_idle m left ≡ false

-- ---- what follows a row

-- a row that may wait behind the next one
abbrev pub is_later : Row → Bool
is_later Hold = true
is_later (Read read.Arm) = true
is_later (Read read.CheckArrival) = true
is_later row = false

-- one of them at most
abbrev pub is_waiting : List Row → Bool
is_waiting [] = true
is_waiting (row ∷ []) = is_later row
is_waiting (row ∷ second ∷ rows) = false

-- a row, and one at most that waits behind it
abbrev pub is_short : List Row → Bool
is_short [] = true
is_short (row ∷ rows) = is_waiting rows

-- the row that a task stands for which follows another one
abbrev pub waiting_due : Due → Option LaterRow
waiting_due due.Arm = Some later.Arm
waiting_due due.CheckArrival = Some later.CheckArrival
waiting_due one = None

abbrev pub waiting_of : Task → Option LaterRow
waiting_of tasks.Hold = Some later.Hold
waiting_of (tasks.Read one) = waiting_due one
waiting_of one = None

-- a task of what was held
abbrev pub is_held : Task → Bool
is_held (tasks.HearHeld held) = true
is_held one = false

abbrev pub is_first_held : TaskQueue → Bool
is_first_held todo.Nothing = false
is_first_held (todo.One one) = is_held one
is_first_held (todo.Two one waits) = is_held one

-- nothing is left of what was held
abbrev pub holds_none : Task → Bool
holds_none (tasks.HearHeld held) = not (is_left (hearings_of held.value))
holds_none one = true

abbrev pub hold_none : NextTasks → Bool
hold_none next.Nothing = true
hold_none (next.One one) = holds_none one
hold_none (next.Two one second) = holds_none one && holds_none second

-- a row of an open recreation
abbrev pub IsTry : Task → Type 0
IsTry tasks.Try = ⊤
IsTry tasks.Create = ⊤
IsTry tasks.Ask = ⊤
IsTry tasks.Await = ⊤
IsTry (tasks.Answered request) = ⊤
IsTry (tasks.Succeed info) = ⊤
IsTry tasks.Fail = ⊤
IsTry other = ⊥

-- ---- a row is passed

-- what is handed out, with the message that was taken
abbrev pub handed_list : RowItem → Option Message → List Output
handed_list hands.Nothing message = []
handed_list hands.Message None = []
handed_list hands.Message (Some message) = yielded (readable_as message.reply) message ∷ []
handed_list (hands.Error kind) message = out.Item kind ∷ []

-- what is handed out of a message of the stream
abbrev pub handed_by_heard : Heard → RowItem
handed_by_heard (hears.Yields place) = hands.Message
handed_by_heard hears.Unreadable = hands.Error item.Other
handed_by_heard heard = hands.Nothing

-- the message that a row looks at: push hears what a row before it took, any other row looks at what it takes itself
abbrev pub seen_by : Row → Met → Option Message
seen_by (Hear arrival) met = Some arrival.message
seen_by row met = message_of met

-- the row of the table at what was met
abbrev pub met_row : ReplayInput → ℕ → Row → Met → Consumer → Passed
met_row g now row met c = pass g (row_input now met) (matter_of (poll_wish_at g row c.phase) met) row c

-- a row that tells an error
abbrev pub IfError : RowItem → Type 0 → Type 0
IfError (hands.Error kind) holds = holds
IfError handed holds = ⊤

-- where push looks for an arrival
abbrev pub IfLook : Row → Type 0 → Type 0
IfLook CheckArrival holds = holds
IfLook row holds = ⊤

-- the consumer after it, what it hands out, the rows that follow at once, and what it looked at; a message is kept for the row that hears it, or let go; what a look brings is heard, and nothing that was held
pub record Steps (g : ReplayInput) (now : ℕ) (row : Row) (met : Met) (old new : Consumer) (kept : Seen) (done : Stepped) : Type 0 where
  pub consumer : new ≡ (met_row g now row met old).consumer
  pub shown : handed (met_row g now row met old).outputs ≡ handed_list done.handed (message_in kept)
  pub next : next_rows (read_in kept) done.next ≡ (met_row g now row met old).next
  pub looked : done.looked ≡ is_something kept
  pub seen : has_message kept ≡ is_some (seen_by row met)
  pub message : IfSome (message_in kept) (λ message. seen_by row met ≡ Some message)
  pub errors : IfError done.handed (message_in kept ≡ seen_by row met)
  pub held : IfLook row (hold_none done.next ≡ true)

-- a row was passed with what it met, and looked at this; or its inbox is closed, or there was no memory, and it was not passed
abbrev pub PassesRow : ReplayInput → ℕ → Row → Consumer → Consumer → LinkView → LinkView → Seen → Result Stepped Stop → Type 0
PassesRow g now row old new before after kept (Ok done) =
    (met : Met) × Meets (poll_wish_at g row old.phase) met before after × (is_shut met ≡ false) × Steps g now row met old new kept done
PassesRow g now row old new before after kept (Err stop.Closed) = (new ≡ old) × IsClosing Meets (poll_wish_at g row old.phase) true before after
PassesRow g now row old new before after kept (Err stop.OutOfMemory) = (new ≡ old) × (after ≡ before)

-- where there is one row
abbrev pub IfAlone : List Row → (Row → Type 0) → Type 0
IfAlone (row ∷ []) holds = holds row
IfAlone rows holds = ⊥

-- what a task stands for was passed
abbrev pub PassesRows : ReplayInput → ℕ → List Row → Consumer → Consumer → LinkView → LinkView → Seen → Result Stepped Stop → Type 0
PassesRows g now rows old new before after kept (Ok done) = IfAlone rows (λ row. PassesRow g now row old new before after kept (Ok done))
PassesRows g now rows old new before after kept (Err stop.Closed) = IfAlone rows (λ row. PassesRow g now row old new before after kept (Err stop.Closed))
PassesRows g now rows old new before after kept (Err stop.OutOfMemory) = (new ≡ old) × (after ≡ before)

-- ---- what is met

-- the request whose answer a recreation waits for
abbrev pub replied : Stage → ℕ
replied (Deleting request timeout) = request
replied (Creating request timeout) = request
replied _ = 0

-- the inbox that was opened
abbrev pub inbox_in : Met → Option Inbox
inbox_in (Opened inbox subject) = Some (record { number = inbox; subject = subject })
inbox_in met = None

-- a reader's row met this, and its reply tells that
pub record IsReadMet (read : ReadMet) (one : PullRow) (r : Reader) (before after : LinkView) : Type 0 where
  pub meets : Meets (pull.wish one r) read.met before after
  pub is_open : is_shut read.met ≡ false
  pub informed : IsInformed one read.informed

-- a reader's row asks its link for nothing, and is told nothing
abbrev pub AsksNothing : Due → Bool → Type 0
AsksNothing due true = (reply : Option Message) → (r : Reader) → (pull.wish (row_of reply due) r ≡ Nothing) × IsInformed (row_of reply due) finds.Nothing
AsksNothing due false = ⊤

abbrev pub MeetsReader : Result ReadMet Stop → PullRow → Reader → LinkView → LinkView → Type 0
MeetsReader (Ok read) one r before after = IsReadMet read one r before after
MeetsReader (Err stop.Closed) one r before after = IsClosing Meets (pull.wish one r) true before after
MeetsReader (Err stop.OutOfMemory) one r before after = after ≡ before

-- ---- what push hears

-- a message that came on an inbox, which is heard next
abbrev pub unheard_on : ℕ → Option Message → Seen
unheard_on inbox None = sight.Nothing
unheard_on inbox (Some message) = sight.Message (Some inbox) message

-- a look into an inbox: what was taken is heard next, and without it the heartbeat is looked at
pub record Looked (inbox : ℕ) (taken : Option Message) (kept : Seen) (done : Stepped) : Type 0 where
  pub handed : done.handed ≡ hands.Nothing
  pub looked : done.looked ≡ is_something kept
  pub seen : kept ≡ unheard_on inbox taken
  pub next : next_rows (read_in kept) done.next ≡ push_rows inbox taken
  pub held : hold_none done.next ≡ true

abbrev pub LooksInto : Result Stepped Stop → ℕ → Seen → LinkView → LinkView → Type 0
LooksInto (Ok done) inbox kept before after = (met : Met) × Meets (Reads inbox) met before after × (is_shut met ≡ false) × Looked inbox (message_of met) kept done
LooksInto (Err stop.Closed) inbox kept before after = Meets (Reads inbox) Shut before after
LooksInto (Err stop.OutOfMemory) inbox kept before after = after ≡ before

-- a beat was answered, where it asks for that; stalled consumers are answered or not
abbrev pub AnswersBeat : Bool → Message → LinkView → LinkView → Type 0
AnswersBeat stalled message before after = (met : Met) × Meets (beat_wish (push_kind message) (beat_subject stalled message)) met before after

-- where push has opened an inbox, its heartbeat is armed next
abbrev pub arming : Option Held → NextTasks
arming None = next.Nothing
arming (Some held) = next.One tasks.Arm

-- ---- what pull reads

-- what the consumer makes of what its reader tells
pub record TakesIn (m : Matter) (tells : ReaderOutput) (rows : List Row) (message : Option Message) (old new : Consumer) (taken : ReaderStep) : Type 0 where
  pub outputs : List Output
  pub steps : StepsTo m (with_sent [] rows (told tells old)) outputs new taken.next
  pub shown : handed_list taken.handed message ≡ handed outputs
