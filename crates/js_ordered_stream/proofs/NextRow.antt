-- The next row of a position, and what is left then.
use Rattle.std.proofs.Common.{◌≡◌, ℕ, Bool, true, false, List, [], ◌∷◌, ◌++◌, drop, Option, Some, None, refl, sym, ap, ◌∙◌, subst, append-nil}
use Rattle.std.specs.Prelude.{◌||◌, ◌&&◌, not, is_some, IfSome, Result, Ok, Err}
use Rattle.js_base.specs.declared.message.Message.{Message}
use Rattle.js_link.specs.LinkView.{LinkView}
use Rattle.js_link.specs.Meets.{Meets}
use Rattle.js_link.specs.Wish.{IsClosing}
use Rattle.js_link.specs.declared.wish.Met.{Met}
use Rattle.js_ordered_table.specs.declared.transitions.task.Task.{Task}
use Rattle.js_ordered_table.specs.declared.transitions.task.Task.TheVariants as task
use Rattle.js_pull.specs.Reader.{reply_to}
use Rattle.js_pull.specs.declared.reader.Row.{Row as PullRow}
use Rattle.js_pull.specs.declared.reader.Row.TheVariants as read
use Rattle.js_pull.specs.declared.rows.Due.{Due}
use Rattle.js_pull.specs.declared.rows.Due.TheVariants as due
use Rattle.js_ordered_table.specs.declared.row.Row.TheVariants as rows_at
use Rattle.js_ordered_table.specs.declared.setup.OrderedSetup.{OrderedSetup}
use Rattle.js_ordered_table.specs.Passes.{hearings}
use Rattle.js_ordered_table.specs.Recreation.{message_on}
use Rattle.js_ordered_table.specs.Tasks.{answered_rows, heard_rows, next_rows, rows_of}
use Rattle.js_ordered_stream.specs.declared.later_row.LaterRow.{LaterRow}
use Rattle.js_ordered_stream.specs.Polled.{is_turn, may_wait}
use Rattle.js_ordered_stream.proofs.LeftRows.{none_of}
use Rattle.js_ordered_stream.specs.declared.remaining_rows.RemainingRows.{RemainingRows}
use Rattle.js_ordered_stream.specs.declared.remaining_rows.Seen.{Seen}
use Rattle.js_ordered_stream.specs.declared.remaining_rows.Seen.TheVariants as sight
use Rattle.js_ordered_stream.specs.declared.remaining_rows.TaskQueue.{TaskQueue}
use Rattle.js_ordered_stream.specs.declared.remaining_rows.TaskQueue.TheVariants as todo
use Rattle.js_ordered_stream.specs.declared.ordered.RowOutcome.{RowOutcome}
use Rattle.js_ordered_stream.specs.declared.rows.RowItem.{RowItem}
use Rattle.js_ordered_stream.specs.declared.rows.RowItem.TheVariants as hands
use Rattle.js_ordered_stream.specs.declared.rows.Stepped.{Stepped}
use Rattle.js_ordered_stream.specs.declared.rows.Stop.{Stop}
use Rattle.js_ordered_stream.specs.declared.rows.Stop.TheVariants as stop
use Rattle.js_ordered_stream.specs.Rows.{FirstStands, IfAlone, IfError, PassesRow, PassesRows, Steps, handed_list, has_message, holds_none, is_held, is_later, is_left, is_rested, is_short, is_waiting, later_of, later_row, left_rows, message_in, met_row, read_in, seen_after, seen_by, todo_rows, waiting_due, waiting_of}
use Rattle.js_ordered_stream.specs.Ordered.{IsNext, PassesFirst, PassesNext, ComesTo, is_spent, step_met, stirring, outcome_by, silent_by}
use Rattle.js_ordered_table.specs.declared.consumer.Consumer.{Consumer}
use Rattle.js_ordered_table.specs.declared.consumer.ReplayInput.{ReplayInput}
use Rattle.js_ordered_table.specs.declared.row.Row.{Row}
use Rattle.js_ordered_table.specs.declared.row.Row.TheVariants.{Event}
use Rattle.js_ordered_table.specs.Consumer.{Matter}
use Rattle.js_ordered_table.specs.Poll.{closed_at, is_reading, poll_wish, poll_wish_at}
use Rattle.js_ordered_table.specs.Walk.{Position, first_row, handed, later_rows}
use Rattle.js_ordered_stream.proofs.KeptSeen.{passes_blind}

-- ---- the rows that are left

false_true : false ≡ true → ⊥
false_true e = cc

-- nothing is left
pub rested : (left : RemainingRows) (b : Bool) → b ≡ is_rested left.todo → b ≡ true → left_rows left ≡ []
rested left b is e = by_todo left.todo (sym is ∙ e)
  where
    by_todo : (t : TaskQueue) → is_rested t ≡ true → todo_rows (read_in left.seen) t ≡ []
    by_todo todo.Nothing e = refl
    by_todo (todo.One one) e = absurd (false_true e)
    by_todo (todo.Two one waits) e = absurd (false_true e)

-- what stands is not idle
pub stood : (left : Bool) → not left ≡ false → left ≡ true
stood true e = refl
stood false e = sym e

pub stands_first : (left : Bool) → left ≡ true → not left ≡ false
stands_first left e = ap (λ (b : Bool). not b) e

-- a task of which nothing is held, and which stands for a row, is not one of what was held
pub unheld_first : (m : Matter) (one : Task) → holds_none one ≡ true → is_left (rows_of m one) ≡ true → is_held one ≡ false
unheld_first m (task.HearHeld held) none left = absurd (false_true (sym (ap (λ (b : Bool). not b) left) ∙ none))
unheld_first m one none left = refl

-- ---- two tasks follow

-- the row that was kept of a task
abbrev waited : Option LaterRow → List Row
waited None = []
waited (Some waits) = later_row waits ∷ []

waiting_read : (one : Due) (m : Matter) → is_waiting (rows_of m (task.Read one)) ≡ true → waited (waiting_due one) ≡ rows_of m (task.Read one)
waiting_read due.Arm m e = refl
waiting_read due.CheckArrival m e = refl
waiting_read one m e = absurd (false_true e)

-- where the rows of a task are one that waits at most, they are the row that is kept
waiting_task : (one : Task) (m : Matter) → is_waiting (rows_of m one) ≡ true → waited (waiting_of one) ≡ rows_of m one
waiting_task task.Hold m e = refl
waiting_task (task.Read one) m e = waiting_read one m e
waiting_task (task.Answered request) m e = by_reply (reply_to request m.answer) e
  where
    by_reply : (reply : Option (Option Message)) → is_waiting (answered_rows reply) ≡ true → [] ≡ answered_rows reply
    by_reply None e = refl
    by_reply (Some reply) e = absurd (false_true e)
waiting_task (task.Hear inbox) m e = by_message (message_on inbox m.arrival) e
  where
    by_message : (message : Option Message) → is_waiting (heard_rows inbox message) ≡ true → [] ≡ heard_rows inbox message
    by_message None e = refl
    by_message (Some message) e = absurd (false_true e)
waiting_task (task.HearHeld held) m e = by_messages (drop held.value.place held.value.messages) e
  where
    by_messages : (messages : List Message) → is_waiting (hearings held.value.inbox messages) ≡ true → [] ≡ hearings held.value.inbox messages
    by_messages [] e = refl
    by_messages (message ∷ []) e = absurd (false_true e)
    by_messages (message ∷ second ∷ messages) e = absurd (false_true e)
waiting_task one m e = absurd (false_true e)

-- behind a row that stands, the other rows are one that waits at most
short_waits : (one second later : List Row) → is_left one ≡ true → is_short ((one ++ second) ++ later) ≡ true → is_waiting second ≡ true
short_waits [] second later left short = absurd (false_true left)
short_waits (row ∷ []) second later left short = by_rows second later short
  where
    by_rows : (second later : List Row) → is_waiting (second ++ later) ≡ true → is_waiting second ≡ true
    by_rows [] later e = refl
    by_rows (row ∷ []) [] e = e
    by_rows (row ∷ []) (next ∷ later) e = absurd (false_true e)
    by_rows (row ∷ third ∷ second) later e = absurd (false_true e)
short_waits (row ∷ next ∷ one) second later left short = by_rows one second later short
  where
    by_rows : (one second later : List Row) → is_waiting (next ∷ ((one ++ second) ++ later)) ≡ true → is_waiting second ≡ true
    by_rows [] [] later e = refl
    by_rows [] (third ∷ second) later e = absurd (false_true e)
    by_rows (third ∷ one) second later e = absurd (false_true e)

-- where one does, nothing was left
short_alone : (one later : List Row) (waits : Row) → is_left one ≡ true → is_short ((one ++ waits ∷ []) ++ later) ≡ true → (one ++ waits ∷ []) ≡ ((one ++ waits ∷ []) ++ later)
short_alone [] later waits left short = absurd (false_true left)
short_alone (row ∷ []) [] waits left short = refl
short_alone (row ∷ []) (next ∷ later) waits left short = absurd (false_true short)
short_alone (row ∷ next ∷ []) later waits left short = absurd (false_true short)
short_alone (row ∷ next ∷ third ∷ one) later waits left short = absurd (false_true short)

-- the second task stands for no row
pub follows_first : (m : Matter) (one second : Task) (later : List Row) (new : List Row) → is_left (rows_of m one) ≡ true → is_short ((rows_of m one ++ rows_of m second) ++ later) ≡ true → waiting_of second ≡ None
    → new ≡ rows_of m one ++ later → new ≡ (rows_of m one ++ rows_of m second) ++ later
follows_first m one second later new left short is leads =
    let none : [] ≡ rows_of m second = ap waited (sym is) ∙ waiting_task second m (short_waits (rows_of m one) (rows_of m second) later left short) in
    leads ∙ ap (λ (rows : List Row). rows ++ later) (sym (append-nil (rows_of m one))) ∙ ap (λ (rows : List Row). (rows_of m one ++ rows) ++ later) none

-- it stands for a row that waits
pub follows_waiting : (m : Matter) (one second : Task) (waits : LaterRow) (later : List Row) → is_left (rows_of m one) ≡ true → is_short ((rows_of m one ++ rows_of m second) ++ later) ≡ true → waiting_of second ≡ Some waits
    → rows_of m one ++ later_row waits ∷ [] ≡ (rows_of m one ++ rows_of m second) ++ later
follows_waiting m one second waits later left short is =
    let row : later_row waits ∷ [] ≡ rows_of m second = ap waited (sym is) ∙ waiting_task second m (short_waits (rows_of m one) (rows_of m second) later left short) in
    short_alone (rows_of m one) later (later_row waits) left (subst (λ (rows : List Row). is_short ((rows_of m one ++ rows) ++ later) ≡ true) (sym row) short)
    ∙ ap (λ (rows : List Row). (rows_of m one ++ rows) ++ later) row

-- the first one stands for no row
pub follows_second : (m : Matter) (one second : Task) (later new : List Row) (left : Bool) → left ≡ is_left (rows_of m one) → left ≡ false → new ≡ rows_of m second ++ later → new ≡ (rows_of m one ++ rows_of m second) ++ later
follows_second m one second later new left is e leads =
    leads ∙ ap (λ (rows : List Row). (rows ++ rows_of m second) ++ later) (sym (none_of (rows_of m one) left is e))

-- one task stands for no row
pub follows_none : (m : Matter) (one : Task) (later new : List Row) (left : Bool) → left ≡ is_left (rows_of m one) → left ≡ false → new ≡ later → new ≡ rows_of m one ++ later
follows_none m one later new left is e leads = leads ∙ ap (λ (rows : List Row). rows ++ later) (sym (none_of (rows_of m one) left is e))

-- a turn is short
pub turn_short : (setup : OrderedSetup) (rows : List Row) → is_turn setup rows ≡ true → is_short rows ≡ true
turn_short setup [] turn = refl
turn_short setup (row ∷ []) turn = refl
turn_short setup (row ∷ later ∷ []) turn = by_later later turn
  where
    by_read : (later : PullRow) → may_wait setup row (rows_at.Read later) ≡ true → is_later (rows_at.Read later) ≡ true
    by_read read.Arm e = refl
    by_read read.CheckArrival e = refl
    by_read later e = absurd (false_true e)

    by_later : (later : Row) → may_wait setup row later ≡ true → is_later later ≡ true
    by_later rows_at.Hold e = refl
    by_later (rows_at.Read later) e = by_read later e
    by_later later e = absurd (false_true e)
turn_short setup (row ∷ later ∷ third ∷ rows) turn = absurd (false_true turn)

-- the first task of what is left stands, and is none of what was held
pub first_stands : (m : Matter) (t : TaskQueue) (one : Task) → t ≡ todo.One one → FirstStands m t → is_left (rows_of m one) ≡ true
first_stands m t one is stands = stood (is_left (rows_of m one)) (subst (λ (x : TaskQueue). FirstStands m x) is stands)

pub second_stands : (m : Matter) (t : TaskQueue) (one : Task) (waits : LaterRow) → t ≡ todo.Two one waits → FirstStands m t → is_left (rows_of m one) ≡ true
second_stands m t one waits is stands = stood (is_left (rows_of m one)) (subst (λ (x : TaskQueue). FirstStands m x) is stands)

-- a row is left where the queue is not empty
some_left : (m : Matter) (t : TaskQueue) → FirstStands m t → not (is_rested t) ≡ is_left (todo_rows m t)
some_left m todo.Nothing stands = refl
some_left m (todo.One one) stands = sym (stood (is_left (rows_of m one)) stands)
some_left m (todo.Two one waits) stands = by_rows (rows_of m one)
  where
    by_rows : (rows : List Row) → true ≡ is_left (rows ++ later_row waits ∷ [])
    by_rows [] = refl
    by_rows (row ∷ rows) = refl

pub rows_left : (m : Matter) (t : TaskQueue) (rests : Bool) → FirstStands m t → rests ≡ is_rested t → rests ≡ false → true ≡ is_left (todo_rows m t)
rows_left m t rests stands is e = ap (λ (b : Bool). not b) (sym e ∙ is) ∙ some_left m t stands

pub not_rested : (m : Matter) (t : TaskQueue) (rests : Bool) → FirstStands m t → rests ≡ is_rested t → rests ≡ true → false ≡ is_left (todo_rows m t)
not_rested m t rests stands is e = ap (λ (b : Bool). not b) (sym e ∙ is) ∙ some_left m t stands

-- ---- a task that comes next

abbrev place : Consumer → List Row → Position
place c rows = record { consumer = c; todo = rows }

-- what is left, in its parts
abbrev pub left_with : TaskQueue → Seen → RemainingRows
left_with todo seen = record { todo = todo; seen = seen }

-- the row that it stands for comes next
pub next_of : (left : RemainingRows) (rows later : List Row) (holds : Row → Type 0) → left_rows left ≡ rows ++ later → later ≡ later_of left.todo → IfAlone rows holds → IsNext left holds
next_of left [] later holds is same alone = absurd alone
next_of left (one ∷ []) later holds is same alone = (one, ap first_row is, ap later_rows is ∙ same, alone)
next_of left (one ∷ second ∷ rows) later holds is same alone = absurd alone

pub passes_first : (g : ReplayInput) (now : ℕ) (left : RemainingRows) (rows later : List Row) (c d : Consumer) (v u : LinkView) (kept : Seen) (result : Result Stepped Stop) → left_rows left ≡ rows ++ later
    → later ≡ later_of left.todo → PassesRows g now rows c d v u kept result → PassesFirst g now left c d v u kept result
passes_first g now left rows later c d v u kept (Ok done) is same passes = next_of left rows later (λ one. PassesRow g now one c d v u kept (Ok done)) is same passes
passes_first g now left rows later c d v u kept (Err stop.Closed) is same passes = next_of left rows later (λ one. PassesRow g now one c d v u kept (Err stop.Closed)) is same passes
passes_first g now left rows later c d v u kept (Err stop.OutOfMemory) is same passes = passes

-- of the only task that is left
pub passes_one : (g : ReplayInput) (now : ℕ) (left : RemainingRows) (one : Task) (c d : Consumer) (v u : LinkView) (kept : Seen) (result : Result Stepped Stop) → left.todo ≡ todo.One one
    → PassesRows g now (rows_of (read_in left.seen) one) c d v u kept result → PassesFirst g now left c d v u kept result
passes_one g now left one c d v u kept result is passes =
    passes_first g now left (rows_of (read_in left.seen) one) [] c d v u kept result (ap (todo_rows (read_in left.seen)) is ∙ sym (append-nil (rows_of (read_in left.seen) one))) (sym (ap later_of is)) passes

-- and of one behind which a row waits
pub passes_two : (g : ReplayInput) (now : ℕ) (left : RemainingRows) (one : Task) (waits : LaterRow) (c d : Consumer) (v u : LinkView) (kept : Seen) (result : Result Stepped Stop) → left.todo ≡ todo.Two one waits
    → PassesRows g now (rows_of (read_in left.seen) one) c d v u kept result → PassesFirst g now left c d v u kept result
passes_two g now left one waits c d v u kept result is passes =
    passes_first g now left (rows_of (read_in left.seen) one) (later_row waits ∷ []) c d v u kept result (ap (todo_rows (read_in left.seen)) is) (sym (ap later_of is)) passes

-- a turn begins
pub begins_first : (g : ReplayInput) (now : ℕ) (left : RemainingRows) (c d : Consumer) (v u : LinkView) (seen : Seen) (result : Result Stepped Stop) → left.todo ≡ todo.Nothing
    → PassesRow g now Event c d v u sight.Nothing result → PassesFirst g now left c d v u (seen_after result seen) result
begins_first g now left c d v u seen result is passes = by_result result (passes_blind g now Event c d v u seen result passes)
  where
    none : left_rows left ≡ []
    none = ap (todo_rows (read_in left.seen)) is

    same : later_rows (left_rows left) ≡ later_of left.todo
    same = ap later_rows none ∙ sym (ap later_of is)

    by_result : (result : Result Stepped Stop) → PassesRow g now Event c d v u (seen_after result seen) result → PassesFirst g now left c d v u (seen_after result seen) result
    by_result (Ok done) passes = (Event, ap first_row none, same, passes)
    by_result (Err stop.Closed) passes = (Event, ap first_row none, same, passes)
    by_result (Err stop.OutOfMemory) passes = passes

-- ---- what the next row comes to

turned_silent : (g : ReplayInput) (now : ℕ) (met : Met) (old new : Position) (v u : LinkView) (kept : Option Message) (stirs spent : Bool) → PassesNext g now met old new v u → handed (step_met g now met old).outputs ≡ []
    → stirs ≡ stirring (first_row old.todo) met old.consumer.phase new.consumer.phase → spent ≡ is_spent new.consumer.phase → ComesTo (silent_by stirs spent) kept g now old new v u
turned_silent g now met old new v u kept stirs true passes shows stirred is = (met, passes, shows, sym is)
turned_silent g now met old new v u kept stirs false passes shows stirred is = (met, passes, shows, stirred, sym is)

turned_to : (g : ReplayInput) (now : ℕ) (met : Met) (old new : Position) (v u : LinkView) (hand : RowItem) (message : Option Message) (stirs spent : Bool) → PassesNext g now met old new v u
    → IfSome message (λ x. seen_by (first_row old.todo) met ≡ Some x) → IfError hand (message ≡ seen_by (first_row old.todo) met) → handed (step_met g now met old).outputs ≡ handed_list hand message
    → stirs ≡ stirring (first_row old.todo) met old.consumer.phase new.consumer.phase → spent ≡ is_spent new.consumer.phase → ComesTo (outcome_by hand message stirs spent) message g now old new v u
turned_to g now met old new v u hands.Nothing message stirs spent passes took errors shows stirred is = turned_silent g now met old new v u message stirs spent passes shows stirred is
turned_to g now met old new v u hands.Message None stirs spent passes took errors shows stirred is = turned_silent g now met old new v u None stirs spent passes shows stirred is
turned_to g now met old new v u hands.Message (Some message) stirs spent passes took errors shows stirred is = (message, refl, met, passes, shows, took)
turned_to g now met old new v u (hands.Error kind) message stirs spent passes took errors shows stirred is = (met, passes, shows, errors)

-- the next row was passed
pub next_passed : (g : ReplayInput) (now : ℕ) (left after : RemainingRows) (c d e : Consumer) (kept : Seen) (done : Stepped) (was_reading : Bool) (turned : RowOutcome) (v u : LinkView) → PassesFirst g now left c d v u kept (Ok done) → e ≡ d
    → was_reading ≡ is_reading c.phase → after.seen ≡ kept
    → left_rows after ≡ next_rows (read_in kept) done.next ++ later_of left.todo
    → turned ≡ outcome_by done.handed (message_in kept) (has_message kept || (not was_reading && is_reading d.phase)) (is_spent d.phase)
    → ComesTo turned (message_in after.seen) g now (place c (left_rows left)) (place e (left_rows after)) v u
next_passed g now left after c d e kept done was_reading turned v u (one, first_is, later_is, (met, meets, is_open, steps)) stays was lies rows to =
    let old : Position = place c (left_rows left) in
    let new : Position = place d (left_rows after) in
    let known : Steps g now (first_row (left_rows left)) met c d kept done = subst (λ (x : Row). Steps g now x met c d kept done) (sym first_is) steps in
    let passes : PassesNext g now met old new v u = record {
      meets = subst (λ (x : Row). Meets (poll_wish_at g x c.phase) met v u) (sym first_is) meets;
      is_open = is_open;
      leads = ap (λ (x : Consumer). place x (left_rows after)) known.consumer
          ∙ ap (λ (xs : List Row). place (step_met g now met old).position.consumer xs)
          (rows ∙ ap (λ (xs : List Row). xs ++ later_of left.todo) known.next
          ∙ ap (λ (xs : List Row). (met_row g now (first_row (left_rows left)) met c).next ++ xs) (sym later_is));
    } in
    let stirred : (has_message kept || (not was_reading && is_reading d.phase)) ≡ stirring (first_row (left_rows left)) met c.phase d.phase =
    ap (λ (b : Bool). b || (not was_reading && is_reading d.phase)) known.seen
    ∙ ap (λ (b : Bool). is_some (seen_by (first_row (left_rows left)) met) || (not b && is_reading d.phase)) was in
    subst (λ (x : Consumer). ComesTo turned (message_in after.seen) g now old (place x (left_rows after)) v u) (sym stays)
    (subst (λ (s : Seen). ComesTo turned (message_in s) g now old new v u) (sym lies)
    (subst (λ (t : RowOutcome). ComesTo t (message_in kept) g now old new v u) (sym to)
    (turned_to g now met old new v u done.handed (message_in kept) (has_message kept || (not was_reading && is_reading d.phase)) (is_spent d.phase) passes known.message known.errors
    known.shown stirred refl)))

-- its inbox is closed
pub next_closed : (g : ReplayInput) (now : ℕ) (left : RemainingRows) (c d : Consumer) (new : Position) (v u : LinkView) (kept : Seen) → PassesFirst g now left c d v u kept (Err stop.Closed)
    → new ≡ closed_at true (place d (left_rows left))
    → (new ≡ closed_at true (place c (left_rows left))) × IsClosing Meets (poll_wish g (place c (left_rows left))) true v u
next_closed g now left c d new v u kept (one, first_is, later_is, (same, closing)) leads = (
  leads ∙ ap (λ (x : Consumer). closed_at true (place x (left_rows left))) same,
  subst (λ (x : Row). IsClosing Meets (poll_wish_at g x c.phase) true v u) (sym first_is) closing,
)

pub next_lacks : (g : ReplayInput) (now : ℕ) (left after : RemainingRows) (c d : Consumer) (v u : LinkView) (kept : Seen) → PassesFirst g now left c d v u kept (Err stop.OutOfMemory) → after ≡ left
    → (place d (left_rows after) ≡ place c (left_rows left)) × (u ≡ v)
next_lacks g now left after c d v u kept (same, view) stays = (ap (λ (x : Consumer). place x (left_rows after)) same ∙ ap (λ (l : RemainingRows). place c (left_rows l)) stays, view)
