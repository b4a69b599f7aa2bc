-- What the code of a replay says that passes the rows of an event.
use Rattle.std.specs.Prelude.{◌≡◌, ℕ, zero, suc, ◌+◌, ◌*◌, List, [], ◌∷◌, ◌++◌, length, Option, None, Some, Result, Ok, Err, count_by, drop, refl, ⊤}
use Rattle.std.specs.Option.{option_copied}
use Rattle.js_ordered_table.specs.declared.transitions.task.NextTasks.{NextTasks}
use Rattle.js_base.specs.declared.message.Message.{Message}
use Rattle.js_ordered_table.specs.declared.transitions.task.Held.{Held}
use Rattle.js_pull.specs.declared.passed_row.PassedRow.{PassedRow as Read}
use Rattle.js_ordered_table.specs.declared.transitions.task.Task.{Task}
use Rattle.js_ordered_table.specs.declared.transitions.task.RowOutput.{RowOutput}
use Rattle.js_ordered_table.specs.declared.transitions.task.Task.TheVariants as task
use Rattle.js_ordered_table.specs.Tasks.{StepsTo, next_rows, reader_rows, rows_of, told_outputs}
use Rattle.js_ordered_table.specs.declared.consumer.ReplayInput.{ReplayInput}
use Rattle.js_ordered_table.specs.declared.event.EventKind.{EventKind}
use Rattle.js_pull.specs.Rows.{told_shown}
use Rattle.js_ordered_table.specs.declared.consumer.Consumer.{Consumer}
use Rattle.js_ordered_table.specs.declared.consumer.Phase.{Phase}
use Rattle.js_ordered_table.specs.declared.consumer.Phase.TheVariants.{Idle, Pulls}
use Rattle.js_ordered_table.specs.Recreation.{message_on}
use Rattle.js_ordered_table.specs.Arrivals.{told as told_by, with_sent}
use Rattle.js_ordered_table.specs.declared.row.Row.{Row}
use Rattle.js_ordered_table.specs.declared.row.Row.TheVariants.{Arm, Hear}
use Rattle.js_ordered_table.specs.declared.run.Output.{Output}
use Rattle.js_ordered.specs.declared.event_context.EventContext.{EventContext}
use Rattle.js_ordered_table.specs.declared.replay_state.ReplayState.{ReplayState}
use Rattle.js_ordered_table.specs.Fold.{after, and_then, is_request, is_subscribe, matter_of, pass_each, passing, tick}
use Rattle.js_ordered_table.specs.Passes.{at, input_of, ran}
use Rattle.js_ordered_table.specs.Consumer.{Matter}
use Rattle.js_ordered_table.specs.Table.{pass}

-- what an event brings: nothing where there is none, at the opening
abbrev pub matter_in : Option EventKind → Matter
matter_in None = tick
matter_in (Some what) = matter_of what

-- what happens to the consumer now
abbrev pub matter_now : EventContext → Matter
matter_now context = matter_in (option_copied context.what)

-- passing the rest, after what was put out so far, comes to what passing the whole would have come to
abbrev pub Leads : ReplayInput → ℕ → Matter → List Row → ReplayState → List Output → List Row → ReplayState → List Output → Type 0
Leads g now m rows w earlier rest u later = and_then earlier (pass_each (ran g now m) rows w) ≡ and_then later (pass_each (ran g now m) rest u)

-- the same at an event
abbrev pub LeadsOn : EventContext → List Row → ReplayState → List Output → List Row → ReplayState → List Output → Type 0
LeadsOn context rows w earlier rest u later = Leads (input_of context.consumer) context.consumer.moment (matter_now context) rows w earlier rest u later

-- ---- how many rows are passed

-- one row after another, each in the state that those before it led to
abbrev pub count_each : (Row → ReplayState → ℕ) → ReplayInput → ℕ → Matter → List Row → ReplayState → ℕ
count_each count g now m [] w = 0
count_each count g now m (row ∷ rows) w = count row w + count_each count g now m rows (ran g now m row w).state

-- a row and those that follow it, to a depth
abbrev pub count_to : ReplayInput → ℕ → Matter → ℕ → Row → ReplayState → ℕ
count_to g now m zero row w = 0
count_to g now m (suc depth) row w =
    let passed = pass g (passing g now w) m row w.consumer in
    suc (count_each (count_to g now m depth) g now m passed.next (after w passed))

-- these rows and all that follow them: what follows a row has a lower rank, and no rank is above 9
unfoldable pub row_count : ReplayInput → ℕ → Matter → List Row → ReplayState → ℕ
row_count g now m rows w = count_each (count_to g now m 10) g now m rows w

-- no rows are none, and a row that no row follows is one
worked_none : (g : ReplayInput) (now : ℕ) (m : Matter) (w : ReplayState) → row_count g now m [] w ≡ 0
unfolding row_count
worked_none g now m w = refl

worked_one : (g : ReplayInput) (now : ℕ) (m : Matter) (w : ReplayState) → row_count g now m (Arm ∷ []) (at Idle w) ≡ 1
unfolding row_count
worked_one g now m w = refl

-- ---- rows that were passed

-- some rows were passed, up to those that follow them: the whole comes to the same, and each of them is counted no more
pub record Passes (g : ReplayInput) (now : ℕ) (m : Matter) (rows : List Row) (w : ReplayState) (earlier : List Output) (rest : List Row) (u : ReplayState) (later : List Output) : Type 0 where
  pub leads : Leads g now m rows w earlier rest u later
  pub fewer : row_count g now m rows w ≡ length rows + row_count g now m rest u

-- the same at an event
abbrev pub PassesOn : EventContext → List Row → ReplayState → List Output → List Row → ReplayState → List Output → Type 0
PassesOn context rows w earlier rest u later = Passes (input_of context.consumer) context.consumer.moment (matter_now context) rows w earlier rest u later

-- rows were passed up to those that follow, or there was no memory and all is as it was
abbrev pub PassesTo : {E : Type 0} → EventContext → List Row → ReplayState → ReplayState → List Output → List Output → Result NextTasks E → Type 0
PassesTo context rows old new before after (Ok rest) = PassesOn context rows old before (next_rows (matter_now context) rest) new after
PassesTo context rows old new before after (Err e) = (new ≡ old) × (after ≡ before)

-- the state after these were put out: their requests and inboxes have taken their numbers
abbrev pub numbered : List Output → ReplayState → ReplayState
numbered outputs w = record w { requests_sent = w.requests_sent + count_by is_request outputs; inboxes_opened = w.inboxes_opened + count_by is_subscribe outputs }

-- the rows that are left, in order: the first lies last
abbrev pub left_rows : Matter → List Task → List Row
left_rows m [] = []
left_rows m (one ∷ tasks) = left_rows m tasks ++ rows_of m one

-- what is left to do: each row four times, since up to four tasks come in place of one that is passed, and each task once
abbrev pub left_to_do : EventContext → List Task → ReplayState → ℕ
left_to_do context tasks w = 4 * row_count (input_of context.consumer) context.consumer.moment (matter_now context) (left_rows (matter_now context) tasks) w + length tasks

-- something is left
abbrev pub IsLeft : List Task → Type 0
IsLeft [] = ⊥
IsLeft (one ∷ tasks) = ⊤

-- ---- which rows are passed one by one

-- a row of an open recreation
abbrev pub IsTry : Task → Type 0
IsTry task.Try = ⊤
IsTry task.Create = ⊤
IsTry task.Ask = ⊤
IsTry task.Await = ⊤
IsTry (task.Answered request) = ⊤
IsTry (task.Succeed info) = ⊤
IsTry task.Fail = ⊤
IsTry other = ⊥

-- the first of these is heard
abbrev pub heard_first : ℕ → List Message → List Row
heard_first inbox [] = []
heard_first inbox (message ∷ messages) = Hear (record { inbox = inbox; message = message }) ∷ []

-- the first of what was held
abbrev pub first_held : Held → List Row
first_held held = heard_first held.inbox (drop held.place held.messages)

-- the first of the rows that a task stands for
abbrev pub first_rows : Matter → Task → List Row
first_rows m (task.HearHeld held) = first_held held.value
first_rows m other = rows_of m other

-- ---- what a reader tells

-- the reader went on, and what it told without a message was put out
pub record Finishes (m : Matter) (w u : ReplayState) (step : Read) (earlier later : List Output) (rest : NextTasks) : Type 0 where
  pub told : RowOutput
  pub consumer : Consumer
  pub steps : StepsTo m (with_sent [] (reader_rows m step.next) (told_by (told_shown step.told None) w.consumer)) (told_outputs told) consumer rest
  pub outputs : later ≡ earlier ++ told_outputs told
  pub state : u ≡ record w { consumer = consumer }

-- this arrives on the inbox of the reader, where one reads
abbrev pub Arrives : Matter → Message → Phase → Type 0
Arrives m message (Pulls r) = message_on r.source.inbox m.arrival ≡ Some message
Arrives m message phase = ⊤
