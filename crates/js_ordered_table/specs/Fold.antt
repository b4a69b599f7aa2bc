-- A replay: each event is passed whole, at its moment, with the link as it then stands.
use Rattle.std.specs.Prelude.{ℕ, zero, suc, ◌+◌, Bool, true, false, List, [], ◌∷◌, ◌++◌, map, Some, None, count_by}
use Rattle.js_base.specs.declared.message.State.TheVariants.{Connected}
use Rattle.js_link.specs.RowInput.{RowInput}
use Rattle.js_pull.specs.Reader as pull
use Rattle.js_pull.specs.declared.reader.Row.{Row as PullRow}
use Rattle.js_pull.specs.declared.reader.Row.TheVariants as read
use Rattle.js_ordered_table.specs.declared.replay_state.ReplayState.{ReplayState}
use Rattle.js_ordered_table.specs.declared.run.Run.{Run}
use Rattle.js_ordered_table.specs.declared.run.Step.{Step}
use Rattle.js_ordered_table.specs.Consumer.{Matter, Unchanged, Becomes, WatcherEnds, Passed}
use Rattle.js_ordered_table.specs.declared.row.Row.{Row}
use Rattle.js_ordered_table.specs.declared.row.Row.TheVariants.{Event, Start, Try, Create, Ask, Await, Answered, Hold, Succeed, Fail, CheckArrival, Hear, CheckSilence, Arm, Read}
use Rattle.js_ordered_table.specs.declared.consumer.ReplayInput.{ReplayInput}
use Rattle.js_ordered_table.specs.declared.consumer.Phase.{Phase}
use Rattle.js_ordered_table.specs.declared.consumer.Phase.TheVariants.{Pulls, Pushes, Ended, Exhausted}
use Rattle.js_ordered_table.specs.OrderedCore.{new_core}
use Rattle.js_ordered_table.specs.Texts.{configured_start, inbox_subject, pull_source}
use Rattle.js_ordered_table.specs.Arrivals.{armed}
use Rattle.js_ordered_table.specs.Table.{pass}
use Rattle.js_ordered_table.specs.declared.setup.OrderedSetup.{OrderedSetup}
use Rattle.js_ordered_table.specs.declared.setup.OrderedSetup.TheVariants.{Pull, Push}
use Rattle.js_ordered_table.specs.declared.event.Event as events
use Rattle.js_ordered_table.specs.declared.event.EventKind.{EventKind}
use Rattle.js_ordered_table.specs.declared.event.EventKind.TheVariants as what
use Rattle.js_ordered_table.specs.declared.run.Output.{Output}
use Rattle.js_ordered_table.specs.declared.run.Output.TheVariants as out

-- what passing some rows leads to, and what it puts out
pub record Ran : Type 0 where
  pub state : ReplayState
  pub outputs : List Output

-- a request goes out
abbrev pub is_request : Output → Bool
is_request (out.Request number subject payload) = true
is_request _ = false

-- an inbox is opened
abbrev pub is_subscribe : Output → Bool
is_subscribe (out.Subscribe inbox subject) = true
is_subscribe _ = false

-- a row is passed with the next numbers
abbrev pub passing : ReplayInput → ℕ → ReplayState → RowInput
passing g now w = record {
  now = now;
  up = w.link_up;
  request = w.requests_sent + 1;
  inbox = w.inboxes_opened;
  subject = inbox_subject g w.inboxes_opened;
}

-- the state after a row
abbrev pub after : ReplayState → Passed → ReplayState
after w passed = record {
  consumer = passed.consumer;
  link_up = w.link_up;
  requests_sent = w.requests_sent + count_by is_request passed.outputs;
  inboxes_opened = w.inboxes_opened + count_by is_subscribe passed.outputs;
}

-- ---- rows

-- what follows a row at once has a lower rank than the row
abbrev pub read_rank : PullRow → ℕ
read_rank (read.Ask reason) = 0
read_rank read.Arm = 0
read_rank read.Threshold = 1
read_rank (read.FailInfoRequest failures) = 1
read_rank read.CheckExpiry = 1
read_rank (read.Inquire failures) = 2
read_rank (read.Answered reply failures) = 5
read_rank read.CheckSilence = 5
read_rank read.CheckInfoRequest = 6
read_rank read.CheckArrival = 6
read_rank (read.Begin change) = 9

-- and so for all rows
abbrev pub rank : Row → ℕ
rank Fail = 0
rank Arm = 0
rank Hold = 0
rank Ask = 1
rank Create = 2
rank Try = 3
rank Start = 4
rank (Hear arrival) = 5
rank CheckSilence = 5
rank (Read row) = read_rank row
rank CheckArrival = 6
rank (Succeed info) = 6
rank (Answered reply) = 7
rank Await = 8
rank Event = 9

-- nothing is passed
abbrev pub stays : ReplayState → Ran
stays w = record { state = w; outputs = [] }

-- outputs before what a run puts out
abbrev pub and_then : List Output → Ran → Ran
and_then outputs ran = record { state = ran.state; outputs = outputs ++ ran.outputs }

-- rows in order
abbrev pub pass_each : (Row → ReplayState → Ran) → List Row → ReplayState → Ran
pass_each one [] w = stays w
pass_each one (row ∷ rows) w = let ran = one row w in and_then ran.outputs (pass_each one rows ran.state)

-- a row and what follows it, to a depth
abbrev pub pass_to : ReplayInput → ℕ → Matter → ℕ → Row → ReplayState → Ran
pass_to g now m zero row w = stays w
pass_to g now m (suc depth) row w =
    let passed = pass g (passing g now w) m row w.consumer in
    and_then passed.outputs (pass_each (pass_to g now m depth) passed.next (after w passed))

-- as deep as they go
abbrev pub pass_all : ReplayInput → ℕ → Matter → List Row → ReplayState → Ran
pass_all g now m rows w = pass_each (λ row. pass_to g now m (suc (rank row)) row) rows w

-- ---- events

-- nothing comes
abbrev pub tick : Matter
tick = record { change = Unchanged; answer = None; arrival = None }

-- what an event brings
abbrev pub matter_of : EventKind → Matter
matter_of what.Tick = tick
matter_of (what.Arrival inbox message) = record tick { arrival = Some (record { inbox = inbox; message = message }) }
matter_of (what.Answer request reply) = record tick { answer = Some (record { request = request; reply = reply }) }
matter_of (what.Link up) = tick
matter_of (what.Connection state) = record tick { change = Becomes state }
matter_of what.WatcherEnded = record tick { change = WatcherEnds }

-- the link after it
abbrev pub link_after : EventKind → Bool → Bool
link_after (what.Link up) was = up
link_after _ was = was

-- one event
unfoldable pub event : ReplayInput → events.Event → ReplayState → Ran
event g e w = pass_all g e.at (matter_of e.what) (Event ∷ []) (record w { link_up = link_after e.what w.link_up })

-- what the list of events leads to, event after event
unfoldable pub run_events : ReplayInput → List events.Event → ReplayState → List Ran
run_events g [] w = []
run_events g (e ∷ es) w = let ran = event g e w in ran ∷ run_events g es ran.state

-- ---- the opening

-- the first inbox is current
abbrev pub first_phase : ReplayInput → ℕ → OrderedSetup → Phase
first_phase g start (Pull setup) = Pulls (pull.new_reader (pull_source g 0 0 (inbox_subject g 0) g.first))
first_phase g start (Push setup) = Pushes 0 (armed start)

-- pull asks at once
abbrev pub opening_rows : OrderedSetup → List Row
opening_rows (Pull setup) = map Read pull.opening
opening_rows (Push setup) = []

-- nothing was asked or yielded yet
abbrev pub first_state : ReplayInput → ℕ → ReplayState
first_state g start = record {
  consumer = record {
    phase = first_phase g start g.setup;
    core = new_core (configured_start g.setup);
    name = g.first.name;
    missed = false;
    limited = false;
    stream_missing = false;
    connection = Connected;
  };
  link_up = true;
  requests_sent = 0;
  inboxes_opened = 1;
}

-- the opening, at the start
unfoldable pub opening : ReplayInput → ℕ → Ran
opening g start = pass_all g start tick (opening_rows g.setup) (first_state g start)

-- ---- the fold

-- the consumer has ended
abbrev pub is_over : Phase → Bool
is_over Ended = true
is_over Exhausted = true
is_over _ = false

-- the state after all events
abbrev pub last_state : ReplayState → List Ran → ReplayState
last_state w [] = w
last_state w (ran ∷ rans) = last_state ran.state rans

-- what a run puts out is a step
abbrev pub step_of : Ran → Step
step_of ran = record { outputs = ran.outputs }

-- a whole run
unfoldable pub fold : ReplayInput → ℕ → List events.Event → Run
fold g start es =
    let first = opening g start in
    let rans = run_events g es first.state in
    record { opening = step_of first; steps = map step_of rans; ended = is_over (last_state first.state rans).consumer.phase }
