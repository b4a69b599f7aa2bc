-- A replay that is told its events one by one.
use Rattle.std.specs.Prelude.{◌≡◌, ℕ, Bool, List, [], ◌∷◌, length, Some, None, Result, Ok, Err}
use Rattle.js_ordered_table.specs.declared.consumer.ReplayInput.{ReplayInput}
use Rattle.js_ordered.specs.declared.incremental_replay.IncrementalReplay.{IncrementalReplay}
use Rattle.js_ordered_table.specs.declared.event.Event as events
use Rattle.js_ordered_table.specs.declared.run.ReplayError.{ReplayError}
use Rattle.js_ordered_table.specs.declared.transitions.task.Task.{Task}
use Rattle.js_ordered.specs.Drive.{left_rows}
use Rattle.js_ordered_table.specs.declared.run.Output.{Output}
use Rattle.js_ordered_table.specs.declared.replay_state.ReplayState.{ReplayState}
use Rattle.js_ordered_table.specs.Fold.{Ran, and_then, event as ran_by, matter_of, opening, pass_each, run_events, fold}
use Rattle.js_ordered_table.specs.Passes.{ran}
use Rattle.js_ordered_table.specs.Refusal.{first_early, first_exhausted, refuse}

-- what a replay goes by
abbrev pub replay_given : IncrementalReplay → ReplayInput
replay_given c = record { settings = c.settings.now; setup = c.setup.now; first = c.first.now }

-- the moment of the last event, or the start
abbrev pub last_moment : ℕ → List events.Event → ℕ
last_moment start [] = start
last_moment start (e ∷ es) = last_moment e.at es

-- the last of these, or the first where there are none
abbrev pub last_ran : Ran → List Ran → Ran
last_ran first [] = first
last_ran first (ran ∷ rans) = last_ran ran rans

-- what the last event led to and put out, or the opening
unfoldable pub last : ReplayInput → ℕ → List events.Event → Ran
last g start es = last_ran (opening g start) (run_events g es (opening g start).state)

-- a replay has come through these events
pub record HasCome (g : ReplayInput) (start : ℕ) (es : List events.Event) (c : IncrementalReplay) : Type 0 where
  pub given : replay_given c ≡ g
  pub count : c.count ≡ length es
  pub moment : c.moment ≡ last_moment start es
  pub early : c.early ≡ first_early 0 start es
  pub exhausted : c.exhausted ≡ first_exhausted 0 (run_events g es (opening g start).state)
  pub state : c.state ≡ (last g start es).state
  pub outputs : c.outputs ≡ (last g start es).outputs
  pub rested : c.todo.tasks.items ≡ []

-- what passing the rest of an event comes to, with what it has put out so far; the whole event where nothing of it was passed
abbrev pub rest_of : ReplayInput → events.Event → List Task → ReplayState → List Output → Ran
rest_of g e [] w outputs = ran_by g e w
rest_of g e (task ∷ tasks) w outputs = and_then outputs (pass_each (ran g e.at (matter_of e.what)) (left_rows (matter_of e.what) (task ∷ tasks)) w)

-- the same of a replay
abbrev pub rest_of_replay : events.Event → IncrementalReplay → Ran
rest_of_replay e c = rest_of (replay_given c) e c.todo.tasks.items c.state c.outputs

-- a replay stands before this event or within it, after the others: passing the rest gives what passing the whole would have given
pub record IsWithin (g : ReplayInput) (start : ℕ) (es : List events.Event) (e : events.Event) (c : IncrementalReplay) : Type 0 where
  pub given : replay_given c ≡ g
  pub count : c.count ≡ length es
  pub moment : c.moment ≡ last_moment start es
  pub early : c.early ≡ first_early 0 start es
  pub exhausted : c.exhausted ≡ first_exhausted 0 (run_events g es (opening g start).state)
  pub rest : rest_of_replay e c ≡ ran_by g e (last g start es).state

-- what the end of a replay answers: whether the run has ended, or the refusal that applies
abbrev pub IsEnd : ReplayInput → ℕ → List events.Event → Result Bool ReplayError → Type 0
IsEnd g start es (Ok ended) = (refuse g start es ≡ None) × (ended ≡ (fold g start es).ended)
IsEnd g start es (Err refusal) = refuse g start es ≡ Some refusal
