-- What is said of a step, and of a whole replay.
use Rattle.std.specs.Prelude.{ℕ, Bool, true, false, not, ◌&&◌, List, [], ◌∷◌, ◌++◌, length, flat_map, codes, Option, Some, None, if◌then◌else◌}
use Rattle.js_json.specs.declared.consumer.info.Info.{Info}
use Rattle.js_ordered_table.specs.declared.consumer.Consumer.{Consumer}
use Rattle.js_ordered_table.specs.declared.consumer.Phase.{Phase}
use Rattle.js_ordered_table.specs.declared.consumer.Phase.TheVariants.{Pulls, Pushes, Recreates, Idle, Ended, Exhausted}
use Rattle.js_ordered_table.specs.declared.consumer.ReplayInput.{ReplayInput}
use Rattle.js_ordered_table.specs.declared.event.Event as events
use Rattle.js_ordered_table.specs.declared.replay_state.ReplayState.{ReplayState}
use Rattle.js_ordered_table.specs.declared.run.Output.{Output}
use Rattle.js_ordered_table.specs.declared.setup.OrderedSetup.{OrderedSetup}
use Rattle.js_ordered_table.specs.declared.setup.OrderedSetup.TheVariants.{Pull, Push}
use Rattle.js_ordered_table.specs.Fold.{Ran, event, fold, is_over, opening}
use Rattle.js_ordered_table.specs.Texts.{configured_start}
use Rattle.js_tool_explain.specs.declared.arrivals.Arrived.{Arrived}
use Rattle.js_tool_explain.specs.declared.replies.Awaited.{Awaited}
use Rattle.js_tool_explain.specs.declared.outside_events.Outside.{Outside}
use Rattle.js_tool_explain.specs.declared.step.Before.{Before}
use Rattle.js_tool_explain.specs.Arrivals.{arrived, arrived_text}
use Rattle.js_tool_explain.specs.Replies.{awaited, awaited_text, ends_at}
use Rattle.js_tool_explain.specs.Outcome.{StepPlace, output_text}
use Rattle.js_tool_explain.specs.OutsideEvents.{outside, outside_text}
use Rattle.js_tool_explain.specs.SentencePart.{Text, Number, Count, line_text, said_text}
use Rattle.js_tool_explain.specs.RetryWait.{new_rest_text, rest_of}

-- ---- why it happens, by the consumer before an event

abbrev pub any_outside_text : ℕ → Option Outside → List ℕ
any_outside_text at None = []
any_outside_text at (Some news) = outside_text at news

abbrev pub any_awaited_text : ℕ → List ℕ → Option Awaited → List ℕ
any_awaited_text at name None = []
any_awaited_text at name (Some news) = awaited_text at name news

abbrev pub any_arrived_text : ℕ → Option Arrived → List ℕ
any_arrived_text at None = []
any_arrived_text at (Some news) = arrived_text at news

-- what happens outside the consumer, what becomes of what it waits for, and what arrives or does not
unfoldable pub causes_text : OrderedSetup → Consumer → events.Event → List ℕ
causes_text setup c e =
    any_outside_text e.at (outside setup c e) ++ any_awaited_text e.at c.name (awaited setup c e) ++ any_arrived_text e.at (arrived setup c e)

-- ---- what comes of it, by the consumer after the event

abbrev pub is_recreating : Phase → Bool
is_recreating (Pulls reader) = false
is_recreating (Pushes inbox heartbeat_timer) = false
is_recreating (Recreates r) = true
is_recreating Idle = false
is_recreating Ended = false
is_recreating Exhausted = false

-- what the sentences on what comes of it say of the consumer before
abbrev pub before : OrderedSetup → Consumer → events.Event → Before
before setup c e = record {
  is_over = is_over c.phase;
  is_recreating = is_recreating c.phase;
  is_unwatched = ends_at setup c.phase e.what;
  rest = rest_of c.phase;
}

abbrev pub step_place : ℕ → Before → ReplayState → StepPlace
step_place at was w = record {
  at = at;
  was_recreating = was.is_recreating;
  is_unwatched = was.is_unwatched;
  is_up = w.link_up;
  consumer = w.consumer;
}

-- the consumer ends in a step
abbrev pub ends_text : ℕ → Bool → Phase → List ℕ
ends_text at was_over phase = if is_over phase && not was_over then line_text at (Text (codes "The consumer has ended.") ∷ []) else []

-- what is put out, what is waited for from then on, and the end
unfoldable pub results_text : ℕ → Before → ReplayState → List Output → List ℕ
results_text at was w outputs =
    flat_map (output_text (step_place at was w)) outputs ++ new_rest_text at was.rest (rest_of w.consumer.phase)
    ++ ends_text at was.is_over w.consumer.phase

-- ---- a step

-- what is said of a step: by the consumer before it, the event, what it puts out, and the consumer after it
abbrev pub explained : OrderedSetup → Consumer → events.Event → Ran → List ℕ
explained setup c e ran = causes_text setup c e ++ results_text e.at (before setup c e) ran.state ran.outputs

-- ---- the first lines and the last

abbrev pub mode_text : OrderedSetup → List ℕ
mode_text (Pull setup) = codes "The pull consumer \""
mode_text (Push setup) = codes "The push consumer \""

abbrev pub started_from : ℕ → OrderedSetup → Info → Option ℕ → List ℕ
started_from at setup first None = line_text at (
    Text (mode_text setup) ∷ Text first.name ∷ Text (codes "\" of stream \"") ∷ Text first.stream_name
    ∷ Text (codes "\" started, with no configured start sequence.") ∷ [])
started_from at setup first (Some sequence) = line_text at (
    Text (mode_text setup) ∷ Text first.name ∷ Text (codes "\" of stream \"") ∷ Text first.stream_name
    ∷ Text (codes "\" started, from stream sequence ") ∷ Number sequence ∷ Text (codes ".") ∷ [])

-- who starts, and where
abbrev pub started_text : ℕ → OrderedSetup → Info → List ℕ
started_text at setup first = started_from at setup first (configured_start setup)

abbrev pub opening_place : ℕ → ReplayState → StepPlace
opening_place at w = record { at = at; was_recreating = false; is_unwatched = false; is_up = w.link_up; consumer = w.consumer }

-- and what the opening puts out
abbrev pub opening_lines : ℕ → OrderedSetup → Info → ReplayState → List Output → List ℕ
opening_lines at setup first w outputs = started_text at setup first ++ flat_map (output_text (opening_place at w)) outputs

abbrev pub end_text : Bool → List ℕ
end_text true = codes "The consumer had ended after "
end_text false = codes "The consumer had not ended after "

-- whether the consumer has ended, and how many events there were
abbrev pub last_line : Bool → ℕ → List ℕ
last_line ended events = flat_map said_text (Text (end_text ended) ∷ Count events (codes "event") ∷ Text (codes ".\n") ∷ [])

-- ---- a whole replay

abbrev pub opening_text : ReplayInput → ℕ → List ℕ
opening_text g start = opening_lines start g.setup g.first (opening g start).state (opening g start).outputs

-- step after step, from this state on
abbrev pub steps_text : ReplayInput → ReplayState → List events.Event → List ℕ
steps_text g w [] = []
steps_text g w (e ∷ es) = explained g.setup w.consumer e (event g e w) ++ steps_text g (event g e w).state es

-- what is said of the opening and of these events
unfoldable pub text_so_far : ReplayInput → ℕ → List events.Event → List ℕ
text_so_far g start es = opening_text g start ++ steps_text g (opening g start).state es

-- and the last line
unfoldable pub replay_text : ReplayInput → ℕ → List events.Event → List ℕ
replay_text g start es = text_so_far g start es ++ last_line (fold g start es).ended (length es)
