-- One event more: what a replay has come to, and its end.
use Rattle.std.proofs.Common.{◌≡◌, ℕ, suc, ◌+◌, ◌∙◌, Bool, true, false, List, [], ◌∷◌, ◌++◌, Option, Some, None, refl, sym, ap, map, length, length-append, arith, nat_lt}
use Rattle.std.specs.Prelude.{Ok, Err, Result, OnOk, OnErr, option_map, if◌then◌else◌, not}
use Rattle.js_ordered_table.specs.declared.consumer.ReplayInput.{ReplayInput}
use Rattle.js_ordered_table.specs.declared.event.Event as events
use Rattle.js_ordered_table.specs.declared.replay_state.ReplayState.{ReplayState}
use Rattle.js_ordered_table.specs.declared.run.Step.{Step}
use Rattle.js_ordered_table.specs.declared.run.ReplayError.{ReplayError}
use Rattle.js_ordered_table.specs.declared.run.ReplayError.TheVariants as error
use Rattle.js_ordered.specs.declared.incremental_replay.IncrementalReplay.{IncrementalReplay}
use Rattle.js_ordered_table.specs.declared.transitions.task.Task.{Task}
use Rattle.js_ordered_table.specs.declared.transitions.task.Task.TheVariants as task
use Rattle.js_ordered.specs.Drive.{IsLeft, Leads, left_rows}
use Rattle.js_ordered.proofs.ReplayRuns.{event_begun, led_to}
use Rattle.js_ordered_table.specs.declared.row.Row.TheVariants.{Event}
use Rattle.js_ordered_table.specs.declared.run.Output.{Output}
use Rattle.js_ordered_table.specs.Passes.{ran}
use Rattle.js_ordered_table.specs.Fold.{Ran, and_then, link_after, matter_of, pass_each, event, run_events, opening, is_over, last_state, step_of, fold}
use Rattle.js_ordered_table.specs.Refusal.{first_of, unless, bad_field, lacks_subject, is_exhausted, first_early, first_exhausted, refuse_input, refuse}
use Rattle.js_ordered.specs.IncrementalReplay.{replay_given, rest_of_replay, rest_of, last_moment, last_ran, last, HasCome, IsEnd, IsWithin}

-- ---- lists of events

-- one event more is passed last
pub run_on : (g : ReplayInput) (es : List events.Event) (e : events.Event) (w : ReplayState) → run_events g (es ++ e ∷ []) w ≡ run_events g es w ++ event g e (last_state w (run_events g es w)) ∷ []
unfolding run_events
run_on g [] e w = refl
run_on g (x ∷ es) e w = ap (λ (rans : List Ran). event g x w ∷ rans) (run_on g es e (event g x w).state)

count_run : (g : ReplayInput) (es : List events.Event) (w : ReplayState) → length (run_events g es w) ≡ length es
unfolding run_events
count_run g [] w = refl
count_run g (x ∷ es) w = ap (λ (n : ℕ). suc n) (count_run g es (event g x w).state)

last_of_more : (first : Ran) (rans : List Ran) (ran : Ran) → last_ran first (rans ++ ran ∷ []) ≡ ran
last_of_more first [] ran = refl
last_of_more first (x ∷ rans) ran = last_of_more x rans ran

last_state_is : (first : Ran) (rans : List Ran) → (last_ran first rans).state ≡ last_state first.state rans
last_state_is first [] = refl
last_state_is first (x ∷ rans) = last_state_is x rans

pub moment_on : (start : ℕ) (es : List events.Event) (e : events.Event) → last_moment start (es ++ e ∷ []) ≡ e.at
moment_on start [] e = refl
moment_on start (x ∷ es) e = moment_on x.at es e

-- ---- the first place at which a test holds

abbrev here : Bool → ℕ → Option ℕ
here test place = if test then Some place else None

here_at : (test : Bool) (place other : ℕ) → place ≡ other → here test place ≡ here test other
here_at test place other same = ap (λ (n : ℕ). here test n) same

onward : (test : Bool) (place : ℕ) (before after more : Option ℕ) → after ≡ first_of before more
    → (if test then Some place else after) ≡ first_of (if test then Some place else before) more
onward true place before after more same = refl
onward false place before after more same = same

-- the first early event is as it was, or the one that is added
early_on : (place before : ℕ) (es : List events.Event) (e : events.Event)
    → first_early place before (es ++ e ∷ []) ≡ first_of (first_early place before es) (here (nat_lt e.at (last_moment before es)) (place + length es))
early_on place before [] e = here_at (nat_lt e.at before) place (place + 0) (omega arith)
early_on place before (x ∷ es) e =
    onward (nat_lt x.at before) place (first_early (place + 1) x.at es) (first_early (place + 1) x.at (es ++ e ∷ [])) (here (nat_lt e.at (last_moment x.at es)) (place + suc (length es)))
    (early_on (place + 1) x.at es e
    ∙ ap (λ (more : Option ℕ). first_of (first_early (place + 1) x.at es) more)
    (here_at (nat_lt e.at (last_moment x.at es)) (place + 1 + length es) (place + suc (length es)) (omega arith)))

-- and so is the first event at the end of the sequences
exhausted_on : (place : ℕ) (rans : List Ran) (ran : Ran)
    → first_exhausted place (rans ++ ran ∷ []) ≡ first_of (first_exhausted place rans) (here (is_exhausted ran.state.consumer.phase) (place + length rans))
exhausted_on place [] ran = here_at (is_exhausted ran.state.consumer.phase) place (place + 0) (omega arith)
exhausted_on place (x ∷ rans) ran =
    onward (is_exhausted x.state.consumer.phase) place (first_exhausted (place + 1) rans) (first_exhausted (place + 1) (rans ++ ran ∷ [])) (here (is_exhausted ran.state.consumer.phase) (place + suc (length rans)))
    (exhausted_on (place + 1) rans ran
    ∙ ap (λ (more : Option ℕ). first_of (first_exhausted (place + 1) rans) more)
    (here_at (is_exhausted ran.state.consumer.phase) (place + 1 + length rans) (place + suc (length rans)) (omega arith)))

-- ---- what a replay has come to

last_is : (g : ReplayInput) (start : ℕ) (es : List events.Event) → (last g start es).state ≡ last_state (opening g start).state (run_events g es (opening g start).state)
unfolding last
last_is g start es = last_state_is (opening g start) (run_events g es (opening g start).state)

last_on : (g : ReplayInput) (start : ℕ) (es : List events.Event) (e : events.Event) → last g start (es ++ e ∷ []) ≡ event g e (last g start es).state
unfolding last
last_on g start es e =
    let first : Ran = opening g start in
    ap (λ (rans : List Ran). last_ran first rans) (run_on g es e first.state)
    ∙ last_of_more first (run_events g es first.state) (event g e (last_state first.state (run_events g es first.state)))
    ∙ ap (λ (w : ReplayState). event g e w) (sym (last_state_is first (run_events g es first.state)))

noted : (found found' : Option ℕ) (test test' : Bool) (place place' : ℕ) → found ≡ found' → test ≡ test' → place ≡ place' → first_of found (here test place) ≡ first_of found' (here test' place')
noted found found' test test' place place' same_found same_test same_place =
    ap (λ (first : Option ℕ). first_of first (here test place)) same_found
    ∙ ap (λ (b : Bool). first_of found' (here b place)) same_test
    ∙ ap (λ (n : ℕ). first_of found' (here test' n)) same_place

zero_more : (n : ℕ) → n ≡ 0 + n
zero_more n = omega arith

length_on : (es : List events.Event) (e : events.Event) → length (es ++ e ∷ []) ≡ length es + 1
length_on es e = simp length-append (omega arith)

-- with no events
pub comes_first : (g : ReplayInput) (start : ℕ) (c : IncrementalReplay) → replay_given c ≡ g → c.count ≡ 0 → c.moment ≡ start → c.early ≡ None → c.exhausted ≡ None
    → c.state ≡ (opening g start).state → c.outputs ≡ (opening g start).outputs → c.todo.tasks.items ≡ [] → HasCome g start [] c
unfolding last run_events
comes_first g start c given count moment early exhausted state outputs rested =
    record { given = given; count = count; moment = moment; early = early; exhausted = exhausted; state = state; outputs = outputs; rested = rested }

-- before an event nothing of it was passed
pub within_first : (g : ReplayInput) (start : ℕ) (es : List events.Event) (e : events.Event) (c : IncrementalReplay) → HasCome g start es c → IsWithin g start es e c
within_first g start es e c come = record {
  given = come.given;
  count = come.count;
  moment = come.moment;
  early = come.early;
  exhausted = come.exhausted;
  rest =
      ap (λ (tasks : List Task). rest_of (replay_given c) e tasks c.state c.outputs) come.rested
      ∙ ap (λ (by : ReplayInput). event by e c.state) come.given ∙ ap (λ (w : ReplayState). event g e w) come.state;
}

-- with one event more
pub comes_on : (g : ReplayInput) (start : ℕ) (es : List events.Event) (e : events.Event) (c next : IncrementalReplay) → IsWithin g start es e c
    → replay_given next ≡ replay_given c → next.count ≡ c.count + 1 → next.moment ≡ e.at
    → next.early ≡ first_of c.early (if nat_lt e.at c.moment then Some c.count else None)
    → next.exhausted ≡ first_of c.exhausted (if is_exhausted next.state.consumer.phase then Some c.count else None)
    → rest_of_replay e c ≡ record { state = next.state; outputs = next.outputs } → next.todo.tasks.items ≡ []
    → HasCome g start (es ++ e ∷ []) next
comes_on g start es e c next within given count moment early exhausted passed rested =
    let first : Ran = opening g start in
    let rans : List Ran = run_events g es first.state in
    let ran : Ran = record { state = next.state; outputs = next.outputs } in
    let last_one : Ran = event g e (last_state first.state rans) in
    let same : ran ≡ last g start (es ++ e ∷ []) = sym passed ∙ within.rest ∙ sym (last_on g start es e) in
    let is_last : ran ≡ last_one = sym passed ∙ within.rest ∙ ap (λ (w : ReplayState). event g e w) (last_is g start es) in
    record {
      given = given ∙ within.given;
      count = count ∙ ap (λ (n : ℕ). n + 1) within.count ∙ sym (length_on es e);
      moment = moment ∙ sym (moment_on start es e);
      early =
          early ∙ noted c.early (first_early 0 start es) (nat_lt e.at c.moment) (nat_lt e.at (last_moment start es)) c.count (0 + length es)
          within.early (ap (λ (n : ℕ). nat_lt e.at n) within.moment) (within.count ∙ zero_more (length es))
          ∙ sym (early_on 0 start es e);
      exhausted =
          exhausted ∙ noted c.exhausted (first_exhausted 0 rans) (is_exhausted next.state.consumer.phase) (is_exhausted last_one.state.consumer.phase) c.count (0 + length rans)
          within.exhausted (ap (λ (r : Ran). is_exhausted r.state.consumer.phase) is_last) (within.count ∙ sym (count_run g es first.state) ∙ zero_more (length rans))
          ∙ sym (exhausted_on 0 rans last_one) ∙ ap (λ (all : List Ran). first_exhausted 0 all) (sym (run_on g es e first.state));
      state = ap (λ (r : Ran). r.state) same;
      outputs = ap (λ (r : Ran). r.outputs) same;
      rested = rested;
    }

-- ---- within an event

-- where something is left of it
rest_left : (g : ReplayInput) (e : events.Event) (tasks : List Task) (w : ReplayState) (outputs : List Output) → IsLeft tasks
    → rest_of g e tasks w outputs ≡ and_then outputs (pass_each (ran g e.at (matter_of e.what)) (left_rows (matter_of e.what) tasks) w)
rest_left g e [] w outputs left = absurd left
rest_left g e (one ∷ tasks) w outputs left = refl

-- where the rest was passed
pub rest_passed : (g : ReplayInput) (e : events.Event) (tasks left : List Task) (w u : ReplayState) (before later : List Output) → IsLeft tasks → left ≡ []
    → Leads g e.at (matter_of e.what) (left_rows (matter_of e.what) tasks) w before (left_rows (matter_of e.what) left) u later
    → rest_of g e tasks w before ≡ record { state = u; outputs = later }
rest_passed g e tasks left w u before later some over leads =
    led_to (rest_of g e tasks w before) (ran g e.at (matter_of e.what)) (left_rows (matter_of e.what) left) u later (ap (left_rows (matter_of e.what)) over)
    (rest_left g e tasks w before some ∙ leads)

-- and where a part of it was
pub rest_kept : (g : ReplayInput) (e : events.Event) (tasks left : List Task) (w u : ReplayState) (before later : List Output) → IsLeft tasks → IsLeft left
    → Leads g e.at (matter_of e.what) (left_rows (matter_of e.what) tasks) w before (left_rows (matter_of e.what) left) u later
    → rest_of g e left u later ≡ rest_of g e tasks w before
rest_kept g e tasks left w u before later some more leads =
    rest_left g e left u later more ∙ sym leads ∙ sym (rest_left g e tasks w before some)

-- where it begins
pub rest_begins : (g : ReplayInput) (e : events.Event) (up : Bool) (room tasks left : List Task) (w : ReplayState) (before later : List Output) → up ≡ link_after e.what w.link_up → room ≡ [] → tasks ≡ [] → left ≡ room ++ task.Event ∷ [] → later ≡ []
    → rest_of g e left (record w { link_up = up }) later ≡ rest_of g e tasks w before
rest_begins g e up room tasks left w before later is empty none put cleared =
    let v : ReplayState = record w { link_up = link_after e.what w.link_up } in
    ap (λ (b : Bool). rest_of g e left (record w { link_up = b }) later) is
    ∙ ap (λ (ts : List Task). rest_of g e ts v later) (put ∙ ap (λ (r : List Task). r ++ task.Event ∷ []) empty)
    ∙ ap (λ (o : List Output). and_then o (pass_each (ran g e.at (matter_of e.what)) (Event ∷ []) v)) cleared
    ∙ sym (event_begun g e w) ∙ sym (ap (λ (ts : List Task). rest_of g e ts w before) none)

-- the same of outputs that were lent
pub rest_passed_as : (g : ReplayInput) (e : events.Event) (tasks left : List Task) (w u : ReplayState) (before lent later back : List Output) → lent ≡ before → back ≡ later → IsLeft tasks → left ≡ []
    → Leads g e.at (matter_of e.what) (left_rows (matter_of e.what) tasks) w lent (left_rows (matter_of e.what) left) u later
    → rest_of g e tasks w before ≡ record { state = u; outputs = back }
rest_passed_as g e tasks left w u before lent later back was is some over leads =
    let with_outputs : List Output → Ran = λ o. record { state = u; outputs = o } in
    ap (λ (o : List Output). rest_of g e tasks w o) (sym was) ∙ rest_passed g e tasks left w u lent later some over leads ∙ ap with_outputs (sym is)

pub rest_kept_as : (g : ReplayInput) (e : events.Event) (tasks left : List Task) (w u : ReplayState) (before lent later back : List Output) → lent ≡ before → back ≡ later → IsLeft tasks → IsLeft left
    → Leads g e.at (matter_of e.what) (left_rows (matter_of e.what) tasks) w lent (left_rows (matter_of e.what) left) u later
    → rest_of g e left u back ≡ rest_of g e tasks w before
rest_kept_as g e tasks left w u before lent later back was is some more leads =
    ap (λ (o : List Output). rest_of g e left u o) is ∙ rest_kept g e tasks left w u lent later some more leads ∙ ap (λ (o : List Output). rest_of g e tasks w o) was

-- what follows of a call
pub on_ok : {T E P Q : Type 0} (result : Result T E) → (P → Q) → OnOk result P → OnOk result Q
on_ok (Ok value) leads p = leads p
on_ok (Err e) leads p = p

pub on_err : {T E P Q : Type 0} (result : Result T E) → (P → Q) → OnErr result P → OnErr result Q
on_err (Ok value) leads p = p
on_err (Err e) leads p = leads p

-- ---- its end

-- the refusal of the input alone, then that of its events, and then that of the run
parts : {A : Type 0} (one two three four : Option A) → first_of (first_of one (first_of two three)) four ≡ first_of (first_of one (first_of two None)) (first_of three four)
parts (Some a) two three four = refl
parts None (Some b) three four = refl
parts None None three four = refl

-- what is refused is so by the input with no events, or at the first early event, or at the end of the sequences
pub refusals : (g : ReplayInput) (start at : ℕ) (es : List events.Event)
    → refuse g start es ≡ first_of (refuse_input g at []) (first_of (option_map error.BadEvent (first_early 0 start es)) (option_map error.SequenceEnd (first_exhausted 0 (run_events g es (opening g start).state))))
unfolding refuse refuse_input
refusals g start at es =
    parts (unless (not (lacks_subject g.setup g.first.config.deliver_subject)) error.NoDeliverSubject) (option_map error.BadSettings (bad_field g))
    (option_map error.BadEvent (first_early 0 start es)) (option_map error.SequenceEnd (first_exhausted 0 (run_events g es (opening g start).state)))

-- the fold ends as its last state does
pub ends_as : (g : ReplayInput) (start : ℕ) (es : List events.Event) → (fold g start es).ended ≡ is_over (last g start es).state.consumer.phase
unfolding fold
ends_as g start es = ap (λ (w : ReplayState). is_over w.consumer.phase) (sym (last_is g start es))

-- ---- the run

-- with no events there are no steps
pub no_steps : (g : ReplayInput) (start : ℕ) → (fold g start []).steps ≡ []
unfolding fold run_events
no_steps g start = refl

-- each event adds the step that it puts out
pub steps_on : (g : ReplayInput) (start : ℕ) (es : List events.Event) (e : events.Event) → (fold g start (es ++ e ∷ [])).steps ≡ (fold g start es).steps ++ step_of (last g start (es ++ e ∷ [])) ∷ []
unfolding fold
steps_on g start es e =
    let first : ReplayState = (opening g start).state in
    ap (λ (rans : List Ran). map step_of rans) (run_on g es e first)
    ∙ map_on (run_events g es first) (event g e (last_state first (run_events g es first)))
    ∙ ap (λ (ran : Ran). map step_of (run_events g es first) ++ step_of ran ∷ [])
    (ap (λ (w : ReplayState). event g e w) (sym (last_is g start es)) ∙ sym (last_on g start es e))
  where
    map_on : (rans : List Ran) (ran : Ran) → map step_of (rans ++ ran ∷ []) ≡ map step_of rans ++ step_of ran ∷ []
    map_on [] ran = refl
    map_on (x ∷ rans) ran = ap (λ (steps : List Step). step_of x ∷ steps) (map_on rans ran)

-- and the opening stays
pub opening_is : (g : ReplayInput) (start : ℕ) (es : List events.Event) → (fold g start es).opening ≡ step_of (last g start [])
unfolding fold last run_events
opening_is g start es = refl

-- there is a step for each event
pub steps_count : (g : ReplayInput) (start : ℕ) (es : List events.Event) → length (fold g start es).steps ≡ length es
unfolding fold
steps_count g start es = counted (run_events g es (opening g start).state) ∙ count_run g es (opening g start).state
  where
    counted : (rans : List Ran) → length (map step_of rans) ≡ length rans
    counted [] = refl
    counted (ran ∷ rans) = ap suc (counted rans)

-- ---- what the end answers

-- the input is refused with no events,
pub ends_input : (g : ReplayInput) (start : ℕ) (es : List events.Event) (c : IncrementalReplay) (refusal : ReplayError) → HasCome g start es c → refuse_input (replay_given c) c.moment [] ≡ Some refusal
    → refuse g start es ≡ Some refusal
ends_input g start es c refusal come refused =
    let input : refuse_input g c.moment [] ≡ Some refusal = ap (λ (by : ReplayInput). refuse_input by c.moment []) (sym come.given) ∙ refused in
    refusals g start c.moment es ∙ ap (λ (first : Option ReplayError). first_of first (first_of (option_map error.BadEvent (first_early 0 start es)) (option_map error.SequenceEnd (first_exhausted 0 (run_events g es (opening g start).state))))) input

rest : (g : ReplayInput) (start : ℕ) (es : List events.Event) (c : IncrementalReplay) → HasCome g start es c → refuse_input (replay_given c) c.moment [] ≡ None
    → refuse g start es ≡ first_of (option_map error.BadEvent c.early) (option_map error.SequenceEnd c.exhausted)
rest g start es c come accepted =
    let input : refuse_input g c.moment [] ≡ None = ap (λ (by : ReplayInput). refuse_input by c.moment []) (sym come.given) ∙ accepted in
    refusals g start c.moment es
    ∙ ap (λ (first : Option ReplayError). first_of first (first_of (option_map error.BadEvent (first_early 0 start es)) (option_map error.SequenceEnd (first_exhausted 0 (run_events g es (opening g start).state))))) input
    ∙ ap (λ (early : Option ℕ). first_of (option_map error.BadEvent early) (option_map error.SequenceEnd (first_exhausted 0 (run_events g es (opening g start).state)))) (sym come.early)
    ∙ ap (λ (end : Option ℕ). first_of (option_map error.BadEvent c.early) (option_map error.SequenceEnd end)) (sym come.exhausted)

-- or an event is early,
pub ends_early : (g : ReplayInput) (start : ℕ) (es : List events.Event) (c : IncrementalReplay) (place : ℕ) → HasCome g start es c → refuse_input (replay_given c) c.moment [] ≡ None → c.early ≡ Some place
    → refuse g start es ≡ Some (error.BadEvent place)
ends_early g start es c place come accepted early =
    rest g start es c come accepted ∙ ap (λ (early : Option ℕ). first_of (option_map error.BadEvent early) (option_map error.SequenceEnd c.exhausted)) early

-- or the sequences end,
pub ends_exhausted : (g : ReplayInput) (start : ℕ) (es : List events.Event) (c : IncrementalReplay) (place : ℕ) → HasCome g start es c → refuse_input (replay_given c) c.moment [] ≡ None → c.early ≡ None → c.exhausted ≡ Some place
    → refuse g start es ≡ Some (error.SequenceEnd place)
ends_exhausted g start es c place come accepted early exhausted =
    rest g start es c come accepted
    ∙ ap (λ (early : Option ℕ). first_of (option_map error.BadEvent early) (option_map error.SequenceEnd c.exhausted)) early
    ∙ ap (λ (end : Option ℕ). option_map error.SequenceEnd end) exhausted

-- or nothing is refused
pub ends_run : (g : ReplayInput) (start : ℕ) (es : List events.Event) (c : IncrementalReplay) (ended : Bool) → HasCome g start es c → refuse_input (replay_given c) c.moment [] ≡ None → c.early ≡ None → c.exhausted ≡ None
    → ended ≡ is_over c.state.consumer.phase → IsEnd g start es (Ok ended)
ends_run g start es c ended come accepted early exhausted over = (
  rest g start es c come accepted
      ∙ ap (λ (early : Option ℕ). first_of (option_map error.BadEvent early) (option_map error.SequenceEnd c.exhausted)) early
      ∙ ap (λ (end : Option ℕ). option_map error.SequenceEnd end) exhausted,
  over ∙ ap (λ (w : ReplayState). is_over w.consumer.phase) come.state ∙ sym (ends_as g start es),
)
