-- From rows to a replay: the opening, one event, all events, and what is answered.
use Rattle.std.proofs.Common.{◌≡◌, ◌≢◌, ℕ, ◌+◌, ◌<◌, ◌≤◌, Bool, true, false, List, [], ◌∷◌, ◌++◌, Option, Some, None, refl, sym, ap, ◌∙◌, map, drop, length, get_or, append_assoc, append-nil}
use Rattle.std.proofs.lemmas.List.{drop_more, drop_all}
use Rattle.std.specs.Prelude.{Ok, Err, option_map}
use Rattle.js_ordered_table.specs.declared.consumer.ReplayInput.{ReplayInput}
use Rattle.js_ordered_table.specs.declared.event.Event as events
use Rattle.js_ordered_table.specs.declared.consumer.Phase.TheVariants.{Pulls, Pushes, Idle}
use Rattle.js_ordered_table.specs.declared.setup.OrderedSetup.{OrderedSetup}
use Rattle.js_ordered_table.specs.declared.setup.OrderedSetup.TheVariants.{Pull, Push}
use Rattle.js_ordered_table.specs.Invariant.{IsPull, IsPush}
use Rattle.js_ordered_table.specs.Arrivals.{armed}
use Rattle.js_ordered_table.specs.declared.row.Row.{Row}
use Rattle.js_ordered_table.specs.declared.row.Row.TheVariants.{Event, Read}
use Rattle.js_ordered_table.specs.declared.replay_state.ReplayState.{ReplayState}
use Rattle.js_ordered_table.specs.declared.run.Output.{Output}
use Rattle.js_ordered_table.specs.declared.run.Run.{Run}
use Rattle.js_ordered_table.specs.declared.run.Step.{Step}
use Rattle.js_ordered_table.specs.declared.run.ReplayError.{ReplayError}
use Rattle.js_ordered_table.specs.declared.run.ReplayError.TheVariants as error
use Rattle.js_ordered_table.specs.Fold.{Ran, and_then, stays, first_phase, pass_each, tick, matter_of, link_after, event, run_events, opening_rows, first_state, opening, is_over, last_state, step_of, fold}
use Rattle.js_ordered_table.specs.Passes.{ran, at, first_reader_of}
use Rattle.js_ordered_table.specs.Refusal.{is_exhausted, first_exhausted, refuse_input, refuse_end, refuse}
use Rattle.js_ordered_table.specs.Replay.{IsFolded}
use Rattle.js_pull.specs.Reader.{opening as opening_reads}
use Rattle.js_ordered_table.specs.declared.transitions.task.Task.{Task}
use Rattle.js_ordered_table.specs.declared.transitions.task.Task.TheVariants as task
use Rattle.js_ordered.specs.Drive.{Leads, left_rows}
use Rattle.js_ordered.proofs.RowRuns.{no_more}

-- ---- the opening

opens_pull : (g : ReplayInput) (start : ℕ) (setup : OrderedSetup) → IsPull setup
    → pass_each (ran g start tick) (opening_rows setup) (at (first_phase g start setup) (first_state g start))
    ≡ pass_each (ran g start tick) (map Read opening_reads) (at (Pulls (first_reader_of g)) (at Idle (first_state g start)))
opens_pull g start (Pull setup) pulls = refl
opens_pull g start (Push setup) pulls = absurd pulls

opens_push : (g : ReplayInput) (start : ℕ) (setup : OrderedSetup) → IsPush setup
    → pass_each (ran g start tick) (opening_rows setup) (at (first_phase g start setup) (first_state g start)) ≡ stays (at (Pushes 0 (armed start)) (at Idle (first_state g start)))
opens_push g start (Pull setup) pushes = absurd pushes
opens_push g start (Push setup) pushes = refl

-- pull asks at once, and arms its heartbeat
pub opening_asks : (g : ReplayInput) (start : ℕ) → IsPull g.setup
    → opening g start ≡ pass_each (ran g start tick) (map Read opening_reads) (at (Pulls (first_reader_of g)) (at Idle (first_state g start)))
unfolding opening ran
opening_asks g start pulls = opens_pull g start g.setup pulls

-- push arms its heartbeat
pub opening_listens : (g : ReplayInput) (start : ℕ) → IsPush g.setup → opening g start ≡ stays (at (Pushes 0 (armed start)) (at Idle (first_state g start)))
unfolding opening ran
opening_listens g start pushes = opens_push g start g.setup pushes

-- ---- events

-- an event is one row
pub event_passes : (g : ReplayInput) (e : events.Event) (w : ReplayState) → event g e w ≡ ran g e.at (matter_of e.what) Event (record w { link_up = link_after e.what w.link_up })
unfolding event ran
event_passes g e w = no_more (ran g e.at (matter_of e.what) Event (record w { link_up = link_after e.what w.link_up }))

-- nothing is left of it
pub led_to : (r : Ran) (one : Row → ReplayState → Ran) (rows : List Row) (w : ReplayState) (outputs : List Output) → rows ≡ [] → r ≡ and_then outputs (pass_each one rows w) → r ≡ record { state = w; outputs = outputs }
led_to r one rows w outputs none leads =
    leads ∙ ap (λ (rows : List Row). and_then outputs (pass_each one rows w)) none ∙ no_more (record { state = w; outputs = outputs })

-- an event whose rows were all passed
pub event_led : (g : ReplayInput) (e : events.Event) (up : Bool) (w u : ReplayState) (before later : List Output) (room tasks left : List Task) → up ≡ link_after e.what w.link_up → before ≡ [] → room ≡ [] → tasks ≡ room ++ task.Event ∷ [] → left ≡ []
    → Leads g e.at (matter_of e.what) (left_rows (matter_of e.what) tasks) (record w { link_up = up }) before (left_rows (matter_of e.what) left) u later
    → event g e w ≡ record { state = u; outputs = later }
event_led g e up w u before later room tasks left is none empty put over leads =
    let v : ReplayState = record w { link_up = up } in
    let there : ReplayState → Ran = λ x. ran g e.at (matter_of e.what) Event x in
    let one : Row → ReplayState → Ran = ran g e.at (matter_of e.what) in
    let rows : left_rows (matter_of e.what) tasks ≡ Event ∷ [] = ap (left_rows (matter_of e.what)) (put ∙ ap (λ (r : List Task). r ++ task.Event ∷ []) empty) in
    led_to (event g e w) one (left_rows (matter_of e.what) left) u later (ap (left_rows (matter_of e.what)) over)
    (event_passes g e w ∙ ap (λ (b : Bool). there (record w { link_up = b })) (sym is) ∙ sym (no_more (one Event v))
    ∙ sym (ap (λ (rows : List Row). and_then before (pass_each one rows v)) rows ∙ ap (λ (o : List Output). and_then o (pass_each one (Event ∷ []) v)) none) ∙ leads)

-- an event of which nothing was passed
pub event_begun : (g : ReplayInput) (e : events.Event) (w : ReplayState) → event g e w ≡ and_then [] (pass_each (ran g e.at (matter_of e.what)) (Event ∷ []) (record w { link_up = link_after e.what w.link_up }))
event_begun g e w = event_passes g e w ∙ sym (no_more (ran g e.at (matter_of e.what) Event (record w { link_up = link_after e.what w.link_up })))

-- the opening whose rows were all passed
pub opening_led : (g : ReplayInput) (start : ℕ) (w u : ReplayState) (before later : List Output) (room tasks left : List Task) → IsPull g.setup → w ≡ at Idle (first_state g start) → before ≡ [] → room ≡ []
    → left_rows tick tasks ≡ map Read opening_reads ++ left_rows tick room → left ≡ []
    → Leads g start tick (left_rows tick tasks) (at (Pulls (first_reader_of g)) w) before (left_rows tick left) u later
    → opening g start ≡ record { state = u; outputs = later }
opening_led g start w u before later room tasks left pulls first none empty put over leads =
    let v : ReplayState = at (Pulls (first_reader_of g)) w in
    let one : Row → ReplayState → Ran = ran g start tick in
    let rows : left_rows tick tasks ≡ map Read opening_reads = put ∙ ap (λ (r : List Task). map Read opening_reads ++ left_rows tick r) empty in
    led_to (opening g start) one (left_rows tick left) u later (ap (left_rows tick) over)
    (opening_asks g start pulls
    ∙ ap (λ (x : ReplayState). pass_each one (map Read opening_reads) (at (Pulls (first_reader_of g)) x)) (sym first)
    ∙ sym (ap (λ (rows : List Row). and_then before (pass_each one rows v)) rows ∙ ap (λ (o : List Output). and_then o (pass_each one (map Read opening_reads) v)) none) ∙ leads)

pub run_events_none : (g : ReplayInput) (w : ReplayState) → run_events g [] w ≡ []
unfolding run_events
run_events_none g w = refl

-- the first event, and then the others in the state after it
pub run_events_cons : (g : ReplayInput) (e : events.Event) (es : List events.Event) (w : ReplayState) → run_events g (e ∷ es) w ≡ event g e w ∷ run_events g es (event g e w).state
unfolding run_events
run_events_cons g e es w = refl

-- ---- the loop over the events

-- the steps so far and those of what is left are those of all, and what is left ends and refuses as the whole does
pub record Goes (g : ReplayInput) (es : List events.Event) (first : ReplayState) (place : ℕ) (w : ReplayState) (steps : List Step) : Type 0 where
  pub so_far : steps ++ map step_of (run_events g (drop place es) w) ≡ map step_of (run_events g es first)
  pub state : last_state w (run_events g (drop place es) w) ≡ last_state first (run_events g es first)
  pub refused : first_exhausted place (run_events g (drop place es) w) ≡ first_exhausted 0 (run_events g es first)

-- at first
pub goes_first : (g : ReplayInput) (es : List events.Event) (first : ReplayState) → Goes g es first 0 first []
goes_first g es first = record { so_far = refl; state = refl; refused = refl }

next : (g : ReplayInput) (es : List events.Event) (place : ℕ) (w : ReplayState) (e : events.Event) → place < length es → e ≡ get_or es place e
    → run_events g (drop place es) w ≡ event g e w ∷ run_events g (drop (place + 1) es) (event g e w).state
next g es place w e below is =
    let left : drop place es ≡ e ∷ drop (place + 1) es = drop_more es place e below ∙ ap (λ (x : events.Event). x ∷ drop (place + 1) es) (sym is) in
    ap (λ (rest : List events.Event). run_events g rest w) left ∙ run_events_cons g e (drop (place + 1) es) w

refused_next : (ran : Ran) (rans : List Ran) (place : ℕ) → is_exhausted ran.state.consumer.phase ≡ false → first_exhausted place (ran ∷ rans) ≡ first_exhausted (place + 1) rans
refused_next ran rans place open_still = rw open_still refl

-- after one more event
pub goes_on : (g : ReplayInput) (es : List events.Event) (first : ReplayState) (place : ℕ) (w after : ReplayState) (steps grown : List Step) (e : events.Event) (step : Step) → Goes g es first place w steps
    → place < length es → e ≡ get_or es place e → step ≡ step_of (event g e w) → after ≡ (event g e w).state
    → is_exhausted after.consumer.phase ≡ false → grown ≡ steps ++ step ∷ [] → Goes g es first (place + 1) after grown
goes_on g es first place w after steps grown e step goes below is steps_as comes open_still grows =
    let ran : Ran = event g e w in
    let left : ReplayState → List Ran = λ v. run_events g (drop (place + 1) es) v in
    let one : run_events g (drop place es) w ≡ ran ∷ left after = next g es place w e below is ∙ ap (λ (v : ReplayState). ran ∷ left v) (sym comes) in
    let stays : is_exhausted ran.state.consumer.phase ≡ false = ap (λ (v : ReplayState). is_exhausted v.consumer.phase) (sym comes) ∙ open_still in
    record {
      so_far = ap (λ (done : List Step). done ++ map step_of (left after)) (grows ∙ ap (λ (s : Step). steps ++ s ∷ []) steps_as)
          ∙ append_assoc steps (step_of ran ∷ []) (map step_of (left after)) ∙ ap (λ (rans : List Ran). steps ++ map step_of rans) (sym one) ∙ goes.so_far;
      state = ap (λ (v : ReplayState). last_state v (left after)) comes ∙ ap (λ (rans : List Ran). last_state w rans) (sym one) ∙ goes.state;
      refused = sym (refused_next ran (left after) place stays) ∙ ap (λ (rans : List Ran). first_exhausted place rans) (sym one) ∙ goes.refused;
    }

-- at an event after which the sequences are at their end
pub goes_no_further : (g : ReplayInput) (es : List events.Event) (first : ReplayState) (place : ℕ) (w : ReplayState) (steps : List Step) (e : events.Event) → Goes g es first place w steps
    → place < length es → e ≡ get_or es place e → is_exhausted (event g e w).state.consumer.phase ≡ true
    → refuse_end (run_events g es first) ≡ Some (error.SequenceEnd place)
goes_no_further g es first place w steps e goes below is exhausted =
    let ran : Ran = event g e w in
    let left : List Ran = run_events g (drop (place + 1) es) ran.state in
    let here : first_exhausted place (ran ∷ left) ≡ Some place = rw exhausted refl in
    ap (λ (end : Option ℕ). option_map error.SequenceEnd end)
    (sym goes.refused ∙ ap (λ (rans : List Ran). first_exhausted place rans) (next g es place w e below is) ∙ here)

none_left : (g : ReplayInput) (es : List events.Event) (place : ℕ) (w : ReplayState) → length es ≤ place → run_events g (drop place es) w ≡ []
none_left g es place w over = ap (λ (rest : List events.Event). run_events g rest w) (drop_all place es over) ∙ run_events_none g w

-- after all of them
pub steps_all : (g : ReplayInput) (es : List events.Event) (first : ReplayState) (place : ℕ) (w : ReplayState) (steps : List Step) → Goes g es first place w steps → length es ≤ place → steps ≡ map step_of (run_events g es first)
steps_all g es first place w steps goes over =
    sym (append-nil steps) ∙ ap (λ (rans : List Ran). steps ++ map step_of rans) (sym (none_left g es place w over)) ∙ goes.so_far

pub state_last : (g : ReplayInput) (es : List events.Event) (first : ReplayState) (place : ℕ) (w : ReplayState) (steps : List Step) → Goes g es first place w steps → length es ≤ place → w ≡ last_state first (run_events g es first)
state_last g es first place w steps goes over = ap (λ (rans : List Ran). last_state w rans) (sym (none_left g es place w over)) ∙ goes.state

pub none_refused : (g : ReplayInput) (es : List events.Event) (first : ReplayState) (place : ℕ) (w : ReplayState) (steps : List Step) → Goes g es first place w steps → length es ≤ place → refuse_end (run_events g es first) ≡ None
none_refused g es first place w steps goes over =
    ap (λ (end : Option ℕ). option_map error.SequenceEnd end)
    (sym goes.refused ∙ ap (λ (rans : List Ran). first_exhausted place rans) (none_left g es place w over))

-- ---- what is answered

refused_as : (g : ReplayInput) (start : ℕ) (es : List events.Event) (e : ReplayError) → (e ≢ error.OutOfMemory → refuse g start es ≡ Some e) → IsFolded g start es (Err e)
refused_as g start es error.OutOfMemory refused = tt
refused_as g start es error.NoDeliverSubject refused = refused (λ same. cc)
refused_as g start es (error.BadSettings field) refused = refused (λ same. cc)
refused_as g start es (error.BadEvent place) refused = refused (λ same. cc)
refused_as g start es (error.SequenceEnd place) refused = refused (λ same. cc)

-- bad input is refused
pub input_folded : (g : ReplayInput) (start : ℕ) (es : List events.Event) (e : ReplayError) → refuse_input g start es ≡ Some e → IsFolded g start es (Err e)
unfolding refuse
input_folded g start es e refused = refused_as g start es e (λ other. rw refused refl)

-- and so is the end of the sequences
pub end_folded : (g : ReplayInput) (start : ℕ) (es : List events.Event) (e : ReplayError) → refuse_input g start es ≡ None
    → (e ≢ error.OutOfMemory → refuse_end (run_events g es (opening g start).state) ≡ Some e) → IsFolded g start es (Err e)
unfolding refuse
end_folded g start es e accepted refused = refused_as g start es e (λ other. rw accepted (refused other))

abbrev built : Step → List Step → Bool → Run
built opening steps ended = record { opening = opening; steps = steps; ended = ended }

-- otherwise there is a run
pub run_folded : (g : ReplayInput) (start : ℕ) (es : List events.Event) (first last : ReplayState) (run : Run) → refuse_input g start es ≡ None
    → first ≡ (opening g start).state → run.opening.outputs ≡ (opening g start).outputs
    → run.steps ≡ map step_of (run_events g es first) → last ≡ last_state first (run_events g es first)
    → refuse_end (run_events g es first) ≡ None → run.ended ≡ is_over last.consumer.phase
    → IsFolded g start es (Ok run)
unfolding refuse fold
run_folded g start es first last run accepted opens opened stepped ends goes_on ended =
    let rest : ReplayState → List Ran = λ w. run_events g es w in
    let refused : refuse_end (rest (opening g start).state) ≡ None = ap (λ (w : ReplayState). refuse_end (rest w)) (sym opens) ∙ goes_on in
    let steps : run.steps ≡ map step_of (rest (opening g start).state) = stepped ∙ ap (λ (w : ReplayState). map step_of (rest w)) opens in
    let over : run.ended ≡ is_over (last_state (opening g start).state (rest (opening g start).state)).consumer.phase =
    ended ∙ ap (λ (w : ReplayState). is_over w.consumer.phase) ends ∙ ap (λ (w : ReplayState). is_over (last_state w (rest w)).consumer.phase) opens in (
      rw accepted refused,
      ap (λ (outputs : List Output). built (record { outputs = outputs }) run.steps run.ended) opened
          ∙ ap (λ (steps : List Step). built (step_of (opening g start)) steps run.ended) steps
          ∙ ap (λ (ended : Bool). built (step_of (opening g start)) (map step_of (rest (opening g start).state)) ended) over,
    )
