-- Valid input is not refused.
use Rattle.std.proofs.Common.{◌≡◌, ℕ, zero, suc, ◌+◌, Bool, false, List, [], ◌∷◌, Option, Some, None, refl, arith}
use Rattle.std.specs.Prelude.{not, option_map, if◌then◌else◌}
use Rattle.std.specs.List.{AllByRecursion}
use Rattle.js_ordered_table.specs.declared.replay_state.ReplayState.{ReplayState}
use Rattle.js_ordered_table.specs.Consumer.{Matter, Passed}
use Rattle.js_ordered_table.specs.declared.row.Row.{Row}
use Rattle.js_ordered_table.specs.declared.row.Row.TheVariants.{Event}
use Rattle.js_ordered_table.specs.declared.consumer.ReplayInput.{ReplayInput}
use Rattle.js_ordered_table.specs.declared.consumer.Phase.{Phase}
use Rattle.js_ordered_table.specs.declared.consumer.Phase.TheVariants.{Pulls, Pushes, Recreates, Idle, Ended, Exhausted}
use Rattle.js_ordered_table.specs.Table.{pass}
use Rattle.js_ordered_table.specs.Fold.{Ran, passing, after, pass_all, pass_each, pass_to, rank, tick, matter_of, link_after, event, run_events, first_phase, opening_rows, first_state, opening}
use Rattle.js_ordered_table.specs.Refusal.{first_of, unless, is_exhausted, first_exhausted, refuse_input, refuse}
use Rattle.js_ordered_table.specs.Replay.{IsEventBelowEnd, IsValid}
use Rattle.js_ordered_table.specs.declared.setup.OrderedSetup.{OrderedSetup}
use Rattle.js_ordered_table.specs.declared.setup.OrderedSetup.TheVariants.{Pull, Push}
use Rattle.js_ordered_table.specs.declared.event.Event as events
use Rattle.js_ordered_table.specs.declared.event.EventKind.{EventKind}
use Rattle.js_ordered_table.specs.declared.event.EventKind.TheVariants as what
use Rattle.js_ordered_table.specs.declared.run.Field.{Field}
use Rattle.js_ordered_table.specs.declared.run.ReplayError.TheVariants as error
use Rattle.js_ordered_table.proofs.SequenceLeft.{IsOpen, IsOpenPhase, IsOpenRow, IsOpenMatter, Opens, pass_opens}

abbrev OneOpens : (Row → ReplayState → Ran) → Type 0
OneOpens one = (row : Row) (w : ReplayState) → IsOpen w.consumer → IsOpenRow row → IsOpen (one row w).state.consumer

each_opens : (one : Row → ReplayState → Ran) → OneOpens one → (rows : List Row) (w : ReplayState) → IsOpen w.consumer → AllByRecursion IsOpenRow rows → IsOpen (pass_each one rows w).state.consumer
each_opens one opens [] w k h = k
each_opens one opens (row ∷ rows) w k h = each_opens one opens rows (one row w).state (opens row w k h.0) h.1

row_open : (g : ReplayInput) (now : ℕ) (m : Matter) → IsOpenMatter m → (depth : ℕ) → OneOpens (pass_to g now m depth)
row_open g now m hm zero row w k h = k
row_open g now m hm (suc depth) row w k h =
    let passed : Passed = pass g (passing g now w) m row w.consumer in
    let one : Opens passed = pass_opens g (passing g now w) m row w.consumer k hm h in
    each_opens (pass_to g now m depth) (row_open g now m hm depth) passed.next (after w passed) one.consumer one.rows

rows_open : (g : ReplayInput) (now : ℕ) (m : Matter) → IsOpenMatter m → (rows : List Row) (w : ReplayState) → IsOpen w.consumer → AllByRecursion IsOpenRow rows → IsOpen (pass_all g now m rows w).state.consumer
rows_open g now m hm rows w k h = each_opens (λ row. pass_to g now m (suc (rank row)) row) (λ row. row_open g now m hm (suc (rank row)) row) rows w k h

matter_open : (w : EventKind) → IsEventBelowEnd w → IsOpenMatter (matter_of w)
matter_open what.Tick h = tt
matter_open (what.Arrival inbox message) h = h
matter_open (what.Answer request reply) h = tt
matter_open (what.Link up) h = tt
matter_open (what.Connection state) h = tt
matter_open what.WatcherEnded h = tt

not_exhausted : (phase : Phase) → IsOpenPhase phase → (place : ℕ) (rest : Option ℕ) → rest ≡ None → (if is_exhausted phase then Some place else rest) ≡ None
not_exhausted (Pulls reader) k place rest none = none
not_exhausted (Pushes inbox heartbeat_timer) k place rest none = none
not_exhausted (Recreates r) k place rest none = none
not_exhausted Idle k place rest none = none
not_exhausted Ended k place rest none = none
not_exhausted Exhausted k place rest none = absurd k

events_open : (g : ReplayInput) (es : List events.Event) (w : ReplayState) → IsOpen w.consumer → AllByRecursion (λ (e : events.Event). IsEventBelowEnd e.what) es
    → (place : ℕ) → first_exhausted place (run_events g es w) ≡ None
unfolding event run_events
events_open g [] w k h place = refl
events_open g (e ∷ es) w k h place =
    let ran : Ran = event g e w in
    let next : IsOpen ran.state.consumer = rows_open g e.at (matter_of e.what) (matter_open e.what h.0) (Event ∷ []) (record w { link_up = link_after e.what w.link_up }) k (tt, tt) in
    not_exhausted ran.state.consumer.phase next.phase place (first_exhausted (place + 1) (run_events g es ran.state)) (events_open g es ran.state next h.1 (place + 1))

first_open : (g : ReplayInput) (start : ℕ) (setup : OrderedSetup) → IsOpenPhase (first_phase g start setup)
first_open g start (Pull setup) = tt
first_open g start (Push setup) = tt

opening_open : (setup : OrderedSetup) → AllByRecursion IsOpenRow (opening_rows setup)
opening_open (Pull setup) = (tt, (tt, tt))
opening_open (Push setup) = tt

none_of : (lacks : Bool) (field : Option Field) (early end : Option ℕ) → lacks ≡ false → field ≡ None → early ≡ None → end ≡ None
    → first_of (first_of (unless (not lacks) error.NoDeliverSubject) (first_of (option_map error.BadSettings field) (option_map error.BadEvent early))) (option_map error.SequenceEnd end) ≡ None
none_of lacks field early end has_subject good_settings rises never = rw has_subject (rw good_settings (rw rises (rw never refl)))

-- no valid input is refused; so none meets the end of the sequences
pub valid_accepted : (g : ReplayInput) (start : ℕ) (es : List events.Event) → IsValid g start es → refuse g start es ≡ None
unfolding refuse refuse_input opening
valid_accepted g start es valid =
    let k : IsOpen (first_state g start).consumer = record { last = λ end. absurd (omega arith); phase = first_open g start g.setup } in
    let first : IsOpen (opening g start).state.consumer = rows_open g start tick tt (opening_rows g.setup) (first_state g start) k (opening_open g.setup) in
    none_of _ _ _ _ valid.subject valid.settings valid.moments (events_open g es (opening g start).state first valid.arrivals 0)
