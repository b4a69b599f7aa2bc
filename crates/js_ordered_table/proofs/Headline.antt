-- Where the server is honest, a replay leaves no gap.
use Rattle.std.proofs.Common.{◌≡◌, ℕ, zero, suc, List, [], ◌∷◌, ◌++◌, map, refl, sym, subst, arith}
use Rattle.std.specs.Prelude.{IfSome}
use Rattle.std.specs.List.{AllByRecursion}
use Rattle.js_ordered_table.specs.declared.replay_state.ReplayState.{ReplayState}
use Rattle.js_ordered_table.specs.Texts.{configured_start}
use Rattle.js_ordered_table.specs.declared.consumer.Consumer.{Consumer}
use Rattle.js_ordered_table.specs.Consumer.{Matter, Passed}
use Rattle.js_ordered_table.specs.declared.row.Row.{Row}
use Rattle.js_ordered_table.specs.declared.row.Row.TheVariants.{Event}
use Rattle.js_ordered_table.specs.declared.consumer.ReplayInput.{ReplayInput}
use Rattle.js_ordered_table.specs.Table.{pass}
use Rattle.js_ordered_table.specs.Fold.{Ran, passing, after, pass_all, pass_each, pass_to, rank, tick, matter_of, link_after, event, run_events, first_phase, opening_rows, first_state, opening, fold, step_of}
use Rattle.js_ordered_table.specs.Gapless.{Server, IsWhole, IsHonest, IsHonestEvent, FollowsStarts, IsGapless, joined, all_outputs, yields}
use Rattle.js_ordered_table.specs.Invariant.{IsKept, IsKeptAt, IsKeptOn, IsPull, IsPush, IsHonestRow, IsHonestMatter, Extends}
use Rattle.js_ordered_table.specs.declared.setup.OrderedSetup.{OrderedSetup}
use Rattle.js_ordered_table.specs.declared.setup.OrderedSetup.TheVariants.{Pull, Push}
use Rattle.js_ordered_table.specs.declared.event.Event as events
use Rattle.js_ordered_table.specs.declared.event.EventKind.{EventKind}
use Rattle.js_ordered_table.specs.declared.event.EventKind.TheVariants as what
use Rattle.js_ordered_table.specs.declared.run.Output.{Output}
use Rattle.js_ordered_table.proofs.RowInvariant.{Keeps, pass_keeps}
use Rattle.js_ordered_table.proofs.RecreationStart.{from_after, from_append, follows_first, follows_second, AsksFrom, opens_from, row_asks}
use Rattle.js_ordered_table.proofs.Chains.{extends_append, extends_gapless}

abbrev Lists : ReplayInput → Server → Type 0
Lists g s = (inbox : ℕ) → IsWhole g.setup s.log s.removed (s.starts inbox) (s.lists inbox)

-- what a list of rows keeps
record KeepsRan (g : ReplayInput) (s : Server) (last from : ℕ) (ran : Ran) : Type 0 where
  kept : IsKept g.setup s ran.state.consumer
  asks : AsksFrom ran.state.consumer.phase (from_after from ran.outputs)
  extends : Extends g.setup s last ran.outputs ran.state.consumer.core.stream_sequence

-- what one row keeps with all that follows it
abbrev OneKeeps : ReplayInput → Server → (Row → ReplayState → Ran) → Type 0
OneKeeps g s one = (row : Row) (w : ReplayState) (from : ℕ)
    → IsKept g.setup s w.consumer → IsHonestRow g.setup s row → AsksFrom w.consumer.phase from
    → FollowsStarts s.starts from (one row w).outputs → KeepsRan g s w.consumer.core.stream_sequence from (one row w)

each_keeps : (g : ReplayInput) (s : Server) (one : Row → ReplayState → Ran) → OneKeeps g s one → (rows : List Row) (w : ReplayState) (from : ℕ)
    → IsKept g.setup s w.consumer → AllByRecursion (IsHonestRow g.setup s) rows → AsksFrom w.consumer.phase from
    → FollowsStarts s.starts from (pass_each one rows w).outputs → KeepsRan g s w.consumer.core.stream_sequence from (pass_each one rows w)
each_keeps g s one keeps [] w from k honest asks follows = record { kept = k; asks = asks; extends = refl }
each_keeps g s one keeps (row ∷ rows) w from k honest asks follows =
    let ran : Ran = one row w in
    let rest : Ran = pass_each one rows ran.state in
    let first : KeepsRan g s w.consumer.core.stream_sequence from ran = keeps row w from k honest.0 asks (follows_first s.starts from ran.outputs rest.outputs follows) in
    let more : KeepsRan g s ran.state.consumer.core.stream_sequence (from_after from ran.outputs) rest =
    each_keeps g s one keeps rows ran.state (from_after from ran.outputs) first.kept honest.1 first.asks (follows_second s.starts from ran.outputs rest.outputs follows) in
    record {
      kept = more.kept;
      asks = subst (λ (n : ℕ). AsksFrom rest.state.consumer.phase n) (sym (from_append from ran.outputs rest.outputs)) more.asks;
      extends = extends_append g.setup s w.consumer.core.stream_sequence ran.state.consumer.core.stream_sequence rest.state.consumer.core.stream_sequence ran.outputs rest.outputs first.extends more.extends;
    }

row_keep : (g : ReplayInput) (s : Server) → Lists g s → (now : ℕ) (m : Matter) → IsHonestMatter g.setup s m → (depth : ℕ) → OneKeeps g s (pass_to g now m depth)
row_keep g s whole now m matter zero row w from k honest asks follows = record { kept = k; asks = asks; extends = refl }
row_keep g s whole now m matter (suc depth) row w from k honest asks follows =
    let passed : Passed = pass g (passing g now w) m row w.consumer in
    let rest : Ran = pass_each (pass_to g now m depth) passed.next (after w passed) in
    let opens = opens_from s w.consumer.phase from passed.outputs asks (follows_first s.starts from passed.outputs rest.outputs follows) in
    let one : Keeps g.setup s w.consumer.core.stream_sequence passed = pass_keeps g s whole (passing g now w) m row w.consumer k matter honest opens in
    let asks_one : AsksFrom passed.consumer.phase (from_after from passed.outputs) = row_asks g (passing g now w) m row w.consumer.phase w.consumer from asks in
    let more : KeepsRan g s passed.consumer.core.stream_sequence (from_after from passed.outputs) rest =
    each_keeps g s (pass_to g now m depth) (row_keep g s whole now m matter depth) passed.next (after w passed) (from_after from passed.outputs)
    one.kept one.rows asks_one (follows_second s.starts from passed.outputs rest.outputs follows) in
    record {
      kept = more.kept;
      asks = subst (λ (n : ℕ). AsksFrom rest.state.consumer.phase n) (sym (from_append from passed.outputs rest.outputs)) more.asks;
      extends = extends_append g.setup s w.consumer.core.stream_sequence passed.consumer.core.stream_sequence rest.state.consumer.core.stream_sequence passed.outputs rest.outputs one.extends more.extends;
    }

rows_keep : (g : ReplayInput) (s : Server) → Lists g s → (now : ℕ) (m : Matter) → IsHonestMatter g.setup s m
    → (rows : List Row) (w : ReplayState) (from : ℕ)
    → IsKept g.setup s w.consumer → AllByRecursion (IsHonestRow g.setup s) rows → AsksFrom w.consumer.phase from
    → FollowsStarts s.starts from (pass_all g now m rows w).outputs
    → KeepsRan g s w.consumer.core.stream_sequence from (pass_all g now m rows w)
rows_keep g s whole now m matter rows w from k honest asks follows =
    each_keeps g s (λ row. pass_to g now m (suc (rank row)) row) (λ row. row_keep g s whole now m matter (suc (rank row)) row) rows w from k honest asks follows

matter_honest : (setup : OrderedSetup) (s : Server) (w : EventKind) → IsHonestEvent setup s w → IsHonestMatter setup s (matter_of w)
matter_honest setup s what.Tick honest = tt
matter_honest setup s (what.Arrival inbox message) honest = honest
matter_honest setup s (what.Answer request reply) honest = tt
matter_honest setup s (what.Link up) honest = tt
matter_honest setup s (what.Connection state) honest = tt
matter_honest setup s what.WatcherEnded honest = tt

-- the outputs of all events
abbrev outputs_of : List Ran → List Output
outputs_of rans = joined (map step_of rans)

events_keep : (g : ReplayInput) (s : Server) → Lists g s → (es : List events.Event) (w : ReplayState) (from : ℕ)
    → IsKept g.setup s w.consumer → AsksFrom w.consumer.phase from
    → AllByRecursion (λ e. IsHonestEvent g.setup s e.what) es
    → FollowsStarts s.starts from (outputs_of (run_events g es w))
    → (last : ℕ) × Extends g.setup s w.consumer.core.stream_sequence (outputs_of (run_events g es w)) last
unfolding event run_events
events_keep g s whole [] w from k asks honest follows = (w.consumer.core.stream_sequence, refl)
events_keep g s whole (e ∷ es) w from k asks honest follows =
    let ran : Ran = event g e w in
    let rest : List Output = outputs_of (run_events g es ran.state) in
    let one : KeepsRan g s w.consumer.core.stream_sequence from ran =
    rows_keep g s whole e.at (matter_of e.what) (matter_honest g.setup s e.what honest.0) (Event ∷ [])
    (record w { link_up = link_after e.what w.link_up }) from k (tt, tt) asks (follows_first s.starts from ran.outputs rest follows) in
    let more : (last : ℕ) × Extends g.setup s ran.state.consumer.core.stream_sequence rest last =
    events_keep g s whole es ran.state (from_after from ran.outputs) one.kept one.asks honest.1 (follows_second s.starts from ran.outputs rest follows) in
    (more.0, extends_append g.setup s w.consumer.core.stream_sequence ran.state.consumer.core.stream_sequence more.0 ran.outputs rest one.extends more.1)

unread : (g : ReplayInput) (s : Server) → IfSome (configured_start g.setup) (λ sequence. s.starts 0 ≡ sequence)
    → (c : Consumer) → c.core.consumer_sequence ≡ 0 → c.core.stream_sequence ≡ 0 → c.core.recreation_count ≡ 0 → IsKeptOn g.setup s c.core.consumer_sequence c.core.stream_sequence c.core.recreation_count 0
unread g s begins c consumer_sequence last recreation_count = record {
  reached = λ some. absurd (omega arith);
  first = λ _ _. record { none = last; start = begins };
  later = λ _ later. absurd (omega arith);
}

first_kept : (g : ReplayInput) (s : Server) (start : ℕ) → IfSome (configured_start g.setup) (λ sequence. s.starts 0 ≡ sequence)
    → (setup : OrderedSetup) → g.setup ≡ setup → (c : Consumer) → c.core.consumer_sequence ≡ 0 → c.core.stream_sequence ≡ 0 → c.core.recreation_count ≡ 0
    → IsKeptAt g.setup s c (first_phase g start setup)
first_kept g s start begins (Pull setup) same c consumer_sequence last recreation_count = (subst IsPull (sym same) tt, unread g s begins c consumer_sequence last recreation_count)
first_kept g s start begins (Push setup) same c consumer_sequence last recreation_count = (subst IsPush (sym same) tt, unread g s begins c consumer_sequence last recreation_count)

first_asks : (g : ReplayInput) (start : ℕ) (setup : OrderedSetup) → AsksFrom (first_phase g start setup) 0
first_asks g start (Pull setup) = tt
first_asks g start (Push setup) = tt

opening_honest : (g : ReplayInput) (s : Server) (setup : OrderedSetup) → AllByRecursion (IsHonestRow g.setup s) (opening_rows setup)
opening_honest g s (Pull setup) = (tt, (tt, tt))
opening_honest g s (Push setup) = tt

pub replay_gapless : (g : ReplayInput) (start : ℕ) (es : List events.Event) (s : Server)
    → IsHonest s g.setup es (fold g start es) → IsGapless s g.setup (yields (all_outputs (fold g start es)))
unfolding opening fold
replay_gapless g start es s honest =
    let first : Ran = opening g start in
    let rest : List Output = outputs_of (run_events g es first.state) in
    let w : ReplayState = first_state g start in
    let one : KeepsRan g s 0 0 first =
    rows_keep g s honest.lists start tick tt (opening_rows g.setup) w 0
    (first_kept g s start honest.first g.setup refl w.consumer refl refl refl, refl) (opening_honest g s g.setup) (first_asks g start g.setup)
    (follows_first s.starts 0 first.outputs rest honest.later) in
    let more : (last : ℕ) × Extends g.setup s first.state.consumer.core.stream_sequence rest last =
    events_keep g s honest.lists es first.state (from_after 0 first.outputs) one.kept one.asks honest.arrivals (follows_second s.starts 0 first.outputs rest honest.later) in
    extends_gapless g.setup s more.0 (first.outputs ++ rest)
    (extends_append g.setup s 0 first.state.consumer.core.stream_sequence more.0 first.outputs rest one.extends more.1)
