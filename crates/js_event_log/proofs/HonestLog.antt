-- On an honest log the yields of a run have the table of the log.
use Rattle.std.proofs.Common.{◌≡◌, ℕ, zero, suc, ◌+◌, ◌<◌, ◌≤◌, nat_le, true, List, [], ◌∷◌, map, length, slice_index, Some, Contains, ◌⊎◌, inl, inr, refl, sym, ap, ◌∙◌, subst, arith, add-one}
use Rattle.std.proofs.lemmas.Grind.{common_steps, get_or_default_zero}
use Rattle.std.specs.Prelude.{fold, unwrap_or}
use Rattle.std.specs.List.{AllByRecursion}
use Rattle.js_base.specs.declared.message.Entry.{Entry}
use Rattle.js_base.specs.Subject.{filters_match}
use Rattle.js_event_log.specs.Projection.{RisesAbove, last_sequence, up_to}
use Rattle.js_ordered_table.specs.declared.consumer.ReplayInput.{ReplayInput}
use Rattle.js_ordered_table.specs.declared.event.Event.{Event}
use Rattle.js_ordered_table.specs.declared.setup.OrderedSetup.{OrderedSetup}
use Rattle.js_ordered_table.specs.Fold.{fold as run_of}
use Rattle.js_ordered_table.specs.Texts.{filters, configured_start}
use Rattle.js_ordered_table.specs.Gapless as gapless
use Rattle.js_ordered_table.specs.Gapless.{Logged, Server, entry_at, IsLogged, IsMatching, IsWhole, IsHonest, IsGapless, sequences, yields, all_outputs, first_due}
use Rattle.js_ordered_table.proofs.Headline.{replay_gapless}
use Rattle.js_event_log.specs.RunProjection.{as_entry, yielded}
use Rattle.js_event_log.specs.LatestEntries.{KeepsLatest}
use Rattle.js_event_log.specs.LogTable.{log_entries, since, matching_between, IsOvertaken, AreOvertaken, HasLogsTable}
use Rattle.js_event_log.proofs.KeyInsertion.{IsAmong}
use Rattle.js_event_log.proofs.LatestEntries.{has_table}
use Rattle.js_event_log.proofs.Coverage.{IsCovered, keeps_latest}
use Rattle.js_event_log.proofs.LogEntries.{entry_with, StandsAt, rises_filter, among_filter, of_filter, log_entries_rise, among_log_entries, of_log_entries}

-- ---- yields as entries

among_yields : (y : gapless.Entry) (ys : List gapless.Entry) → IsAmong y ys → IsAmong (as_entry y) (map as_entry ys)
among_yields y [] among = among
among_yields y (x ∷ ys) (inl same) = inl (ap as_entry same)
among_yields y (x ∷ ys) (inr among) = inr (among_yields y ys among)

-- the yield that an entry is
record IsYield (ys : List gapless.Entry) (x : Entry) : Type 0 where
  yield : gapless.Entry
  among : IsAmong yield ys
  same : as_entry yield ≡ x

of_yields : (ys : List gapless.Entry) (x : Entry) → IsAmong x (map as_entry ys) → IsYield ys x
of_yields [] x among = absurd among
of_yields (y ∷ ys) x (inl same) = record { yield = y; among = inl refl; same = same }
of_yields (y ∷ ys) x (inr among) = let rest : IsYield ys x = of_yields ys x among in record { yield = rest.yield; among = inr rest.among; same = rest.same }

-- ---- yields by their places

record HasPlace (ys : List gapless.Entry) (sequence : ℕ) : Type 0 where
  place : ℕ
  inside : place < length (sequences ys)
  at : slice_index (sequences ys) place ≡ sequence

place_of : (ys : List gapless.Entry) (y : gapless.Entry) → IsAmong y ys → HasPlace ys y.sequence
place_of [] y among = absurd among
place_of (x ∷ ys) y (inl same) = record { place = zero; inside = omega arith; at = ap (λ (e : gapless.Entry). e.sequence) same }
place_of (x ∷ ys) y (inr among) =
    let rest : HasPlace ys y.sequence = place_of ys y among in
    record { place = suc rest.place; inside = omega (arith, rest.inside); at = rest.at }

-- the yield with a sequence
record HasYield (ys : List gapless.Entry) (sequence : ℕ) : Type 0 where
  yield : gapless.Entry
  among : IsAmong yield ys
  at : yield.sequence ≡ sequence

yield_at : (ys : List gapless.Entry) (q k : ℕ) → k < length (sequences ys) → slice_index (sequences ys) k ≡ q → HasYield ys q
yield_at [] q k inside at = absurd (omega arith)
yield_at (y ∷ ys) q zero inside at = record { yield = y; among = inl refl; at = at }
yield_at (y ∷ ys) q (suc k) inside at =
    let rest : HasYield ys q = yield_at ys q k (omega (arith, inside)) at in
    record { yield = rest.yield; among = inr rest.among; at = rest.at }

logged_of : (log : List Logged) (ys : List gapless.Entry) (y : gapless.Entry) → AllByRecursion (IsLogged log) ys → IsAmong y ys → IsLogged log y
logged_of log [] y logged among = absurd among
logged_of log (x ∷ ys) y logged (inl same) = subst (IsLogged log) same logged.0
logged_of log (x ∷ ys) y logged (inr among) = logged_of log ys y logged.1 among

-- ---- yields that rise

rises_yields : (low : ℕ) (ys : List gapless.Entry) → (0 < length (sequences ys) → low < slice_index (sequences ys) 0)
    → ((k : ℕ) → suc k < length (sequences ys) → slice_index (sequences ys) k < slice_index (sequences ys) (suc k)) → RisesAbove low (map as_entry ys)
rises_yields low [] first next = tt
rises_yields low (y ∷ ys) first next =
    (first (omega arith), rises_yields y.sequence ys (λ more. next zero (omega (arith, more))) (λ k inside. next (suc k) (omega (arith, inside))))

up_to_last : (low : ℕ) (es : List Entry) (x : Entry) → RisesAbove low es → IsAmong x es → x.sequence ≤ fold (λ _ (e : Entry). e.sequence) low es
up_to_last low [] x rises among = absurd among
up_to_last low (e ∷ es) x rises (inl same) =
    subst (λ (y : Entry). y.sequence ≤ fold (λ _ (z : Entry). z.sequence) e.sequence es) same (from_low e.sequence es rises.1)
  where
    from_low : (low : ℕ) (es : List Entry) → RisesAbove low es → low ≤ fold (λ _ (z : Entry). z.sequence) low es
    from_low low [] rises = omega arith
    from_low low (e ∷ es) rises = omega (arith, rises.0, from_low e.sequence es rises.1)
up_to_last low (e ∷ es) x rises (inr among) = up_to_last e.sequence es x rises.1 among

-- the last yield
last_place : (y : gapless.Entry) (ys : List gapless.Entry) → HasPlace (y ∷ ys) (last_sequence (map as_entry (y ∷ ys)))
last_place y [] = record { place = zero; inside = omega arith; at = refl }
last_place y (z ∷ ys) =
    let rest : HasPlace (z ∷ ys) (last_sequence (map as_entry (z ∷ ys))) = last_place z ys in
    record { place = suc rest.place; inside = omega (arith, rest.inside); at = rest.at }

last_yield : (ys : List gapless.Entry) → 0 < last_sequence (map as_entry ys) → HasPlace ys (last_sequence (map as_entry ys))
last_yield [] above = absurd (omega (arith, above))
last_yield (y ∷ ys) above = last_place y ys

-- ---- an entry of the log

above_zero : (log : List Logged) (q : ℕ) (entry : Logged) → entry_at log q ≡ Some entry → 0 < q
above_zero log zero entry held = cc
above_zero log (suc place) entry held = omega arith

same_entry : (log : List Logged) (q r : ℕ) (one two : Logged) → q ≡ r → entry_at log q ≡ Some one → entry_at log r ≡ Some two → one ≡ two
same_entry log q r one two is first second = inside one two (sym first ∙ ap (entry_at log) is ∙ second)
  where
    inside : (x y : Logged) → Some x ≡ Some y → x ≡ y
    inside x y same = cc

in_log : (log : List Logged) (q : ℕ) (entry : Logged) → entry_at log q ≡ Some entry → IsAmong (entry_with q entry) (log_entries 1 log)
in_log log zero entry held = cc
in_log log (suc place) entry held =
    let at : 1 + place ≡ suc place = omega arith in
    subst (λ q. IsAmong (entry_with q entry) (log_entries 1 log)) at (among_log_entries 1 log place entry held)

-- what the log holds of an entry
abbrev logged_as : Entry → Logged
logged_as x = record { subject = x.subject; payload = x.payload }

of_log : (log : List Logged) (x : Entry) → IsAmong x (log_entries 1 log) → entry_at log x.sequence ≡ Some (logged_as x)
of_log log x among =
    let stands : StandsAt 1 log x = of_log_entries 1 log x among in
    let at : suc stands.place ≡ x.sequence = omega (arith, stands.sequence) in
    subst (λ q. entry_at log q ≡ Some (logged_as x)) at stands.held

le_true : (a b : ℕ) → a ≤ b → nat_le a b ≡ true
le_true a b le = grind (arith, common_steps)

true_le : (a b : ℕ) → nat_le a b ≡ true → a ≤ b
true_le a b is = grind (arith, common_steps)

-- an entry between the start and the last one that the filters match
record IsBetween (setup : OrderedSetup) (log : List Logged) (start last : ℕ) (x : Entry) : Type 0 where
  held : entry_at log x.sequence ≡ Some (logged_as x)
  from : start ≤ x.sequence
  within : x.sequence ≤ last
  matches : filters_match (filters setup) x.subject ≡ true

of_between : (setup : OrderedSetup) (log : List Logged) (start last : ℕ) (x : Entry) → IsAmong x (matching_between setup log start last) → IsBetween setup log start last x
of_between setup log start last x among =
    let one = of_filter (λ (e : Entry). filters_match (filters setup) e.subject) (up_to last (since start (log_entries 1 log))) x among in
    let two = of_filter (λ (e : Entry). nat_le e.sequence last) (since start (log_entries 1 log)) x one.0 in
    let three = of_filter (λ (e : Entry). nat_le start e.sequence) (log_entries 1 log) x two.0 in
    record { held = of_log log x three.0; from = true_le start x.sequence three.1; within = true_le x.sequence last two.1; matches = one.1 }

among_between : (setup : OrderedSetup) (log : List Logged) (start last : ℕ) (x : Entry) → IsBetween setup log start last x → IsAmong x (matching_between setup log start last)
among_between setup log start last x is =
    among_filter (λ (e : Entry). filters_match (filters setup) e.subject) (up_to last (since start (log_entries 1 log))) x
    (among_filter (λ (e : Entry). nat_le e.sequence last) (since start (log_entries 1 log)) x
    (among_filter (λ (e : Entry). nat_le start e.sequence) (log_entries 1 log) x (in_log log x.sequence (logged_as x) is.held) (le_true start x.sequence is.from))
    (le_true x.sequence last is.within))
    is.matches

rises_between : (setup : OrderedSetup) (log : List Logged) (start last : ℕ) → RisesAbove 0 (matching_between setup log start last)
rises_between setup log start last =
    rises_filter (λ (e : Entry). filters_match (filters setup) e.subject) 0 (up_to last (since start (log_entries 1 log)))
    (rises_filter (λ (e : Entry). nat_le e.sequence last) 0 (since start (log_entries 1 log))
    (rises_filter (λ (e : Entry). nat_le start e.sequence) 0 (log_entries 1 log) (log_entries_rise 0 log)))

-- ---- yields without a gap

module _ (s : Server) (setup : OrderedSetup) (ys : List gapless.Entry) (gapless_ys : IsGapless s setup ys) where
  pub gapless_rises : RisesAbove 0 (map as_entry ys)
  gapless_rises = rises_yields 0 ys (λ more. first more) (λ k inside. next k inside)
    where
      first : 0 < length (sequences ys) → 0 < slice_index (sequences ys) 0
      first more = let match = gapless_ys.whole.matching 0 more in above_zero s.log (slice_index (sequences ys) 0) match.0 match.1

      next : (k : ℕ) → suc k < length (sequences ys) → slice_index (sequences ys) k < slice_index (sequences ys) (suc k)
      next k inside = rw add-one at (gapless_ys.whole.rising k (rw add-one inside))

  abbrev entries : List Entry
  entries = map as_entry ys

  abbrev last : ℕ
  last = last_sequence entries

  module _ (start : ℕ) (configured : configured_start setup ≡ Some start) where
    due : first_due setup ys ≡ start
    due = ap (λ o. unwrap_or o (slice_index (sequences ys) 0)) configured

    -- each yield is one of the log's entries
    yield_between : (x : Entry) → IsAmong x entries → IsBetween setup s.log start last x
    yield_between x among =
        let y : IsYield ys x = of_yields ys x among in
        let at : HasPlace ys y.yield.sequence = place_of ys y.yield y.among in
        let held : IsLogged s.log y.yield = logged_of s.log ys y.yield gapless_ys.logged y.among in
        let match : IsMatching setup s.log (slice_index (sequences ys) at.place) = gapless_ys.whole.matching at.place at.inside in
        let past : first_due setup ys ≤ slice_index (sequences ys) at.place = gapless_ys.whole.past_start at.place at.inside in
        let same : match.0 ≡ logged_as (as_entry y.yield) =
        same_entry s.log (slice_index (sequences ys) at.place) y.yield.sequence match.0 (logged_as (as_entry y.yield)) at.at match.1 held in
        let passes : filters_match (filters setup) y.yield.subject ≡ true = subst (λ (l : Logged). filters_match (filters setup) l.subject ≡ true) same match.2 in
        let between : IsBetween setup s.log start last (as_entry y.yield) =
        record {
          held = held;
          from = omega (arith, past, due, at.at);
          within = up_to_last 0 entries (as_entry y.yield) gapless_rises (among_yields y.yield ys y.among);
          matches = passes;
        } in
        subst (IsBetween setup s.log start last) y.same between

    -- a matching sequence up to the last yield was yielded or removed
    present : (q : ℕ) → IsMatching setup s.log q → start ≤ q → q ≤ last → HasYield ys q ⊎ Contains s.removed q
    present q match from within = by_order (two q last within)
      where
        two : (a b : ℕ) → a ≤ b → (a < b) ⊎ (a ≡ b)
        two a b le = grind arith

        some : 0 < last
        some = let above = above_zero s.log q match.0 match.1 in omega (arith, above, within)

        end : HasPlace ys last
        end = last_yield ys some

        yielded_there : Contains (sequences ys) q ⊎ Contains s.removed q → HasYield ys q ⊎ Contains s.removed q
        yielded_there (inl (k, inside, is)) = inl (yield_at ys q k inside (sym (get_or_default_zero (sequences ys) k q inside) ∙ is))
        yielded_there (inr removed) = inr removed

        by_order : (q < last) ⊎ (q ≡ last) → HasYield ys q ⊎ Contains s.removed q
        by_order (inl below) =
            yielded_there (gapless_ys.whole.whole q end.place match (omega (arith, due, from)) end.inside (let at = end.at in omega (arith, at, below)))
        by_order (inr is) = inl (yield_at ys q end.place end.inside (end.at ∙ sym is))

    -- a yield is what the log has at its sequence
    yield_is : (q : ℕ) (entry : Logged) → entry_at s.log q ≡ Some entry → (y : HasYield ys q) → as_entry y.yield ≡ entry_with q entry
    yield_is q entry held y =
        let logged : IsLogged s.log y.yield = logged_of s.log ys y.yield gapless_ys.logged y.among in
        let same : logged_as (as_entry y.yield) ≡ entry = same_entry s.log y.yield.sequence q (logged_as (as_entry y.yield)) entry y.at logged held in
        ap (λ n. entry_with n (logged_as (as_entry y.yield))) y.at ∙ ap (entry_with q) same

    module _ (overtaken : AreOvertaken setup s start last) where
      -- what was overtaken has a later yield of its subject
      by_later : (x : Entry) → IsBetween setup s.log start last x → (o : IsOvertaken s last x.sequence x.subject) → HasYield ys o.later ⊎ Contains s.removed o.later
          → IsCovered x entries
      by_later x is o (inr removed) = absurd (o.left removed)
      by_later x is o (inl y) =
          let same : as_entry y.yield ≡ entry_with o.later o.entry = yield_is o.later o.entry o.held y in
          inr (as_entry y.yield, among_yields y.yield ys y.among, ap (λ (e : Entry). e.subject) same ∙ o.same, omega (arith, o.above, y.at))

      by_present : (x : Entry) → IsBetween setup s.log start last x → HasYield ys x.sequence ⊎ Contains s.removed x.sequence → IsCovered x entries
      by_present x is (inl y) =
          inl (subst (λ (e : Entry). IsAmong e entries) (yield_is x.sequence (logged_as x) is.held y) (among_yields y.yield ys y.among))
      by_present x is (inr removed) =
          let o : IsOvertaken s last x.sequence x.subject = overtaken x.sequence (logged_as x) removed is.from is.within is.held is.matches in
          let passes : filters_match (filters setup) o.entry.subject ≡ true = subst (λ (t : List ℕ). filters_match (filters setup) t ≡ true) (sym o.same) is.matches in
          by_later x is o (present o.later (o.entry, o.held, passes) (omega (arith, is.from, o.above)) o.within)

      covered : (x : Entry) → IsAmong x (matching_between setup s.log start last) → IsCovered x entries
      covered x among =
          let is : IsBetween setup s.log start last x = of_between setup s.log start last x among in
          by_present x is (present x.sequence (logged_as x, is.held, is.matches) is.from is.within)

      pub yields_keep : KeepsLatest entries (matching_between setup s.log start last)
      yields_keep =
          keeps_latest 0 (matching_between setup s.log start last) entries (rises_between setup s.log start last) gapless_rises
          (λ x among. among_between setup s.log start last x (yield_between x among)) covered

-- the yields of a run have the table of an honest server's log
pub run_has_table : (g : ReplayInput) (start : ℕ) (es : List Event) → HasLogsTable g.setup es (run_of g start es) (yielded (all_outputs (run_of g start es)))
run_has_table g start es s from honest configured overtaken =
    let ys = yields (all_outputs (run_of g start es)) in
    let leaves_no_gap : IsGapless s g.setup ys = replay_gapless g start es s honest in
    has_table (matching_between g.setup s.log from (last_sequence (map as_entry ys))) (map as_entry ys) (yields_keep s g.setup ys leaves_no_gap from configured overtaken)

-- and rise
pub run_rises : (g : ReplayInput) (start : ℕ) (es : List Event) (s : Server) → IsHonest s g.setup es (run_of g start es) → RisesAbove 0 (yielded (all_outputs (run_of g start es)))
run_rises g start es s honest = gapless_rises s g.setup (yields (all_outputs (run_of g start es))) (replay_gapless g start es s honest)
