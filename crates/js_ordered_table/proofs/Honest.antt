-- A server that sends each sequence of its log is honest, and so are those of the worked runs, which leave no gap.
use Rattle.std.proofs.Common.{◌≡◌, ℕ, zero, suc, ◌+◌, ◌-◌, ◌<◌, ◌≤◌, List, [], ◌∷◌, length, slice_index, Some, refl, sym, ◌∙◌, subst, inl, inr, arith, ◌⊎◌, Contains}
use Rattle.std.specs.Prelude.{slice_get, codes, IsTrue, true}
use Rattle.std.specs.List.Sorted.{IsStrictlyIncreasing}
use Rattle.std.proofs.lemmas.Grind.{get_or_default_zero}
use Rattle.std.specs.Global.{Global}
use Rattle.js_base.specs.declared.message.Message.{Message}
use Rattle.js_base.specs.Subject.{filters_match}
use Rattle.js_message.specs.AckSubject.{Place, readable_as}
use Rattle.js_ordered_table.specs.Texts.{filters}
use Rattle.js_ordered_table.specs.Fold.{fold}
use Rattle.js_ordered_table.specs.Gapless.{Logged, Server, entry_at, IsMatching, IsWhole, IsDelivery, IsHonestArrival, IsHonest, entry_of, yields, sequences, all_outputs}
use Rattle.js_ordered_table.specs.declared.setup.OrderedSetup.{OrderedSetup}
use Rattle.js_ordered_table.specs.declared.event.Event as events
use Rattle.js_ordered_table.specs.declared.consumer.ReplayInput.{ReplayInput}
use Rattle.js_ordered_table.specs.Worked.{LeavesNoGap, numbered, by_pull, by_push, by_filter, count_from, in_order, server_in_order, gap, server_gap, held, server_held, removed, left, server_removed, filtered, chosen, server_filtered}
use Rattle.js_ordered_table.proofs.OnLiterals.{replays_on_literals}
use Rattle.js_ordered_table.proofs.Headline.{replay_gapless}

length_from : (start n : ℕ) → length (count_from start n) ≡ n
length_from start zero = refl
length_from start (suc n) = let h = length_from (start + 1) n in omega (arith, h)

index_from : (start n k : ℕ) → k < n → slice_index (count_from start n) k ≡ start + k
index_from start zero k within = absurd (omega arith)
index_from start (suc n) zero within = omega arith
index_from start (suc n) (suc k) within = let h = index_from (start + 1) n k (omega arith) in omega (arith, h)

logged_at : (log : List Logged) (k : ℕ) → k < length log → (entry : Logged) × (slice_get log k ≡ Some entry)
logged_at [] k within = absurd (omega arith)
logged_at (entry ∷ log) zero within = (entry, refl)
logged_at (entry ∷ log) (suc k) within = logged_at log k (omega arith)

-- each sequence of the log matches where nothing is filtered
all_match : (setup : OrderedSetup) (log : List Logged) (q : ℕ) → filters setup ≡ [] → 0 < q → q ≤ length log → IsMatching setup log q
all_match setup log zero none above within = absurd (omega arith)
all_match setup log (suc k) none above within =
    let found : (entry : Logged) × (slice_get log k ≡ Some entry) = logged_at log k (omega arith) in
    (found.0, found.1, subst (λ (fs : List (List ℕ)). IsTrue (filters_match fs found.0.subject)) (sym none) refl)

-- all sequences from a start on leave out nothing
pub count_whole : (setup : OrderedSetup) (log : List Logged) (removed : List ℕ) (start n : ℕ) → filters setup ≡ [] → 0 < start → start + n ≤ length log + 1
    → IsWhole setup log removed start (count_from start n)
count_whole setup log removed start n none above within = record {
  rising = λ k inside.
      let count = length_from start n in
      let one : slice_index (count_from start n) k ≡ start + k = index_from start n k (omega (arith, inside, count)) in
      let two : slice_index (count_from start n) (k + 1) ≡ start + (k + 1) = index_from start n (k + 1) (omega (arith, inside, count)) in
      omega (arith, one, two);
  past_start = λ k inside.
      let count = length_from start n in
      let one : slice_index (count_from start n) k ≡ start + k = index_from start n k (omega (arith, inside, count)) in
      omega (arith, one);
  matching = λ k inside.
      let count = length_from start n in
      let one : slice_index (count_from start n) k ≡ start + k = index_from start n k (omega (arith, inside, count)) in
      all_match setup log (slice_index (count_from start n) k) none (omega (arith, one, above)) (omega (arith, one, within, inside, count));
  whole = λ q k match from inside below.
      let count = length_from start n in
      let one : slice_index (count_from start n) k ≡ start + k = index_from start n k (omega (arith, inside, count)) in
      let here : q - start < length (count_from start n) = omega (arith, one, below, from, inside, count) in
      let is : slice_index (count_from start n) (q - start) ≡ start + (q - start) = index_from start n (q - start) (omega (arith, here, count)) in
      inl (q - start, here, get_or_default_zero (count_from start n) (q - start) q here ∙ is ∙ omega (arith, from));
}

some_same : {A : Type 0} (P : A → Type 0) (x y : A) → Some x ≡ Some y → P x → P y
some_same P x y same px = subst P (injected x y same) px
  where
    injected : {A : Type 0} (x y : A) → Some x ≡ Some y → x ≡ y
    injected x y same = cc

-- a message whose reply reads to a place is a delivery
delivers : (s : Server) (setup : OrderedSetup) (inbox : ℕ) (message : Message) (place : Place) → readable_as message.reply ≡ Some place
    → IsDelivery s inbox place.number (entry_of place message) → IsHonestArrival setup s (record { inbox = inbox; message = message })
delivers s setup inbox message place reads delivery other is reads_other =
    some_same (λ (place : Place). IsDelivery s inbox place.number (entry_of place message)) place other (sym reads ∙ reads_other) delivery

-- ---- worked runs beside their logs

abbrev sends : (s : Server) (setup : OrderedSetup) (inbox n q : ℕ) (payload : List ℕ) → readable_as (numbered n q payload).reply ≡ Some (record { sequence = q; number = n })
    → IsDelivery s inbox n (record { subject = []; sequence = q; payload = payload }) → IsHonestArrival setup s (record { inbox = inbox; message = numbered n q payload })
sends s setup inbox n q payload reads delivery = delivers s setup inbox (numbered n q payload) (record { sequence = q; number = n }) reads delivery

lists_in_order : (inbox : ℕ) → IsWhole by_pull.setup server_in_order.log [] (server_in_order.starts inbox) (server_in_order.lists inbox)
lists_in_order zero = count_whole by_pull.setup server_in_order.log [] 1 2 refl (omega arith) (omega arith)
lists_in_order (suc inbox) = count_whole by_pull.setup server_in_order.log [] 1 2 refl (omega arith) (omega arith)

in_order_honest : (heap : Global) → IsHonest server_in_order by_pull.setup (in_order heap) (fold by_pull 0 (in_order heap))
unfolding replays_on_literals
in_order_honest heap = record {
  lists = lists_in_order;
  first = tt;
  later = tt;
  arrivals = (
    sends server_in_order by_pull.setup 0 1 1 (codes "a") refl (record { above = omega arith; within = omega arith; listed = refl; logged = refl }),
    (sends server_in_order by_pull.setup 0 2 2 (codes "b") refl (record { above = omega arith; within = omega arith; listed = refl; logged = refl }), tt),
  );
}

lists_gap : (inbox : ℕ) → IsWhole by_pull.setup server_gap.log [] (server_gap.starts inbox) (server_gap.lists inbox)
lists_gap zero = count_whole by_pull.setup server_gap.log [] 1 4 refl (omega arith) (omega arith)
lists_gap (suc inbox) = count_whole by_pull.setup server_gap.log [] 3 2 refl (omega arith) (omega arith)

gap_honest : (heap : Global) → IsHonest server_gap by_pull.setup (gap heap) (fold by_pull 0 (gap heap))
unfolding replays_on_literals
gap_honest heap = record {
  lists = lists_gap;
  first = tt;
  later = (refl, tt);
  arrivals = (
    sends server_gap by_pull.setup 0 1 1 (codes "a") refl (record { above = omega arith; within = omega arith; listed = refl; logged = refl }),
    (
      sends server_gap by_pull.setup 0 2 2 (codes "b") refl (record { above = omega arith; within = omega arith; listed = refl; logged = refl }),
      (sends server_gap by_pull.setup 0 4 4 (codes "d") refl (record { above = omega arith; within = omega arith; listed = refl; logged = refl }), (tt, (tt, tt))),
    ),
  );
}

lists_held : (inbox : ℕ) → IsWhole by_push.setup server_held.log [] (server_held.starts inbox) (server_held.lists inbox)
lists_held zero = count_whole by_push.setup server_held.log [] 1 3 refl (omega arith) (omega arith)
lists_held (suc inbox) = count_whole by_push.setup server_held.log [] 2 2 refl (omega arith) (omega arith)

held_honest : (heap : Global) → IsHonest server_held by_push.setup (held heap) (fold by_push 0 (held heap))
unfolding replays_on_literals
held_honest heap = record {
  lists = lists_held;
  first = tt;
  later = (refl, tt);
  arrivals = (
    sends server_held by_push.setup 0 1 1 (codes "a") refl (record { above = omega arith; within = omega arith; listed = refl; logged = refl }),
    (
      sends server_held by_push.setup 0 3 3 (codes "c") refl (record { above = omega arith; within = omega arith; listed = refl; logged = refl }),
      (tt, (sends server_held by_push.setup 1 1 2 (codes "b") refl (record { above = omega arith; within = omega arith; listed = refl; logged = refl }), (tt, tt))),
    ),
  );
}

-- ---- a run in which a sequence was removed

left_whole : IsWhole by_pull.setup server_removed.log (3 ∷ []) 3 left
left_whole = record { rising = rising; past_start = past_start; matching = matching; whole = whole }
  where
    rising : IsStrictlyIncreasing left
    rising zero inside = absurd (omega arith)
    rising (suc k) inside = absurd (omega arith)

    past_start : (k : ℕ) → k < length left → 3 ≤ slice_index left k
    past_start zero inside = omega arith
    past_start (suc k) inside = absurd (omega arith)

    matching : (k : ℕ) → k < length left → IsMatching by_pull.setup server_removed.log (slice_index left k)
    matching zero inside = all_match by_pull.setup server_removed.log 4 refl (omega arith) (omega arith)
    matching (suc k) inside = absurd (omega arith)

    whole : (q k : ℕ) → IsMatching by_pull.setup server_removed.log q → 3 ≤ q → k < length left → q < slice_index left k → Contains left q ⊎ Contains (3 ∷ []) q
    whole q zero match from inside below =
        let is : 3 ≡ q = omega (arith, from, below) in
        inr (0, omega arith, is)
    whole q (suc k) match from inside below = absurd (omega arith)

lists_removed : (inbox : ℕ) → IsWhole by_pull.setup server_removed.log (3 ∷ []) (server_removed.starts inbox) (server_removed.lists inbox)
lists_removed zero = count_whole by_pull.setup server_removed.log (3 ∷ []) 1 4 refl (omega arith) (omega arith)
lists_removed (suc inbox) = left_whole

removed_honest : (heap : Global) → IsHonest server_removed by_pull.setup (removed heap) (fold by_pull 0 (removed heap))
unfolding replays_on_literals
removed_honest heap = record {
  lists = lists_removed;
  first = tt;
  later = (refl, tt);
  arrivals = (
    sends server_removed by_pull.setup 0 1 1 (codes "a") refl (record { above = omega arith; within = omega arith; listed = refl; logged = refl }),
    (
      sends server_removed by_pull.setup 0 2 2 (codes "b") refl (record { above = omega arith; within = omega arith; listed = refl; logged = refl }),
      (
        sends server_removed by_pull.setup 0 4 4 (codes "d") refl (record { above = omega arith; within = omega arith; listed = refl; logged = refl }),
        (tt, (tt, (sends server_removed by_pull.setup 1 1 4 (codes "d") refl (record { above = omega arith; within = omega arith; listed = refl; logged = refl }), tt))),
      ),
    ),
  );
}

-- ---- a run with a filter and a configured start

-- what the filter does not match is no part of the list
unmatched : (q : ℕ) (entry : Logged) → entry_at server_filtered.log q ≡ Some entry → (other : Logged) → entry_at server_filtered.log q ≡ Some other
    → (filters_match (filters by_filter.setup) other.subject ≡ true → ⊥) → IsTrue (filters_match (filters by_filter.setup) entry.subject) → ⊥
unmatched q entry is other is_other never matches = never (some_same (λ (e : Logged). IsTrue (filters_match (filters by_filter.setup) e.subject)) entry other (sym is ∙ is_other) matches)

chosen_whole : IsWhole by_filter.setup server_filtered.log [] 2 chosen
chosen_whole = record { rising = rising; past_start = past_start; matching = matching; whole = whole }
  where
    rising : IsStrictlyIncreasing chosen
    rising zero inside = omega arith
    rising (suc k) inside = absurd (omega arith)

    past_start : (k : ℕ) → k < length chosen → 2 ≤ slice_index chosen k
    past_start zero inside = omega arith
    past_start (suc zero) inside = omega arith
    past_start (suc (suc k)) inside = absurd (omega arith)

    matching : (k : ℕ) → k < length chosen → IsMatching by_filter.setup server_filtered.log (slice_index chosen k)
    matching zero inside = (record { subject = codes "orders.b"; payload = codes "b" }, refl, refl)
    matching (suc zero) inside = (record { subject = codes "orders.c"; payload = codes "c" }, refl, refl)
    matching (suc (suc k)) inside = absurd (omega arith)

    other : (q : ℕ) → IsMatching by_filter.setup server_filtered.log q → 2 ≤ q → q < 5 → 3 ≡ q
    other zero match from below = absurd (omega arith)
    other (suc zero) match from below = absurd (omega arith)
    other (suc (suc zero)) match from below = absurd (unmatched 2 match.0 match.1 (record { subject = codes "stock.x"; payload = codes "x" }) refl (λ e. cc) match.2)
    other (suc (suc (suc zero))) match from below = refl
    other (suc (suc (suc (suc zero)))) match from below = absurd (unmatched 4 match.0 match.1 (record { subject = codes "stock.y"; payload = codes "y" }) refl (λ e. cc) match.2)
    other (suc (suc (suc (suc (suc q))))) match from below = absurd (omega arith)

    whole : (q k : ℕ) → IsMatching by_filter.setup server_filtered.log q → 2 ≤ q → k < length chosen → q < slice_index chosen k → Contains chosen q ⊎ Contains [] q
    whole q zero match from inside below =
        let is : 3 ≡ q = other q match from (omega (arith, below)) in
        absurd (omega (arith, is, below))
    whole q (suc zero) match from inside below = inl (0, omega arith, other q match from below)
    whole q (suc (suc k)) match from inside below = absurd (omega arith)

filtered_honest : (heap : Global) → IsHonest server_filtered by_filter.setup (filtered heap) (fold by_filter 0 (filtered heap))
unfolding replays_on_literals
filtered_honest heap = record {
  lists = λ inbox. chosen_whole;
  first = refl;
  later = tt;
  arrivals = (
    delivers server_filtered by_filter.setup 0 (record (numbered 1 3 (codes "b")) { subject = codes "orders.b" }) (record { sequence = 3; number = 1 }) refl
        (record { above = omega arith; within = omega arith; listed = refl; logged = refl }),
    (
      delivers server_filtered by_filter.setup 0 (record (numbered 2 5 (codes "c")) { subject = codes "orders.c" }) (record { sequence = 5; number = 2 }) refl
          (record { above = omega arith; within = omega arith; listed = refl; logged = refl }),
      tt,
    ),
  );
}

-- ---- so the worked runs leave no gap

leaves_no_gap : (s : Server) (g : ReplayInput) (es : Global → List events.Event) (yielded : List ℕ) → ((heap : Global) → IsHonest s g.setup (es heap) (fold g 0 (es heap)))
    → ((heap : Global) → sequences (yields (all_outputs (fold g 0 (es heap)))) ≡ yielded) → LeavesNoGap s g es yielded
leaves_no_gap s g es yielded honest are = record { honest = honest; yields_these = are; gapless = λ heap. replay_gapless g 0 (es heap) s (honest heap) }

pub in_order_leaves_no_gap : LeavesNoGap server_in_order by_pull in_order (1 ∷ 2 ∷ [])
unfolding replays_on_literals
in_order_leaves_no_gap = leaves_no_gap server_in_order by_pull in_order (1 ∷ 2 ∷ []) in_order_honest (λ heap. refl)

pub gap_leaves_no_gap : LeavesNoGap server_gap by_pull gap (1 ∷ 2 ∷ [])
unfolding replays_on_literals
gap_leaves_no_gap = leaves_no_gap server_gap by_pull gap (1 ∷ 2 ∷ []) gap_honest (λ heap. refl)

pub held_leaves_no_gap : LeavesNoGap server_held by_push held (1 ∷ 2 ∷ [])
unfolding replays_on_literals
held_leaves_no_gap = leaves_no_gap server_held by_push held (1 ∷ 2 ∷ []) held_honest (λ heap. refl)

pub removed_leaves_no_gap : LeavesNoGap server_removed by_pull removed (1 ∷ 2 ∷ 4 ∷ [])
unfolding replays_on_literals
removed_leaves_no_gap = leaves_no_gap server_removed by_pull removed (1 ∷ 2 ∷ 4 ∷ []) removed_honest (λ heap. refl)

pub filtered_leaves_no_gap : LeavesNoGap server_filtered by_filter filtered (3 ∷ 5 ∷ [])
unfolding replays_on_literals
filtered_leaves_no_gap = leaves_no_gap server_filtered by_filter filtered (3 ∷ 5 ∷ []) filtered_honest (λ heap. refl)
