-- The heart of it: on one inbox the next number is the next entry of its list, and a new inbox joins the last yield.
use Rattle.std.proofs.Common.{◌≡◌, ℕ, zero, suc, ◌+◌, ◌-◌, ◌<◌, ◌≤◌, ◌⊎◌, List, length, slice_index, Option, Some, None, refl, sym, ◌∙◌, subst, inl, inr, arith, Contains}
use Rattle.std.specs.Prelude.{IfSome, ◌==◌}
use Rattle.std.proofs.lemmas.Bool.{eqb-true}
use Rattle.std.specs.List.Sorted.{IsStrictlyIncreasing}
use Rattle.std.proofs.lemmas.List.Kept.{AllPairs-from_increasing}
use Rattle.std.proofs.lemmas.Grind.{get_or_default_zero}
use Rattle.js_ordered_table.specs.Gapless.{Entry}
use Rattle.js_ordered_table.specs.Texts.{configured_start}
use Rattle.js_ordered_table.specs.OrderedCore.{start_after}
use Rattle.js_ordered_table.specs.declared.setup.OrderedSetup.{OrderedSetup}
use Rattle.js_ordered_table.specs.Gapless.{Logged, IsMatching, IsWhole, Server, IsDelivery, start_sequence}
use Rattle.js_ordered_table.specs.Invariant.{Joins, IsFirst, IsUnread, IsKeptOn, next_start}
use Rattle.js_ordered_table.proofs.Rewritten.{if_with}

-- a later entry of a rising list is above an earlier one
pub rising_below : (xs : List ℕ) (i j : ℕ) → IsStrictlyIncreasing xs → i < j → j < length xs → slice_index xs i < slice_index xs j
rising_below xs i j rising below within = AllPairs-from_increasing xs rising i j 0 below within

-- nothing of a rising list lies between two neighbours
pub none_between : (xs : List ℕ) (q n : ℕ) → IsStrictlyIncreasing xs → n + 1 < length xs → slice_index xs n < q → q < slice_index xs (n + 1) → Contains xs q → ⊥
none_between xs q n rising within above below (k, inside, is) =
    let value : slice_index xs k ≡ q = sym (get_or_default_zero xs k q inside) ∙ is in
    elim (cases k n) [
      | inl early ↦ early_case k early value
      | inr late ↦ late_case k inside late value
    ]
  where
    cases : (k n : ℕ) → (k ≤ n) ⊎ (n < k)
    cases k n = grind arith

    at_most : (k : ℕ) → k ≤ n → slice_index xs k ≤ slice_index xs n
    at_most k e = elim (split k e) [ inl same ↦ rw same (omega arith) | inr less ↦ (let h = rising_below xs k n rising less (omega arith) in omega arith) ]
      where
        split : (k : ℕ) → k ≤ n → (k ≡ n) ⊎ (k < n)
        split k e = grind arith

    at_least : (k : ℕ) → k < length xs → n < k → slice_index xs (n + 1) ≤ slice_index xs k
    at_least k inside e = elim (split k e) [ inl same ↦ rw same (omega arith) | inr less ↦ (let h = rising_below xs (n + 1) k rising less inside in omega arith) ]
      where
        split : (k : ℕ) → n < k → (k ≡ n + 1) ⊎ (n + 1 < k)
        split k e = grind arith

    early_case : (k : ℕ) → k ≤ n → slice_index xs k ≡ q → ⊥
    early_case k e value = let h = at_most k e in omega arith

    late_case : (k : ℕ) → k < length xs → n < k → slice_index xs k ≡ q → ⊥
    late_case k inside e value = let h = at_least k inside e in omega arith

-- nothing of a rising list lies before its first
pub none_before : (xs : List ℕ) (q : ℕ) → IsStrictlyIncreasing xs → q < slice_index xs 0 → Contains xs q → ⊥
none_before xs q rising below (k, inside, is) =
    let value : slice_index xs k ≡ q = sym (get_or_default_zero xs k q inside) ∙ is in
    elim (split k) [
      | inl same ↦ first_case k same value
      | inr late ↦ late_case k inside late value
    ]
  where
    split : (k : ℕ) → (k ≡ 0) ⊎ (0 < k)
    split k = grind arith

    first_case : (k : ℕ) → k ≡ 0 → slice_index xs k ≡ q → ⊥
    first_case k same value = let first : slice_index xs 0 ≡ q = rw same at value in omega arith

    late_case : (k : ℕ) → k < length xs → 0 < k → slice_index xs k ≡ q → ⊥
    late_case k inside late value = let h = rising_below xs 0 k rising late inside in omega arith

-- a sequence of the log is above 0
matching_above : (setup : OrderedSetup) (log : List Logged) (q : ℕ) → IsMatching setup log q → 0 < q
matching_above setup log zero (entry, is, matches) = absurd (never entry is)
  where
    never : (entry : Logged) → None ≡ Some entry → ⊥
    never entry is = cc
matching_above setup log (suc q) m = omega arith

or_removed : {A B : Type 0} → (A → ⊥) → A ⊎ B → B
or_removed never (inl a) = absurd (never a)
or_removed never (inr b) = b

-- ---- where a recreation starts

pub next_after : (setup : OrderedSetup) (last : ℕ) → 0 < last → next_start setup last ≡ last + 1
next_after setup last some = if_with (λ start. start_sequence start ≡ last + 1) (last == 0) _ _ (λ none. absurd (never last (eqb-true last 0 none) some)) refl
  where
    never : (n : ℕ) → n ≡ 0 → 0 < n → ⊥
    never n e some = omega arith

next_first : (setup : OrderedSetup) (last : ℕ) → last ≡ 0 → IfSome (configured_start setup) (λ sequence. next_start setup last ≡ sequence)
next_first setup last none = subst (λ (n : ℕ). IfSome (configured_start setup) (λ sequence. next_start setup n ≡ sequence)) (sym none) (named (configured_start setup))
  where
    named : (configured : Option ℕ) → IfSome configured (λ sequence. start_sequence (start_after configured 0) ≡ sequence)
    named None = tt
    named (Some sequence) = refl

-- ---- a yield

-- the first entry of a list that starts where it was configured to
first_of : (setup : OrderedSetup) (s : Server) (inbox : ℕ) (entry : Entry) → IsWhole setup s.log s.removed (s.starts inbox) (s.lists inbox)
    → 0 < length (s.lists inbox) → slice_index (s.lists inbox) 0 ≡ entry.sequence
    → (configured : Option ℕ) → IfSome configured (λ sequence. s.starts inbox ≡ sequence) → IfSome configured (IsFirst setup s entry.sequence)
first_of setup s inbox entry whole some here None starts = tt
first_of setup s inbox entry whole some here (Some sequence) starts =
    let past : s.starts inbox ≤ slice_index (s.lists inbox) 0 = whole.past_start 0 some in
    record {
      past_start = omega (arith, past, here, starts);
      before = λ q match from below.
          let below_first : q < slice_index (s.lists inbox) 0 = omega (arith, here, below) in
          or_removed (none_before (s.lists inbox) q whole.rising below_first) (whole.whole q 0 match (omega (arith, starts, from)) some below_first);
    }

none_first : (setup : OrderedSetup) (s : Server) (sequence last : ℕ) → 0 < last → last ≡ 0 → (configured : Option ℕ) → IfSome configured (IsFirst setup s sequence)
none_first setup s sequence last some none configured = absurd (omega (arith, some, none))

-- the next message of an inbox joins the last yield
pub joins_next : (setup : OrderedSetup) (s : Server) (consumer_sequence last recreation_count inbox number : ℕ) (entry : Entry)
    → IsWhole setup s.log s.removed (s.starts inbox) (s.lists inbox)
    → IsKeptOn setup s consumer_sequence last recreation_count inbox → IsDelivery s inbox number entry → number ≡ consumer_sequence + 1
    → Joins setup s last entry
joins_next setup s consumer_sequence last recreation_count inbox number entry whole kept delivery next =
    let here : slice_index (s.lists inbox) consumer_sequence ≡ entry.sequence =
    subst (λ (n : ℕ). slice_index (s.lists inbox) n ≡ entry.sequence) (before number consumer_sequence next) delivery.listed in
    by_number (number_cases consumer_sequence) here
  where
    before : (n m : ℕ) → n ≡ m + 1 → n - 1 ≡ m
    before n m e = omega arith

    number_cases : (n : ℕ) → (n ≡ 0) ⊎ (0 < n)
    number_cases n = grind arith

    inside : consumer_sequence < length (s.lists inbox)
    inside = let w = delivery.within in omega arith

    matches : slice_index (s.lists inbox) consumer_sequence ≡ entry.sequence → IsMatching setup s.log entry.sequence
    matches here = subst (λ (q : ℕ). IsMatching setup s.log q) here (whole.matching consumer_sequence inside)

    first : slice_index (s.lists inbox) consumer_sequence ≡ entry.sequence → consumer_sequence ≡ 0 → slice_index (s.lists inbox) 0 ≡ entry.sequence
    first here none = subst (λ (n : ℕ). slice_index (s.lists inbox) n ≡ entry.sequence) none here

    -- the first inbox, and nothing yielded yet
    at_first : slice_index (s.lists inbox) consumer_sequence ≡ entry.sequence → consumer_sequence ≡ 0 → recreation_count ≡ 0 → Joins setup s last entry
    at_first here none zero_serial =
        let unread : IsUnread setup s last inbox = kept.first none zero_serial in
        let nothing : last ≡ 0 = unread.none in
        let above : 0 < entry.sequence = matching_above setup s.log entry.sequence (matches here) in
        let some : 0 < length (s.lists inbox) = omega (arith, inside) in
        record {
          above = omega arith;
          matching = matches here;
          logged = delivery.logged;
          between = λ some. absurd (omega arith);
          first = λ _. first_of setup s inbox entry whole some (first here none) (configured_start setup) unread.start;
        }

    -- a later inbox, which starts past the last yield
    at_later : slice_index (s.lists inbox) consumer_sequence ≡ entry.sequence → consumer_sequence ≡ 0 → 0 < recreation_count → Joins setup s last entry
    at_later here none later =
        let start : s.starts inbox ≡ next_start setup last = kept.later none later in
        let one : slice_index (s.lists inbox) 0 ≡ entry.sequence = first here none in
        let some : 0 < length (s.lists inbox) = omega (arith, inside) in
        let past : s.starts inbox ≤ slice_index (s.lists inbox) 0 = whole.past_start 0 some in
        record {
          above = later_above (number_cases last) start past one (matching_above setup s.log entry.sequence (matches here));
          matching = matches here;
          logged = delivery.logged;
          between = λ some_last q match above below.
              let after : next_start setup last ≡ last + 1 = next_after setup last some_last in
              let below_first : q < slice_index (s.lists inbox) 0 = omega (arith, one, below) in
              or_removed (none_before (s.lists inbox) q whole.rising below_first) (whole.whole q 0 match (omega (arith, start, after, above)) some below_first);
          first = λ nothing. first_of setup s inbox entry whole some one (configured_start setup)
              (subst (λ (n : ℕ). IfSome (configured_start setup) (λ sequence. n ≡ sequence)) (sym start) (next_first setup last nothing));
        }
      where
        later_above : (last ≡ 0) ⊎ (0 < last) → s.starts inbox ≡ next_start setup last → s.starts inbox ≤ slice_index (s.lists inbox) 0
            → slice_index (s.lists inbox) 0 ≡ entry.sequence → 0 < entry.sequence → last < entry.sequence
        later_above (inl nothing) start past one above = omega (arith, nothing, above)
        later_above (inr some) start past one above = omega (arith, next_after setup last some, start, past, one)

    -- the same inbox
    at_same : slice_index (s.lists inbox) consumer_sequence ≡ entry.sequence → (m : ℕ) → consumer_sequence ≡ m + 1 → Joins setup s last entry
    at_same here m e =
        let last_is : slice_index (s.lists inbox) m ≡ last =
        subst (λ (n : ℕ). slice_index (s.lists inbox) n ≡ last) (before consumer_sequence m e) (kept.reached (omega arith)).1 in
        let here' : slice_index (s.lists inbox) (m + 1) ≡ entry.sequence =
        subst (λ (n : ℕ). slice_index (s.lists inbox) n ≡ entry.sequence) e here in
        let within : m + 1 < length (s.lists inbox) = omega (arith, inside) in
        let past : s.starts inbox ≤ slice_index (s.lists inbox) m = whole.past_start m (omega arith) in
        let rises : slice_index (s.lists inbox) m < slice_index (s.lists inbox) (m + 1) = whole.rising m within in
        let some_last : 0 < last = subst (λ (n : ℕ). 0 < n) last_is (matching_above setup s.log (slice_index (s.lists inbox) m) (whole.matching m (omega arith))) in
        record {
          above = omega arith;
          matching = matches here;
          logged = delivery.logged;
          between = λ some q match above below.
              let over : slice_index (s.lists inbox) m < q = omega arith in
              let under : q < slice_index (s.lists inbox) (m + 1) = omega arith in
              or_removed (none_between (s.lists inbox) q m whole.rising within over under) (whole.whole q (m + 1) match (omega arith) within under);
          first = λ nothing. none_first setup s entry.sequence last some_last nothing (configured_start setup);
        }

    by_serial : (recreation_count ≡ 0) ⊎ (0 < recreation_count) → slice_index (s.lists inbox) consumer_sequence ≡ entry.sequence → consumer_sequence ≡ 0 → Joins setup s last entry
    by_serial (inl zero_serial) here none = at_first here none zero_serial
    by_serial (inr later) here none = at_later here none later

    by_number : (consumer_sequence ≡ 0) ⊎ (0 < consumer_sequence) → slice_index (s.lists inbox) consumer_sequence ≡ entry.sequence → Joins setup s last entry
    by_number (inl none) here = by_serial (number_cases recreation_count) here none
    by_number (inr some) here = at_same here (consumer_sequence - 1) (omega arith)

-- and is the last one from then on
pub kept_next : (setup : OrderedSetup) (s : Server) (consumer_sequence last recreation_count inbox number : ℕ) (entry : Entry)
    → IsDelivery s inbox number entry → number ≡ consumer_sequence + 1
    → IsKeptOn setup s number entry.sequence recreation_count inbox
kept_next setup s consumer_sequence last recreation_count inbox number entry delivery next = record {
  reached = λ some. (delivery.within, delivery.listed);
  first = λ none. absurd (omega arith);
  later = λ none. absurd (omega arith);
}
