-- The front of a gapless list is gapless, and a server that is honest in a run is honest in its
-- front.
use Rattle.std.proofs.Common.{◌≡◌, ◌⊎◌, ℕ, zero, suc, ◌+◌, ◌-◌, ◌<◌, ◌≤◌, ◌∙◌, List, [], ◌∷◌, ◌++◌, map, length, length-append, slice_index, Option, Some, None, refl, sym, ap, subst, inl, inr, arith, Contains, append-nil}
use Rattle.std.specs.Prelude.{slice_index_or, ⊤}
use Rattle.std.specs.List.{AllByRecursion}
use Rattle.std.specs.List.Sorted.{IsStrictlyIncreasing}
use Rattle.js_ordered_table.proofs.Headline.{replay_gapless}
use Rattle.js_ordered_table.proofs.RecreationStart.{follows_first}
use Rattle.js_ordered_table.specs.Fold.{fold}
use Rattle.js_ordered_table.specs.Gapless.{Entry, FollowsStarts, IsGapless, IsHonest, IsHonestEvent, IsLogged, IsMatching, IsWhole, Logged, Server, all_outputs, first_due, sequences, yields}
use Rattle.js_ordered_table.specs.declared.consumer.ReplayInput.{ReplayInput}
use Rattle.js_ordered_table.specs.declared.event.Event.{Event}
use Rattle.js_ordered_table.specs.declared.run.Output.{Output}
use Rattle.js_ordered_table.specs.declared.run.Output.TheVariants as out
use Rattle.js_ordered_table.specs.declared.setup.OrderedSetup.{OrderedSetup}
use Rattle.js_ordered_recorder.proofs.RecorderStates.{outputs_on}
use Rattle.js_ordered_recorder.specs.Recorder.{half_passed}

-- ---- numbers of a list's front

index_front : (a b : List ℕ) (k : ℕ) → k < length a → slice_index (a ++ b) k ≡ slice_index a k
index_front [] b k within = absurd (omega arith)
index_front (x ∷ a) b zero within = refl
index_front (x ∷ a) b (suc k) within = index_front a b k (omega arith)

index_or : (a : List ℕ) (k d : ℕ) → k < length a → slice_index_or a k d ≡ slice_index a k
index_or [] k d within = absurd (omega arith)
index_or (x ∷ a) zero d within = refl
index_or (x ∷ a) (suc k) d within = index_or a k d (omega arith)

longer : (a b : List ℕ) (k : ℕ) → k < length a → k < length (a ++ b)
longer a b k within = let whole : length (a ++ b) ≡ length a + length b = length-append a b in omega arith

-- a later number is greater
rises_to : (xs : List ℕ) → IsStrictlyIncreasing xs → (k n j : ℕ) → j ≡ (k + 1) + n → j < length xs → slice_index xs k < slice_index xs j
rises_to xs rising k zero j is within =
    let P : ℕ → Type 0 = λ m. slice_index xs k < slice_index xs m in
    let same : k + 1 ≡ j = omega arith in
    subst P same (rising k (omega arith))
rises_to xs rising k (suc n) j is within =
    let P : ℕ → Type 0 = λ m. slice_index xs k < slice_index xs m in
    let same : ((k + 1) + n) + 1 ≡ j = omega arith in
    let before : slice_index xs k < slice_index xs ((k + 1) + n) = rises_to xs rising k n ((k + 1) + n) refl (omega arith) in
    let step : slice_index xs ((k + 1) + n) < slice_index xs (((k + 1) + n) + 1) = rising ((k + 1) + n) (omega arith) in
    subst P same (omega (arith, before, step))

apart : (k j : ℕ) → k < j → (n : ℕ) × (j ≡ (k + 1) + n)
apart k j below = (j - (k + 1), omega arith)

two : (a b : ℕ) → (a < b) ⊎ (b ≤ a)
two a b = grind arith

-- what lies below a number of the front stands in the front
contains_front : (a b : List ℕ) (q k : ℕ) → IsStrictlyIncreasing (a ++ b) → k < length a → q < slice_index (a ++ b) k → Contains (a ++ b) q → Contains a q
contains_front a b q k rising within below (j, inside, is) = by_place (two j (length a))
  where
    there : slice_index (a ++ b) j ≡ q
    there = sym (index_or (a ++ b) j q inside) ∙ is

    by_place : (j < length a) ⊎ (length a ≤ j) → Contains a q
    by_place (inl front) = (j, front, index_or a j q front ∙ sym (index_front a b j front) ∙ there)
    by_place (inr back) =
        let far = apart k j (omega arith) in
        let rise : slice_index (a ++ b) k < slice_index (a ++ b) j = rises_to (a ++ b) rising k far.0 j far.1 inside in
        absurd (omega (arith, rise, there, below))

one_of : {B : Type 0} (a b : List ℕ) (q k : ℕ) → IsStrictlyIncreasing (a ++ b) → k < length a → q < slice_index (a ++ b) k → Contains (a ++ b) q ⊎ B → Contains a q ⊎ B
one_of a b q k rising within below (inl c) = inl (contains_front a b q k rising within below c)
one_of a b q k rising within below (inr gone) = inr gone

whole_front : (setup : OrderedSetup) (log : List Logged) (removed : List ℕ) (start : ℕ) (a b : List ℕ) → IsWhole setup log removed start (a ++ b) → IsWhole setup log removed start a
whole_front setup log removed start a b w = record {
  rising = λ k within.
      let here : slice_index (a ++ b) k ≡ slice_index a k = index_front a b k (omega arith) in
      let next : slice_index (a ++ b) (k + 1) ≡ slice_index a (k + 1) = index_front a b (k + 1) within in
      let rise : slice_index (a ++ b) k < slice_index (a ++ b) (k + 1) = w.rising k (longer a b (k + 1) within) in
      omega (arith, here, next, rise);
  past_start = λ k within. let P : ℕ → Type 0 = λ n. start ≤ n in subst P (index_front a b k within) (w.past_start k (longer a b k within));
  matching = λ k within. let P : ℕ → Type 0 = λ n. IsMatching setup log n in subst P (index_front a b k within) (w.matching k (longer a b k within));
  whole = λ q k match from within below.
      let P : ℕ → Type 0 = λ n. q < n in
      let under : q < slice_index (a ++ b) k = subst P (sym (index_front a b k within)) below in
      one_of a b q k w.rising within under (w.whole q k match from (longer a b k within) under);
}

-- ---- entries

logged_front : (log : List Logged) (xs ys : List Entry) → AllByRecursion (IsLogged log) (xs ++ ys) → AllByRecursion (IsLogged log) xs
logged_front log [] ys all = tt
logged_front log (x ∷ xs) ys all = (all.0, logged_front log xs ys all.1)

sequences_append : (xs ys : List Entry) → sequences (xs ++ ys) ≡ sequences xs ++ sequences ys
sequences_append [] ys = refl
sequences_append (x ∷ xs) ys = ap (λ (l : List ℕ). x.sequence ∷ l) (sequences_append xs ys)

entries_front : (setup : OrderedSetup) (s : Server) (xs ys : List Entry) → IsGapless s setup (xs ++ ys) → IsGapless s setup xs
entries_front setup s [] ys gapless = record {
  whole = record {
    rising = λ k within. absurd (omega arith);
    past_start = λ k within. absurd (omega arith);
    matching = λ k within. absurd (omega arith);
    whole = λ q k match from within. absurd (omega arith);
  };
  logged = tt;
}
entries_front setup s (x ∷ xs) ys gapless =
    let P : List ℕ → Type 0 = λ l. IsWhole setup s.log s.removed (first_due setup (x ∷ xs)) l in
    record {
      whole = whole_front setup s.log s.removed (first_due setup (x ∷ xs)) (sequences (x ∷ xs)) (sequences ys) (subst P (sequences_append (x ∷ xs) ys) gapless.whole);
      logged = logged_front s.log (x ∷ xs) ys gapless.logged;
    }

yields_append : (xs ys : List Output) → yields (xs ++ ys) ≡ yields xs ++ yields ys
yields_append [] ys = refl
yields_append (out.Yield sequence number subject payload ∷ xs) ys = ap (λ (l : List Entry). record { subject = subject; sequence = sequence; payload = payload } ∷ l) (yields_append xs ys)
yields_append (out.Item kind ∷ xs) ys = yields_append xs ys
yields_append (out.Recreate recreation_count start ∷ xs) ys = yields_append xs ys
yields_append (out.Request number subject payload ∷ xs) ys = yields_append xs ys
yields_append (out.Publish subject reply payload ∷ xs) ys = yields_append xs ys
yields_append (out.Subscribe inbox subject ∷ xs) ys = yields_append xs ys

-- ---- a run

arrivals_front : (setup : OrderedSetup) (s : Server) (es fs : List Event) → AllByRecursion (λ e. IsHonestEvent setup s e.what) (es ++ fs) → AllByRecursion (λ e. IsHonestEvent setup s e.what) es
arrivals_front setup s [] fs all = tt
arrivals_front setup s (e ∷ es) fs all = (all.0, arrivals_front setup s es fs all.1)

honest_front : (g : ReplayInput) (start : ℕ) (s : Server) (es : List Event) (half : Option Event) → IsHonest s g.setup (es ++ half_passed half) (fold g start (es ++ half_passed half)) → IsHonest s g.setup es (fold g start es)
honest_front g start s es None honest = let P : List Event → Type 0 = λ x. IsHonest s g.setup x (fold g start x) in subst P (append-nil es) honest
honest_front g start s es (Some e) honest =
    let P : List Output → Type 0 = λ os. FollowsStarts s.starts 0 os in
    record {
      lists = honest.lists;
      first = honest.first;
      later = follows_first s.starts 0 (all_outputs (fold g start es)) _ (subst P (outputs_on g start es e) honest.later);
      arrivals = arrivals_front g.setup s es (e ∷ []) honest.arrivals;
    }

-- what was worked off of a run's outputs is gapless, where the server is honest in all events that
-- were written
pub worked_gapless : (g : ReplayInput) (start : ℕ) (s : Server) (passed written : List Event) (half : Option Event) (worked left : List Output) → written ≡ passed ++ half_passed half → all_outputs (fold g start passed) ≡ worked ++ left
    → IsHonest s g.setup written (fold g start written) → IsGapless s g.setup (yields worked)
worked_gapless g start s passed written half worked left is outputs honest =
    let P : List Event → Type 0 = λ x. IsHonest s g.setup x (fold g start x) in
    let Q : List Entry → Type 0 = λ x. IsGapless s g.setup x in
    entries_front g.setup s (yields worked) (yields left)
    (subst Q (ap (λ (os : List Output). yields os) outputs ∙ yields_append worked left) (replay_gapless g start passed s (honest_front g start s passed half (subst P is honest))))
