-- Yields that join one another leave no gap.
use Rattle.std.proofs.Common.{◌≡◌, ℕ, zero, suc, ◌<◌, ◌≤◌, ◌⊎◌, List, [], ◌∷◌, ◌++◌, length, slice_index, Option, Some, None, refl, sym, subst, inl, inr, arith, Contains, add-one}
use Rattle.std.specs.Prelude.{⊤, IfSome, unwrap_or}
use Rattle.js_ordered_table.specs.Gapless.{Entry}
use Rattle.js_ordered_table.specs.Texts.{configured_start}
use Rattle.std.specs.List.{AllByRecursion}
use Rattle.js_ordered_table.specs.declared.setup.OrderedSetup.{OrderedSetup}
use Rattle.js_ordered_table.specs.declared.run.Output.{Output}
use Rattle.js_ordered_table.specs.declared.run.Output.TheVariants as out
use Rattle.js_ordered_table.specs.Gapless.{IsMatching, IsLogged, Server, yields, sequences, first_due, IsGapless}
use Rattle.js_ordered_table.specs.Invariant.{Joins, IsFirst, Extends}

-- each yield joins the one before
abbrev Chain : OrderedSetup → Server → ℕ → List Entry → Type 0
Chain setup s before [] = ⊤
Chain setup s before (y ∷ ys) = Joins setup s before y × Chain setup s y.sequence ys

chain_of : (setup : OrderedSetup) (s : Server) (before after : ℕ) (outputs : List Output) → Extends setup s before outputs after → Chain setup s before (yields outputs)
chain_of setup s before after [] e = tt
chain_of setup s before after (out.Yield sequence number subject payload ∷ outputs) e = (e.0, chain_of setup s sequence after outputs e.1)
chain_of setup s before after (out.Item kind ∷ outputs) e = chain_of setup s before after outputs e
chain_of setup s before after (out.Recreate recreation_count start ∷ outputs) e = chain_of setup s before after outputs e
chain_of setup s before after (out.Request number subject payload ∷ outputs) e = chain_of setup s before after outputs e
chain_of setup s before after (out.Publish subject reply payload ∷ outputs) e = chain_of setup s before after outputs e
chain_of setup s before after (out.Subscribe inbox subject ∷ outputs) e = chain_of setup s before after outputs e

rises : (setup : OrderedSetup) (s : Server) (before : ℕ) (ys : List Entry) → Chain setup s before ys
    → (k : ℕ) → suc k < length (sequences ys) → slice_index (sequences ys) k < slice_index (sequences ys) (suc k)
rises setup s before [] chain k within = absurd (omega arith)
rises setup s before (y ∷ []) chain k within = absurd (omega arith)
rises setup s before (y ∷ z ∷ ys) chain zero within = chain.1.0.above
rises setup s before (y ∷ z ∷ ys) chain (suc k) within = rises setup s y.sequence (z ∷ ys) chain.1 k (omega arith)

matches : (setup : OrderedSetup) (s : Server) (before : ℕ) (ys : List Entry) → Chain setup s before ys
    → (k : ℕ) → k < length (sequences ys) → IsMatching setup s.log (slice_index (sequences ys) k)
matches setup s before [] chain k within = absurd (omega arith)
matches setup s before (y ∷ ys) chain zero within = chain.0.matching
matches setup s before (y ∷ ys) chain (suc k) within = matches setup s y.sequence ys chain.1 k (omega arith)

above_first : (setup : OrderedSetup) (s : Server) (before : ℕ) (ys : List Entry) → Chain setup s before ys
    → (k : ℕ) → k < length (sequences ys) → before < slice_index (sequences ys) k
above_first setup s before [] chain k within = absurd (omega arith)
above_first setup s before (y ∷ ys) chain zero within = chain.0.above
above_first setup s before (y ∷ ys) chain (suc k) within =
    let more = above_first setup s y.sequence ys chain.1 k (omega arith) in
    let first = chain.0.above in omega arith

logged_each : (setup : OrderedSetup) (s : Server) (before : ℕ) (ys : List Entry) → Chain setup s before ys → AllByRecursion (IsLogged s.log) ys
logged_each setup s before [] chain = tt
logged_each setup s before (y ∷ ys) chain = (chain.0.logged, logged_each setup s y.sequence ys chain.1)

contains_later : (x q : ℕ) (xs : List ℕ) → Contains xs q → Contains (x ∷ xs) q
contains_later x q xs (k, within, is) = (suc k, omega arith, is)

later : {B : Type 0} (x q : ℕ) (xs : List ℕ) → Contains xs q ⊎ B → Contains (x ∷ xs) q ⊎ B
later x q xs (inl c) = inl (contains_later x q xs c)
later x q xs (inr b) = inr b

three : (a b : ℕ) → (a ≡ b) ⊎ ((a < b) ⊎ (b < a))
three a b = grind arith

-- from the first yield on each matching sequence was yielded or removed
whole_from : (setup : OrderedSetup) (s : Server) (before : ℕ) (y : Entry) (ys : List Entry) → 0 < y.sequence → Chain setup s y.sequence ys
    → (q k : ℕ) → IsMatching setup s.log q → y.sequence ≤ q → k < length (sequences (y ∷ ys)) → q < slice_index (sequences (y ∷ ys)) k
    → Contains (sequences (y ∷ ys)) q ⊎ Contains s.removed q
whole_from setup s before y ys some chain q zero match from within below = absurd (omega arith)
whole_from setup s before y [] some chain q (suc k) match from within below = absurd (omega arith)
whole_from setup s before y (z ∷ ys) some chain q (suc k) match from within below =
    by_order (three q y.sequence) (three q z.sequence)
    (λ from_z. whole_from setup s y.sequence z ys (let rise = chain.0.above in omega arith) chain.1 q k match from_z (omega arith) below)
  where
    by_order : (q ≡ y.sequence) ⊎ ((q < y.sequence) ⊎ (y.sequence < q)) → (q ≡ z.sequence) ⊎ ((q < z.sequence) ⊎ (z.sequence < q))
        → (z.sequence ≤ q → Contains (sequences (z ∷ ys)) q ⊎ Contains s.removed q)
        → Contains (sequences (y ∷ z ∷ ys)) q ⊎ Contains s.removed q
    by_order (inl same) other rest = inl (0, omega arith, sym same)
    by_order (inr (inl less)) other rest = absurd (omega arith)
    by_order (inr (inr more)) (inr (inl before_z)) rest = inr (chain.0.between some q match more before_z)
    by_order (inr (inr more)) (inl at_z) rest = later y.sequence q (sequences (z ∷ ys)) (rest (omega arith))
    by_order (inr (inr more)) (inr (inr after_z)) rest = later y.sequence q (sequences (z ∷ ys)) (rest (omega arith))

-- from a configured start on the same holds
whole_due : (setup : OrderedSetup) (s : Server) (y : Entry) (ys : List Entry) → 0 < y.sequence → Chain setup s y.sequence ys
    → (configured : Option ℕ) → IfSome configured (IsFirst setup s y.sequence)
    → (q k : ℕ) → IsMatching setup s.log q → unwrap_or configured y.sequence ≤ q → k < length (sequences (y ∷ ys)) → q < slice_index (sequences (y ∷ ys)) k
    → Contains (sequences (y ∷ ys)) q ⊎ Contains s.removed q
whole_due setup s y ys some chain None first q k match from within below = whole_from setup s 0 y ys some chain q k match from within below
whole_due setup s y ys some chain (Some start) first q k match from within below = by_order (two q y.sequence)
  where
    two : (a b : ℕ) → (a < b) ⊎ (b ≤ a)
    two a b = grind arith

    by_order : (q < y.sequence) ⊎ (y.sequence ≤ q) → Contains (sequences (y ∷ ys)) q ⊎ Contains s.removed q
    by_order (inl before) = inr (first.before q match from before)
    by_order (inr after) = whole_from setup s 0 y ys some chain q k match after within below

start_due : (setup : OrderedSetup) (s : Server) (y : Entry) (configured : Option ℕ) → IfSome configured (IsFirst setup s y.sequence) → unwrap_or configured y.sequence ≤ y.sequence
start_due setup s y None first = omega arith
start_due setup s y (Some start) first = first.past_start

chain_gapless : (setup : OrderedSetup) (s : Server) (ys : List Entry) → Chain setup s 0 ys → IsGapless s setup ys
chain_gapless setup s [] chain = record {
  whole = record {
    rising = λ k within. absurd (omega arith);
    past_start = λ k within. absurd (omega arith);
    matching = λ k within. absurd (omega arith);
    whole = λ q k match from within. absurd (omega arith);
  };
  logged = tt;
}
chain_gapless setup s (y ∷ ys) chain = record {
  whole = record {
    rising = λ k within. rw add-one (rises setup s 0 (y ∷ ys) chain k (rw add-one at within));
    past_start = λ k within. at_least k within;
    matching = matches setup s 0 (y ∷ ys) chain;
    whole = whole_due setup s y ys chain.0.above chain.1 (configured_start setup) (chain.0.first refl);
  };
  logged = logged_each setup s 0 (y ∷ ys) chain;
}
  where
    past_first : (k : ℕ) → k < length (sequences (y ∷ ys)) → y.sequence ≤ slice_index (sequences (y ∷ ys)) k
    past_first zero within = omega arith
    past_first (suc k) within = let more = above_first setup s y.sequence ys chain.1 k (omega arith) in omega arith

    at_least : (k : ℕ) → k < length (sequences (y ∷ ys)) → first_due setup (y ∷ ys) ≤ slice_index (sequences (y ∷ ys)) k
    at_least k within =
        let start : first_due setup (y ∷ ys) ≤ y.sequence = start_due setup s y (configured_start setup) (chain.0.first refl) in
        let past : y.sequence ≤ slice_index (sequences (y ∷ ys)) k = past_first k within in
        omega (arith, start, past)

-- outputs whose yields join leave no gap
pub extends_gapless : (setup : OrderedSetup) (s : Server) (after : ℕ) (outputs : List Output) → Extends setup s 0 outputs after → IsGapless s setup (yields outputs)
extends_gapless setup s after outputs e = chain_gapless setup s (yields outputs) (chain_of setup s 0 after outputs e)

-- one list of yields after another
pub extends_append : (setup : OrderedSetup) (s : Server) (before between after : ℕ) (first second : List Output)
    → Extends setup s before first between → Extends setup s between second after → Extends setup s before (first ++ second) after
extends_append setup s before between after [] second e f = subst (λ (n : ℕ). Extends setup s n second after) e f
extends_append setup s before between after (out.Yield sequence number subject payload ∷ first) second e f =
    (e.0, extends_append setup s sequence between after first second e.1 f)
extends_append setup s before between after (out.Item kind ∷ first) second e f = extends_append setup s before between after first second e f
extends_append setup s before between after (out.Recreate recreation_count start ∷ first) second e f = extends_append setup s before between after first second e f
extends_append setup s before between after (out.Request number subject payload ∷ first) second e f = extends_append setup s before between after first second e f
extends_append setup s before between after (out.Publish subject reply payload ∷ first) second e f = extends_append setup s before between after first second e f
extends_append setup s before between after (out.Subscribe inbox subject ∷ first) second e f = extends_append setup s before between after first second e f
