-- Sequences that go on from a bookmark: each is at or past the one behind the sequence before it, and what matches between the two was removed.
use Rattle.std.proofs.Common.{◌≡◌, ℕ, zero, suc, ◌+◌, ◌<◌, ◌≤◌, ◌⊎◌, List, [], ◌∷◌, ◌++◌, length, slice_index, sym, ◌∙◌, subst, inl, inr, arith, Contains, add-one}
use Rattle.std.proofs.lemmas.Grind.{get_or_default_zero}
use Rattle.std.specs.Prelude.{⊤, IsTrue}
use Rattle.js_base.specs.Subject.{filters_match}
use Rattle.js_ordered_table.specs.declared.setup.OrderedSetup.{OrderedSetup}
use Rattle.js_ordered_table.specs.Gapless.{Entry, Logged, IsMatching, IsWhole, sequences}
use Rattle.js_ordered_table.specs.Texts.{filters}
use Rattle.js_event_log_sessions.specs.Bookmark.{bookmark}

-- the sequence is not below the one due, and what matches between the two was removed
pub record Joins (M : ℕ → Type 0) (removed : List ℕ) (next sequence : ℕ) : Type 0 where
  pub past : next ≤ sequence
  pub matching : M sequence
  pub between : (q : ℕ) → M q → next ≤ q → q < sequence → Contains removed q

-- each sequence joins the one before it
abbrev pub Chain : (ℕ → Type 0) → List ℕ → ℕ → List ℕ → Type 0
Chain M removed next [] = ⊤
Chain M removed next (x ∷ xs) = Joins M removed next x × Chain M removed (x + 1) xs

-- ---- parts of chains

pub chain_front : (M : ℕ → Type 0) (removed : List ℕ) (next : ℕ) (xs ys : List Entry) → Chain M removed next (sequences (xs ++ ys)) → Chain M removed next (sequences xs)
chain_front M removed next [] ys chain = tt
chain_front M removed next (x ∷ xs) ys chain = (chain.0, chain_front M removed (x.sequence + 1) xs ys chain.1)

pub chain_append : (M : ℕ → Type 0) (removed : List ℕ) (next : ℕ) (xs ys : List Entry)
    → Chain M removed next (sequences xs) → Chain M removed (bookmark next xs) (sequences ys) → Chain M removed next (sequences (xs ++ ys))
chain_append M removed next [] ys first second = second
chain_append M removed next (x ∷ xs) ys first second = (first.0, chain_append M removed (x.sequence + 1) xs ys first.1 second)

-- a chain stays one where the same matches and more was removed
pub chain_as : (M N : ℕ → Type 0) (removed more : List ℕ) → ((q : ℕ) → M q → N q) → ((q : ℕ) → N q → M q) → ((q : ℕ) → Contains removed q → Contains more q)
    → (next : ℕ) (xs : List ℕ) → Chain M removed next xs → Chain N more next xs
chain_as M N removed more to from grows next [] chain = tt
chain_as M N removed more to from grows next (x ∷ xs) chain = (
  record {
    past = chain.0.past;
    matching = to x chain.0.matching;
    between = λ q match past below. grows q (chain.0.between q (from q match) past below);
  },
  chain_as M N removed more to from grows (x + 1) xs chain.1,
)

-- setups with the same filters match the same
pub matches_too : (one other : OrderedSetup) (log : List Logged) (q : ℕ) → filters one ≡ filters other → IsMatching one log q → IsMatching other log q
matches_too one other log q same (entry, is, match) = (entry, is, subst (λ (texts : List (List ℕ)). IsTrue (filters_match texts entry.subject)) same match)

-- ---- from whole sequences to a chain

-- what is said of whole sequences, where it is given what matches
record Whole (M : ℕ → Type 0) (removed : List ℕ) (start : ℕ) (xs : List ℕ) : Type 0 where
  rising : (k : ℕ) → suc k < length xs → slice_index xs k < slice_index xs (suc k)
  past_start : (k : ℕ) → k < length xs → start ≤ slice_index xs k
  matching : (k : ℕ) → k < length xs → M (slice_index xs k)
  whole : (q k : ℕ) → M q → start ≤ q → k < length xs → q < slice_index xs k → Contains xs q ⊎ Contains removed q

above_first : (x : ℕ) (xs : List ℕ) → ((k : ℕ) → suc k < length (x ∷ xs) → slice_index (x ∷ xs) k < slice_index (x ∷ xs) (suc k)) → (k : ℕ) → k < length xs → x < slice_index xs k
above_first x [] rising k within = absurd (omega arith)
above_first x (y ∷ xs) rising zero within = rising 0 (omega arith)
above_first x (y ∷ xs) rising (suc k) within =
    let first : x < y = rising 0 (omega arith) in
    let more : y < slice_index xs k = above_first y xs (λ j inside. rising (suc j) (omega arith)) k (omega arith) in
    omega arith

-- what is in the list and below its first is not there
not_before : {B : Type 0} (q x : ℕ) (xs : List ℕ) → ((k : ℕ) → k < length xs → x < slice_index xs k) → q < x → Contains (x ∷ xs) q ⊎ B → B
not_before q x xs above less (inr b) = b
not_before q x xs above less (inl (zero, within, is)) = absurd (omega arith)
not_before q x xs above less (inl (suc k, within, is)) =
    let inside : k < length xs = omega arith in
    let high : x < slice_index xs k = above k inside in
    let same : slice_index xs k ≡ q = sym (get_or_default_zero xs k q inside) ∙ is in
    absurd (omega arith)

-- what is in the list and above its first is in the rest
rest_of : {B : Type 0} (q x : ℕ) (xs : List ℕ) → x < q → Contains (x ∷ xs) q ⊎ B → Contains xs q ⊎ B
rest_of q x xs more (inr b) = inr b
rest_of q x xs more (inl (zero, within, is)) = absurd (omega arith)
rest_of q x xs more (inl (suc k, within, is)) = inl (k, omega arith, is)

whole_chains : (M : ℕ → Type 0) (removed : List ℕ) (next : ℕ) (xs : List ℕ) → Whole M removed next xs → Chain M removed next xs
whole_chains M removed next [] whole = tt
whole_chains M removed next (x ∷ xs) whole = (
  record {
    past = whole.past_start 0 (omega arith);
    matching = whole.matching 0 (omega arith);
    between = λ q match from below. not_before q x xs above below (whole.whole q 0 match from (omega arith) below);
  },
  whole_chains M removed (x + 1) xs (record {
    rising = λ k within. whole.rising (suc k) (omega arith);
    past_start = λ k within. let more : x < slice_index xs k = above k within in omega arith;
    matching = λ k within. whole.matching (suc k) (omega arith);
    whole = λ q k match from within below.
        let start : next ≤ x = whole.past_start 0 (omega arith) in
        let past : next ≤ q = omega arith in
        let more : x < q = omega arith in
        rest_of q x xs more (whole.whole q (suc k) match past (omega arith) below);
  }),
)
  where
    above : (k : ℕ) → k < length xs → x < slice_index xs k
    above = above_first x xs whole.rising

-- ---- and back

from_on : (M : ℕ → Type 0) (removed : List ℕ) (next : ℕ) (xs : List ℕ) → Chain M removed next xs → (k : ℕ) → k < length xs → next ≤ slice_index xs k
from_on M removed next [] chain k within = absurd (omega arith)
from_on M removed next (x ∷ xs) chain zero within = chain.0.past
from_on M removed next (x ∷ xs) chain (suc k) within =
    let more : x + 1 ≤ slice_index xs k = from_on M removed (x + 1) xs chain.1 k (omega arith) in
    let first : next ≤ x = chain.0.past in
    omega arith

rises : (M : ℕ → Type 0) (removed : List ℕ) (next : ℕ) (xs : List ℕ) → Chain M removed next xs → (k : ℕ) → suc k < length xs → slice_index xs k < slice_index xs (suc k)
rises M removed next [] chain k within = absurd (omega arith)
rises M removed next (x ∷ []) chain k within = absurd (omega arith)
rises M removed next (x ∷ y ∷ xs) chain zero within = let past : x + 1 ≤ y = chain.1.0.past in omega arith
rises M removed next (x ∷ y ∷ xs) chain (suc k) within = rises M removed (x + 1) (y ∷ xs) chain.1 k (omega arith)

match_at : (M : ℕ → Type 0) (removed : List ℕ) (next : ℕ) (xs : List ℕ) → Chain M removed next xs → (k : ℕ) → k < length xs → M (slice_index xs k)
match_at M removed next [] chain k within = absurd (omega arith)
match_at M removed next (x ∷ xs) chain zero within = chain.0.matching
match_at M removed next (x ∷ xs) chain (suc k) within = match_at M removed (x + 1) xs chain.1 k (omega arith)

three : (a b : ℕ) → (a < b) ⊎ ((a ≡ b) ⊎ (b < a))
three a b = grind arith

later : {B : Type 0} (x q : ℕ) (xs : List ℕ) → Contains xs q ⊎ B → Contains (x ∷ xs) q ⊎ B
later x q xs (inl (k, within, is)) = inl (suc k, omega arith, is)
later x q xs (inr b) = inr b

left_out : (M : ℕ → Type 0) (removed : List ℕ) (next : ℕ) (xs : List ℕ) → Chain M removed next xs
    → (q k : ℕ) → M q → next ≤ q → k < length xs → q < slice_index xs k → Contains xs q ⊎ Contains removed q
left_out M removed next [] chain q k match from within below = absurd (omega arith)
left_out M removed next (x ∷ xs) chain q zero match from within below = inr (chain.0.between q match from below)
left_out M removed next (x ∷ xs) chain q (suc k) match from within below =
    by_order (three q x) (λ past. left_out M removed (x + 1) xs chain.1 q k match past (omega arith) below)
  where
    by_order : (q < x) ⊎ ((q ≡ x) ⊎ (x < q)) → (x + 1 ≤ q → Contains xs q ⊎ Contains removed q) → Contains (x ∷ xs) q ⊎ Contains removed q
    by_order (inl less) rest = inr (chain.0.between q match from less)
    by_order (inr (inl same)) rest = inl (0, omega arith, sym same)
    by_order (inr (inr more)) rest = later x q xs (rest (omega arith))

chain_whole : (M : ℕ → Type 0) (removed : List ℕ) (next : ℕ) (xs : List ℕ) → Chain M removed next xs → Whole M removed next xs
chain_whole M removed next xs chain = record {
  rising = rises M removed next xs chain;
  past_start = from_on M removed next xs chain;
  matching = match_at M removed next xs chain;
  whole = left_out M removed next xs chain;
}

pub chain_of_whole : (setup : OrderedSetup) (log : List Logged) (removed : List ℕ) (next : ℕ) (xs : List ℕ) → IsWhole setup log removed next xs → Chain (IsMatching setup log) removed next xs
chain_of_whole setup log removed next xs whole =
    whole_chains (IsMatching setup log) removed next xs (record { rising = rising; past_start = whole.past_start; matching = whole.matching; whole = whole.whole })
  where
    rising : (k : ℕ) → suc k < length xs → slice_index xs k < slice_index xs (suc k)
    rising k within =
        let step : slice_index xs k < slice_index xs (k + 1) = whole.rising k (omega arith) in
        rw add-one at step

pub whole_of_chain : (setup : OrderedSetup) (log : List Logged) (removed : List ℕ) (next : ℕ) (xs : List ℕ) → Chain (IsMatching setup log) removed next xs → IsWhole setup log removed next xs
whole_of_chain setup log removed next xs chain =
    let whole : Whole (IsMatching setup log) removed next xs = chain_whole (IsMatching setup log) removed next xs chain in
    record {
      rising = λ k within. rw add-one (whole.rising k (omega arith));
      past_start = whole.past_start;
      matching = whole.matching;
      whole = whole.whole;
    }
