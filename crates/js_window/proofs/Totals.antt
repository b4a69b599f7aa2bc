-- What all passes hold is what is out.
use Rattle.std.proofs.Common.{◌≡◌, ℕ, suc, ◌+◌, ◌<◌, ◌≤◌, ◌==◌, Bool, true, false, cond, not, ◌&&◌, nat_lt, List, [], ◌∷◌, ◌++◌, length, set, count_by, refl, sym, ap, ap₂, ◌∙◌, subst, arith, add-zero, eq-eqb, ne_eqb, lt-ltb, le-ltb, ltb-true, ltb-false}
use Rattle.std.proofs.lemmas.List.Sums.{sum_by-cons}
use mathlib.Core.Option.{some}
use mathlib.Core.Logic.{dite}
use native.Mathlib.Decide.{ℕ_discrete}
use lib.ListN.{get_elem?}
use Rattle.crossbeam_utils.specs.Register.{Turns, Forks, Merges}
use Rattle.js_window.specs.declared.history.Call.{Call}
use Rattle.js_window.specs.declared.history.Entry.{Entry}
use Rattle.js_window.specs.declared.rule.Standing.{Standing}
use Rattle.js_window.specs.declared.rule.Standing.TheVariants.{Live, Ended, Spent}
use Rattle.js_window.specs.declared.rule.View.{View}
use Rattle.js_window.specs.History.{is_got, is_give, got_in, given_in, out_after, calls_by, IsLegal}
use Rattle.js_window.specs.Rule.{Stands, held_by, held_by_all, IsOneHistory, IsKept, OneHistoryBalances, capacity_in}
use Rattle.js_window.proofs.Histories.{among, among-split, count_by-cons, given_in-le-got_in, own-given_in-le-got_in}

abbrev below : ℕ → ℕ → Bool
below k m = nat_lt m k

below-suc : (k m : ℕ) → (below (suc k) m && not (m == k)) ≡ below k m
below-suc k m = go (below k m) refl
  where
    go : (b : Bool) → below k m ≡ b → (below (suc k) m && not (m == k)) ≡ b
    go true e = let lt : m < k = ltb-true m k e in ap₂ (λ a c. a && not c) (lt-ltb m (suc k) (omega arith)) (ne_eqb m k (λ same. omega arith))
    go false e = let le : k ≤ m = ltb-false m k e in dite (ℕ_discrete m k)
        (λ same. ap₂ (λ a c. a && not c) (lt-ltb m (suc k) (omega arith)) (eq-eqb m k same))
        (λ apart. ap (λ a. a && not (m == k)) (le-ltb m (suc k) (omega arith)))

among-suc : (k : ℕ) (test : Call → Bool) (h : List Entry) → among (below (suc k)) test h ≡ among (below k) test h + count_by (λ e. test e.call) (calls_by k h)
among-suc k test h =
    among-split (below (suc k)) k (lt-ltb k (suc k) (omega arith)) test h ∙ ap (λ (p : ℕ → Bool). among p test h + count_by (λ e. test e.call) (calls_by k h)) (λ i m. below-suc k m i)

among-none : (test : Call → Bool) (h : List Entry) → among (below 0) test h ≡ 0
among-none test [] = refl
among-none test (e ∷ h) = count_by-cons (λ e. below 0 e.caller && test e.call) e h ∙ ap₂ (λ (b : Bool) n. cond (b && test e.call) 1 0 + n) (le-ltb e.caller 0 (omega arith)) (among-none test h)

-- where each caller is below n, they are all
among-all : (n : ℕ) (test : Call → Bool) (h : List Entry) → ((m : ℕ) → n ≤ m → calls_by m h ≡ []) → among (below n) test h ≡ count_by (λ e. test e.call) h
among-all n test [] none = refl
among-all n test (e ∷ h) none =
    count_by-cons (λ e. below n e.caller && test e.call) e h
    ∙ ap₂ (λ (b : Bool) k. cond (b && test e.call) 1 0 + k) (is_below (below n e.caller) refl) (among-all n test h (λ m le. rest m (e.caller == m) (none m le)))
    ∙ sym (count_by-cons (λ e. test e.call) e h)
  where
    is_below : (b : Bool) → below n e.caller ≡ b → below n e.caller ≡ true
    is_below true is = is
    is_below false is =
        let nothing : cond (e.caller == e.caller) (e ∷ calls_by e.caller h) (calls_by e.caller h) ≡ [] = none e.caller (ltb-false e.caller n is) in
        let here : e ∷ calls_by e.caller h ≡ [] = subst (λ (b : Bool). cond b (e ∷ calls_by e.caller h) (calls_by e.caller h) ≡ []) (eq-eqb e.caller e.caller refl) nothing in
        absurd (cc)

    rest : (m : ℕ) (b : Bool) → cond b (e ∷ calls_by m h) (calls_by m h) ≡ [] → calls_by m h ≡ []
    rest m true is = absurd (cc)
    rest m false is = is

-- what one pass holds
holds_one : (log : List Entry) (capacity place : ℕ) (v : View) → IsLegal capacity log → (s : Standing) → Stands s log capacity place v
    → got_in (calls_by place log) ≡ given_in (calls_by place log) + held_by s v
holds_one log capacity place v legal Live t = let le = own-given_in-le-got_in capacity log place legal in let same = ap out_after t.own in omega arith
holds_one log capacity place v legal Ended t = let same = t.holds_none in omega arith
holds_one log capacity place v legal Spent t = ap got_in t ∙ sym (ap given_in t) ∙ sym (add-zero (given_in (calls_by place log)))

holds_from : (log : List Entry) (capacity : ℕ) → IsLegal capacity log → (k : ℕ) (views : List View) → ((j : ℕ) (v : View) → get_elem? views j ≡ some v → Stands v.standing log capacity (k + j) v)
    → among (below (k + length views)) is_got log + among (below k) is_give log ≡ among (below k) is_got log + among (below (k + length views)) is_give log + held_by_all views
holds_from log capacity legal k [] each =
    let same : k + 0 ≡ k = add-zero k in
    omega (arith, ap (λ n. among (below n) is_got log) same, ap (λ n. among (below n) is_give log) same)
holds_from log capacity legal k (v ∷ views) each =
    let far : k + suc (length views) ≡ suc k + length views = omega arith in
    let here : k + 0 ≡ k = add-zero k in
    let rest = holds_from log capacity legal (suc k) views (λ j u e. subst (λ (n : ℕ). Stands u.standing log capacity n u) (let shift : k + suc j ≡ suc k + j = omega arith in shift) (each (suc j) u e)) in
    let one = holds_one log capacity k v legal v.standing (subst (λ (n : ℕ). Stands v.standing log capacity n v) here (each 0 v refl)) in
    omega (
      arith,
      rest,
      one,
      among-suc k is_got log,
      among-suc k is_give log,
      ap (λ n. among (below n) is_got log) far,
      ap (λ n. among (below n) is_give log) far,
      sum_by-cons (λ (u : View). held_by u.standing u) v views,
    )

-- where all passes see one legal history, no permit is lost
pub one_history_balances : OneHistoryBalances
one_history_balances words views r =
    let all = holds_from r.log (capacity_in words) r.legal 0 views (λ j v e. subst (λ (n : ℕ). Stands v.standing r.log (capacity_in words) n v) (let same : j ≡ 0 + j = omega arith in same) (r.each j v e)) in
    let n : 0 + length views ≡ length views = omega arith in
    let free = r.free in
    omega (
      arith,
      all,
      free,
      given_in-le-got_in (capacity_in words) r.log r.legal,
      among-none is_got r.log,
      among-none is_give r.log,
      ap (λ k. among (below k) is_got r.log) n,
      ap (λ k. among (below k) is_give r.log) n,
      among-all (length views) is_got r.log r.callers,
      among-all (length views) is_give r.log r.callers,
    )

pub kept : (words : List ℕ) (views : List View) → IsOneHistory words views → IsKept words views
kept words views r = record { history = r; permits = one_history_balances words views r }

module _ (place : ℕ) (v : View) where
  pub turns_kept : (f : List ℕ → List ℕ) (tells : View → List ℕ → List ℕ → View → Type 0) → Turns IsOneHistory place v f tells → Turns IsKept place v f tells
  turns_kept f tells turns x views r at = let t = turns x views r.history at in (t.0, kept (f x) (set views place t.0) t.1, t.2)

  pub forks_kept : (left right : View) → Forks IsOneHistory place v left right → Forks IsKept place v left right
  forks_kept left right forks x views r at = kept x (set views place left ++ right ∷ []) (forks x views r.history at)

  pub merges_kept : (other : ℕ) (w both spent : View) → Merges IsOneHistory place v other w both spent → Merges IsKept place v other w both spent
  merges_kept other w both spent merges x views r at apart there = kept x (set (set views place both) other spent) (merges x views r.history at apart there)
