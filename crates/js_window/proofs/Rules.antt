-- Each step on the cell keeps the rule, and tells what its outcome says.
use Rattle.std.proofs.Common.{◌≡◌, ◌≢◌, ℕ, zero, suc, ◌+◌, ◌<◌, ◌==◌, Bool, true, false, List, [], ◌∷◌, ◌++◌, length, Some, IsTrue, ◌↔◌, nat_eq, refl, sym, ap, ◌∙◌, subst, ⊎_elim, arith, add-zero, if◌then◌else◌, eqb-true, eq-eqb}
use mathlib.Core.Option.{some, some-ne-none, some-injective}
use mathlib.Core.Logic.{dite}
use native.Mathlib.Decide.{ℕ_discrete}
use lib.Pointwise.{pointwise, bytes_decides}
use lib.ListN.{get_elem?}
use Rattle.crossbeam_utils.specs.Register.{Turns, TurnsAt}
use Rattle.atomic_table.proofs.Lists.{at_set, set_here}
use Rattle.js_window.specs.declared.history.Call.TheVariants.{Got, Full, Give, AllFree}
use Rattle.js_window.specs.declared.history.Entry.{Entry}
use Rattle.js_window.specs.declared.rule.View.{View}
use Rattle.js_window.specs.History.{entry, out_after, calls_by}
use Rattle.js_window.specs.Rule.{newcomer, BearsPlace, Stands, IsOneHistory, free_in, capacity_in}
use Rattle.js_window.specs.Steps.{IsPass, IsUnnumbered, IsCaller, Opened, Named, Recalled, Looked, Refused, Taken, Given, AllFreeAsked}
use Rattle.js_window.proofs.Histories.{legal-nil, out_after-push-got, out_after-push-give, out_after-push-full, out_after-push-all_free}
use Rattle.js_window.proofs.Prefixes.{prefix-refl, below_length}
use Rattle.js_window.proofs.Moves.{living, known_capacity, known_number, sees, adds, recalls}

-- the rule of a closed cell
pub begins : IsOneHistory (0 ∷ 0 ∷ []) (newcomer ∷ [])
begins = record {
  log = [];
  longest = (0, newcomer, refl, refl);
  legal = legal-nil 0;
  free = refl;
  each = each;
  callers = λ _ _. refl;
  closed = λ _. (refl, refl);
}
  where
    each : (place : ℕ) (v : View) → get_elem? (newcomer ∷ []) place ≡ some v → Stands v.standing [] 0 place v
    each zero v e = subst (λ (u : View). Stands u.standing [] 0 0 u) (some-injective _ _ e) record {
      seen = prefix-refl [];
      knows = refl;
      bears = refl;
      after = tt;
      own = refl;
      own_seen = refl;
      joined_own = prefix-refl [];
      joined_other = prefix-refl [];
    }
    each (suc place) v e = absurd (some-ne-none v (sym e))

pub opens : (place capacity : ℕ) → 0 < capacity → Turns IsOneHistory place newcomer (λ _. capacity ∷ capacity ∷ []) Opened
opens place capacity positive x views r at =
    let w : View = record newcomer { capacity = Some capacity } in
    let mine = living x views r place newcomer at refl in
    let closed = r.closed mine.knows in
    let here : place < length views = below_length views place newcomer at in (
      w,
      record {
        log = [];
        longest = (place, w, set_here views place w here, refl);
        legal = legal-nil capacity;
        free = add-zero capacity;
        each = λ j u e. ⊎_elim
            (λ (t : (j ≡ place) × (w ≡ u)). subst (λ (z : View). Stands z.standing [] capacity j z) t.1 record {
              seen = prefix-refl [];
              knows = (refl, positive);
              bears = refl;
              after = tt;
              own = refl;
              own_seen = refl;
              joined_own = prefix-refl [];
              joined_other = prefix-refl [];
            })
            (λ (t : (j ≢ place) × (get_elem? views j ≡ some u)). let there : j < length views = below_length views j u t.1 in absurd (t.0 (omega arith)))
            (at_set views place j w u e);
        callers = λ _ _. refl;
        closed = λ none. absurd (omega arith);
      },
      refl,
    )

pub names : (place : ℕ) (v : View) (capacity : ℕ) → IsUnnumbered capacity v → Turns IsOneHistory place v (λ x. x) Named
names place v capacity new x views r at =
    let w : View = record v { number = Some place } in
    let mine = living x views r place v at new.live in
    let none_made : v.mine ≡ [] = subst (λ o. BearsPlace o place v.mine) new.bears_none mine.bears in
    let cap = known_capacity x views r place v at in
    let t = recalls x views r place v at w new.live refl refl refl refl refl refl new.live capacity new.knows refl in (
      w,
      t.0,
      λ c told. (
        place,
        refl,
        subst (λ (z : ℕ). IsCaller place z w) ((cap capacity new.live new.knows).0 ∙ sym (cap c told.live told.knows).0) t.1,
        mine.own_seen ∙ none_made,
        mine.after,
      ),
    )

pub recalling : (place : ℕ) (v : View) (number capacity : ℕ) → IsPass number capacity v → Turns IsOneHistory place v (λ x. x) Recalled
recalling place v number capacity p x views r at =
    let mine = living x views r place v at p.live in
    let cap = known_capacity x views r place v at in
    let is_place : number ≡ place = known_number x views r place v at number p.live p.bears in
    let t = recalls x views r place v at v p.live refl refl refl refl refl refl p.live capacity p.knows (p.bears ∙ ap Some is_place) in (
      v,
      t.0,
      λ n c q. (
        refl,
        subst (λ (z : ℕ × ℕ). IsCaller z.0 z.1 v)
            (λ i. (sym (known_number x views r place v at n q.live q.bears) i, ((cap capacity p.live p.knows).0 ∙ sym (cap c q.live q.knows).0) i)) t.1,
        mine.joined_own,
        mine.joined_other,
      ),
    )

pub looks : (place : ℕ) (v : View) (number capacity : ℕ) → IsPass number capacity v → Turns IsOneHistory place v (λ x. x) Looked
looks place v number capacity p x views r at = sees x views r place v at number capacity p

pub refuses : (place : ℕ) (v : View) (number capacity : ℕ) → IsPass number capacity v → Turns IsOneHistory place v (λ x. x) Refused
refuses place v number capacity p x views r at =
    let free = r.free in
    dite (ℕ_discrete (free_in x) 0)
    (λ none. let t = adds x views r place v at x number capacity Full p (omega arith) refl (omega (arith, out_after-push-full r.log place)) in
    (t.0, t.1, λ n c q. ((λ _. (t.2 n c q).0), (λ some_free. absurd (omega arith)), (t.2 n c q).1)))
    (λ some_free. let t = sees x views r place v at number capacity p in (t.0, t.1, λ n c q. ((λ none. absurd (some_free none)), (λ _. (t.2 n c q).0), (t.2 n c q).1)))

-- an exchange is the step that was wanted, or a look
exchanges : (place : ℕ) (v : View) (current new : List ℕ) (tells : View → List ℕ → List ℕ → View → Type 0)
    → TurnsAt IsOneHistory place v current new tells → ((x : List ℕ) → TurnsAt IsOneHistory place v x x tells)
    → Turns IsOneHistory place v (λ x. if pointwise nat_eq x current then new else x) tells
exchanges place v current new tells hit miss x = go (pointwise nat_eq x current) refl
  where
    go : (b : Bool) → pointwise nat_eq x current ≡ b → TurnsAt IsOneHistory place v x (if b then new else x) tells
    go true e = subst (λ (z : List ℕ). TurnsAt IsOneHistory place v z new tells) (sym ((bytes_decides x current).0 e)) hit
    go false e = miss x

pub takes : (place : ℕ) (v : View) (number capacity : ℕ) (current new : List ℕ) → IsPass number capacity v
    → free_in current ≡ free_in new + 1 → capacity_in new ≡ capacity_in current
    → Turns IsOneHistory place v (λ x. if pointwise nat_eq x current then new else x) Taken
takes place v number capacity current new p falls same =
    exchanges place v current new Taken
    (λ views r at.
    let free = r.free in
    let rises : out_after (r.log ++ entry place Got ∷ []) ≡ out_after r.log + 1 = out_after-push-got (capacity_in current) r.log place r.legal in
    let t = adds current views r place v at new number capacity Got p (omega arith) same (omega arith) in
    (t.0, t.1, λ n c q. ((λ _. (t.2 n c q).0), λ stays. absurd (omega arith))))
    (λ x views r at. let t = sees x views r place v at number capacity p in (t.0, t.1, λ n c q. ((λ went. absurd (omega arith)), λ _. (t.2 n c q).0)))

pub gives : (place : ℕ) (v : View) (number capacity : ℕ) (current new : List ℕ) → IsPass number capacity v → 0 < out_after v.mine
    → free_in current + 1 ≡ free_in new → capacity_in new ≡ capacity_in current
    → Turns IsOneHistory place v (λ x. if pointwise nat_eq x current then new else x) Given
gives place v number capacity current new p has_one rises same =
    exchanges place v current new Given
    (λ views r at.
    let free = r.free in
    let may : 0 < out_after (calls_by place r.log) = subst (λ (l : List Entry). 0 < out_after l) (sym (living current views r place v at p.live).own) has_one in
    let falls : out_after (r.log ++ entry place Give ∷ []) + 1 ≡ out_after r.log = out_after-push-give (capacity_in current) r.log place r.legal may in
    let t = adds current views r place v at new number capacity Give p may same (omega arith) in
    (t.0, t.1, λ n c q. ((λ _. (t.2 n c q).0), λ stays. absurd (omega arith))))
    (λ x views r at. let t = sees x views r place v at number capacity p in (t.0, t.1, λ n c q. ((λ went. absurd (omega arith)), λ _. (t.2 n c q).0)))

pub asks_all_free : (place : ℕ) (v : View) (number capacity : ℕ) → IsPass number capacity v → Turns IsOneHistory place v (λ x. x) AllFreeAsked
asks_all_free place v number capacity p x views r at =
    let free = r.free in
    let answer : Bool = free_in x == capacity_in x in
    let may : IsTrue answer ↔ (out_after r.log ≡ 0) = ((λ yes. let e : free_in x ≡ capacity_in x = eqb-true _ _ yes in omega arith), (λ none. eq-eqb _ _ (omega arith))) in
    let t = adds x views r place v at x number capacity (AllFree answer) p may refl (omega (arith, out_after-push-all_free r.log place answer)) in
    (t.0, t.1, λ n c q. (t.2 n c q).0)
