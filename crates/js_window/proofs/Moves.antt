-- How the rule goes from step to step: the history goes on by the entries of one pass, and the others stand as before.
use Rattle.std.proofs.Common.{◌≡◌, ◌≢◌, ℕ, ◌+◌, ◌<◌, ◌≤◌, List, [], ◌∷◌, ◌++◌, length, set, Option, Some, refl, sym, ap, ◌∙◌, subst, ⊎_elim, arith, length-set}
use mathlib.Core.Option.{some, some-injective}
use mathlib.Core.List.{IsPrefix}
use mathlib.Core.Logic.{dite}
use native.Mathlib.Decide.{ℕ_discrete}
use lib.ListN.{get_elem?}
use Rattle.atomic_table.proofs.Lists.{at_set, set_here, set_else}
use Rattle.js_window.specs.declared.history.Call.{Call}
use Rattle.js_window.specs.declared.history.Entry.{Entry}
use Rattle.js_window.specs.declared.rule.Standing.{Standing}
use Rattle.js_window.specs.declared.rule.Standing.TheVariants.{Live, Ended, Spent}
use Rattle.js_window.specs.declared.rule.View.{View}
use Rattle.js_window.specs.History.{entry, out_after, got_in, given_in, calls_by, MayFollow, IsLegal}
use Rattle.js_window.specs.Rule.{BearsPlace, ComesAfter, KnowsCapacity, IsLive, Stands, IsOneHistory, free_in, capacity_in}
use Rattle.js_window.specs.Steps.{IsPass, IsCaller, SeesMore, Adds, IsFree}
use Rattle.js_window.proofs.Histories.{calls_by-push-own, calls_by-push-other, legal-push, legal-prefix}
use Rattle.js_window.proofs.Prefixes.{prefix-refl, prefix-push, prefix-trans, below_length}

-- what the rule says of a view lasts while others make calls
still_stands : (s : Standing) (log later : List Entry) (capacity place : ℕ) (u : View) → IsPrefix log later → calls_by place later ≡ calls_by place log
    → Stands s log capacity place u → Stands s later capacity place u
still_stands Live log later capacity place u p same t = record {
  seen = prefix-trans u.seen log later t.seen p;
  knows = t.knows;
  bears = t.bears;
  after = t.after;
  own = same ∙ t.own;
  own_seen = t.own_seen;
  joined_own = t.joined_own;
  joined_other = t.joined_other;
}
still_stands Ended log later capacity place u p same t = record {
  seen = prefix-trans u.seen log later t.seen p;
  holds_none = subst (λ (l : List Entry). got_in l ≡ given_in l) (sym same) t.holds_none;
}
still_stands Spent log later capacity place u p same t = same ∙ t

-- the rule after a step of one pass: the history goes on by that pass's entries alone
module _ (x y : List ℕ) (views : List View) (r : IsOneHistory x views) (place : ℕ) (v w : View) (at : get_elem? views place ≡ some v) where
  moved : (log : List Entry) → IsPrefix r.log log → ((other : ℕ) → other ≢ place → calls_by other log ≡ calls_by other r.log)
      → capacity_in y ≡ capacity_in x → 0 < capacity_in x → IsLegal (capacity_in x) log → free_in y + out_after log ≡ capacity_in x
      → Stands w.standing log (capacity_in x) place w → (longest : (j : ℕ) × (u : View) × (get_elem? (set views place w) j ≡ some u) × (u.seen ≡ log)) → IsOneHistory y (set views place w)
  moved log goes_on others same positive legal free mine longest = record {
    log = log;
    longest = longest;
    legal = subst (λ (c : ℕ). IsLegal c log) (sym same) legal;
    free = free ∙ sym same;
    each = λ j u e. subst (λ (c : ℕ). Stands u.standing log c j u) (sym same)
        (⊎_elim
        (λ (t : (j ≡ place) × (w ≡ u)). subst (λ (z : ℕ × View). Stands z.1.standing log (capacity_in x) z.0 z.1) (λ i. (sym t.0 i, t.1 i)) mine)
        (λ (t : (j ≢ place) × (get_elem? views j ≡ some u)). still_stands u.standing r.log log (capacity_in x) j u goes_on (others j t.0) (r.each j u t.1))
        (at_set views place j w u e));
    callers = λ j h.
        let far : length views ≤ j = omega (arith, length-set views place w) in
        let here : place < length views = below_length views place v at in
        others j (λ e. omega arith) ∙ r.callers j far;
    closed = λ none. absurd (omega arith);
  }

-- the pass in the rule
module _ (x : List ℕ) (views : List View) (r : IsOneHistory x views) (place : ℕ) (v : View) (at : get_elem? views place ≡ some v) where
  pub living : v.standing ≡ Live → IsLive r.log (capacity_in x) place v
  living live = subst (λ (s : Standing). Stands s r.log (capacity_in x) place v) live (r.each place v at)

  pub known_capacity : (capacity : ℕ) → v.standing ≡ Live → v.capacity ≡ Some capacity → (capacity ≡ capacity_in x) × (0 < capacity_in x)
  known_capacity capacity live knows = subst (λ o. KnowsCapacity o (capacity_in x)) knows (living live).knows

  pub known_number : (number : ℕ) → v.standing ≡ Live → v.number ≡ Some number → number ≡ place
  known_number number live bears = subst (λ o. BearsPlace o place v.mine) bears (living live).bears

  -- the longest history stays where this pass has seen what it had seen
  pub still_longest : (w : View) → w.seen ≡ v.seen → (j : ℕ) × (u : View) × (get_elem? (set views place w) j ≡ some u) × (u.seen ≡ r.log)
  still_longest w same =
      let l = r.longest in
      dite (ℕ_discrete l.0 place)
      (λ here. let is : u_of l ≡ v = some-injective _ _ (sym l.2 ∙ ap (get_elem? views) here ∙ at) in (place, w, set_here views place w (below_length views place v at), same ∙ ap (λ (z : View). z.seen) (sym is) ∙ l.3))
      (λ there. (l.0, l.1, set_else views place l.0 w there ∙ l.2, l.3))
    where
      u_of : (j : ℕ) × (u : View) × (get_elem? views j ≡ some u) × (u.seen ≡ r.log) → View
      u_of t = t.1

  here_longest : (w : View) (log : List Entry) → w.seen ≡ log → (j : ℕ) × (u : View) × (get_elem? (set views place w) j ≡ some u) × (u.seen ≡ log)
  here_longest w log same = (place, w, set_here views place w (below_length views place v at), same)

  -- the pass has seen the whole history, and made no call
  pub sees : (number capacity : ℕ) → IsPass number capacity v
      → (w : View) × IsOneHistory x (set views place w) × ((n c : ℕ) → IsPass n c v → SeesMore n c v w × IsFree c x w)
  sees number capacity p =
      let mine = living p.live in
      let open_now = known_capacity capacity p.live p.knows in
      let w : View = record v { seen = r.log } in (
        w,
        moved x x views r place v w at r.log (prefix-refl r.log) (λ _ _. refl) refl open_now.1 r.legal r.free
            (subst (λ (s : Standing). Stands s r.log (capacity_in x) place w) (sym p.live) record {
              seen = prefix-refl r.log;
              knows = mine.knows;
              bears = mine.bears;
              after = mine.after;
              own = mine.own;
              own_seen = mine.own;
              joined_own = prefix-trans v.joined_own v.seen r.log mine.joined_own mine.seen;
              joined_other = prefix-trans v.joined_other v.seen r.log mine.joined_other mine.seen;
            })
            (here_longest w r.log refl),
        λ n c q.
            let cap = known_capacity c q.live q.knows in
            let at_place = known_number n q.live q.bears in (
              record {
                caller = record {
                  pass = record { live = q.live; bears = q.bears; knows = q.knows };
                  legal = subst (λ (z : ℕ). IsLegal z r.log) (sym cap.0) r.legal;
                  own = ap (λ (z : ℕ). calls_by z r.log) at_place ∙ mine.own;
                };
                seen = mine.seen;
                mine = refl;
              },
              r.free ∙ sym cap.0,
            ),
      )

  -- the pass has seen the whole history, and made the call that may follow
  pub adds : (y : List ℕ) (number capacity : ℕ) (call : Call) → IsPass number capacity v → MayFollow (capacity_in x) r.log place call → capacity_in y ≡ capacity_in x
      → free_in y + out_after (r.log ++ entry place call ∷ []) ≡ capacity_in x
      → (w : View) × IsOneHistory y (set views place w) × ((n c : ℕ) → IsPass n c v → Adds n c call v w × IsFree c y w)
  adds y number capacity call p may same free =
      let mine = living p.live in
      let open_now = known_capacity capacity p.live p.knows in
      let e : Entry = entry place call in
      let log : List Entry = r.log ++ e ∷ [] in
      let w : View = record v { seen = log; mine = v.mine ++ e ∷ [] } in
      let own : calls_by place log ≡ v.mine ++ e ∷ [] = calls_by-push-own place call r.log ∙ ap (λ l. l ++ e ∷ []) mine.own in
      let legal : IsLegal (capacity_in x) log = legal-push (capacity_in x) r.log place call r.legal may in
      let grown = prefix-push v.seen r.log (e ∷ []) mine.seen in (
        w,
        moved x y views r place v w at log (prefix-push r.log r.log (e ∷ []) (prefix-refl r.log)) (λ other apart. calls_by-push-other other place call r.log apart) same open_now.1 legal free
            (subst (λ (s : Standing). Stands s log (capacity_in x) place w) (sym p.live) record {
              seen = prefix-refl log;
              knows = mine.knows;
              bears = elim_bears v.number (v.mine ++ e ∷ []) number p.bears (known_number number p.live p.bears);
              after = mine.after;
              own = own;
              own_seen = own;
              joined_own = prefix-trans v.joined_own v.seen log mine.joined_own grown;
              joined_other = prefix-trans v.joined_other v.seen log mine.joined_other grown;
            })
            (here_longest w log refl),
        λ n c q.
            let cap = known_capacity c q.live q.knows in
            let at_place = known_number n q.live q.bears in (
              record {
                caller = record {
                  pass = record { live = q.live; bears = q.bears; knows = q.knows };
                  legal = subst (λ (z : ℕ). IsLegal z log) (sym cap.0) legal;
                  own = ap (λ (z : ℕ). calls_by z log) at_place ∙ own;
                };
                between = mine.seen.0;
                seen = ap (λ (l : List Entry). l ++ e ∷ []) (sym mine.seen.1) ∙ ap (λ (z : ℕ). (v.seen ++ mine.seen.0) ++ entry z call ∷ []) (sym at_place);
                mine = ap (λ (z : ℕ). v.mine ++ entry z call ∷ []) (sym at_place);
              },
              free ∙ sym cap.0,
            ),
      )
    where
      elim_bears : (o : Option ℕ) (l : List Entry) (n : ℕ) → o ≡ Some n → n ≡ place → BearsPlace o place l
      elim_bears o l n is e = subst (λ (z : Option ℕ). BearsPlace z place l) (sym is) e

  -- what the pass had seen is a beginning of the history, and so are the lists that it keeps from a join
  pub recalls : (w : View) → w.standing ≡ Live → w.origin ≡ v.origin → w.capacity ≡ v.capacity → w.seen ≡ v.seen → w.mine ≡ v.mine → w.joined_own ≡ v.joined_own → w.joined_other ≡ v.joined_other → v.standing ≡ Live
      → (capacity : ℕ) → v.capacity ≡ Some capacity → w.number ≡ Some place → IsOneHistory x (set views place w) × IsCaller place capacity w
  recalls w w_live w_origin w_capacity w_seen w_mine w_own w_other live capacity knows bears =
      let mine = living live in
      let open_now = known_capacity capacity live knows in
      let seen : IsPrefix w.seen r.log = subst (λ l. IsPrefix l r.log) (sym w_seen) mine.seen in
      let own_seen : calls_by place w.seen ≡ w.mine = ap (calls_by place) w_seen ∙ mine.own_seen ∙ sym w_mine in (
        moved x x views r place v w at r.log (prefix-refl r.log) (λ _ _. refl) refl open_now.1 r.legal r.free
            (subst (λ (s : Standing). Stands s r.log (capacity_in x) place w) (sym w_live) record {
              seen = seen;
              knows = subst (λ o. KnowsCapacity o (capacity_in x)) (sym w_capacity) mine.knows;
              bears = subst (λ o. BearsPlace o place w.mine) (sym bears) refl;
              after = subst (λ o. ComesAfter o place) (sym w_origin) mine.after;
              own = mine.own ∙ sym w_mine;
              own_seen = own_seen;
              joined_own = subst (λ (z : List Entry × List Entry). IsPrefix z.0 z.1) (λ i. (sym w_own i, sym w_seen i)) mine.joined_own;
              joined_other = subst (λ (z : List Entry × List Entry). IsPrefix z.0 z.1) (λ i. (sym w_other i, sym w_seen i)) mine.joined_other;
            })
            (still_longest w w_seen),
        record {
          pass = record { live = w_live; bears = bears; knows = w_capacity ∙ knows };
          legal = legal-prefix capacity w.seen r.log seen (subst (λ (c : ℕ). IsLegal c r.log) (sym open_now.0) r.legal);
          own = own_seen;
        },
      )
