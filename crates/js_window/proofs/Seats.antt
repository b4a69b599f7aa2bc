-- A split and a join of passes keep the rule.
use Rattle.std.proofs.Common.{◌≡◌, ◌≢◌, ℕ, ◌<◌, List, [], ◌∷◌, length, set, Some, refl, sym, ap, ◌∙◌, subst, inl, inr, ⊎_elim, arith, length-set, length-append}
use mathlib.Core.Option.{some, some-injective}
use mathlib.Core.List.{IsPrefix}
use mathlib.Core.Logic.{dite}
use native.Mathlib.Decide.{ℕ_discrete}
use lib.ListN.{get_elem?}
use Rattle.crossbeam_utils.specs.Register.{Forks, Merges}
use Rattle.atomic_table.proofs.Lists.{at_set, at_longer, set_here, set_else}
use Rattle.js_window.specs.declared.history.Entry.{Entry}
use Rattle.js_window.specs.declared.rule.Standing.{Standing}
use Rattle.js_window.specs.declared.rule.Standing.TheVariants.{Live}
use Rattle.js_window.specs.declared.rule.View.{View}
use Rattle.js_window.specs.History.{out_after, calls_by, IsLegal}
use Rattle.js_window.specs.Rule.{copy_of, ended, joined, spent, ComesAfter, IsLive, Stands, IsOneHistory, capacity_in}
use Rattle.js_window.specs.Steps.{IsPass}
use Rattle.js_window.proofs.Histories.{calls_by-between, calls_by-none_before, own-given_in-le-got_in}
use Rattle.js_window.proofs.Prefixes.{prefix-nil, longer_prefix, longer_whole, at_end, below_length}
use Rattle.js_window.proofs.Moves.{living, known_capacity, known_number, still_longest}

-- a copy of the view begins, with the place after all others; the view itself stays or ends
forks : (place : ℕ) (v left : View) (number capacity : ℕ) → IsPass number capacity v → left.seen ≡ v.seen
    → ((log : List Entry) (c : ℕ) → IsLegal c log → IsLive log c place v → Stands left.standing log c place left)
    → Forks IsOneHistory place v left (copy_of v)
forks place v left number capacity p same stands x views r at =
    let mine = living x views r place v at p.live in
    let positive = (known_capacity x views r place v at capacity p.live p.knows).1 in
    let is_place : number ≡ place = known_number x views r place v at number p.live p.bears in
    let here : place < length views = below_length views place v at in
    let lefts : List View = set views place left in
    let long : length lefts ≡ length views = length-set views place left in
    let top = still_longest x views r place v at left same in
    record {
      log = r.log;
      longest = (top.0, top.1, at_longer lefts (copy_of v ∷ []) top.0 top.1 top.2, top.3);
      legal = r.legal;
      free = r.free;
      each = λ j u e. ⊎_elim
          (λ (was : get_elem? lefts j ≡ some u). ⊎_elim
          (λ (t : (j ≡ place) × (left ≡ u)). subst (λ (z : ℕ × View). Stands z.1.standing r.log (capacity_in x) z.0 z.1) (λ i. (sym t.0 i, t.1 i)) (stands r.log (capacity_in x) r.legal mine))
          (λ (t : (j ≢ place) × (get_elem? views j ≡ some u)). r.each j u t.1)
          (at_set views place j left u was))
          (λ (t : (j ≡ length lefts) × (copy_of v ≡ u)). subst (λ (z : View). Stands z.standing r.log (capacity_in x) j z) t.1
          (let none : calls_by j r.log ≡ [] = r.callers j (omega arith) in
          record {
            seen = mine.seen;
            knows = mine.knows;
            bears = refl;
            after = subst (λ o. ComesAfter o j) (sym p.bears) (let later : number < j = omega (arith, t.0, is_place, here, long) in later);
            own = none;
            own_seen = calls_by-none_before j v.seen r.log mine.seen none;
            joined_own = prefix-nil v.seen;
            joined_other = prefix-nil v.seen;
          }))
          (at_end lefts (copy_of v) u j e);
      callers = λ j h. r.callers j (omega (arith, length-append lefts (copy_of v ∷ [])));
      closed = λ none. absurd (omega arith);
    }

pub copies : (place : ℕ) (v : View) (number capacity : ℕ) → IsPass number capacity v → Forks IsOneHistory place v v (copy_of v)
copies place v number capacity p = forks place v v number capacity p refl (λ log c legal mine. subst (λ (s : Standing). Stands s log c place v) (sym p.live) mine)

-- a pass that holds no permit may end
pub cuts_off : (place : ℕ) (v : View) (number capacity : ℕ) → IsPass number capacity v → out_after v.mine ≡ 0 → Forks IsOneHistory place v (ended v) (copy_of v)
cuts_off place v number capacity p holds_none = forks place v (ended v) number capacity p refl (λ log c legal mine. record {
  seen = mine.seen;
  holds_none = let le = own-given_in-le-got_in c log place legal in let none : out_after (calls_by place log) ≡ 0 = ap out_after mine.own ∙ holds_none in omega arith;
})

-- the pass that took the other in is live, and has seen what both had seen
joined_stands : (log : List Entry) (capacity place : ℕ) (v w : View) → v.standing ≡ Live → IsLive log capacity place v → IsPrefix w.seen log
    → Stands (joined v w).standing log capacity place (joined v w)
joined_stands log capacity place v w live mine theirs =
    let l = longer_prefix v.seen w.seen log mine.seen theirs in
    subst (λ (s : Standing). Stands s log capacity place (joined v w)) (sym live) record {
      seen = l.0;
      knows = mine.knows;
      bears = mine.bears;
      after = mine.after;
      own = mine.own;
      own_seen = calls_by-between place v.seen (joined v w).seen log l.1 l.0 (mine.own ∙ sym mine.own_seen) ∙ mine.own_seen;
      joined_own = l.1;
      joined_other = l.2;
    }

-- the whole history is not lost where one of the two had seen it
joined_longest : (x : List ℕ) (views : List View) (r : IsOneHistory x views) (place other : ℕ) (v w : View) → get_elem? views place ≡ some v → get_elem? views other ≡ some w → ¬ (other ≡ place)
    → IsPrefix v.seen r.log → IsPrefix w.seen r.log
    → (j : ℕ) × (u : View) × (get_elem? (set (set views place (joined v w)) other spent) j ≡ some u) × (u.seen ≡ r.log)
joined_longest x views r place other v w at there apart mine theirs =
    let both : View = joined v w in
    let boths : List View = set views place both in
    let here : get_elem? (set boths other spent) place ≡ some both = set_else boths other place spent (λ e. apart (sym e)) ∙ set_here views place both (below_length views place v at) in
    let top : (j : ℕ) × (u : View) × (get_elem? views j ≡ some u) × (u.seen ≡ r.log) = r.longest in
    let is_top : (j : ℕ) (u : View) → get_elem? views j ≡ some u → top.0 ≡ j → u.seen ≡ r.log
    = λ j u is same. ap (λ (z : View). z.seen) (some-injective _ _ (sym is ∙ ap (get_elem? views) (sym same) ∙ top.2)) ∙ top.3 in
    dite (ℕ_discrete top.0 place)
    (λ same. (place, both, here, longer_whole v.seen w.seen r.log mine theirs (inl (is_top place v at same))))
    (λ not_here. dite (ℕ_discrete top.0 other)
    (λ same. (place, both, here, longer_whole v.seen w.seen r.log mine theirs (inr (is_top other w there same))))
    (λ elsewhere. (top.0, top.1, set_else boths other top.0 spent elsewhere ∙ set_else views place top.0 both not_here ∙ top.2, top.3)))

pub takes_in : (place : ℕ) (v : View) (number capacity : ℕ) (other : ℕ) (w : View) → IsPass number capacity v → w.standing ≡ Live → w.mine ≡ []
    → Merges IsOneHistory place v other w (joined v w) spent
takes_in place v number capacity other w p other_live other_none x views r at apart there =
    let both : View = joined v w in
    let boths : List View = set views place both in
    let was : get_elem? views other ≡ some w = sym (set_else views place other both apart) ∙ there in
    let mine = living x views r place v at p.live in
    let theirs = living x views r other w was other_live in
    let positive = (known_capacity x views r place v at capacity p.live p.knows).1 in
    let stands : (j : ℕ) (u : View) → Type 0 = λ j u. Stands u.standing r.log (capacity_in x) j u in
    record {
      log = r.log;
      longest = joined_longest x views r place other v w at was apart mine.seen theirs.seen;
      legal = r.legal;
      free = r.free;
      each = λ j u e. ⊎_elim
          (λ (t : (j ≡ other) × (spent ≡ u)). subst (λ (z : ℕ × View). stands z.0 z.1) (λ i. (sym t.0 i, t.1 i)) (theirs.own ∙ other_none))
          (λ (t : (j ≢ other) × (get_elem? boths j ≡ some u)). ⊎_elim
          (λ (s : (j ≡ place) × (both ≡ u)). subst (λ (z : ℕ × View). stands z.0 z.1) (λ i. (sym s.0 i, s.1 i)) (joined_stands r.log (capacity_in x) place v w p.live mine theirs.seen))
          (λ (s : (j ≢ place) × (get_elem? views j ≡ some u)). r.each j u s.1)
          (at_set views place j both u t.1))
          (at_set boths other j spent u e);
      callers = λ j h. r.callers j (omega (arith, length-set boths other spent, length-set views place both));
      closed = λ none. absurd (omega arith);
    }
