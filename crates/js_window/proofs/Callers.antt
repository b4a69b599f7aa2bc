-- From what a step tells of views to what contracts say of callers.
use Rattle.std.proofs.Common.{◌≡◌, ℕ, ◌<◌, ◌≤◌, arith, ◌∷◌, [], List, ◌++◌, Bool, true, false, length, nat_lt, if◌then◌else◌, ◌⊎◌, inl, inr, ⊎_elim, Some, refl, sym, ap, ◌∙◌, subst, append_assoc}
use Rattle.std.specs.Option.{unwrap_or}
use mathlib.Core.List.{IsPrefix}
use Rattle.atomic_table.specs.Seated.{TableId}
use Rattle.js_window.specs.declared.history.Call.{Call}
use Rattle.js_window.specs.declared.history.Call.TheVariants.{Got, Full, Give, AllFree}
use Rattle.js_window.specs.declared.history.Entry.{Entry}
use Rattle.js_window.specs.declared.rule.View.{View}
use Rattle.js_window.specs.Caller.{WindowId, Caller, Continues, Holds, Makes, Watches, Splits, Joins, held}
use Rattle.js_window.specs.History.{got_in, given_in, out_after, entry, calls_by, MayFollow}
use Rattle.js_window.specs.Rule.{number_of, capacity_of, caller_of, copy_of, newcomer, longer, joined, ComesAfter}
use Rattle.js_window.specs.Steps.{IsPass, IsUnnumbered, IsCaller, SeesMore, Adds, Opened, Named, Recalled}
use Rattle.js_window.proofs.Histories.{got_in-append, given_in-append, out_after-push-full, out_after-push-all_free, own-given_in-le-got_in}
use Rattle.js_window.proofs.Prefixes.{prefix-refl, prefix-trans}

same_number : (number capacity : ℕ) (w : View) → IsPass number capacity w → number_of w ≡ number
same_number number capacity w p = ap (λ o. unwrap_or o 0) p.bears

same_capacity : (number capacity : ℕ) (w : View) → IsPass number capacity w → capacity_of w ≡ capacity
same_capacity number capacity w p = ap (λ o. unwrap_or o 0) p.knows

-- a caller's view, by the number and the capacity that it has itself
pub own_terms : (number capacity : ℕ) (w : View) → IsCaller number capacity w → IsCaller (number_of w) (capacity_of w) w
own_terms number capacity w c = subst (λ (z : ℕ × ℕ). IsCaller z.0 z.1 w) (λ i. (sym (same_number number capacity w c.pass) i, sym (same_capacity number capacity w c.pass) i)) c

-- no caller gives more than it got
given_no_more : (v : View) → IsCaller (number_of v) (capacity_of v) v → given_in v.mine ≤ got_in v.mine
given_no_more v c = subst (λ (l : List Entry). given_in l ≤ got_in l) c.own (own-given_in-le-got_in (capacity_of v) v.seen (number_of v) c.legal)

holds_after : (n : ℕ) (call : Call) (before after : List Entry) → after ≡ before ++ entry n call ∷ [] → given_in before ≤ got_in before → given_in after ≤ got_in after → Holds call (out_after before) (out_after after)
holds_after n Got before after e b a = omega (arith, ap got_in e, ap given_in e, got_in-append before (entry n Got ∷ []), given_in-append before (entry n Got ∷ []))
holds_after n Full before after e b a = ap out_after e ∙ out_after-push-full before n
holds_after n Give before after e b a = omega (arith, ap got_in e, ap given_in e, got_in-append before (entry n Give ∷ []), given_in-append before (entry n Give ∷ []))
holds_after n (AllFree answer) before after e b a = ap out_after e ∙ out_after-push-all_free before n answer

-- a step of one pass: its view v becomes w, at the same table
module _ (t u : TableId) (v w : View) (same : u ≡ t) where
  same_window : (number : ℕ) → IsPass number (capacity_of v) w → (caller_of u w).window ≡ (caller_of t v).window
  same_window number p = λ i. record { table = same i; capacity = same_capacity number (capacity_of v) w p i }

  continues : IsCaller (number_of v) (capacity_of v) w → IsPrefix v.seen w.seen → Continues (caller_of t v) (caller_of u w)
  continues c seen =
      let own = own_terms (number_of v) (capacity_of v) w c in
      record {
        window = same_window (number_of v) c.pass;
        number = same_number (number_of v) (capacity_of v) w c.pass;
        grows = seen;
        legal = own.legal;
        own = own.own;
      }

  -- a look
  watched : SeesMore (number_of v) (capacity_of v) v w → Watches (caller_of t v) (caller_of u w)
  watched s =
      let on = continues s.caller s.seen in
      record { window = on.window; number = on.number; grows = on.grows; mine = s.mine }

  -- a step that adds a call
  made : (call : Call) → IsCaller (number_of v) (capacity_of v) v → Adds (number_of v) (capacity_of v) call v w → Makes call (caller_of t v) (caller_of u w)
  made call c s =
      let e : Entry = entry (number_of v) call in
      record {
        goes_on = continues s.caller (s.between ++ e ∷ [], sym (append_assoc v.seen s.between (e ∷ [])) ∙ sym s.seen);
        before = v.seen ++ s.between;
        earlier = (s.between, refl);
        last = s.seen;
        cause = s.caller.legal.each (v.seen ++ s.between) [] e s.seen;
        mine = s.mine;
        holds = holds_after (number_of v) call v.mine w.mine s.mine (given_no_more v c) (given_no_more w (own_terms (number_of v) (capacity_of v) w s.caller));
      }

-- the same, of the caller that a pass was at the call
module _ (p : Caller) (t u : TableId) (v w : View) (is : caller_of t v ≡ p) (same : u ≡ t) where
  pub watches : SeesMore (number_of v) (capacity_of v) v w → Watches p (caller_of u w)
  watches s = subst (λ (z : Caller). Watches z (caller_of u w)) is (watched t u v w same s)

  pub makes : (call : Call) → IsCaller (number_of v) (capacity_of v) v → Adds (number_of v) (capacity_of v) call v w → Makes call p (caller_of u w)
  makes call c s = subst (λ (z : Caller). Makes call z (caller_of u w)) is (made t u v w same call c s)

-- a caller that looked on twice is the same caller
pub watches-trans : (p q r : Caller) → Watches p q → Watches q r → Watches p r
watches-trans p q r a b = record {
  window = b.window ∙ a.window;
  number = b.number ∙ a.number;
  grows = prefix-trans p.seen q.seen r.seen a.grows b.grows;
  mine = b.mine ∙ a.mine;
}

-- what a caller does after it looked on, it did
pub makes_after : (call : Call) (p q r : Caller) → Watches p q → Makes call q r → Makes call p r
makes_after call p q r a m =
    let named : entry q.number call ≡ entry p.number call = ap (λ n. entry n call) a.number in
    record {
      goes_on = record {
        window = m.goes_on.window ∙ a.window;
        number = m.goes_on.number ∙ a.number;
        grows = prefix-trans p.seen q.seen r.seen a.grows m.goes_on.grows;
        legal = m.goes_on.legal;
        own = m.goes_on.own;
      };
      before = m.before;
      earlier = prefix-trans p.seen q.seen m.before a.grows m.earlier;
      last = m.last ∙ ap (λ e. m.before ++ e ∷ []) named;
      cause = subst (λ (z : WindowId × ℕ). MayFollow z.0.capacity m.before z.1 call) (λ i. (a.window i, a.number i)) m.cause;
      mine = m.mine ∙ ap (λ l. l ++ entry q.number call ∷ []) a.mine ∙ ap (λ e. p.mine ++ e ∷ []) named;
      holds = subst (λ (l : List Entry). Holds call (out_after l) (held r)) a.mine m.holds;
    }

-- the window's table is that of its passes
pub same_table : (p : Caller) (w : WindowId) (t u : TableId) (capacity : ℕ) (v : View) → caller_of t v ≡ p → p.window ≡ w → record { table = u; capacity = capacity } ≡ w → t ≡ u
same_table p w t u capacity v is own window = ap (λ (z : Caller). z.window.table) is ∙ ap (λ (z : WindowId). z.table) (own ∙ sym window)

-- a look that gives a seat its number makes it a pass
pub numbered : (t u : TableId) (v w : View) → u ≡ t → IsUnnumbered (capacity_of v) v → Named v [] [] w → Splits (caller_of t v) (caller_of u w)
numbered t u v w same new told =
    let n = told (capacity_of v) new in
    let own = own_terms n.0 (capacity_of v) w n.2 in
    let none_made : w.mine ≡ [] = sym n.2.own ∙ n.3 in
    record {
      window = same_window t u v w same n.0 n.2.pass;
      seen = ap (λ (z : View). z.seen) n.1;
      legal = own.legal;
      mine = none_made;
      holds_none = ap out_after none_made;
      fresh = ap (λ k. calls_by k w.seen) (same_number n.0 (capacity_of v) w n.2.pass) ∙ n.3;
    }

-- its number comes after that of the pass that it was split from
pub numbered_later : (v w : View) → IsUnnumbered (capacity_of v) v → Named v [] [] w → ComesAfter v.origin (number_of w)
numbered_later v w new told =
    let n = told (capacity_of v) new in
    subst (λ k. ComesAfter v.origin k) (sym (same_number n.0 (capacity_of v) w n.2.pass)) n.4

-- the pass that a split gives, seen from the pass that was split
pub splits : (p q : Caller) (t s : TableId) (v copy : View) → caller_of t v ≡ p → s ≡ t → copy ≡ copy_of v → Splits (caller_of s copy) q → Splits p q
splits p q t s v copy is same copied new = record {
  window = new.window ∙ (λ i. record { table = same i; capacity = capacity_of (copied i) }) ∙ ap (λ (z : Caller). z.window) is;
  seen = new.seen ∙ ap (λ (z : View). z.seen) copied ∙ ap (λ (z : Caller). z.seen) is;
  legal = new.legal;
  mine = new.mine;
  holds_none = new.holds_none;
  fresh = new.fresh;
}

-- and its number is above that one's
pub splits_later : (p : Caller) (t : TableId) (v copy : View) (number : ℕ) → caller_of t v ≡ p → copy ≡ copy_of v → IsCaller (number_of v) (capacity_of v) v → ComesAfter copy.origin number → p.number < number
splits_later p t v copy number is copied c after =
    let origin : copy.origin ≡ Some (number_of v) = ap (λ (z : View). z.origin) copied ∙ c.pass.bears in
    let later : number_of v < number = subst (λ o. ComesAfter o number) origin after in
    subst (λ (z : Caller). z.number < number) is later

-- a pass that no step changed is the caller that it was
pub stays : (p : Caller) (t u : TableId) (v w : View) → caller_of t v ≡ p → IsCaller (number_of v) (capacity_of v) v → u ≡ t → w ≡ v → Continues p (caller_of u w)
stays p t u v w is c same unchanged =
    subst (λ (z : Caller × Caller). Continues z.0 z.1) (λ i. (is i, caller_of (sym same i) (sym unchanged i))) (continues t t v v refl c (prefix-refl v.seen))

pub joined_pass : (number capacity : ℕ) (v w j : View) → j ≡ joined v w → IsPass number capacity v → IsPass number capacity j
joined_pass number capacity v w j is p = subst (λ (z : View). IsPass number capacity z) (sym is) record { live = p.live; bears = p.bears; knows = p.knows }

longer_is_one : (xs ys : List Entry) → (longer xs ys ≡ xs) ⊎ (longer xs ys ≡ ys)
longer_is_one xs ys = go (nat_lt (length xs) (length ys))
  where
    go : (b : Bool) → ((if b then ys else xs) ≡ xs) ⊎ ((if b then ys else xs) ≡ ys)
    go true = inr refl
    go false = inl refl

-- the view v of one pass and the copy of the other's view w were joined to j, and a look then left it as z
pub joins : (p other : Caller) (t s u : TableId) (v w copy j z : View) → caller_of t v ≡ p → caller_of s w ≡ other → IsCaller (number_of v) (capacity_of v) v → copy ≡ copy_of w → j ≡ joined v copy → u ≡ t
    → Recalled j [] [] z → Joins p other (caller_of u z)
joins p other t s u v w copy j z is other_is c copied both same recalled =
    let told = recalled (number_of v) (capacity_of v) (joined_pass (number_of v) (capacity_of v) v copy j both c.pass) in
    let unchanged : z ≡ joined v copy = told.0 ∙ both in
    let theirs : copy.seen ≡ other.seen = ap (λ (y : View). y.seen) copied ∙ ap (λ (y : Caller). y.seen) other_is in
    let seen : z.seen ≡ longer v.seen copy.seen = ap (λ (y : View). y.seen) unchanged in
    let mine : z.mine ≡ p.mine = ap (λ (y : View). y.mine) unchanged ∙ ap (λ (y : Caller). y.mine) is in
    let first : IsPrefix v.seen z.seen = subst (λ (y : View × View). IsPrefix y.0.joined_own y.1.seen) (λ i. (both i, sym told.0 i)) told.2 in
    let second : IsPrefix copy.seen z.seen = subst (λ (y : View × View). IsPrefix y.0.joined_other y.1.seen) (λ i. (both i, sym told.0 i)) told.3 in
    record {
      goes_on = subst (λ (y : Caller). Continues y (caller_of u z)) is (continues t u v z same told.1 first);
      grows_other = subst (λ (l : List Entry). IsPrefix l z.seen) theirs second;
      one_of_both = ⊎_elim (λ e. inl (seen ∙ e ∙ ap (λ (y : Caller). y.seen) is)) (λ e. inr (seen ∙ e ∙ theirs)) (longer_is_one v.seen copy.seen);
      mine = mine;
      holds = ap out_after mine;
    }

-- the capacity that a pass knows is that of its window
pub same_capacity_known : (p : Caller) (w : WindowId) (t : TableId) (v : View) → caller_of t v ≡ p → p.window ≡ w → capacity_of v ≡ w.capacity
same_capacity_known p w t v is own = ap (λ (z : Caller). z.window.capacity) is ∙ ap (λ (z : WindowId). z.capacity) own

-- what a caller holds, its view holds
pub held_one : (p : Caller) (t : TableId) (v : View) → caller_of t v ≡ p → 0 < held p → 0 < out_after v.mine
held_one p t v is holds = subst (λ (z : Caller). 0 < held z) (sym is) holds

-- a copy for a split, and the view of a cell that was opened, have no number yet
pub copy_is_unnumbered : (v copy : View) → copy ≡ copy_of v → IsCaller (number_of v) (capacity_of v) v → IsUnnumbered (capacity_of copy) copy
copy_is_unnumbered v copy copied c = subst (λ (z : View). IsUnnumbered (capacity_of z) z) (sym copied) record { live = refl; bears_none = refl; knows = c.pass.knows }

pub opened_is_unnumbered : (capacity : ℕ) (v w : View) → v ≡ newcomer → Opened v [] (capacity ∷ capacity ∷ []) w → IsUnnumbered (capacity_of w) w
opened_is_unnumbered capacity v w first told =
    subst (λ (z : View). IsUnnumbered (capacity_of z) z) (sym (told ∙ ap (λ (z : View). record z { capacity = Some capacity }) first)) record { live = refl; bears_none = refl; knows = refl }

-- the first pass of a cell that was opened is one of its window
pub of_new_window : (q : Caller) (t u : TableId) (capacity : ℕ) (v w : View) → u ≡ t → Opened v [] (capacity ∷ capacity ∷ []) w → Splits (caller_of u w) q → q.window ≡ record { table = t; capacity = capacity }
of_new_window q t u capacity v w same told new = new.window ∙ (λ i. record { table = same i; capacity = capacity_of (told i) })
