-- A pass over two lists: where it stands in each.
use Rattle.std.proofs.Common.{◌≡◌, ℕ, ◌+◌, ◌<◌, ◌≤◌, ◌⊎◌, inl, inr, cond, not, ltb, true, false, Bool, List, [], ◌∷◌, ◌++◌, Option, Some, None, is_some, length, get_or, drop, suc, drop-cons, drop_of_length-le, add-one, refl, sym, ap, ◌∙◌, arith, subst, append_assoc}
use Rattle.std.specs.List.{AllByRecursion}
use Rattle.js_base.specs.declared.message.Entry.{Entry}
use Rattle.js_event_log.specs.Mirror.{RisesFrom, entry_with}
use Rattle.js_event_log.specs.MirrorMerge.{IsConflict, Agree, IsFirstConflict, IsOther}
use Rattle.js_event_log.specs.MirrorJoin.{headed, behind_below, lacked, lacking}
use Rattle.js_event_log.proofs.MirrorOrder.{order, equal, unequal, less, not_less}
use Rattle.js_event_log.proofs.MirrorLookup.{find_here, find_on, weaker, absent, each_found}

-- ---- behind those below a sequence

skip_by : (x : Entry) (es : List Entry) (q p : ℕ) → q ≤ p → entry_with p (behind_below q es) ≡ entry_with p es
    → (x.sequence < q) ⊎ (q ≤ x.sequence) → entry_with p (behind_below q (x ∷ es)) ≡ entry_with p (x ∷ es)
skip_by x es q p l rest (inl below) =
    ap (λ b. entry_with p (cond b (behind_below q es) (x ∷ es))) (less x.sequence q below) ∙ rest ∙ sym (find_on x es p (λ e. absurd (omega (arith, e))))
skip_by x es q p l rest (inr past) = ap (λ b. entry_with p (cond b (behind_below q es) (x ∷ es))) (not_less x.sequence q past)

side : (a b : ℕ) → (a < b) ⊎ (b ≤ a)
side a b = grind arith

-- what stands at or past the sequence is still found
pub found_behind : (es : List Entry) (q p : ℕ) → q ≤ p → entry_with p (behind_below q es) ≡ entry_with p es
found_behind [] q p l = refl
found_behind (x ∷ es) q p l = skip_by x es q p l (found_behind es q p l) (side x.sequence q)

pub rises_behind : (from : ℕ) (es : List Entry) (q : ℕ) → RisesFrom from es → RisesFrom from (behind_below q es)
rises_behind from [] q h = tt
rises_behind from (x ∷ es) q h =
    elim (ltb x.sequence q) as (λ b. RisesFrom from (cond b (behind_below q es) (x ∷ es)))
    [ true ↦ weaker from (x.sequence + 1) (behind_below q es) (omega (arith, h.0)) (rises_behind (x.sequence + 1) es q h.1) | false ↦ h ]

headed_by : (from : ℕ) (x : Entry) (es : List Entry) (q : ℕ) → RisesFrom from (x ∷ es) → headed q (behind_below q es) ≡ entry_with q es
    → (x.sequence < q) ⊎ ((x.sequence ≡ q) ⊎ (q < x.sequence)) → headed q (behind_below q (x ∷ es)) ≡ entry_with q (x ∷ es)
headed_by from x es q h rest (inl l) =
    ap (λ b. headed q (cond b (behind_below q es) (x ∷ es))) (less x.sequence q l) ∙ rest ∙ sym (find_on x es q (λ e. absurd (omega (arith, l, e))))
headed_by from x es q h rest (inr (inl e)) =
    ap (λ b. headed q (cond b (behind_below q es) (x ∷ es))) (not_less x.sequence q (omega (arith, e))) ∙ ap (λ b. cond b (Some x) None) (equal x.sequence q e) ∙ sym (find_here x es q e)
headed_by from x es q h rest (inr (inr l)) =
    ap (λ b. headed q (cond b (behind_below q es) (x ∷ es))) (not_less x.sequence q (omega (arith, l))) ∙ ap (λ b. cond b (Some x) None) (unequal x.sequence q (λ e. absurd (omega (arith, l, e))))
    ∙ sym (absent x.sequence (x ∷ es) q (omega arith, h.1) l)

headed_behind : (from : ℕ) (es : List Entry) (q : ℕ) → RisesFrom from es → headed q (behind_below q es) ≡ entry_with q es
headed_behind from [] q h = refl
headed_behind from (x ∷ es) q h = headed_by from x es q h (headed_behind (x.sequence + 1) es q h.1) (order x.sequence q)

-- ---- a pass

-- of one list some entries were skipped, and of the other some are left, which the rest of the first has as all of it does
pub record IsPassing (one rest left : List Entry) : Type 0 where
  pub rest_rises : RisesFrom 0 rest
  pub left_rises : RisesFrom 0 left
  pub same : AllByRecursion (λ (e : Entry). entry_with e.sequence rest ≡ entry_with e.sequence one) left

same_all : (one left : List Entry) → AllByRecursion (λ (e : Entry). entry_with e.sequence one ≡ entry_with e.sequence one) left
same_all one [] = tt
same_all one (x ∷ left) = (refl, same_all one left)

pub pass_begins : (one left : List Entry) → RisesFrom 0 one → RisesFrom 0 left → IsPassing one one left
pass_begins one left h k = record { rest_rises = h; left_rises = k; same = same_all one left }

same_on : (one rest left : List Entry) (q : ℕ) → RisesFrom (q + 1) left → AllByRecursion (λ (e : Entry). entry_with e.sequence rest ≡ entry_with e.sequence one) left
    → AllByRecursion (λ (e : Entry). entry_with e.sequence (behind_below q rest) ≡ entry_with e.sequence one) left
same_on one rest [] q h s = tt
same_on one rest (y ∷ left) q h s =
    (found_behind rest q y.sequence (omega (arith, h.0)) ∙ s.0, same_on one rest left q (weaker (q + 1) (y.sequence + 1) left (omega (arith, h.0)) h.1) s.1)

pub pass_goes_on : (one rest : List Entry) (x : Entry) (left : List Entry) → IsPassing one rest (x ∷ left) → IsPassing one (behind_below x.sequence rest) left
pass_goes_on one rest x left p = record {
  rest_rises = rises_behind 0 rest x.sequence p.rest_rises;
  left_rises = weaker 0 (x.sequence + 1) left (omega arith) p.left_rises.1;
  same = same_on one rest left x.sequence p.left_rises.1 p.same.1;
}

-- the entry that the first list has at the sequence of the other's next
pub pass_finds : (one rest : List Entry) (x : Entry) (left : List Entry) → IsPassing one rest (x ∷ left) → headed x.sequence (behind_below x.sequence rest) ≡ entry_with x.sequence one
pass_finds one rest x left p = headed_behind 0 rest x.sequence p.rest_rises ∙ p.same.0

-- ---- conflicts

-- what is left of the other list is found in it, and has all conflicts
pub record IsSearching (one other left : List Entry) : Type 0 where
  pub found : AllByRecursion (λ (e : Entry). entry_with e.sequence other ≡ Some e) left
  pub conflicts : (q : ℕ) → IsConflict one other q → IsConflict one left q

pub search_begins : (one other : List Entry) → RisesFrom 0 other → IsSearching one other other
search_begins one other h = record { found = each_found 0 other h; conflicts = λ q k. k }

other_than : (o : Option Entry) (x here there : Entry) → o ≡ Some here → there ≡ x → (here ≡ there → ⊥) → IsOther o x
other_than None x here there e s n = absurd (cc)
other_than (Some y) x here there e s n = λ same. n (cc)

moved : (one left : List Entry) (x : Entry) (q : ℕ) → IsConflict one (x ∷ left) q → (x.sequence ≡ q → ⊥) → IsConflict one left q
moved one left x q k differs = record { here = k.here; there = k.there; in_one = k.in_one; in_other = sym (find_on x left q differs) ∙ k.in_other; unequal = k.unequal }

conflict_on : (one left : List Entry) (x : Entry) (q : ℕ) → (IsOther (entry_with x.sequence one) x → ⊥) → IsConflict one (x ∷ left) q
    → (x.sequence < q) ⊎ ((x.sequence ≡ q) ⊎ (q < x.sequence)) → IsConflict one left q
conflict_on one left x q agrees k (inl l) = moved one left x q k (λ e. absurd (omega (arith, l, e)))
conflict_on one left x q agrees k (inr (inl e)) =
    let same : Some k.there ≡ Some x = sym k.in_other ∙ find_here x left q e in
    let here : entry_with x.sequence one ≡ Some k.here = ap (λ n. entry_with n one) e ∙ k.in_one in
    absurd (agrees (other_than (entry_with x.sequence one) x k.here k.there here (cc) k.unequal))
conflict_on one left x q agrees k (inr (inr l)) = moved one left x q k (λ e. absurd (omega (arith, l, e)))

pub search_goes_on : (one other : List Entry) (x : Entry) (left : List Entry) → IsSearching one other (x ∷ left) → (IsOther (entry_with x.sequence one) x → ⊥) → IsSearching one other left
search_goes_on one other x left s agrees = record {
  found = s.found.1;
  conflicts = λ q k. conflict_on one left x q agrees (s.conflicts q k) (order x.sequence q);
}

pub search_ends : (one other : List Entry) → IsSearching one other [] → Agree one other
search_ends one other s q k = let none = (s.conflicts q k).in_other in absurd (cc)

conflict_of : (o : Option Entry) (one other : List Entry) (x : Entry) → entry_with x.sequence one ≡ o → entry_with x.sequence other ≡ Some x → IsOther o x → IsConflict one other x.sequence
conflict_of None one other x e f n = absurd n
conflict_of (Some y) one other x e f n = record { here = y; there = x; in_one = e; in_other = f; unequal = n }

pub search_finds : (one other : List Entry) (x : Entry) (left : List Entry) → RisesFrom 0 (x ∷ left) → IsSearching one other (x ∷ left) → IsOther (entry_with x.sequence one) x
    → IsFirstConflict one other x.sequence
search_finds one other x left h s differs = record {
  conflict = conflict_of (entry_with x.sequence one) one other x refl s.found.0 differs;
  first = λ below l k. let there = (s.conflicts below k).in_other in
      let none : entry_with below (x ∷ left) ≡ None = absent x.sequence (x ∷ left) below (omega arith, h.1) l in absurd (cc);
}

-- ---- what is lacking

lacks_by : (o : Option Entry) (x : Entry) (rest : List Entry) → cond (not (is_some o)) (x ∷ rest) rest ≡ lacked o x ++ rest
lacks_by None x rest = refl
lacks_by (Some y) x rest = refl

pub lacks : (one : List Entry) (x : Entry) (left : List Entry) → lacking one (x ∷ left) ≡ lacked (entry_with x.sequence one) x ++ lacking one left
lacks one x left = lacks_by (entry_with x.sequence one) x (lacking one left)

-- ---- one step of a pass

pub skips : (q : ℕ) (x : Entry) (es all : List Entry) → all ≡ x ∷ es → x.sequence < q → behind_below q all ≡ behind_below q es
skips q x es all is below = ap (behind_below q) is ∙ ap (λ (b : Bool). cond b (behind_below q es) (x ∷ es)) (less x.sequence q below)

pub stops : (q : ℕ) (x : Entry) (es all : List Entry) → all ≡ x ∷ es → q ≤ x.sequence → behind_below q all ≡ all
stops q x es all is past = ap (behind_below q) is ∙ ap (λ (b : Bool). cond b (behind_below q es) (x ∷ es)) (not_less x.sequence q past) ∙ sym is

pub ends : (q : ℕ) (all : List Entry) → length all ≡ 0 → behind_below q all ≡ all
ends q [] none = refl
ends q (x ∷ es) none = absurd (omega arith)

-- the entry at a place, and those behind it
pub at_place : (es : List Entry) (i : ℕ) (e : Entry) → e ≡ get_or es i e → i < length es → drop i es ≡ e ∷ drop (i + 1) es
at_place es i e is within = rw add-one (drop-cons es i e within ∙ ap (λ (x : Entry). x ∷ drop (suc i) es) (sym is))

pub at_end : (es : List Entry) (i : ℕ) → length es ≤ i → drop i es ≡ []
at_end es i past = drop_of_length-le es past

-- ---- at a place of the other list

pub pass_at : (one rest other : List Entry) (i : ℕ) (e : Entry) → e ≡ get_or other i e → i < length other → IsPassing one rest (drop i other) → IsPassing one rest (e ∷ drop (i + 1) other)
pass_at one rest other i e is within pass = subst (λ (left : List Entry). IsPassing one rest left) (at_place other i e is within) pass

pub pass_more : (one rest rest_now other : List Entry) (i : ℕ) (e : Entry) → e ≡ get_or other i e → i < length other → IsPassing one rest (drop i other) → rest_now ≡ behind_below e.sequence rest
    → IsPassing one rest_now (drop (i + 1) other)
pass_more one rest rest_now other i e is within pass behind =
    subst (λ (r : List Entry). IsPassing one r (drop (i + 1) other)) (sym behind) (pass_goes_on one rest e (drop (i + 1) other) (pass_at one rest other i e is within pass))

-- what the first list has at the sequence of the entry
pub held_at : (one rest rest_now other : List Entry) (i : ℕ) (e : Entry) (o : Option Entry) → e ≡ get_or other i e → i < length other → IsPassing one rest (drop i other) → rest_now ≡ behind_below e.sequence rest
    → o ≡ headed e.sequence rest_now → o ≡ entry_with e.sequence one
held_at one rest rest_now other i e o is within pass behind found =
    found ∙ ap (headed e.sequence) behind ∙ pass_finds one rest e (drop (i + 1) other) (pass_at one rest other i e is within pass)

pub conflict_at : (one rest other : List Entry) (i : ℕ) (e : Entry) (o : Option Entry) → e ≡ get_or other i e → i < length other → IsPassing one rest (drop i other) → IsSearching one other (drop i other)
    → o ≡ entry_with e.sequence one → IsOther o e → IsFirstConflict one other e.sequence
conflict_at one rest other i e o is within pass searching held differs =
    search_finds one other e (drop (i + 1) other) (pass_at one rest other i e is within pass).left_rises
    (subst (λ (left : List Entry). IsSearching one other left) (at_place other i e is within) searching) (subst (λ (o : Option Entry). IsOther o e) held differs)

pub search_more : (one other : List Entry) (i : ℕ) (e : Entry) (o : Option Entry) → e ≡ get_or other i e → i < length other → IsSearching one other (drop i other)
    → o ≡ entry_with e.sequence one → (IsOther o e → ⊥) → IsSearching one other (drop (i + 1) other)
search_more one other i e o is within searching held agrees =
    search_goes_on one other e (drop (i + 1) other) (subst (λ (left : List Entry). IsSearching one other left) (at_place other i e is within) searching)
    (λ differs. agrees (subst (λ (o : Option Entry). IsOther o e) (sym held) differs))

pub search_all : (one other : List Entry) (i : ℕ) → length other ≤ i → IsSearching one other (drop i other) → Agree one other
search_all one other i past searching = search_ends one other (subst (λ (left : List Entry). IsSearching one other left) (at_end other i past) searching)

pub lack_more : (one other done done_now : List Entry) (i : ℕ) (e : Entry) (o : Option Entry) → e ≡ get_or other i e → i < length other → lacking one other ≡ done ++ lacking one (drop i other)
    → o ≡ entry_with e.sequence one → done_now ≡ done ++ lacked o e → lacking one other ≡ done_now ++ lacking one (drop (i + 1) other)
lack_more one other done done_now i e o is within so_far held added =
    so_far ∙ ap (λ (left : List Entry). done ++ lacking one left) (at_place other i e is within) ∙ ap (λ (es : List Entry). done ++ es) (lacks one e (drop (i + 1) other))
    ∙ ap (λ (o : Option Entry). done ++ (lacked o e ++ lacking one (drop (i + 1) other))) (sym held)
    ∙ sym (append_assoc done (lacked o e) (lacking one (drop (i + 1) other)))
    ∙ ap (λ (d : List Entry). d ++ lacking one (drop (i + 1) other)) (sym added)
