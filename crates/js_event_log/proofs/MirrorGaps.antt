-- The gaps between entries, and that they are the holes.
use Rattle.std.proofs.Common.{◌≡◌, ℕ, ◌+◌, ◌-◌, ◌<◌, ◌≤◌, ◌⊎◌, inl, inr, cond, ltb, true, false, Bool, List, [], ◌∷◌, Some, None, sym, ◌∙◌, arith, subst}
use Rattle.std.specs.List.{AllByRecursion}
use Rattle.js_base.specs.declared.message.Entry.{Entry}
use Rattle.js_event_log.specs.Mirror.{Mirrored, RisesFrom}
use Rattle.js_event_log.specs.MirrorHoles.{IsLongest, RangesRise, LiesInOne, AreHoles}
use Rattle.js_event_log.proofs.MirrorOrder.{order, less, not_less}
use Rattle.js_event_log.proofs.MirrorLookup.{find_here, find_on, weaker, absent, last_above}
use Rattle.js_event_log.proofs.MirrorStandings.{IsGap, gap_of, hole_of}

-- the ranges between a sequence and the entries above it
abbrev pub gaps : ℕ → List Entry → List (ℕ × ℕ)
gaps last [] = []
gaps last (x ∷ es) = cond (ltb 1 (x.sequence - last)) ((last + 1, x.sequence - 1) ∷ gaps x.sequence es) (gaps x.sequence es)

-- ---- gaps before and behind the first entry

gap_before : (last : ℕ) (x : Entry) (es : List Entry) (q : ℕ) → RisesFrom (last + 1) (x ∷ es) → last < q → q < x.sequence → IsGap last (x ∷ es) q
gap_before last x es q h above below = record {
  above = above;
  within = let rest = last_above x.sequence (x.sequence + 1) es (omega arith) h.1 in omega (arith, rest, below);
  none = absent x.sequence (x ∷ es) q (omega arith, h.1) below;
}

gap_behind : (last : ℕ) (x : Entry) (es : List Entry) (q : ℕ) → RisesFrom (last + 1) (x ∷ es) → IsGap x.sequence es q → IsGap last (x ∷ es) q
gap_behind last x es q h g = record {
  above = let a = g.above in omega (arith, h.0, a);
  within = g.within;
  none = find_on x es q (λ e. let a = g.above in absurd (omega (arith, a, e))) ∙ g.none;
}

gap_parts_by : (last : ℕ) (x : Entry) (es : List Entry) (q : ℕ) → IsGap last (x ∷ es) q → (q < x.sequence) ⊎ ((q ≡ x.sequence) ⊎ (x.sequence < q)) → (q < x.sequence) ⊎ IsGap x.sequence es q
gap_parts_by last x es q g (inl l) = inl l
gap_parts_by last x es q g (inr (inl e)) = let found : None ≡ Some x = sym g.none ∙ find_here x es q (sym e) in absurd (cc)
gap_parts_by last x es q g (inr (inr l)) = inr (record { above = l; within = g.within; none = sym (find_on x es q (λ e. absurd (omega (arith, l, e)))) ∙ g.none })

gap_parts : (last : ℕ) (x : Entry) (es : List Entry) (q : ℕ) → IsGap last (x ∷ es) q → (q < x.sequence) ⊎ IsGap x.sequence es q
gap_parts last x es q g = gap_parts_by last x es q g (order q x.sequence)

-- ---- each is longest

record IsLongestGap (last : ℕ) (es : List Entry) (range : ℕ × ℕ) : Type 0 where
  pub above : last < range.0
  pub some : range.0 ≤ range.1
  pub holes : (q : ℕ) → range.0 ≤ q → q ≤ range.1 → IsGap last es q
  pub before : IsGap last es (range.0 - 1) → ⊥
  pub behind : IsGap last es (range.1 + 1) → ⊥

longest_here : (last : ℕ) (x : Entry) (es : List Entry) → RisesFrom (last + 1) (x ∷ es) → 1 < x.sequence - last → IsLongestGap last (x ∷ es) (last + 1, x.sequence - 1)
longest_here last x es h wide = record {
  above = omega arith;
  some = omega (arith, wide);
  holes = λ q a b. gap_before last x es q h (omega (arith, a)) (omega (arith, b, wide));
  before = λ g. let a = g.above in absurd (omega (arith, a));
  behind = λ g. let found : None ≡ Some x = sym g.none ∙ find_here x es (x.sequence - 1 + 1) (omega (arith, wide)) in absurd (cc);
}

longest_on : (last : ℕ) (x : Entry) (es : List Entry) (range : ℕ × ℕ) → RisesFrom (last + 1) (x ∷ es) → IsLongestGap x.sequence es range → IsLongestGap last (x ∷ es) range
longest_on last x es range h g = record {
  above = let a = g.above in omega (arith, a, h.0);
  some = g.some;
  holes = λ q a b. gap_behind last x es q h (g.holes q a b);
  before = λ k. elim (gap_parts last x es (range.0 - 1) k) [ inl l ↦ (let a = g.above in absurd (omega (arith, a, l))) | inr m ↦ g.before m ];
  behind = λ k. elim (gap_parts last x es (range.1 + 1) k) [ inl l ↦ (let a = g.above in let s = g.some in absurd (omega (arith, a, s, l))) | inr m ↦ g.behind m ];
}

longest_all : (last : ℕ) (x : Entry) (es : List Entry) (ranges : List (ℕ × ℕ)) → RisesFrom (last + 1) (x ∷ es) → AllByRecursion (IsLongestGap x.sequence es) ranges
    → AllByRecursion (IsLongestGap last (x ∷ es)) ranges
longest_all last x es [] h all = tt
longest_all last x es (range ∷ ranges) h all = (longest_on last x es range h all.0, longest_all last x es ranges h all.1)

longest_by : (last : ℕ) (x : Entry) (es : List Entry) → RisesFrom (last + 1) (x ∷ es) → AllByRecursion (IsLongestGap last (x ∷ es)) (gaps x.sequence es)
    → (1 < x.sequence - last) ⊎ (x.sequence - last ≤ 1) → AllByRecursion (IsLongestGap last (x ∷ es)) (gaps last (x ∷ es))
longest_by last x es h all (inl wide) =
    let P : Bool → Type 0 = λ b. AllByRecursion (IsLongestGap last (x ∷ es)) (cond b ((last + 1, x.sequence - 1) ∷ gaps x.sequence es) (gaps x.sequence es)) in
    subst P (sym (less 1 (x.sequence - last) wide)) (longest_here last x es h wide, all)
longest_by last x es h all (inr narrow) =
    let P : Bool → Type 0 = λ b. AllByRecursion (IsLongestGap last (x ∷ es)) (cond b ((last + 1, x.sequence - 1) ∷ gaps x.sequence es) (gaps x.sequence es)) in
    subst P (sym (not_less 1 (x.sequence - last) narrow)) all

side : (a b : ℕ) → (a < b) ⊎ (b ≤ a)
side a b = grind arith

all_longest : (last : ℕ) (es : List Entry) → RisesFrom (last + 1) es → AllByRecursion (IsLongestGap last es) (gaps last es)
all_longest last [] h = tt
all_longest last (x ∷ es) h = longest_by last x es h (longest_all last x es (gaps x.sequence es) h (all_longest x.sequence es h.1)) (side 1 (x.sequence - last))

-- ---- in order

lower : (low from : ℕ) (ranges : List (ℕ × ℕ)) → low ≤ from → RangesRise from ranges → RangesRise low ranges
lower low from [] l h = tt
lower low from (range ∷ ranges) l h = (omega (arith, l, h.0), h.1)

gaps_rise_by : (last : ℕ) (x : Entry) (es : List Entry) → RisesFrom (last + 1) (x ∷ es) → RangesRise (x.sequence + 1) (gaps x.sequence es)
    → (1 < x.sequence - last) ⊎ (x.sequence - last ≤ 1) → RangesRise (last + 1) (gaps last (x ∷ es))
gaps_rise_by last x es h rest (inl wide) =
    let P : Bool → Type 0 = λ b. RangesRise (last + 1) (cond b ((last + 1, x.sequence - 1) ∷ gaps x.sequence es) (gaps x.sequence es)) in
    subst P (sym (less 1 (x.sequence - last) wide)) (omega arith, lower (x.sequence - 1 + 1) (x.sequence + 1) (gaps x.sequence es) (omega (arith, wide)) rest)
gaps_rise_by last x es h rest (inr narrow) =
    let P : Bool → Type 0 = λ b. RangesRise (last + 1) (cond b ((last + 1, x.sequence - 1) ∷ gaps x.sequence es) (gaps x.sequence es)) in
    subst P (sym (not_less 1 (x.sequence - last) narrow)) (lower (last + 1) (x.sequence + 1) (gaps x.sequence es) (omega (arith, h.0)) rest)

gaps_rise : (last : ℕ) (es : List Entry) → RisesFrom (last + 1) es → RangesRise (last + 1) (gaps last es)
gaps_rise last [] h = tt
gaps_rise last (x ∷ es) h = gaps_rise_by last x es h (gaps_rise x.sequence es h.1) (side 1 (x.sequence - last))

-- ---- all of them

lies_behind : (last : ℕ) (x : Entry) (es : List Entry) (q : ℕ) (b : Bool) → LiesInOne q (gaps x.sequence es)
    → LiesInOne q (cond b ((last + 1, x.sequence - 1) ∷ gaps x.sequence es) (gaps x.sequence es))
lies_behind last x es q true l = inr l
lies_behind last x es q false l = l

lies_by : (last : ℕ) (x : Entry) (es : List Entry) (q : ℕ) → IsGap last (x ∷ es) q → (IsGap x.sequence es q → LiesInOne q (gaps x.sequence es)) → (q < x.sequence) ⊎ IsGap x.sequence es q
    → LiesInOne q (gaps last (x ∷ es))
lies_by last x es q g rest (inl below) =
    let P : Bool → Type 0 = λ b. LiesInOne q (cond b ((last + 1, x.sequence - 1) ∷ gaps x.sequence es) (gaps x.sequence es)) in
    let above = g.above in
    subst P (sym (less 1 (x.sequence - last) (omega (arith, above, below)))) (inl (omega (arith, above), omega (arith, below)))
lies_by last x es q g rest (inr behind) = lies_behind last x es q (ltb 1 (x.sequence - last)) (rest behind)

all_lie : (last : ℕ) (es : List Entry) (q : ℕ) → IsGap last es q → LiesInOne q (gaps last es)
all_lie last [] q g = let a = g.above in let w = g.within in absurd (omega (arith, a, w))
all_lie last (x ∷ es) q g = lies_by last x es q g (all_lie x.sequence es q) (gap_parts last x es q g)

-- ---- the holes of a mirror

longest_is : (m : Mirrored) (range : ℕ × ℕ) → 0 < m.start → IsLongestGap (m.start - 1) m.entries range → IsLongest m range
longest_is m range h g = record {
  some = g.some;
  holes = λ q a b. hole_of m q h (g.holes q a b);
  before = λ k. g.before (gap_of m (range.0 - 1) h k);
  behind = λ k. g.behind (gap_of m (range.1 + 1) h k);
}

longest_are : (m : Mirrored) (ranges : List (ℕ × ℕ)) → 0 < m.start → AllByRecursion (IsLongestGap (m.start - 1) m.entries) ranges → AllByRecursion (IsLongest m) ranges
longest_are m [] h all = tt
longest_are m (range ∷ ranges) h all = (longest_is m range h all.0, longest_are m ranges h all.1)

pub gaps_are_holes : (m : Mirrored) → 0 < m.start → RisesFrom m.start m.entries → AreHoles m (gaps (m.start - 1) m.entries)
gaps_are_holes m h rises =
    let from : RisesFrom (m.start - 1 + 1) m.entries = weaker (m.start - 1 + 1) m.start m.entries (omega (arith, h)) rises in
    record {
      longest = longest_are m (gaps (m.start - 1) m.entries) h (all_longest (m.start - 1) m.entries from);
      rising = lower 0 (m.start - 1 + 1) (gaps (m.start - 1) m.entries) (omega arith) (gaps_rise (m.start - 1) m.entries from);
      all = λ q k. all_lie (m.start - 1) m.entries q (gap_of m q h k);
    }
