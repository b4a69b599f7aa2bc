-- Lists of entries whose sequences rise strictly.
use Rattle.std.proofs.Common.{◌≡◌, ℕ, ◌<◌, List, [], ◌∷◌, ◌++◌, length, take, drop, get_or, zero, suc, Bool, true, false, refl, ap, arith, filter, leb, ltb}
use Rattle.std.proofs.lemmas.Grind.{common_steps}
use Rattle.std.specs.Prelude.{fold}
use Rattle.std.specs.List.{AllWithin}
use Rattle.std.specs.List.Sorted.{IsNonDecreasingBy}
use Rattle.js_base.specs.declared.message.Entry.{Entry}
use Rattle.js_event_log.specs.Projection.{RisesAbove, last_sequence}

abbrev last_from : ℕ → List Entry → ℕ
last_from low es = fold (λ _ (e : Entry). e.sequence) low es

-- one more entry above the last
rises_push_from : (low : ℕ) (es : List Entry) (e : Entry) → RisesAbove low es → last_from low es < e.sequence → RisesAbove low (es ++ e ∷ [])
rises_push_from low [] e h above = (above, tt)
rises_push_from low (x ∷ es) e h above = (h.0, rises_push_from x.sequence es e h.1 above)

pub rises_push : (es : List Entry) (e : Entry) → RisesAbove 0 es → last_sequence es < e.sequence → RisesAbove 0 (es ++ e ∷ [])
rises_push es e h above = rises_push_from 0 es e h above

-- each sequence is above the number
above_at : (low : ℕ) (es : List Entry) (j : ℕ) (d : Entry) → RisesAbove low es → j < length es → low < (get_or es j d).sequence
above_at low [] j d h l = grind arith
above_at low (x ∷ es) zero d h l = h.0
above_at low (x ∷ es) (suc j) d h l =
    let rest : j < length es = omega (arith, l) in
    omega (arith, h.0, above_at x.sequence es j d h.1 rest)

pub non_decreasing : (low : ℕ) (es : List Entry) → RisesAbove low es → IsNonDecreasingBy (λ (e : Entry). e.sequence) es
non_decreasing low [] h i j d le l = grind arith
non_decreasing low (x ∷ es) h zero zero d le l = omega arith
non_decreasing low (x ∷ es) h zero (suc j) d le l =
    let rest : j < length es = omega (arith, l) in
    omega (arith, above_at x.sequence es j d h.1 rest)
non_decreasing low (x ∷ es) h (suc i) zero d le l = grind arith
non_decreasing low (x ∷ es) h (suc i) (suc j) d le l = non_decreasing x.sequence es h.1 i j d (omega (arith, le)) (omega (arith, l))

-- what passes before a point and fails behind it
pub filter_first : (p : Entry → Bool) (es : List Entry) (n : ℕ) → AllWithin (λ e. p e ≡ true) es 0 n → AllWithin (λ e. p e ≡ false) es n (length es) → filter p es ≡ take n es
filter_first p [] zero h k = refl
filter_first p [] (suc n) h k = refl
filter_first p (x ∷ es) zero h k =
    rw (k 0 x (omega arith) (omega arith)) (filter_first p es zero (λ i d a b. absurd (omega (arith, b))) (λ i d a b. k (suc i) d (omega arith) (omega (arith, b))))
filter_first p (x ∷ es) (suc n) h k =
    rw (h 0 x (omega arith) (omega arith)) (ap (λ ys. x ∷ ys) (filter_first p es n (λ i d a b. h (suc i) d (omega arith) (omega (arith, b))) (λ i d a b. k (suc i) d (omega (arith, a)) (omega (arith, b)))))

-- what fails before a point and passes behind it
pub filter_rest : (p : Entry → Bool) (es : List Entry) (n : ℕ) → AllWithin (λ e. p e ≡ false) es 0 n → AllWithin (λ e. p e ≡ true) es n (length es) → filter p es ≡ drop n es
filter_rest p [] zero h k = refl
filter_rest p [] (suc n) h k = refl
filter_rest p (x ∷ es) zero h k =
    rw (k 0 x (omega arith) (omega arith)) (ap (λ ys. x ∷ ys) (filter_rest p es zero (λ i d a b. absurd (omega (arith, b))) (λ i d a b. k (suc i) d (omega arith) (omega (arith, b)))))
filter_rest p (x ∷ es) (suc n) h k =
    rw (h 0 x (omega arith) (omega arith)) (filter_rest p es n (λ i d a b. h (suc i) d (omega arith) (omega (arith, b))) (λ i d a b. k (suc i) d (omega (arith, a)) (omega (arith, b))))

-- the two tests of a sequence
pub not_above : (a b : ℕ) → leb a b ≡ true → ltb b a ≡ false
not_above a b h = grind (arith, common_steps)

pub above : (a b : ℕ) → leb a b ≡ false → ltb b a ≡ true
above a b h = grind (arith, common_steps)
