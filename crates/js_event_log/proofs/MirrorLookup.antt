-- Entries found by their sequence, in a list whose sequences rise strictly.
use Rattle.std.proofs.Common.{◌≡◌, ℕ, zero, suc, ◌+◌, ◌<◌, ◌≤◌, ◌⊎◌, inl, inr, cond, leb, ltb, true, false, Bool, List, [], ◌∷◌, ◌++◌, length, drop, get_or, filter, fold, Some, None, refl, sym, ap, ◌∙◌, arith, take, ◌-◌, length-drop, take_all}
use Rattle.std.specs.List.{AllByRecursion, AllWithin}
use Rattle.std.proofs.lemmas.Grind.{common_steps}
use Rattle.std.specs.List.Sorted.{IsNonDecreasingBy}
use Rattle.js_base.specs.declared.message.Entry.{Entry}
use Rattle.js_event_log.specs.Mirror.{RisesFrom, entry_with, at_or_past}
use Rattle.js_event_log.specs.MirrorJoin.{headed}
use Rattle.js_event_log.proofs.MirrorOrder.{order, equal, unequal, at_most, not_at_most}

-- ---- one entry in front

pub find_here : (x : Entry) (es : List Entry) (q : ℕ) → x.sequence ≡ q → entry_with q (x ∷ es) ≡ Some x
find_here x es q h = ap (λ b. cond b (Some x) (entry_with q es)) (equal x.sequence q h)

pub find_on : (x : Entry) (es : List Entry) (q : ℕ) → (x.sequence ≡ q → ⊥) → entry_with q (x ∷ es) ≡ entry_with q es
find_on x es q h = ap (λ b. cond b (Some x) (entry_with q es)) (unequal x.sequence q h)

-- ---- rising

pub weaker : (low from : ℕ) (es : List Entry) → low ≤ from → RisesFrom from es → RisesFrom low es
weaker low from [] l h = tt
weaker low from (x ∷ es) l h = (omega (arith, h.0), h.1)

pub rises_filter : (p : Entry → Bool) (from : ℕ) (es : List Entry) → RisesFrom from es → RisesFrom from (filter p es)
rises_filter p from [] h = tt
rises_filter p from (x ∷ es) h =
    elim (p x) as (λ b. RisesFrom from (cond b (x ∷ filter p es) (filter p es)))
    [ true ↦ (h.0, rises_filter p (x.sequence + 1) es h.1) | false ↦ weaker from (x.sequence + 1) (filter p es) (omega (arith, h.0)) (rises_filter p (x.sequence + 1) es h.1) ]

-- below the first of them no entry is found
pub absent : (from : ℕ) (es : List Entry) (q : ℕ) → RisesFrom from es → q < from → entry_with q es ≡ None
absent from [] q h l = refl
absent from (x ∷ es) q h l =
    find_on x es q (λ e. absurd (omega (arith, h.0, e))) ∙ absent (x.sequence + 1) es q h.1 (omega (arith, h.0))

found_on : (x : Entry) (all es : List Entry) → RisesFrom (x.sequence + 1) es → AllByRecursion (λ (e : Entry). entry_with e.sequence all ≡ Some e) es
    → AllByRecursion (λ (e : Entry). entry_with e.sequence (x ∷ all) ≡ Some e) es
found_on x all [] h f = tt
found_on x all (y ∷ es) h f =
    (find_on x all y.sequence (λ e. absurd (omega (arith, h.0, e))) ∙ f.0, found_on x all es (weaker (x.sequence + 1) (y.sequence + 1) es (omega (arith, h.0)) h.1) f.1)

-- each entry is found by its sequence
pub each_found : (from : ℕ) (es : List Entry) → RisesFrom from es → AllByRecursion (λ (e : Entry). entry_with e.sequence es ≡ Some e) es
each_found from [] h = tt
each_found from (x ∷ es) h = (find_here x es x.sequence refl, found_on x es es h.1 (each_found (x.sequence + 1) es h.1))

-- ---- one more entry behind all

-- the last sequence, or a number where there is no entry
abbrev pub last_from : ℕ → List Entry → ℕ
last_from low es = fold (λ _ (e : Entry). e.sequence) low es

pub rises_push : (from low : ℕ) (es : List Entry) (e : Entry) → RisesFrom from es → from ≤ low + 1 → last_from low es < e.sequence → RisesFrom from (es ++ e ∷ [])
rises_push from low [] e h within above = (omega arith, tt)
rises_push from low (x ∷ es) e h within above = (h.0, rises_push (x.sequence + 1) x.sequence es e h.1 (omega arith) above)

-- ---- the last

pub last_above : (low from : ℕ) (es : List Entry) → low ≤ from → RisesFrom from es → low ≤ last_from low es
last_above low from [] l h = omega arith
last_above low from (x ∷ es) l h = let rest = last_above x.sequence (x.sequence + 1) es (omega arith) h.1 in omega (arith, h.0, rest)

-- above the last no entry is found
pub absent_above : (low from : ℕ) (es : List Entry) (q : ℕ) → RisesFrom from es → last_from low es < q → entry_with q es ≡ None
absent_above low from [] q h l = refl
absent_above low from (x ∷ es) q h l =
    let rest = last_above x.sequence (x.sequence + 1) es (omega arith) h.1 in
    find_on x es q (λ e. absurd (omega (arith, rest, e, l))) ∙ absent_above x.sequence (x.sequence + 1) es q h.1 l

last_by : (x : Entry) (es : List Entry) (e : Entry) → entry_with (last_from x.sequence es) es ≡ Some e → RisesFrom (x.sequence + 1) es
    → (x.sequence < last_from x.sequence es) ⊎ ((x.sequence ≡ last_from x.sequence es) ⊎ (last_from x.sequence es < x.sequence))
    → (e : Entry) × (entry_with (last_from x.sequence es) (x ∷ es) ≡ Some e)
last_by x es e found h (inl l) = (e, find_on x es (last_from x.sequence es) (λ s. absurd (omega (arith, l, s))) ∙ found)
last_by x es e found h (inr (inl s)) = (x, find_here x es (last_from x.sequence es) s)
last_by x es e found h (inr (inr l)) = let within = last_above x.sequence (x.sequence + 1) es (omega arith) h in absurd (omega (arith, within, l))

found_last_of : (x : Entry) (es : List Entry) → (last_from x.sequence es ≡ x.sequence) ⊎ ((e : Entry) × (entry_with (last_from x.sequence es) es ≡ Some e)) → RisesFrom (x.sequence + 1) es
    → (e : Entry) × (entry_with (last_from x.sequence es) (x ∷ es) ≡ Some e)
found_last_of x es (inl same) h = (x, find_here x es (last_from x.sequence es) (sym same))
found_last_of x es (inr k) h = last_by x es k.0 k.1 h (order x.sequence (last_from x.sequence es))

-- at the last an entry is found, unless there is none
pub found_last : (low : ℕ) (es : List Entry) (from : ℕ) → RisesFrom from es → (last_from low es ≡ low) ⊎ ((e : Entry) × (entry_with (last_from low es) es ≡ Some e))
found_last low [] from h = inl refl
found_last low (x ∷ es) from h = inr (found_last_of x es (found_last x.sequence es (x.sequence + 1) h.1) h.1)

-- ---- at or past a sequence

headed_by : (from : ℕ) (x : Entry) (es : List Entry) (q : ℕ) → RisesFrom from (x ∷ es) → headed q (at_or_past q es) ≡ entry_with q es
    → (x.sequence < q) ⊎ ((x.sequence ≡ q) ⊎ (q < x.sequence)) → headed q (at_or_past q (x ∷ es)) ≡ entry_with q (x ∷ es)
headed_by from x es q h rest (inl l) =
    ap (λ b. headed q (cond b (x ∷ at_or_past q es) (at_or_past q es))) (not_at_most q x.sequence l) ∙ rest ∙ sym (find_on x es q (λ e. absurd (omega (arith, l, e))))
headed_by from x es q h rest (inr (inl e)) =
    ap (λ b. headed q (cond b (x ∷ at_or_past q es) (at_or_past q es))) (at_most q x.sequence (omega (arith, e))) ∙ ap (λ b. cond b (Some x) None) (equal x.sequence q e) ∙ sym (find_here x es q e)
headed_by from x es q h rest (inr (inr l)) =
    ap (λ b. headed q (cond b (x ∷ at_or_past q es) (at_or_past q es))) (at_most q x.sequence (omega (arith, l))) ∙ ap (λ b. cond b (Some x) None) (unequal x.sequence q (λ e. absurd (omega (arith, l, e))))
    ∙ sym (absent x.sequence (x ∷ es) q (omega arith, h.1) l)

-- the first of the entries at or past a sequence is the one that has it, if any
pub headed_past : (from : ℕ) (es : List Entry) (q : ℕ) → RisesFrom from es → headed q (at_or_past q es) ≡ entry_with q es
headed_past from [] q h = refl
headed_past from (x ∷ es) q h = headed_by from x es q h (headed_past (x.sequence + 1) es q h.1) (order x.sequence q)

-- ---- by places

above_at : (from : ℕ) (es : List Entry) (j : ℕ) (d : Entry) → RisesFrom from es → j < length es → from ≤ (get_or es j d).sequence
above_at from [] j d h l = grind arith
above_at from (x ∷ es) zero d h l = h.0
above_at from (x ∷ es) (suc j) d h l =
    let rest : j < length es = omega (arith, l) in
    omega (arith, h.0, above_at (x.sequence + 1) es j d h.1 rest)

pub non_decreasing : (from : ℕ) (es : List Entry) → RisesFrom from es → IsNonDecreasingBy (λ (e : Entry). e.sequence) es
non_decreasing from [] h i j d le l = grind arith
non_decreasing from (x ∷ es) h zero zero d le l = omega arith
non_decreasing from (x ∷ es) h zero (suc j) d le l =
    let rest : j < length es = omega (arith, l) in
    omega (arith, above_at (x.sequence + 1) es j d h.1 rest)
non_decreasing from (x ∷ es) h (suc i) zero d le l = grind arith
non_decreasing from (x ∷ es) h (suc i) (suc j) d le l = non_decreasing (x.sequence + 1) es h.1 i j d (omega (arith, le)) (omega (arith, l))

-- ---- parted at a place

not_below : (a b : ℕ) → ltb a b ≡ false → leb b a ≡ true
not_below a b h = grind (arith, common_steps)

is_below : (a b : ℕ) → ltb a b ≡ true → leb b a ≡ false
is_below a b h = grind (arith, common_steps)

take_all_of : (n : ℕ) (es : List Entry) → length es ≤ n → take n es ≡ es
take_all_of n es h = take_all n es h

past_at : (q : ℕ) (es : List Entry) (n : ℕ) → AllWithin (λ (e : Entry). ltb e.sequence q ≡ true) es 0 n → AllWithin (λ (e : Entry). ltb e.sequence q ≡ false) es n (length es) → drop n es ≡ at_or_past q es
past_at q [] zero h k = refl
past_at q [] (suc n) h k = refl
past_at q (x ∷ es) zero h k =
    let at : ltb x.sequence q ≡ false = k 0 x (omega arith) (omega arith) in
    ap (λ ys. x ∷ ys) (past_at q es zero (λ i d a b. absurd (omega (arith, b))) (λ i d a b. k (suc i) d (omega arith) (omega (arith, b))))
    ∙ ap (λ b. cond b (x ∷ at_or_past q es) (at_or_past q es)) (sym (not_below x.sequence q at))
past_at q (x ∷ es) (suc n) h k =
    let at : ltb x.sequence q ≡ true = h 0 x (omega arith) (omega arith) in
    past_at q es n (λ i d a b. h (suc i) d (omega arith) (omega (arith, b))) (λ i d a b. k (suc i) d (omega (arith, a)) (omega (arith, b)))
    ∙ ap (λ b. cond b (x ∷ at_or_past q es) (at_or_past q es)) (sym (is_below x.sequence q at))

pub past_from : (q : ℕ) (es : List Entry) (n : ℕ) → AllWithin (λ (e : Entry). ltb e.sequence q ≡ true) es 0 n → AllWithin (λ (e : Entry). ltb e.sequence q ≡ false) es n (length es)
    → take (length es - n) (drop n es) ≡ at_or_past q es
past_from q es n h k = take_all_of (length es - n) (drop n es) (simp length-drop (omega arith)) ∙ past_at q es n h k
