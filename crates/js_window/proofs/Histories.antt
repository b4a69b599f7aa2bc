-- What one entry more changes in a history, and that a legal history gives back no more than it got.
use Rattle.std.proofs.Common.{◌≡◌, ◌≢◌, ◌⊎◌, ℕ, ◌+◌, ◌<◌, ◌≤◌, ◌==◌, Bool, true, false, cond, not, ◌&&◌, List, [], ◌∷◌, ◌++◌, length, count_by, filter, refl, sym, ap, ap₂, ◌∙◌, subst, inl, inr, arith, append_assoc, append-nil, zero-add, eq-eqb, ne_eqb, eqb-true, length-append}
use Rattle.std.proofs.lemmas.List.Elements.{filter-append}
use Rattle.std.proofs.lemmas.List.Sums.{length-filter}
use mathlib.Core.List.{IsPrefix}
use Rattle.js_window.specs.declared.history.Call.{Call}
use Rattle.js_window.specs.declared.history.Call.TheVariants.{Got, Full, Give, AllFree}
use Rattle.js_window.specs.declared.history.Entry.{Entry}
use Rattle.js_window.specs.History.{entry, is_got, is_give, got_in, given_in, out_after, calls_by, MayFollow, IsLegal}

module _ {X : Type 0} (p : X → Bool) where
  pub count_by-append : (xs ys : List X) → count_by p (xs ++ ys) ≡ count_by p xs + count_by p ys
  count_by-append xs ys =
      sym (length-filter p (xs ++ ys)) ∙ ap length (filter-append p xs ys) ∙ length-append (filter p xs) (filter p ys) ∙ ap₂ (λ a b. a + b) (length-filter p xs) (length-filter p ys)

  pub count_by-cons : (x : X) (xs : List X) → count_by p (x ∷ xs) ≡ cond (p x) 1 0 + count_by p xs
  count_by-cons x xs = sym (length-filter p (x ∷ xs)) ∙ one (p x) ∙ ap (λ k. cond (p x) 1 0 + k) (length-filter p xs)
    where
      one : (b : Bool) → length (cond b (x ∷ filter p xs) (filter p xs)) ≡ cond b 1 0 + length (filter p xs)
      one true = omega arith
      one false = omega arith

pub got_in-append : (xs ys : List Entry) → got_in (xs ++ ys) ≡ got_in xs + got_in ys
got_in-append xs ys = count_by-append (λ e. is_got e.call) xs ys

pub given_in-append : (xs ys : List Entry) → given_in (xs ++ ys) ≡ given_in xs + given_in ys
given_in-append xs ys = count_by-append (λ e. is_give e.call) xs ys

pub calls_by-append : (n : ℕ) (xs ys : List Entry) → calls_by n (xs ++ ys) ≡ calls_by n xs ++ calls_by n ys
calls_by-append n xs ys = filter-append (λ e. e.caller == n) xs ys

pub calls_by-push-own : (n : ℕ) (c : Call) (h : List Entry) → calls_by n (h ++ entry n c ∷ []) ≡ calls_by n h ++ entry n c ∷ []
calls_by-push-own n c h = calls_by-append n h (entry n c ∷ []) ∙ ap (λ b. calls_by n h ++ cond b (entry n c ∷ []) []) (eq-eqb n n refl)

pub calls_by-push-other : (n m : ℕ) (c : Call) (h : List Entry) → n ≢ m → calls_by n (h ++ entry m c ∷ []) ≡ calls_by n h
calls_by-push-other n m c h apart =
    calls_by-append n h (entry m c ∷ []) ∙ ap (λ b. calls_by n h ++ cond b (entry m c ∷ []) []) (ne_eqb m n (λ e. apart (sym e))) ∙ append-nil (calls_by n h)

-- a list that goes on ends at one entry more, or does not
snoc_cases : (h before after : List Entry) (e x : Entry) → h ++ x ∷ [] ≡ before ++ e ∷ after
    → ((h ≡ before) × (x ≡ e)) ⊎ ((rest : List Entry) × (h ≡ before ++ e ∷ rest))
snoc_cases [] [] after e x same = inl (refl, cc)
snoc_cases [] (b ∷ []) after e x same = absurd (cc)
snoc_cases [] (b ∷ c ∷ before) after e x same = absurd (cc)
snoc_cases (y ∷ h) [] after e x same = inr (h, cc)
snoc_cases (y ∷ h) (b ∷ before) after e x same =
    let tails : h ++ x ∷ [] ≡ before ++ e ∷ after = cc in
    let heads : y ≡ b = cc in
    elim (snoc_cases h before after e x tails) [
      | inl t ↦ inl (ap (λ l. y ∷ l) t.0 ∙ ap (λ z. z ∷ before) heads, t.1)
      | inr t ↦ inr (t.0, ap (λ l. y ∷ l) t.1 ∙ ap (λ z. z ∷ (before ++ e ∷ t.0)) heads)
    ]

pub legal-nil : (capacity : ℕ) → IsLegal capacity []
legal-nil capacity = record { each = none }
  where
    none : (before after : List Entry) (e : Entry) → [] ≡ before ++ e ∷ after → MayFollow capacity before e.caller e.call
    none [] after e same = absurd (cc)
    none (b ∷ before) after e same = absurd (cc)

pub legal-push : (capacity : ℕ) (h : List Entry) (n : ℕ) (c : Call) → IsLegal capacity h → MayFollow capacity h n c → IsLegal capacity (h ++ entry n c ∷ [])
legal-push capacity h n c legal may = record { each = each }
  where
    each : (before after : List Entry) (e : Entry) → h ++ entry n c ∷ [] ≡ before ++ e ∷ after → MayFollow capacity before e.caller e.call
    each before after e same =
        elim (snoc_cases h before after e (entry n c) same) [
          | inl t ↦ subst (λ (z : List Entry × Entry). MayFollow capacity z.0 z.1.caller z.1.call) (λ i. (t.0 i, t.1 i)) may
          | inr t ↦ legal.each before t.0 e t.1
        ]

pub legal-prefix : (capacity : ℕ) (xs ys : List Entry) → IsPrefix xs ys → IsLegal capacity ys → IsLegal capacity xs
legal-prefix capacity xs ys p legal = record {
  each = λ before after e same. legal.each before (after ++ p.0) e (sym p.1 ∙ ap (λ l. l ++ p.0) same ∙ append_assoc before (e ∷ after) p.0);
}

-- the entries whose caller passes the test
module _ (callers : ℕ → Bool) where
  abbrev pub among : (Call → Bool) → List Entry → ℕ
  among test h = count_by (λ e. callers e.caller && test e.call) h

  among-push : (test : Call → Bool) (h : List Entry) (x : Entry) → among test (h ++ x ∷ []) ≡ among test h + cond (callers x.caller && test x.call) 1 0
  among-push test h x =
      count_by-append (λ e. callers e.caller && test e.call) h (x ∷ []) ∙ ap (λ k. among test h + k) (zero-add (cond (callers x.caller && test x.call) 1 0))

-- the entries of one caller, and those of the others
pub among-split : (callers : ℕ → Bool) (n : ℕ) → callers n ≡ true → (test : Call → Bool) (h : List Entry)
    → among callers test h ≡ among (λ m. callers m && not (m == n)) test h + count_by (λ e. test e.call) (calls_by n h)
among-split callers n passes test [] = refl
among-split callers n passes test (e ∷ h) =
    count_by-cons (λ e. callers e.caller && test e.call) e h
    ∙ one (e.caller == n) (callers e.caller) refl refl (among-split callers n passes test h)
    ∙ ap₂ (λ a b. a + b) (sym (count_by-cons (λ e. (callers e.caller && not (e.caller == n)) && test e.call) e h)) refl
  where
    one : (is passed : Bool) → (e.caller == n) ≡ is → callers e.caller ≡ passed
        → among callers test h ≡ among (λ m. callers m && not (m == n)) test h + count_by (λ e. test e.call) (calls_by n h)
        → cond (callers e.caller && test e.call) 1 0 + among callers test h
        ≡ (cond ((callers e.caller && not (e.caller == n)) && test e.call) 1 0 + among (λ m. callers m && not (m == n)) test h) + count_by (λ e. test e.call) (calls_by n (e ∷ h))
    one true true a b rest = simp (a, b, count_by-cons (λ (e : Entry). test e.call)) (omega arith)
    one true false a b rest = let same : e.caller ≡ n = eqb-true e.caller n a in let clash : callers e.caller ≡ true = ap callers same ∙ passes in absurd (cc)
    one false true a b rest = simp (a, b) (omega arith)
    one false false a b rest = simp (a, b) (omega arith)

-- the test of one caller picks the entries of that caller
among-own : (n : ℕ) (test : Call → Bool) (h : List Entry) → among (λ m. m == n) test h ≡ count_by (λ e. test e.call) (calls_by n h)
among-own n test [] = refl
among-own n test (e ∷ h) = count_by-cons (λ e. (e.caller == n) && test e.call) e h ∙ one (e.caller == n) (among-own n test h)
  where
    one : (b : Bool) → among (λ m. m == n) test h ≡ count_by (λ e. test e.call) (calls_by n h)
        → cond (b && test e.call) 1 0 + among (λ m. m == n) test h ≡ count_by (λ e. test e.call) (cond b (e ∷ calls_by n h) (calls_by n h))
    one true rest = ap (λ k. cond (test e.call) 1 0 + k) rest ∙ sym (count_by-cons (λ e. test e.call) e (calls_by n h))
    one false rest = omega arith

-- whichever callers are taken, they give back no more than they got
abbrev GivesNoMore : List Entry → Type 0
GivesNoMore h = (callers : ℕ → Bool) → among callers is_give h ≤ among callers is_got h

-- a caller that has one out makes a difference
gives_strictly : (callers : ℕ → Bool) (n : ℕ) (h : List Entry) → GivesNoMore h → 0 < out_after (calls_by n h) → callers n ≡ true → among callers is_give h < among callers is_got h
gives_strictly callers n h gives_no_more has_one passes =
    let others : among (λ m. callers m && not (m == n)) is_give h ≤ among (λ m. callers m && not (m == n)) is_got h = gives_no_more (λ m. callers m && not (m == n)) in
    omega (arith, among-split callers n passes is_give h, among-split callers n passes is_got h)

gives_no_more-push : (capacity : ℕ) (h : List Entry) (x : Entry) → MayFollow capacity h x.caller x.call → GivesNoMore h → GivesNoMore (h ++ x ∷ [])
gives_no_more-push capacity h x may gives_no_more callers =
    subst (λ (z : ℕ × ℕ). z.0 ≤ z.1) (λ i. (sym (among-push callers is_give h x) i, sym (among-push callers is_got h x) i))
    (one (callers x.caller) x.call refl may (gives_no_more callers))
  where
    one : (b : Bool) (c : Call) → callers x.caller ≡ b → MayFollow capacity h x.caller c → among callers is_give h ≤ among callers is_got h
        → among callers is_give h + cond (b && is_give c) 1 0 ≤ among callers is_got h + cond (b && is_got c) 1 0
    one true Got e m le = omega arith
    one true Full e m le = omega arith
    one true Give e m le = let strict : among callers is_give h < among callers is_got h = gives_strictly callers x.caller h gives_no_more m e in omega arith
    one true (AllFree answer) e m le = omega arith
    one false c e m le = omega arith

gives_no_more-from : (capacity : ℕ) (before h : List Entry) → IsLegal capacity (before ++ h) → GivesNoMore before → GivesNoMore (before ++ h)
gives_no_more-from capacity before [] legal b = subst GivesNoMore (sym (append-nil before)) b
gives_no_more-from capacity before (e ∷ h) legal b =
    let joins : (before ++ e ∷ []) ++ h ≡ before ++ e ∷ h = append_assoc before (e ∷ []) h in
    subst GivesNoMore joins (gives_no_more-from capacity (before ++ e ∷ []) h (subst (IsLegal capacity) (sym joins) legal) (gives_no_more-push capacity before e (legal.each before h e refl) b))

gives_no_more : (capacity : ℕ) (h : List Entry) → IsLegal capacity h → GivesNoMore h
gives_no_more capacity h legal = gives_no_more-from capacity [] h legal (λ callers. omega arith)

pub given_in-le-got_in : (capacity : ℕ) (h : List Entry) → IsLegal capacity h → given_in h ≤ got_in h
given_in-le-got_in capacity h legal = gives_no_more capacity h legal (λ _. true)

-- where one caller may give, fewer were given than were got
pub given_in-lt-got_in : (capacity : ℕ) (h : List Entry) (n : ℕ) → IsLegal capacity h → 0 < out_after (calls_by n h) → given_in h < got_in h
given_in-lt-got_in capacity h n legal has_one = gives_strictly (λ _. true) n h (gives_no_more capacity h legal) has_one refl

pub own-given_in-le-got_in : (capacity : ℕ) (h : List Entry) (n : ℕ) → IsLegal capacity h → given_in (calls_by n h) ≤ got_in (calls_by n h)
own-given_in-le-got_in capacity h n legal =
    let all : among (λ _. true) is_give h ≤ among (λ _. true) is_got h = gives_no_more capacity h legal (λ _. true) in
    let mine : among (λ m. m == n) is_give h ≤ among (λ m. m == n) is_got h = gives_no_more capacity h legal (λ m. m == n) in
    subst (λ (z : ℕ × ℕ). z.0 ≤ z.1) (λ i. (among-own n is_give h i, among-own n is_got h i)) mine

pub out_after-push-got : (capacity : ℕ) (h : List Entry) (n : ℕ) → IsLegal capacity h → out_after (h ++ entry n Got ∷ []) ≡ out_after h + 1
out_after-push-got capacity h n legal = omega (arith, given_in-le-got_in capacity h legal, got_in-append h (entry n Got ∷ []), given_in-append h (entry n Got ∷ []))

pub out_after-push-give : (capacity : ℕ) (h : List Entry) (n : ℕ) → IsLegal capacity h → 0 < out_after (calls_by n h) → out_after (h ++ entry n Give ∷ []) + 1 ≡ out_after h
out_after-push-give capacity h n legal has_one = omega (arith, given_in-lt-got_in capacity h n legal has_one, got_in-append h (entry n Give ∷ []), given_in-append h (entry n Give ∷ []))

pub out_after-push-full : (h : List Entry) (n : ℕ) → out_after (h ++ entry n Full ∷ []) ≡ out_after h
out_after-push-full h n = omega (arith, got_in-append h (entry n Full ∷ []), given_in-append h (entry n Full ∷ []))

pub out_after-push-all_free : (h : List Entry) (n : ℕ) (answer : Bool) → out_after (h ++ entry n (AllFree answer) ∷ []) ≡ out_after h
out_after-push-all_free h n answer = omega (arith, got_in-append h (entry n (AllFree answer) ∷ []), given_in-append h (entry n (AllFree answer) ∷ []))

-- what stands between two histories in which a caller made the same calls
pub calls_by-between : (n : ℕ) (xs ys zs : List Entry) → IsPrefix xs ys → IsPrefix ys zs → calls_by n zs ≡ calls_by n xs → calls_by n ys ≡ calls_by n xs
calls_by-between n xs ys zs p q same =
    let a : calls_by n xs ++ calls_by n p.0 ≡ calls_by n ys = sym (calls_by-append n xs p.0) ∙ ap (calls_by n) p.1 in
    let b : calls_by n ys ++ calls_by n q.0 ≡ calls_by n zs = sym (calls_by-append n ys q.0) ∙ ap (calls_by n) q.1 in
    let short : length (calls_by n p.0) ≡ 0 = omega (arith, ap length a, ap length b, ap length same, length-append (calls_by n xs) (calls_by n p.0), length-append (calls_by n ys) (calls_by n q.0)) in
    sym a ∙ ap (λ l. calls_by n xs ++ l) (empty (calls_by n p.0) short) ∙ append-nil (calls_by n xs)
  where
    empty : (l : List Entry) → length l ≡ 0 → l ≡ []
    empty [] e = refl
    empty (x ∷ l) e = absurd (omega arith)

-- a caller that made no call made none before
pub calls_by-none_before : (n : ℕ) (xs ys : List Entry) → IsPrefix xs ys → calls_by n ys ≡ [] → calls_by n xs ≡ []
calls_by-none_before n xs ys p none = calls_by-between n [] xs ys (xs, refl) p none
