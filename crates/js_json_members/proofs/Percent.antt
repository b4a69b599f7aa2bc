-- Numbers with a percent sign, and without one.
use Rattle.std.proofs.Common.{◌≡◌, ℕ, false, if◌then◌else◌, ◌==◌, ◌≢◌, List, [], ◌∷◌, ◌++◌, refl, arith, ap}
use Rattle.std.proofs.lemmas.Bool.Decides.{nat_tests}
use Rattle.js_base.specs.Numeral.{unsigned_of}
use Rattle.js_json_members.specs.Percent.{percent_of, without_percent}

without_percent-signed : (front : List ℕ) → without_percent (front ++ 37 ∷ []) ≡ front
without_percent-signed [] = refl
without_percent-signed (c ∷ []) = refl
without_percent-signed (c ∷ d ∷ cs) = ap (λ xs. c ∷ xs) (without_percent-signed (d ∷ cs))

last_kept : (c : ℕ) → c ≢ 37 → (if c == 37 then [] else c ∷ []) ≡ c ∷ []
last_kept c h = let other : (c == 37) ≡ false = grind (arith, nat_tests) in rw other refl

-- a text that does not end in a percent sign
pub without_percent-plain : (bs : List ℕ) → ((front : List ℕ) → bs ≢ front ++ 37 ∷ []) → without_percent bs ≡ bs
without_percent-plain [] h = refl
without_percent-plain (c ∷ []) h = last_kept c (λ e. h [] (ap (λ x. x ∷ []) e))
without_percent-plain (c ∷ d ∷ cs) h = ap (λ xs. c ∷
    xs) (without_percent-plain (d ∷ cs) (λ front e. h (c ∷ front) (ap (λ xs. c ∷ xs) e)))

pub percent_of-signed : (bs front : List ℕ) → bs ≡ front ++ 37 ∷ [] → percent_of bs ≡ unsigned_of 8 front
unfolding percent_of
percent_of-signed bs front e = rw (e, without_percent-signed front) refl

pub percent_of-plain : (bs : List ℕ) → ((front : List ℕ) → bs ≢ front ++ 37 ∷ []) → percent_of bs ≡ unsigned_of 8 bs
unfolding percent_of
percent_of-plain bs h = rw (without_percent-plain bs h) refl
