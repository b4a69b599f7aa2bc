-- What `parse` gives is what the definitions of `Numbers` read.
use Rattle.std.proofs.Common.{◌≡◌, ℕ, ◌^◌, ◌<◌, ◌≤◌, ◌+◌, Bool, true, false, cond, List, ℤ, pos, negsuc, refl, ap, Result, Ok, Err, Some, None, OkIff, arith}
use Rattle.std.proofs.lemmas.Bool.{false≢true, and_parts, and_from, ltb-true, lt-ltb, leb-true, le-leb}
use Rattle.std.proofs.lemmas.Str.Parse.{IsNumeralModel, numerals_by_value, tells_all_ascii_digits}
use Rattle.std.specs.Prelude.{int_le, ◌&&◌}
use Rattle.std.specs.Result.{result_ok}
use Rattle.std.specs.Str.{all_ascii_digits}
use Rattle.std.specs.Str.Parse.{IsNumeral, digits_value, signed_digits_value, without_leading_plus, without_leading_sign, ParsesUnsigned, ParsesSigned}
use mir.Syntax.{Width}
use mir.Val.{SFits, hbits}
use lib.Signed.{mag}
use Rattle.js_base.specs.Numeral.{is_numeral, unsigned_of, signed_of}

-- the value, where a test says what P says
some_if : {A E : Type 0} (b : Bool) (P : Type 0) (v : A) (r : Result A E) → (P → b ≡ true) → (b ≡ true → P) → OkIff r P v → result_ok r ≡ cond b (Some v) None
some_if true P v (Ok x) to from h = ap Some h.1
some_if false P v (Ok x) to from h = absurd (false≢true (to h.0))
some_if true P v (Err e) to from h = absurd (h (from refl))
some_if false P v (Err e) to from h = refl

own : IsNumeralModel (λ ds. all_ascii_digits ds ≡ true) (digits_value 10)
own = numerals_by_value _ tells_all_ascii_digits

numeral-true : (ds : List ℕ) → IsNumeral 10 ds → is_numeral ds ≡ true
numeral-true ds h = and_from _ _ (lt-ltb _ _ h.0) (own.from ds h.1)

true-numeral : (ds : List ℕ) → is_numeral ds ≡ true → IsNumeral 10 ds
true-numeral ds h = let parts = and_parts _ _ h in (ltb-true _ _ parts.0, own.to ds parts.1)

pub unsigned_of-parse : {E : Type 0} (bits : ℕ) (text : List ℕ) (r : Result ℕ E) → ParsesUnsigned bits 10 text r → result_ok r ≡ unsigned_of bits text
unsigned_of-parse bits text r h =
    let ds = without_leading_plus text in
    some_if _ _ _ r
    (λ (p : IsNumeral 10 ds × (digits_value 10 ds < 2 ^ bits)). and_from _ _ (numeral-true ds p.0) (lt-ltb _ _ p.1))
    (λ e. let parts = and_parts _ _ e in (true-numeral ds parts.0, ltb-true _ _ parts.1))
    h

-- a signed type holds the numbers whose size is at most its last one
held-true : (most : ℕ) (z : ℤ) → mag z ≤ most → (int_le (negsuc most) z && int_le z (pos most)) ≡ true
held-true most (pos n) h = le-leb n most h
held-true most (negsuc n) h = and_from _ _ (le-leb n most h) refl

true-held : (most : ℕ) (z : ℤ) → (int_le (negsuc most) z && int_le z (pos most)) ≡ true → mag z ≤ most
true-held most (pos n) h = leb-true n most h
true-held most (negsuc n) h = leb-true n most (and_parts _ _ h).0

pub signed_of-parse : {E : Type 0} (w : Width) (most : ℕ) (text : List ℕ) (r : Result ℤ E) → 2 ^ hbits w ≡ most + 1 → ParsesSigned w 10 text r → result_ok r ≡ signed_of (negsuc most) (pos most) text
signed_of-parse w most text r e h =
    let ds = without_leading_sign text in
    let z = signed_digits_value 10 text in
    some_if _ _ _ r
    (λ (p : IsNumeral 10 ds × SFits w z). let fits = p.1.sfits in and_from _ _ (numeral-true ds p.0) (held-true most z (omega arith)))
    (λ e2. let parts = and_parts _ _ e2 in let held = true-held most z parts.1 in (true-numeral ds parts.0, record { sfits = omega arith }))
    h
