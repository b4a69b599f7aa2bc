-- A text of few digits is the number that they write, at each type.
use Rattle.std.proofs.Common.{◌≡◌, ℕ, ◌^◌, ◌<◌, ◌≤◌, ◌+◌, ◌*◌, ◌∷◌, Bool, true, false, cond, eqb, List, [], length, get_or, take, ℤ, pos, negsuc, refl, ap, ◌∙◌, sym, Result, Ok, Some, None, arith}
use Rattle.std.proofs.Math.Nat.{pow-le-pow_right}
use Rattle.std.proofs.lemmas.Bool.{ne_eqb}
use Rattle.std.proofs.lemmas.Int.Digits.{digits_value-lt}
use Rattle.std.proofs.lemmas.Str.Parse.{digit_at, without_leading_plus_none}
use Rattle.std.specs.Str.Parse.{AllDigits, IsNumeral, digits_value, signed_digits_value, without_leading_plus, without_leading_sign}
use mir.Syntax.{Width}
use mir.Val.{SFits, hbits}
use Rattle.js_base.specs.Numeral.{signed_of}
use Rattle.js_base.proofs.Numeral.{unsigned_of-parse, signed_of-parse}
use Rattle.js_message.specs.Numbers.{IsDigits, u64_of}

-- what few digits write is below ten to the number of them
pub below : (ds : List ℕ) (most : ℕ) → AllDigits 10 ds → length ds ≤ most → digits_value 10 ds < 10 ^ most
below ds most digits few =
    let l : digits_value 10 ds < 10 ^ length ds = digits_value-lt 10 ds digits in
    let p : 10 ^ length ds ≤ 10 ^ most = pow-le-pow_right (omega arith) few in
    omega arith

-- no sign stands first
no_plus : (text : List ℕ) → AllDigits 10 text → 0 < length text → without_leading_plus text ≡ text
no_plus text digits some =
    let d = digit_at text 0 digits some in
    without_leading_plus_none text (λ e. omega arith)

no_minus : (text : List ℕ) → AllDigits 10 text → 0 < length text → eqb (get_or text 0 0) 45 ≡ false
no_minus text digits some =
    let d = digit_at text 0 digits some in
    ne_eqb _ _ (λ e. omega arith)

pub u64_of-digits : (text : List ℕ) (number : ℕ) → IsDigits text number → u64_of text ≡ Some number
u64_of-digits text number h =
    let l : digits_value 10 text < 10 ^ 19 = below text 19 h.digits h.few in
    let same = no_plus text h.digits h.some in
    let r : Result ℕ (Unit {0}) = Ok number in
    sym (unsigned_of-parse 64 text r (rw same (((h.some, h.digits), omega arith), h.value)))

if_false : {A : Type 0} (t : Bool) (x y : A) → t ≡ false → cond t x y ≡ y
if_false false x y h = refl
if_false true x y h = cc

pub signed_of-digits : (w : Width) (most : ℕ) (text : List ℕ) (number : ℕ) → 2 ^ hbits w ≡ most + 1 → IsDigits text number → number ≤ most → signed_of (negsuc most) (pos most) text ≡ Some (pos number)
signed_of-digits w most text number e h small =
    let minus = no_minus text h.digits h.some in
    let same : without_leading_sign text ≡ text = if_false _ _ _ minus ∙ no_plus text h.digits h.some in
    let numeral : IsNumeral 10 (without_leading_sign text) = rw same (h.some, h.digits) in
    let value : signed_digits_value 10 text ≡ pos number = if_false _ _ _ minus ∙ ap (λ ds. pos (digits_value 10 ds)) same ∙ ap pos (sym h.value) in
    let fits : SFits w (signed_digits_value 10 text) = rw value (record { sfits = omega arith }) in
    let r : Result ℤ (Unit {0}) = Ok (pos number) in
    sym (signed_of-parse w most text r e ((numeral, fits), sym value))
