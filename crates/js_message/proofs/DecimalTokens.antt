-- What the numbers of an acknowledgement subject read as, where they are written in decimal.
use Rattle.std.proofs.Common.{◌≡◌, ℕ, ◌^◌, ◌<◌, List, [], ◌∷◌, ◌++◌, get_or, Some, None, Ok, codes, decimal, refl, sym, ap, ◌∙◌, subst, arith, ◌≢◌}
use Rattle.std.specs.Prelude.{◌==◌, false}
use Rattle.std.specs.List.{AllByRecursion, All}
use Rattle.std.specs.Int.{IsInRange}
use Rattle.std.specs.Str.Parse.{IsNumeral, AllDigits, digits_value, without_leading_plus, ParsesUnsigned}
use Rattle.std.proofs.lemmas.Bool.Decides.{nat_tests}
use Rattle.std.proofs.lemmas.Fmt.{decimal_is_IsNumeral}
use Rattle.std.proofs.lemmas.List.Elements.{All-from_recursion}
use Rattle.std.proofs.lemmas.List.Splits.{slice_split_at}
use Rattle.std.proofs.lemmas.Str.Parse.{digit_from_value, without_leading_plus_none}
use Rattle.js_base.specs.Subject.{tokens}
use Rattle.js_message.specs.Numbers.{u64_of}
use Rattle.js_message.specs.AckSubject.{seven, place_of}
use Rattle.js_message.proofs.ReadNumbers.{u64_of-parse}

-- ---- numbers

no_plus : (ds : List ℕ) → AllDigits 10 ds → get_or ds 0 0 ≢ 43
no_plus [] h e = absurd (omega arith)
no_plus (c ∷ cs) h e = let range : IsInRange 48 57 c = digit_from_value c h.0 in absurd (omega arith)

pub u64_of-decimal : (n : ℕ) → n < 2 ^ 64 → u64_of (decimal n) ≡ Some n
u64_of-decimal n small =
    let is : IsNumeral 10 (decimal n) × (digits_value 10 (decimal n) ≡ n) = decimal_is_IsNumeral n small in
    let plain : without_leading_plus (decimal n) ≡ decimal n = without_leading_plus_none (decimal n) (no_plus (decimal n) is.0.1) in
    let parses : ParsesUnsigned {E = ℕ} 64 10 (decimal n) (Ok n) =
    subst (λ (t : List ℕ). (IsNumeral 10 t × (digits_value 10 t < 2 ^ 64)) × (n ≡ digits_value 10 t)) (sym plain)
    ((is.0, subst (λ (v : ℕ). v < 2 ^ 64) (sym is.1) small), sym is.1) in
    sym (u64_of-parse {E = ℕ} (decimal n) (Ok n) parses)

-- ---- tokens

no_dot : (ds : List ℕ) → AllDigits 10 ds → AllByRecursion (λ c. (c == 46) ≡ false) ds
no_dot [] h = tt
no_dot (c ∷ cs) h = let range : IsInRange 48 57 c = digit_from_value c h.0 in (grind (arith, nat_tests), no_dot cs h.1)

decimal_without_dot : (n : ℕ) → n < 2 ^ 64 → All (λ c. (c == 46) ≡ false) (decimal n)
decimal_without_dot n small = All-from_recursion (λ c. (c == 46) ≡ false) (decimal n) (no_dot (decimal n) (decimal_is_IsNumeral n small).0.1)

-- the last tokens of a subject that ends with a sequence and a number, a moment of 0 and none behind it
pub last_tokens : (sequence number : ℕ) → sequence < 2 ^ 64 → number < 2 ^ 64
    → tokens (decimal sequence ++ (46 ∷ (decimal number ++ (46 ∷ codes "0.0")))) ≡ decimal sequence ∷ decimal number ∷ codes "0" ∷ codes "0" ∷ []
last_tokens sequence number s n =
    slice_split_at (λ c. c == 46) (decimal sequence) 46 (decimal number ++ (46 ∷ codes "0.0")) (decimal_without_dot sequence s) refl
    ∙ ap (λ (ts : List (List ℕ)). decimal sequence ∷ ts) (slice_split_at (λ c. c == 46) (decimal number) 46 (codes "0.0") (decimal_without_dot number n) refl)

-- the place that such a subject tells, of a stream and a consumer
pub placed : (stream name sequences numbers : List ℕ) (sequence number : ℕ) → u64_of sequences ≡ Some sequence → u64_of numbers ≡ Some number
    → place_of (seven 0 None None None stream name (codes "1") sequences numbers (codes "0") (codes "0")) ≡ Some (record { sequence = sequence; number = number })
placed stream name sequences numbers sequence number s n = rw (s, n) refl
