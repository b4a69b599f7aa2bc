-- Numbers in texts: a sign or none, one decimal digit or more, a value in range, and nothing else.
use Rattle.std.specs.Prelude.{ℕ, ℤ, ◌^◌, ◌&&◌, Bool, List, length, Option, Some, None, nat_lt, int_le, if◌then◌else◌}
use Rattle.std.specs.Str.{all_ascii_digits}
use Rattle.std.specs.Str.Parse.{digits_value, without_leading_plus, without_leading_sign, signed_digits_value}

-- one decimal digit or more, and nothing else
abbrev pub is_numeral : List ℕ → Bool
is_numeral digits = nat_lt 0 (length digits) && all_ascii_digits digits

-- the text as a number of so many bits, with a plus before it or none
abbrev pub unsigned_of : ℕ → List ℕ → Option ℕ
unsigned_of bits text =
    let digits = without_leading_plus text in
    if is_numeral digits && nat_lt (digits_value 10 digits) (2 ^ bits) then Some (digits_value 10 digits) else None

-- the text as a number from one end to the other, with a sign before it or none
abbrev pub signed_of : ℤ → ℤ → List ℕ → Option ℤ
signed_of low high text =
    let value = signed_digits_value 10 text in
    if is_numeral (without_leading_sign text) && (int_le low value && int_le value high) then Some value else None
