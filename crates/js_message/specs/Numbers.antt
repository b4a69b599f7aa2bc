-- Numbers in a text, at the types that messages have.
use Rattle.std.specs.Prelude.{ℕ, ◌≡◌, ◌<◌, ◌≤◌, List, length, Option}
use Rattle.std.specs.Str.Parse.{AllDigits, digits_value}
use Rattle.js_base.specs.Numeral.{unsigned_of}
pub use Rattle.js_base.specs.Numeral.{is_numeral}

-- the text as a u64
abbrev pub u64_of : List ℕ → Option ℕ
u64_of = unsigned_of 64

-- digits alone, few enough for a u64, and the number that they write
pub record IsDigits (text : List ℕ) (number : ℕ) : Type 0 where
  pub some : 0 < length text
  pub few : length text ≤ 19
  pub digits : AllDigits 10 text
  pub value : number ≡ digits_value 10 text
