-- Instants, and their texts.
use Rattle.std.specs.Prelude.{◌≡◌, ℕ, zero, suc, ◌+◌, ◌-◌, ◌*◌, ◌/◌, ◌%◌, nat_lt, int_lt, if◌then◌else◌, [], ◌∷◌, ◌++◌}
use Rattle.std.specs.Prelude.{codes, ℤ, ◌+ℤ◌, negsuc, pos, neg_ℤ, ◌≤ℤ◌, int_le, T, List, Option, Some, None, Bool, true}
use Rattle.std.specs.Prelude.{false}
use Rattle.std.specs.Option.{option_and_then}
use Rattle.std.specs.Result.{result_ok}
use Rattle.jiff.specs.Types.{Timestamp, Time, DateTime}
use Rattle.std.proofs.Common.{arith}
use Rattle.jiff.specs.Words.{parse_timestamp, days_in_year, days_in_month, time_text, iso_datetime_text}
use Rattle.js_json_members.specs.Member.{Reads, named}

-- the first instant of jiff, in nanoseconds after 1970
abbrev pub FIRST : ℤ
FIRST = neg_ℤ (pos 377_705_023_201_000_000_000)

-- the last one
abbrev pub LAST : ℤ
LAST = pos 253_402_207_200_999_999_999

-- the instant, where both tests of its range hold
abbrev pub instant_if : (n : ℤ) (low high : Bool) → (T low → FIRST ≤ℤ n) → (T high → n ≤ℤ LAST) → Option Timestamp
instant_if n true true low high = Some (record { nanosecond = n; in_range = (low tt, high tt) })
instant_if n true false low high = None
instant_if n false high_test low high = None

-- the instant that many nanoseconds after 1970, if there is one
unfoldable pub instant_at : ℤ → Option Timestamp
instant_at n = instant_if n (int_le FIRST n) (int_le n LAST) (λ h. record { le = h }) (λ h. record { le = h })

-- the instant that a text is
unfoldable pub instant_of : List ℕ → Option Timestamp
instant_of s = option_and_then instant_at (result_ok (parse_timestamp s))

-- a text that jiff reads as a timestamp
abbrev pub instant : Reads Timestamp
instant = named instant_of

-- ---- the text of an instant

-- which of the pieces of these sizes, one after another from the first on, and how far into it
unfoldable pub piece : (ℕ → ℕ) → ℕ → ℕ → ℕ → ℕ × ℕ
piece size zero first n = (first, n)
piece size (suc more) first n =
    if nat_lt n (size first) then (first, n) else
    piece size more (suc first) (n - size first)

-- the year, month and day of a day, counted from 1 January of the year 0
unfoldable pub date_of : ℕ → ℕ × ℕ × ℕ
date_of day =
    let year = piece (λ y. days_in_year (pos y)) 9999 0 day in
    let month = piece (days_in_month (pos year.0)) 11 1 year.1 in
    (year.0, month.0, month.1 + 1)

-- the time of the day, from its nanoseconds
unfoldable pub time_of : ℕ → Time
time_of n = record {
  hour = n / 3_600_000_000_000 % 24;
  minute = n / 60_000_000_000 % 60;
  second = n / 1_000_000_000 % 60;
  subsec_nanosecond = n % 1_000_000_000;
  hour_in = omega arith;
  minute_in = omega arith;
  second_in = omega arith;
  subsec_in = omega arith;
}

-- a number below 100 as two digits
abbrev pub two_digits : ℕ → List ℕ
two_digits n = (48 + n / 10) ∷ (48 + n % 10) ∷ []

-- the nanoseconds of a day
abbrev pub DAY : ℕ
DAY = 86_400_000_000_000

-- `2026-01-31T12:30:00.25Z`, with no fraction of zeros, from the nanoseconds since the year 0
abbrev pub text_from_year_zero : ℤ → Option (List ℕ)
text_from_year_zero (negsuc n) = None
text_from_year_zero (pos n) =
    let date = date_of (n / DAY) in
    Some ((two_digits (date.0 / 100) ++ two_digits (date.0 % 100) ++ 45 ∷ two_digits date.1 ++ 45 ∷ two_digits date.2
    ++ 84 ∷ time_text None (time_of (n % DAY))) ++ codes "Z")

-- The text of the instant that many nanoseconds after 1970 in UTC, if its year is not before 0.
unfoldable pub instant_text : ℤ → Option (List ℕ)
instant_text n = text_from_year_zero (n +ℤ pos (719_528 * DAY))

-- the text of an instant is read as that instant
abbrev pub ReadsBack : Timestamp → Option (List ℕ) → Type 0
ReadsBack t None = Unit {0}
ReadsBack t (Some s) = instant_of s ≡ Some t

-- the same, of its date and time in UTC
abbrev pub civil_text : DateTime → Option (List ℕ)
civil_text civil = if int_lt civil.date.year (pos 0) then None else Some (iso_datetime_text civil ++ codes "Z")
