-- The text of an instant is the one that jiff writes for its date and time in UTC.
use Rattle.std.proofs.Common.{◌≡◌, ℕ, ◌*◌, ◌/◌, ◌%◌, ◌++◌, codes, if◌then◌else◌, Bool, true, false, List, Option}
use Rattle.std.proofs.Common.{Result, Ok, Err, IfOk, Some, None, int_lt, refl, ap, arith, ℤ, pos, negsuc, neg_ℤ, ◌+ℤ◌}
use Rattle.std.proofs.Common.{◌<ℤ◌, inl}
use Rattle.std.proofs.lemmas.Bool.Decides.{nat_tests}
use Rattle.jiff.specs.Types.{Date, DateTime, Time, Timestamp}
use Rattle.jiff.specs.Words.{civil_nanos, iso_datetime_text, epoch_day, time_nanos}
use Rattle.jiff.proofs.Family.{civil_nanos-parts, time_nanos_bound, same_time, epoch_day-lt, days_from_civil-day}
use Rattle.jiff.proofs.Family.{days_from_civil-next_month, days_from_civil-next_year, days_from_civil-max}
use Rattle.jiff.proofs.Family.{parse_timestamp-text}
use Rattle.jiff.proofs.SpanFacts.{signed_arith}
use Rattle.js_json_members.specs.Instant.{DAY, ReadsBack, civil_text, time_of, text_from_year_zero, instant_of, instant_text}
use Rattle.js_json_members.proofs.InstantAt.{instant_at-nanosecond}
use Rattle.js_json_members.proofs.Calendar.{date_at, year_zero, from_year_zero}

time_of-nanos : (t : Time) → time_of (time_nanos t) ≡ t
unfolding time_of
time_of-nanos t = same_time (time_of (time_nanos t)) t (omega (arith, t.hour_in, t.minute_in, t.second_in, t.subsec_in))

abbrev first_day : Date
first_day = record {
  year = pos 0;
  month = 1;
  day = 1;
  year_in = omega (arith, signed_arith);
  month_in =
      omega arith;
  day_in = omega arith;
}

-- where its year is not negative
text_from : (civil : DateTime) (y k : ℕ) → civil.date.year ≡ pos y → civil_nanos civil +ℤ pos (719_528 * DAY) ≡ pos k
    → text_from_year_zero (pos k) ≡ Some (iso_datetime_text civil ++ codes "Z")
text_from civil y k year e =
    let d = civil.date in
    let parts = civil_nanos-parts civil in
    let bound = time_nanos_bound civil.time in
    let days : epoch_day d +ℤ pos 719_528 ≡ pos (k / DAY) = omega (arith, signed_arith) in
    let rest : k % DAY ≡ time_nanos civil.time = omega (arith, signed_arith) in
    let date = date_at _ days_from_civil-day days_from_civil-next_month days_from_civil-next_year days_from_civil-max y
    d.month d.day (omega (arith, signed_arith, d.year_in)) d.month_in.0 d.month_in.1 d.day_in.0
    (rw year at d.day_in.1) (k / DAY) (rw year at days) in
    rw (date, rest, time_of-nanos civil.time, year) refl

-- where it is
before_year_zero : (civil : DateTime) (y : ℕ) → civil.date.year ≡ negsuc y
    → (civil_nanos civil +ℤ pos (719_528 * DAY)) <ℤ pos 0
before_year_zero civil y year =
    let bound = time_nanos_bound civil.time in
    let first : epoch_day first_day ≡ neg_ℤ (pos 719_528) =
    year_zero _ days_from_civil-day days_from_civil-next_month days_from_civil-next_year days_from_civil-max in
    omega (
      arith,
      signed_arith,
      civil_nanos-parts civil,
      bound,
      first,
      epoch_day-lt civil.date first_day (inl (omega (arith, signed_arith, year))),
    )

none_before : (n : ℤ) → n <ℤ pos 0 → text_from_year_zero n ≡ None
none_before (negsuc n) h = refl
none_before (pos n) h = absurd (omega (arith, signed_arith))

some_from : (civil : DateTime) (y : ℕ) (n : ℤ) → civil.date.year ≡ pos y → civil_nanos civil +ℤ pos (719_528 * DAY) ≡ n
    → text_from_year_zero n ≡ Some (iso_datetime_text civil ++ codes "Z")
some_from civil y (pos k) year e = text_from civil y k year e
some_from civil y (negsuc k) year e =
    let d = civil.date in
    let low = from_year_zero _ days_from_civil-day days_from_civil-next_month days_from_civil-next_year
    days_from_civil-max y d.month d.day d.month_in.0 d.day_in.0 in
    absurd (omega (arith, signed_arith, civil_nanos-parts civil, rw (← year) at low, e))

instant_of_civil : (civil : DateTime) (year n : ℤ) → civil.date.year ≡ year → civil_nanos civil ≡ n
    → instant_text n ≡ (if int_lt year (pos 0) then None else Some (iso_datetime_text civil ++ codes "Z"))
unfolding instant_text
instant_of_civil civil (pos y) n year e =
    let positive : int_lt (pos y) (pos 0) ≡ false = grind (arith, nat_tests) in
    rw positive (some_from civil y _ year (ap (λ z. z +ℤ pos (719_528 * DAY)) e))
instant_of_civil civil (negsuc y) n year e = none_before _ (rw e at (before_year_zero civil y year))

pub instant_text-civil : (civil : DateTime) (n : ℤ) → civil_nanos civil ≡ n → instant_text n ≡ civil_text civil
instant_text-civil civil n e = instant_of_civil civil civil.date.year n refl e

-- a text that is read back, where one is written
text_read_back : (civil : DateTime) (t : Timestamp) → civil_nanos civil ≡ t.nanosecond
    → instant_of (iso_datetime_text civil ++ codes "Z") ≡ Some t
unfolding instant_of
text_read_back civil t e = rw (parse_timestamp-text civil t e) (instant_at-nanosecond t)

reads_back : (civil : DateTime) (t : Timestamp) → civil_nanos civil ≡ t.nanosecond → (early : Bool)
    → ReadsBack t (if early then None else Some (iso_datetime_text civil ++ codes "Z"))
reads_back civil t e true = tt
reads_back civil t e false = text_read_back civil t e

pub answer_reads_back : {E : Type 0} (civil : DateTime) (t : Timestamp) → civil_nanos civil ≡ t.nanosecond
    → (r : Result (Option (List ℕ)) E) → IfOk r (λ text. text ≡ civil_text civil) → IfOk r (ReadsBack t)
answer_reads_back civil t e (Ok text) h = rw h (reads_back civil t e (int_lt civil.date.year (pos 0)))
answer_reads_back civil t e (Err x) h = tt
