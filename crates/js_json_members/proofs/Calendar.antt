-- The date of a day is the one that jiff counts up to it.
use Rattle.std.proofs.Common.{◌≡◌, ℕ, zero, suc, ◌+◌, ◌-◌, ◌<◌, ◌≤◌, true, false, nat_lt, refl, arith, ℤ, pos, neg_ℤ}
use Rattle.std.proofs.Common.{◌+ℤ◌, ◌≤ℤ◌}
use Rattle.std.proofs.lemmas.Bool.{lt-ltb}
use Rattle.std.proofs.lemmas.Bool.Decides.{nat_tests}
use Rattle.jiff.specs.Words.{days_in_year, days_in_month}
use Rattle.jiff.proofs.SpanFacts.{signed_arith}
use Rattle.js_json_members.specs.Instant.{piece, date_of}

-- the sizes of the first k pieces
abbrev before : (ℕ → ℕ) → ℕ → ℕ → ℕ
before size zero first = 0
before size (suc k) first = size first + before size k (suc first)

zero_add : (n : ℕ) → 0 + n ≡ n
zero_add n = omega arith

piece_is : (size : ℕ → ℕ) (k more first n : ℕ) → k ≤ more → n < size (k + first)
    → piece size more first (before size k first + n) ≡ (k + first, n)
unfolding piece
piece_is size zero zero first n low h = rw (zero_add first, zero_add n) refl
piece_is size zero (suc more) first n low h =
    let here : nat_lt n (size first) ≡ true = lt-ltb _ _ (rw (zero_add first) at h) in
    rw (zero_add first, zero_add n, here) refl
piece_is size (suc k) zero first n low h = absurd (omega arith)
piece_is size (suc k) (suc more) first n low h =
    let rest : size first + before size k (suc first) + n - size first ≡ before size k (suc first) + n = omega arith in
    let far : nat_lt (size first + before size k (suc first) + n) (size first) ≡ false = grind (arith, nat_tests) in
    let at : k + suc first ≡ suc k + first = omega arith in
    rw (far, rest) (rw at at (piece_is size k more (suc first) n (omega arith) (rw at h)))

before_last : (size : ℕ → ℕ) (k first : ℕ) → before size (suc k) first ≡ before size k first + size (k + first)
before_last size zero first = rw (zero_add first) (omega arith)
before_last size (suc k) first =
    let at : k + suc first ≡ suc k + first = omega arith in
    omega (arith, rw at at (before_last size k (suc first)))

before_more : (size : ℕ → ℕ) (k more first : ℕ) → before size k first ≤ before size (more + k) first
before_more size k zero first = rw (zero_add k) (omega arith)
before_more size k (suc more) first =
    let next : suc more + k ≡ suc (more + k) = omega arith in
    rw next (omega (arith, before_more size k more first, before_last size (more + k) first))

-- the days of a year are those of its months
months_of : (y : ℤ) → before (days_in_month y) 12 1 ≡ days_in_year y
months_of y = grind arith

-- A count of days, of which it is known how each day, month and year follows the one before.
module _ (f : ℤ → ℕ → ℕ → ℤ)
    (day : (y : ℤ) (m d d₂ : ℕ) → 1 ≤ d → 1 ≤ d₂ → f y m d +ℤ pos d₂ ≡ f y m d₂ +ℤ pos d)
    (next_month : (y : ℤ) (m d : ℕ) → 1 ≤ m → d ≡ days_in_month y m → f y (m + 1) 1 ≡ f y m d +ℤ pos 1)
    (next_year : (y next : ℤ) → neg_ℤ (pos 10000) ≤ℤ y → next ≡ y +ℤ pos 1 → f next 1 1 ≡ f y 12 31 +ℤ pos 1)
    (last : f (pos 9999) 12 31 ≡ pos 2_932_896) where
  long : (y : ℤ) (m : ℕ) → 1 ≤ days_in_month y m
  long y m = grind arith

  month_after : (y : ℤ) (m : ℕ) → 1 ≤ m → f y (suc m) 1 ≡ f y m 1 +ℤ pos (days_in_month y m)
  month_after y m h =
      let next : m + 1 ≡ suc m = omega arith in
      omega (
        arith,
        signed_arith,
        rw next at (next_month y m (days_in_month y m) h refl),
        day y m (days_in_month y m) 1 (long y m) (omega arith),
      )

  months : (y : ℤ) (k m : ℕ) → 1 ≤ m → f y (k + m) 1 ≡ f y m 1 +ℤ pos (before (days_in_month y) k m)
  months y zero m h = rw (zero_add m) (omega (arith, signed_arith))
  months y (suc k) m h =
      let at : k + suc m ≡ suc k + m = omega arith in
      omega (arith, signed_arith, rw at at (months y k (suc m) (omega arith)), month_after y m h)

  year_after : (y : ℕ) → f (pos (suc y)) 1 1 ≡ f (pos y) 1 1 +ℤ pos (days_in_year (pos y))
  year_after y =
      omega (
        arith,
        signed_arith,
        next_year (pos y) (pos (suc y)) (omega (arith, signed_arith))
            (omega (arith, signed_arith)),
        day (pos y) 12 31 1 (omega arith) (omega arith),
        months (pos y) 11 1 (omega arith),
        before_last (days_in_month (pos y)) 11 1,
        months_of (pos y),
      )

  years : (k y : ℕ) → f (pos (k + y)) 1 1 ≡ f (pos y) 1 1 +ℤ pos (before (λ y. days_in_year (pos y)) k y)
  years zero y = rw (zero_add y) (omega (arith, signed_arith))
  years (suc k) y =
      let at : k + suc y ≡ suc k + y = omega arith in
      omega (arith, signed_arith, rw at at (years k (suc y)), year_after y)

  all_years : before (λ y. days_in_year (pos y)) 10000 0 ≡ 3_652_425
  all_years = refl

  pub year_zero : f (pos 0) 1 1 ≡ neg_ℤ (pos 719_528)
  year_zero = omega (
    arith,
    signed_arith,
    years 10000 0,
    all_years,
    next_year (pos 9999) (pos 10000) (omega (arith, signed_arith)) (omega (arith, signed_arith)),
    last,
  )

  pub from_year_zero : (y m d : ℕ) → 1 ≤ m → 1 ≤ d → neg_ℤ (pos 719_528) ≤ℤ f (pos y) m d
  from_year_zero y m d low first =
      let y_is : y + 0 ≡ y = omega arith in
      let m_is : m - 1 + 1 ≡ m = omega arith in
      omega (
        arith,
        signed_arith,
        day (pos y) m d 1 first (omega arith),
        rw m_is at (months (pos y) (m - 1) 1 (omega arith)),
        rw y_is at (years y 0),
        year_zero,
      )

  pub date_at : (y m d : ℕ) → y ≤ 9999 → 1 ≤ m → m ≤ 12 → 1 ≤ d → d ≤ days_in_month (pos y) m → (n : ℕ)
      → f (pos y) m d +ℤ pos 719_528 ≡ pos n → date_of n ≡ (y, m, d)
  unfolding date_of
  date_at y m d year low high first short n e =
      let years_before = before (λ y. days_in_year (pos y)) y 0 in
      let in_year = before (days_in_month (pos y)) (m - 1) 1 in
      let y_is : y + 0 ≡ y = omega arith in
      let m_is : m - 1 + 1 ≡ m = omega arith in
      let more : 12 - suc (m - 1) + suc (m - 1) ≡ 12 = omega arith in
      let inside : in_year + (d - 1) < days_in_year (pos y) =
      omega (
        arith,
        months_of (pos y),
        rw more at (before_more (days_in_month (pos y)) (suc (m - 1))
            (12 - suc (m - 1)) 1),
        rw m_is at (before_last (days_in_month (pos y)) (m - 1) 1),
      ) in
      let n_is : n ≡ years_before + (in_year + (d - 1)) =
      omega (
        arith,
        signed_arith,
        day (pos y) m d 1 first (omega arith),
        rw m_is at (months (pos y) (m - 1) 1 (omega arith)),
        rw y_is at (years y 0),
        year_zero,
      ) in
      let year_is = piece_is (λ y. days_in_year (pos y)) y 9999 0 (in_year + (d - 1)) year (rw y_is inside) in
      let month_is = piece_is (days_in_month (pos y)) (m - 1) 11 1 (d - 1) (omega arith) (rw m_is (omega arith)) in
      let d_is : d - 1 + 1 ≡ d = omega arith in
      rw (n_is, year_is, y_is, month_is, m_is, d_is) refl
