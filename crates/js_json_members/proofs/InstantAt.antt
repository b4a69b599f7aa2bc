-- An instant is the one at its nanoseconds.
use Rattle.std.proofs.Common.{◌≡◌, refl, ap, ◌∙◌, Bool, true, false, Some, Result, Ok, Err, List, ℕ}
use Rattle.std.specs.Prelude.{ℤ, ◌≤ℤ◌, T}
use lib.Dec.{T_prop}
use Rattle.jiff.specs.Types.{Timestamp}
use Rattle.std.specs.Result.{result_ok}
use Rattle.std.proofs.Common.{sym}
use Rattle.jiff.specs.Words.{Error, timestamp_view, parse_timestamp}
use Rattle.js_json_members.specs.Instant.{FIRST, LAST, instant_if, instant_at, instant_of}

≤ℤ_prop : {a b : ℤ} → IsProp (a ≤ℤ b)
≤ℤ_prop h k = ap (λ x. record { le = x }) (T_prop _ h.le k.le)

same_instant : (t : Timestamp) (low : FIRST ≤ℤ t.nanosecond) (high : t.nanosecond ≤ℤ LAST)
    → let u : Timestamp = record { nanosecond = t.nanosecond; in_range = (low, high) } in u ≡ t
same_instant t low high =
    let a : low ≡ t.in_range.0 = ≤ℤ_prop low t.in_range.0 in
    let b : high ≡ t.in_range.1 = ≤ℤ_prop high t.in_range.1 in
    let Both : Type 0 = (FIRST ≤ℤ t.nanosecond) × (t.nanosecond ≤ℤ LAST) in
    let same : ◌≡◌ {A = Both} (low, high) t.in_range = ap (λ x. (x, high)) a ∙ ap (λ y. (t.in_range.0, y)) b in
    ap (λ (r : (FIRST ≤ℤ t.nanosecond) × (t.nanosecond ≤ℤ LAST)). let u : Timestamp =
    record { nanosecond = t.nanosecond; in_range = r } in u) same

if_self : (t : Timestamp) (a b : Bool) (low : T a → FIRST ≤ℤ t.nanosecond) (high : T b → t.nanosecond ≤ℤ LAST) → T a
    → T b → instant_if t.nanosecond a b low high ≡ Some t
if_self t true true low high p q = ap Some (same_instant t (low tt) (high tt))
if_self t true false low high p q = absurd q
if_self t false b low high p q = absurd p

pub instant_at-nanosecond : (t : Timestamp) → instant_at t.nanosecond ≡ Some t
unfolding instant_at
instant_at-nanosecond t = if_self t _ _ (λ h. record { le = h })
    (λ h. record { le = h }) t.in_range.0.le t.in_range.1.le

-- what jiff reads a text as
pub read_instant : (s : List ℕ) (r : Result Timestamp Error) → timestamp_view r ≡ parse_timestamp s
    → result_ok r ≡ instant_of s
unfolding instant_of
read_instant s (Ok t) e = rw (← e) (sym (instant_at-nanosecond t))
read_instant s (Err x) e = rw (← e) refl
