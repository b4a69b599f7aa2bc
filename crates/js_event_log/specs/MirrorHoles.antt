-- The holes of a mirror, in ranges.
use Rattle.std.specs.Prelude.{◌≡◌, ℕ, ◌+◌, ◌-◌, ◌≤◌, ◌⊎◌, ⊤, List, [], ◌∷◌}
use Rattle.std.specs.List.{AllByRecursion}
use Rattle.js_event_log.specs.Mirror.{Mirrored, hole, slot}

-- between the start and the last entry no entry has this sequence
abbrev pub IsHole : Mirrored → ℕ → Type 0
IsHole mirror sequence = slot mirror sequence ≡ hole

-- a range, by its first and its last, has holes alone, at least one, and those beside it are none
pub record IsLongest (mirror : Mirrored) (range : ℕ × ℕ) : Type 0 where
  pub some : range.0 ≤ range.1
  pub holes : (sequence : ℕ) → range.0 ≤ sequence → sequence ≤ range.1 → IsHole mirror sequence
  pub before : IsHole mirror (range.0 - 1) → ⊥
  pub behind : IsHole mirror (range.1 + 1) → ⊥

-- each range begins behind the one before it
abbrev pub RangesRise : ℕ → List (ℕ × ℕ) → Type 0
RangesRise from [] = ⊤
RangesRise from (range ∷ ranges) = (from ≤ range.0) × RangesRise (range.1 + 1) ranges

-- a sequence lies in one of the ranges
abbrev pub LiesInOne : ℕ → List (ℕ × ℕ) → Type 0
LiesInOne sequence [] = ⊥
LiesInOne sequence (range ∷ ranges) = ((range.0 ≤ sequence) × (sequence ≤ range.1)) ⊎ LiesInOne sequence ranges

-- the longest ranges of holes, in order
pub record AreHoles (mirror : Mirrored) (ranges : List (ℕ × ℕ)) : Type 0 where
  pub longest : AllByRecursion (IsLongest mirror) ranges
  pub rising : RangesRise 0 ranges
  pub all : (sequence : ℕ) → IsHole mirror sequence → LiesInOne sequence ranges
