-- Why a read or a write fails.
use Rattle.std.specs.Prelude.{◌≡◌, ℕ, ◌+◌, ◌-◌, ◌^◌, ◌≤◌, ◌<◌, min, List, length, take, Option, Result, IfOk, OnErr}
use Rattle.std.specs.Io.KnownBytes.{Appends}

-- a count of faults rose, or stands at its last value
abbrev pub Rose : ℕ → ℕ → Type 0
Rose before now = min (before + 1) (2 ^ 64 - 1) ≤ now

-- the count never falls, and rises with each failure
pub record HasCause {T E : Type 0} (before now : ℕ) (result : Result T E) : Type 0 where
  pub later : before ≤ now
  pub failed : OnErr result (Rose before now)

-- and with each write that takes nothing of a piece
pub record HasWriteCause {E : Type 0} (before now : ℕ) (piece : List ℕ) (result : Result ℕ E) : Type 0 where
  pub later : before ≤ now
  pub failed : OnErr result (Rose before now)
  pub stalled : IfOk result (λ n. n ≡ 0 → 0 < length piece → Rose before now)

-- known bytes grow by a prefix of the text
abbrev pub AppendsPrefix : Option (List ℕ) → Option (List ℕ) → List ℕ → Type 0
AppendsPrefix old new text = (k : ℕ) × Appends old new (take k text)
