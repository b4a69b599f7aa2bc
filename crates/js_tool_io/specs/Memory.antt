-- What the ends in memory hold.
use Rattle.std.specs.Prelude.{ℕ, ◌+◌, ◌-◌, ◌^◌, min, List}
use Rattle.std.specs.List.{Contains}

-- a source: the bytes that are left, the numbers of the calls that fail, and how many calls and faults there were
pub record Supply : Type 0 where
  pub left : List ℕ
  pub failing : List ℕ
  pub calls : ℕ
  pub faults : ℕ

-- a sink: the bytes that it has taken, how many it takes at most in a call, the numbers of the calls that fail, and how
-- many calls and faults there were
pub record Store : Type 0 where
  pub taken : List ℕ
  pub most : ℕ
  pub failing : List ℕ
  pub calls : ℕ
  pub faults : ℕ

-- a sink that takes all that it is given: what it has taken, and how often it could not grow
pub record Growing : Type 0 where
  pub taken : List ℕ
  pub faults : ℕ

-- the number of the next call, after so many
abbrev pub next_call : ℕ → ℕ
next_call calls = min (calls + 1) (2 ^ 64 - 1)

-- the next call, after so many, is one that fails
abbrev pub fails_next : List ℕ → ℕ → Type 0
fails_next failing calls = Contains failing (next_call calls)
