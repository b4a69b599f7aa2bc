-- Timed waits.
use Rattle.std.specs.Prelude.{ℕ, ◌+◌, Bool, false, nat_le, Option, Some, None}
use Rattle.js_base.specs.declared.clock.Timer.{Timer}

-- a wait that was set at a moment is over. One that would end past the last moment of the type never is
abbrev pub is_over : ℕ → ℕ → ℕ → Bool
is_over set wait now = nat_le (set + wait) now

-- the wait is over
abbrev pub is_due : Timer → ℕ → Bool
is_due timer now = is_over timer.set timer.wait now

-- there is a wait, and it is over
abbrev pub is_any_due : Option Timer → ℕ → Bool
is_any_due None now = false
is_any_due (Some timer) now = is_due timer now

-- a moment has come, if there is one
abbrev pub has_come : Option ℕ → ℕ → Bool
has_come None now = false
has_come (Some moment) now = nat_le moment now

-- in nanoseconds
abbrev pub second : ℕ
second = 1_000_000_000
