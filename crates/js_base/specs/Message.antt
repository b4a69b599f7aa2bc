-- How statuses and states are printed.
use Rattle.std.specs.Prelude.{ℕ, List, ◌++◌, codes, nat_lt, if◌then◌else◌}
use Rattle.std.specs.Fmt.{decimal}
use Rattle.js_base.specs.declared.message.State.{State}
use Rattle.js_base.specs.declared.message.State.TheVariants.{Pending, Connected, Disconnected}

-- a number in three digits at least
abbrev pub three_digits : ℕ → List ℕ
three_digits number =
    if nat_lt number 10 then codes "00" ++ decimal number
    else (if nat_lt number 100 then codes "0" ++ decimal number else decimal number)

-- where the connection stands
abbrev pub state_text : State → List ℕ
state_text Pending = codes "pending"
state_text Connected = codes "connected"
state_text Disconnected = codes "disconnected"
