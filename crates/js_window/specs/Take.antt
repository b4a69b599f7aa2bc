-- What a take answers.
use Rattle.std.specs.Prelude.{◌≡◌, ℕ}
use Rattle.js_window.specs.declared.history.Call.{Call}
use Rattle.js_window.specs.declared.history.Call.TheVariants as call
use Rattle.js_window.specs.declared.window.Take.{Take}
use Rattle.js_window.specs.declared.window.Take.TheVariants.{Got, Full}

-- the call that this is the answer of
abbrev pub call_of : Take → Call
call_of (Got permit) = call.Got
call_of Full = call.Full

-- a permit that was got bears this number
abbrev pub BearsNumber : Take → ℕ → Type 0
BearsNumber (Got permit) number = permit ≡ number
BearsNumber Full number = Unit {0}
