-- The history of a window, and when it is legal.
use Rattle.std.specs.Prelude.{◌≡◌, ℕ, ◌-◌, ◌<◌, ◌==◌, ◌↔◌, Bool, true, false, List, ◌∷◌, ◌++◌, count_by, filter, IsTrue}
use Rattle.js_window.specs.declared.history.Call.{Call}
use Rattle.js_window.specs.declared.history.Call.TheVariants.{Got, Full, Give, AllFree}
use Rattle.js_window.specs.declared.history.Entry.{Entry}

-- this call of the caller with this number
abbrev pub entry : ℕ → Call → Entry
entry caller call = record { caller = caller; call = call }

-- whether the call got a permit
abbrev pub is_got : Call → Bool
is_got Got = true
is_got Full = false
is_got Give = false
is_got (AllFree _) = false

-- whether the call gave a permit back
abbrev pub is_give : Call → Bool
is_give Give = true
is_give Got = false
is_give Full = false
is_give (AllFree _) = false

-- how many permits these calls got
abbrev pub got_in : List Entry → ℕ
got_in history = count_by (λ e. is_got e.call) history

-- how many permits these calls gave back
abbrev pub given_in : List Entry → ℕ
given_in history = count_by (λ e. is_give e.call) history

-- how many permits are out after these calls
abbrev pub out_after : List Entry → ℕ
out_after history = got_in history - given_in history

-- the calls of the caller with this number, in order
abbrev pub calls_by : ℕ → List Entry → List Entry
calls_by caller history = filter (λ e. e.caller == caller) history

-- after this history, on a window with so many permits, a call of this caller may have this answer
abbrev pub MayFollow : ℕ → List Entry → ℕ → Call → Type 0
MayFollow capacity before caller Got = out_after before < capacity
MayFollow capacity before caller Full = out_after before ≡ capacity
MayFollow capacity before caller Give = 0 < out_after (calls_by caller before)
MayFollow capacity before caller (AllFree answer) = IsTrue answer ↔ (out_after before ≡ 0)

-- each call may follow what precedes it
pub record IsLegal (capacity : ℕ) (history : List Entry) : Type 0 where
  pub each : (before after : List Entry) (e : Entry) → history ≡ before ++ e ∷ after → MayFollow capacity before e.caller e.call
