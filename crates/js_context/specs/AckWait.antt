-- Waiting until no permit is out.
use Rattle.std.specs.Prelude.{◌≡◌, Bool, true, false, List, ◌++◌, All}
use mathlib.Core.List.{IsPrefix}
use Rattle.js_window.specs.Caller.{Caller, Makes, held}
use Rattle.js_window.specs.declared.history.Call.{Call}
use Rattle.js_window.specs.declared.history.Call.TheVariants.{Got, Full, Give, AllFree}
use Rattle.js_window.specs.declared.history.Entry.{Entry}

-- whether the call asked if all permits are free
abbrev pub asks_all_free : Call → Bool
asks_all_free (AllFree _) = true
asks_all_free Got = false
asks_all_free Full = false
asks_all_free Give = false

-- the caller waited: it asked whether all permits are free, and made no other call. It may have seen more, and holds as many permits
pub record Waited (p q : Caller) : Type 0 where
  pub window : q.window ≡ p.window
  pub number : q.number ≡ p.number
  pub grows : IsPrefix p.seen q.seen
  pub asked : List Entry
  pub mine : q.mine ≡ p.mine ++ asked
  pub alone : All (λ e. asks_all_free e.call ≡ true) asked
  pub holds : held q ≡ held p

-- the caller waited, and then saw that all permits were free
pub record Settles (p q : Caller) : Type 0 where
  pub between : Caller
  pub waited : Waited p between
  pub asks : Makes (AllFree true) between q
