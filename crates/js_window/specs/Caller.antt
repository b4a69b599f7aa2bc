-- What contracts see of a window and of its callers.
use Rattle.std.specs.Prelude.{◌≡◌, ℕ, ◌+◌, ◌⊎◌, List, [], ◌∷◌, ◌++◌}
use mathlib.Core.List.{IsPrefix}
use Rattle.atomic_table.specs.Seated.{TableId}
use Rattle.js_window.specs.declared.history.Call.{Call}
use Rattle.js_window.specs.declared.history.Call.TheVariants.{Got, Full, Give, AllFree}
use Rattle.js_window.specs.declared.history.Entry.{Entry}
use Rattle.js_window.specs.History.{entry, out_after, calls_by, MayFollow, IsLegal}

-- which window it is, and how many permits it has
pub record WindowId : Type 0 where
  pub table : TableId
  pub capacity : ℕ

-- a caller of a window: its number, the beginning of the history that it has seen, and the calls that it made
pub record Caller : Type 0 where
  pub window : WindowId
  pub number : ℕ
  pub seen : List Entry
  pub mine : List Entry

-- how many permits the caller holds: those that it got, less those that it gave back
abbrev pub held : Caller → ℕ
held caller = out_after caller.mine

-- the same caller later: what it had seen begins what it has seen, which is legal and has the caller's calls, each once and in order
pub record Continues (p q : Caller) : Type 0 where
  pub window : q.window ≡ p.window
  pub number : q.number ≡ p.number
  pub grows : IsPrefix p.seen q.seen
  pub legal : IsLegal q.window.capacity q.seen
  pub own : calls_by q.number q.seen ≡ q.mine

-- what a call does to the number of permits that its caller holds
abbrev pub Holds : Call → ℕ → ℕ → Type 0
Holds Got before after = after ≡ before + 1
Holds Full before after = after ≡ before
Holds Give before after = after + 1 ≡ before
Holds (AllFree _) before after = after ≡ before

-- the caller made this call: it is the last that the caller has seen, it follows all that was seen before, it may follow it, and it is one more of the caller's
pub record Makes (call : Call) (p q : Caller) : Type 0 where
  pub goes_on : Continues p q
  pub before : List Entry
  pub earlier : IsPrefix p.seen before
  pub last : q.seen ≡ before ++ entry p.number call ∷ []
  pub cause : MayFollow p.window.capacity before p.number call
  pub mine : q.mine ≡ p.mine ++ entry p.number call ∷ []
  pub holds : Holds call (held p) (held q)

-- the caller made no call, and may have seen what others did
pub record Watches (p q : Caller) : Type 0 where
  pub window : q.window ≡ p.window
  pub number : q.number ≡ p.number
  pub grows : IsPrefix p.seen q.seen
  pub mine : q.mine ≡ p.mine

-- a new caller of the same window, which has seen as much and made no call, and whose number no call that was seen bears
pub record Splits (p q : Caller) : Type 0 where
  pub window : q.window ≡ p.window
  pub seen : q.seen ≡ p.seen
  pub legal : IsLegal q.window.capacity q.seen
  pub mine : q.mine ≡ []
  pub holds_none : held q ≡ 0
  pub fresh : calls_by q.number q.seen ≡ []

-- the caller has seen what the two had seen, which is what one of them had seen, and it made no call
pub record Joins (p other q : Caller) : Type 0 where
  pub goes_on : Continues p q
  pub grows_other : IsPrefix other.seen q.seen
  pub one_of_both : (q.seen ≡ p.seen) ⊎ (q.seen ≡ other.seen)
  pub mine : q.mine ≡ p.mine
  pub holds : held q ≡ held p
