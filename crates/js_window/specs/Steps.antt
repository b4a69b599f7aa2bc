-- What each step on the cell tells the pass that makes it: of its view before, the words before, the words after, and its view after.
use Rattle.std.specs.Prelude.{◌≡◌, ℕ, ◌+◌, ◌<◌, ◌==◌, List, [], ◌∷◌, ◌++◌, Some, None}
use mathlib.Core.List.{IsPrefix}
use Rattle.js_window.specs.declared.history.Call.{Call}
use Rattle.js_window.specs.declared.history.Call.TheVariants.{Got, Full, Give, AllFree}
use Rattle.js_window.specs.declared.history.Entry.{Entry}
use Rattle.js_window.specs.declared.rule.Standing.TheVariants.{Live}
use Rattle.js_window.specs.declared.rule.View.{View}
use Rattle.js_window.specs.History.{entry, out_after, calls_by, IsLegal}
use Rattle.js_window.specs.Rule.{free_in, capacity_in, ComesAfter}

-- a live view that bears this number and knows this capacity
pub record IsPass (number capacity : ℕ) (v : View) : Type 0 where
  pub live : v.standing ≡ Live
  pub bears : v.number ≡ Some number
  pub knows : v.capacity ≡ Some capacity

-- a live view that knows this capacity and has no number yet
pub record IsUnnumbered (capacity : ℕ) (v : View) : Type 0 where
  pub live : v.standing ≡ Live
  pub bears_none : v.number ≡ None
  pub knows : v.capacity ≡ Some capacity

-- what it has seen is legal, and has the calls that it made and no others of it
pub record IsCaller (number capacity : ℕ) (v : View) : Type 0 where
  pub pass : IsPass number capacity v
  pub legal : IsLegal capacity v.seen
  pub own : calls_by number v.seen ≡ v.mine

-- the pass made no call, and may have seen what others did
pub record SeesMore (number capacity : ℕ) (v w : View) : Type 0 where
  pub caller : IsCaller number capacity w
  pub seen : IsPrefix v.seen w.seen
  pub mine : w.mine ≡ v.mine

-- the pass made one call, after what others did
pub record Adds (number capacity : ℕ) (call : Call) (v w : View) : Type 0 where
  pub caller : IsCaller number capacity w
  pub between : List Entry
  pub seen : w.seen ≡ (v.seen ++ between) ++ entry number call ∷ []
  pub mine : w.mine ≡ v.mine ++ entry number call ∷ []

-- so many permits were free, after what the pass has now seen
abbrev pub IsFree : ℕ → List ℕ → View → Type 0
IsFree capacity words w = free_in words + out_after w.seen ≡ capacity

-- open: the first pass learns the capacity
abbrev pub Opened : View → List ℕ → List ℕ → View → Type 0
Opened v before after w = w ≡ record v { capacity = Some (capacity_in after) }

-- a look by a view without a number: it gets a number that no call that it has seen bears, and that comes after the one it was split from
abbrev pub Named : View → List ℕ → List ℕ → View → Type 0
Named v before after w =
    (capacity : ℕ) → IsUnnumbered capacity v
    → (number : ℕ) × (w ≡ record v { number = Some number }) × IsCaller number capacity w × (calls_by number w.seen ≡ []) × ComesAfter v.origin number

-- a look after a join: both lists that the join kept begin what the view has seen
abbrev pub Recalled : View → List ℕ → List ℕ → View → Type 0
Recalled v before after w =
    (number capacity : ℕ) → IsPass number capacity v
    → (w ≡ v) × IsCaller number capacity w × IsPrefix v.joined_own v.seen × IsPrefix v.joined_other v.seen

-- a look: how many permits are free
abbrev pub Looked : View → List ℕ → List ℕ → View → Type 0
Looked v before after w =
    (number capacity : ℕ) → IsPass number capacity v → SeesMore number capacity v w × IsFree capacity before w

-- refuse where no permit is free, a look elsewhere
abbrev pub Refused : View → List ℕ → List ℕ → View → Type 0
Refused v before after w =
    (number capacity : ℕ) → IsPass number capacity v
    → (free_in before ≡ 0 → Adds number capacity Full v w)
    × (0 < free_in before → SeesMore number capacity v w)
    × IsFree capacity before w

-- take where the free count falls, a look where it stays
abbrev pub Taken : View → List ℕ → List ℕ → View → Type 0
Taken v before after w =
    (number capacity : ℕ) → IsPass number capacity v
    → (free_in before ≡ free_in after + 1 → Adds number capacity Got v w)
    × (free_in before ≡ free_in after → SeesMore number capacity v w)

-- give where the free count rises, a look where it stays
abbrev pub Given : View → List ℕ → List ℕ → View → Type 0
Given v before after w =
    (number capacity : ℕ) → IsPass number capacity v
    → (free_in before + 1 ≡ free_in after → Adds number capacity Give v w)
    × (free_in before ≡ free_in after → SeesMore number capacity v w)

-- all-free: whether the free count is the capacity
abbrev pub AllFreeAsked : View → List ℕ → List ℕ → View → Type 0
AllFreeAsked v before after w =
    (number capacity : ℕ) → IsPass number capacity v
    → Adds number capacity (AllFree (free_in before == capacity_in before)) v w
