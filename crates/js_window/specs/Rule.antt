-- The rule that the cell of a window keeps at each step: all callers have seen beginnings of one legal history, and permits are neither made nor lost.
use Rattle.std.specs.Prelude.{◌≡◌, ℕ, ◌+◌, ◌<◌, ◌≤◌, ⊤, List, [], length, slice_index, sum_by, Option, Some, None, if◌then◌else◌, nat_lt}
use Rattle.std.specs.Option.{unwrap_or}
use mathlib.Core.Option.{some}
use mathlib.Core.List.{IsPrefix}
use lib.ListN.{get_elem?}
use Rattle.js_window.specs.declared.history.Entry.{Entry}
use Rattle.js_window.specs.declared.rule.Standing.{Standing}
use Rattle.js_window.specs.declared.rule.Standing.TheVariants.{Live, Ended, Spent}
use Rattle.js_window.specs.declared.rule.View.{View}
use Rattle.atomic_table.specs.Seated.{TableId}
use Rattle.js_window.specs.Caller.{Caller}
use Rattle.js_window.specs.History.{got_in, given_in, out_after, calls_by, IsLegal}

-- the first word of the cell: how many permits are free
abbrev pub free_in : List ℕ → ℕ
free_in words = slice_index words 0

-- the second word: how many permits there are, or 0 while the cell is closed
abbrev pub capacity_in : List ℕ → ℕ
capacity_in words = slice_index words 1

-- the number that the view bears
abbrev pub number_of : View → ℕ
number_of v = unwrap_or v.number 0

-- the capacity that the view knows
abbrev pub capacity_of : View → ℕ
capacity_of v = unwrap_or v.capacity 0

-- what contracts see of a view of the cell of this table
abbrev pub caller_of : TableId → View → Caller
caller_of table v = record { window = record { table = table; capacity = capacity_of v }; number = number_of v; seen = v.seen; mine = v.mine }

-- the view of the first pass of a closed cell
abbrev pub newcomer : View
newcomer = record { standing = Live; number = None; origin = None; capacity = None; seen = []; mine = []; joined_own = []; joined_other = [] }

-- the view that a split gives: it has seen as much, and has no number yet
abbrev pub copy_of : View → View
copy_of v = record { standing = Live; number = None; origin = v.number; capacity = v.capacity; seen = v.seen; mine = []; joined_own = []; joined_other = [] }

-- the view, which makes no call any more
abbrev pub ended : View → View
ended v = record v { standing = Ended }

-- the longer of two lists, the first where they are as long
abbrev pub longer : List Entry → List Entry → List Entry
longer xs ys = if nat_lt (length xs) (length ys) then ys else xs

-- the first view after a join: it has seen the longer list, and keeps both beside it
abbrev pub joined : View → View → View
joined v w = record v { seen = longer v.seen w.seen; joined_own = v.seen; joined_other = w.seen }

-- the view that a join leaves of the other
abbrev pub spent : View
spent = record { standing = Spent; number = None; origin = None; capacity = None; seen = []; mine = []; joined_own = []; joined_other = [] }

-- the number that a view bears is that of its place; a view without one has made no call
abbrev pub BearsPlace : Option ℕ → ℕ → List Entry → Type 0
BearsPlace None place mine = mine ≡ []
BearsPlace (Some number) place mine = number ≡ place

-- a view that was split from another one has a place after that one's
abbrev pub ComesAfter : Option ℕ → ℕ → Type 0
ComesAfter None place = ⊤
ComesAfter (Some origin) place = origin < place

-- the capacity that a view knows is the cell's; a view that knows none stands only while the cell is closed
abbrev pub KnowsCapacity : Option ℕ → ℕ → Type 0
KnowsCapacity None capacity = capacity ≡ 0
KnowsCapacity (Some known) capacity = (known ≡ capacity) × (0 < capacity)

-- a live view at this place: it has seen a beginning of the history, which has its calls, each once and in order, and it has seen them all
pub record IsLive (log : List Entry) (capacity place : ℕ) (v : View) : Type 0 where
  pub seen : IsPrefix v.seen log
  pub knows : KnowsCapacity v.capacity capacity
  pub bears : BearsPlace v.number place v.mine
  pub after : ComesAfter v.origin place
  pub own : calls_by place log ≡ v.mine
  pub own_seen : calls_by place v.seen ≡ v.mine
  pub joined_own : IsPrefix v.joined_own v.seen
  pub joined_other : IsPrefix v.joined_other v.seen

-- an ended view: it has seen a beginning of the history, and gave back all that it got
pub record HasEnded (log : List Entry) (place : ℕ) (v : View) : Type 0 where
  pub seen : IsPrefix v.seen log
  pub holds_none : got_in (calls_by place log) ≡ given_in (calls_by place log)

-- a spent view made no call
abbrev pub Stands : Standing → List Entry → ℕ → ℕ → View → Type 0
Stands Live log capacity place v = IsLive log capacity place v
Stands Ended log capacity place v = HasEnded log place v
Stands Spent log capacity place v = calls_by place log ≡ []

-- how many permits a pass with this view holds
abbrev pub held_by : Standing → View → ℕ
held_by Live v = out_after v.mine
held_by Ended v = 0
held_by Spent v = 0

-- how many permits all passes hold
abbrev pub held_by_all : List View → ℕ
held_by_all views = sum_by (λ v. held_by v.standing v) views

-- the free count and what all passes hold make the capacity
abbrev pub Balances : List ℕ → List View → Type 0
Balances words views = free_in words + held_by_all views ≡ capacity_in words

-- there is one legal history: one view has seen it all, every other a beginning of it, and what is not out after it is free
pub record IsOneHistory (words : List ℕ) (views : List View) : Type 0 where
  pub log : List Entry
  pub longest : (place : ℕ) × (v : View) × (get_elem? views place ≡ some v) × (v.seen ≡ log)
  pub legal : IsLegal (capacity_in words) log
  pub free : free_in words + out_after log ≡ capacity_in words
  pub each : (place : ℕ) (v : View) → get_elem? views place ≡ some v → Stands v.standing log (capacity_in words) place v
  pub callers : (place : ℕ) → length views ≤ place → calls_by place log ≡ []
  -- a closed cell has one view and no calls
  pub closed : capacity_in words ≡ 0 → (length views ≡ 1) × (log ≡ [])

-- the rule of the cell
pub record IsKept (words : List ℕ) (views : List View) : Type 0 where
  pub history : IsOneHistory words views
  pub permits : Balances words views

-- between any two steps no permit is made or lost
abbrev pub NoPermitIsLost : Type 0
NoPermitIsLost = (words : List ℕ) (views : List View) → IsKept words views → Balances words views

-- that all passes see one legal history is enough for it
abbrev pub OneHistoryBalances : Type 0
OneHistoryBalances = (words : List ℕ) (views : List View) → IsOneHistory words views → Balances words views
