-- A polled consumer passes row after row, each as the link then answers. A poll may stop between any two rows, and the next one goes on there.
use Rattle.std.specs.Prelude.{◌≡◌, ℕ, Bool, true, false, List, [], ◌∷◌, ◌++◌, filter, ⊤}
use Rattle.std.specs.List.{AllByRecursion}
use Rattle.js_link.specs.RowInput.{RowInput}
use Rattle.js_link.specs.Wish.{row_input}
use Rattle.js_link.specs.declared.wish.Wish.{Wish}
use Rattle.js_link.specs.declared.wish.Met.{Met}
use Rattle.js_ordered_table.specs.declared.replay_state.ReplayState.{ReplayState}
use Rattle.js_ordered_table.specs.Wishes.{wish, matter_of, met_in}
use Rattle.js_ordered_table.specs.declared.consumer.Consumer.{Consumer}
use Rattle.js_ordered_table.specs.Consumer.{Matter, Passed}
use Rattle.js_ordered_table.specs.declared.row.Row.{Row}
use Rattle.js_ordered_table.specs.declared.row.Row.TheVariants.{Event}
use Rattle.js_ordered_table.specs.declared.consumer.ReplayInput.{ReplayInput}
use Rattle.js_ordered_table.specs.Fold.{passing, after}
use Rattle.js_ordered_table.specs.Table.{pass}
use Rattle.js_ordered_table.specs.Gapless.{Server}
use Rattle.js_ordered_table.specs.Invariant.{IsKept, IsHonestRow, IsHonestMatter, OpensAsAsked}
use Rattle.js_ordered_table.specs.declared.setup.OrderedSetup.{OrderedSetup}
use Rattle.js_ordered_table.specs.declared.run.Output.{Output}
use Rattle.js_ordered_table.specs.declared.run.Output.TheVariants as out

-- where a consumer stands: the rows of its turn that are still to be passed
pub record Position : Type 0 where
  pub consumer : Consumer
  pub todo : List Row

-- how one row is passed: its moment, what its send comes to, and what the link answers to what it asks
pub record Stride : Type 0 where
  pub passing : RowInput
  pub matter : Matter

-- where a walk leads, and what it puts out
pub record Moved : Type 0 where
  pub position : Position
  pub outputs : List Output

-- a turn begins where nothing is left to do
abbrev pub first_row : List Row → Row
first_row [] = Event
first_row (row ∷ rows) = row

-- what is left to do after it
abbrev pub later_rows : List Row → List Row
later_rows [] = []
later_rows (row ∷ rows) = rows

-- one row
abbrev pub step : ReplayInput → Stride → Position → Moved
step g stride at =
    let passed = pass g stride.passing stride.matter (first_row at.todo) at.consumer in
    record {
      position = record { consumer = passed.consumer; todo = passed.next ++ later_rows at.todo };
      outputs = passed.outputs;
    }

-- row after row
abbrev pub walk : ReplayInput → List Stride → Position → Moved
walk g [] at = record { position = at; outputs = [] }
walk g (stride ∷ strides) at =
    let moved = step g stride at in
    let rest = walk g strides moved.position in
    record { position = rest.position; outputs = moved.outputs ++ rest.outputs }

-- ---- what goes to the link, and what is handed out

-- it is handed out to the user
abbrev pub is_handed : Output → Bool
is_handed (out.Yield sequence number subject payload) = true
is_handed (out.Item kind) = true
is_handed _ = false

-- it goes to the link
abbrev pub is_sent : Output → Bool
is_sent (out.Request number subject payload) = true
is_sent (out.Publish subject reply payload) = true
is_sent (out.Subscribe inbox subject) = true
is_sent _ = false

-- what is handed out, in order
abbrev pub handed : List Output → List Output
handed outputs = filter is_handed outputs

-- what goes to the link, in order
abbrev pub sent : List Output → List Output
sent outputs = filter is_sent outputs

-- ---- what the link does at each row

-- what the next row asks
abbrev pub wish_next : ReplayInput → Position → Wish
wish_next g at = wish g (first_row at.todo) at.consumer

-- a row is passed at this moment with what it met
pub record IsStride (now : ℕ) (wish : Wish) (met : Met) (stride : Stride) : Type 0 where
  pub passing : stride.passing ≡ row_input now met
  pub matter : stride.matter ≡ matter_of wish met

-- where a consumer stands beside the link of a replay
abbrev pub position_of : ReplayState → List Row → Position
position_of w todo = record { consumer = w.consumer; todo = todo }

-- how the next row is passed
abbrev pub passed_by : ReplayInput → Stride → ReplayState → List Row → Passed
passed_by g stride w todo = pass g stride.passing stride.matter (first_row todo) w.consumer

-- each row is passed at a moment, with the next numbers, and meets what an event brings for the one thing that it asks
abbrev pub IsTold : ReplayInput → ℕ → Matter → List Stride → ReplayState → List Row → Type 0
IsTold g now m [] w todo = ⊤
IsTold g now m (stride ∷ strides) w todo =
    IsStride now (wish_next g (position_of w todo)) (met_in g (passing g now w) m (first_row todo) w.consumer) stride
    × IsTold g now m strides (after w (passed_by g stride w todo)) ((passed_by g stride w todo).next ++ later_rows todo)

-- ---- a walk along which the arrivals are honest, and what is subscribed starts where it was asked to

-- at each row
abbrev pub IsHonestWalk : ReplayInput → Server → List Stride → Position → Type 0
IsHonestWalk g s [] at = ⊤
IsHonestWalk g s (stride ∷ strides) at =
    IsHonestMatter g.setup s stride.matter
    × OpensAsAsked s at.consumer.phase (step g stride at).outputs
    × IsHonestWalk g s strides (step g stride at).position

-- the kept fact of a position
pub record IsKeptPosition (setup : OrderedSetup) (s : Server) (at : Position) : Type 0 where
  pub consumer : IsKept setup s at.consumer
  pub todo : AllByRecursion (IsHonestRow setup s) at.todo
