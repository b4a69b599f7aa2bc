-- A walk keeps what is known of its consumer, and its yields join. A replay's event is such a walk.
use Rattle.std.proofs.Common.{ℕ, List, [], ◌∷◌, refl}
use Rattle.std.specs.List.{AllByRecursion}
use Rattle.js_ordered_table.specs.declared.row.Row.{Row}
use Rattle.js_ordered_table.specs.declared.consumer.ReplayInput.{ReplayInput}
use Rattle.js_ordered_table.specs.Table.{pass}
use Rattle.js_ordered_table.specs.Walk.{Position, Stride, Moved, first_row, later_rows, step, walk, IsHonestWalk, IsKeptPosition}
use Rattle.js_ordered_table.specs.declared.setup.OrderedSetup.{OrderedSetup}
use Rattle.js_ordered_table.specs.Gapless.{Server, IsWhole}
use Rattle.js_ordered_table.specs.Invariant.{IsHonestRow, Extends}
use Rattle.js_ordered_table.proofs.Rewritten.{all_append}
use Rattle.js_ordered_table.proofs.RowInvariant.{Keeps, pass_keeps}
use Rattle.js_ordered_table.proofs.Chains.{extends_append}

first_honest : (setup : OrderedSetup) (s : Server) (todo : List Row) → AllByRecursion (IsHonestRow setup s) todo → IsHonestRow setup s (first_row todo)
first_honest setup s [] honest = tt
first_honest setup s (row ∷ rows) honest = honest.0

later_honest : (setup : OrderedSetup) (s : Server) (todo : List Row) → AllByRecursion (IsHonestRow setup s) todo → AllByRecursion (IsHonestRow setup s) (later_rows todo)
later_honest setup s [] honest = tt
later_honest setup s (row ∷ rows) honest = honest.1

-- what a walk keeps
pub record KeepsAlong (g : ReplayInput) (s : Server) (last : ℕ) (moved : Moved) : Type 0 where
  pub kept : IsKeptPosition g.setup s moved.position
  pub extends : Extends g.setup s last moved.outputs moved.position.consumer.core.stream_sequence

pub walk_keeps : (g : ReplayInput) (s : Server) → ((inbox : ℕ) → IsWhole g.setup s.log s.removed (s.starts inbox) (s.lists inbox))
    → (strides : List Stride) (at : Position) → IsKeptPosition g.setup s at → IsHonestWalk g s strides at
    → KeepsAlong g s at.consumer.core.stream_sequence (walk g strides at)
walk_keeps g s whole [] at k honest = record { kept = k; extends = refl }
walk_keeps g s whole (stride ∷ strides) at k honest =
    let moved : Moved = step g stride at in
    let one : Keeps g.setup s at.consumer.core.stream_sequence (pass g stride.passing stride.matter (first_row at.todo) at.consumer) =
    pass_keeps g s whole stride.passing stride.matter (first_row at.todo) at.consumer k.consumer honest.0 (first_honest g.setup s at.todo k.todo) honest.1 in
    let next : IsKeptPosition g.setup s moved.position = record {
      consumer = one.kept;
      todo = all_append (IsHonestRow g.setup s) (pass g stride.passing stride.matter (first_row at.todo) at.consumer).next (later_rows at.todo) one.rows (later_honest g.setup s at.todo k.todo);
    } in
    let rest : KeepsAlong g s moved.position.consumer.core.stream_sequence (walk g strides moved.position) = walk_keeps g s whole strides moved.position next honest.2 in
    record {
      kept = rest.kept;
      extends = extends_append g.setup s at.consumer.core.stream_sequence moved.position.consumer.core.stream_sequence (walk g strides moved.position).position.consumer.core.stream_sequence
          moved.outputs (walk g strides moved.position).outputs one.extends rest.extends;
    }
