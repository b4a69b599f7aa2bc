use Rattle.std.proofs.Common.{refl}
use Rattle.js_ordered_stream.proofs.LeftRows.{held_stands}
use Rattle.js_ordered_stream.proofs.task_row.is_held_left.Goals as goal

pub returns : goal.returns
returns c = held_stands c.args.held.now c.as_slice.result.now _ c.as_slice.ensures refl
