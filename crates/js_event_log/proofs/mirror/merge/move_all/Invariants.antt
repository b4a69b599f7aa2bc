use Rattle.std.proofs.Common.{◌≡◌, ◌+◌, ◌≤◌, ◌++◌, vec_len, vec_capacity}
use Rattle.std.specs.Vec.Iter.{into_iter_items, into_iter_len}
use Rattle.js_event_log.proofs.mirror.merge.move_all.Given as goal

abbrev pub invariant-loop-entry : goal.invariant-loop-entry
invariant-loop-entry l = record {
  moved : l.to.items ++ into_iter_items l.entry-iterator ≡ l.initial.to.items ++ l.fn.from.items;
  room : vec_len l.to + into_iter_len l.entry-iterator ≤ vec_capacity l.to;
}
