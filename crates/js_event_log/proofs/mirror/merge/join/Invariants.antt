use Rattle.std.proofs.Common.{◌≡◌, ◌+◌, ◌≤◌, ◌++◌, vec_len, vec_capacity, deque_len}
use Rattle.std.specs.Vec.Iter.{into_iter_items, into_iter_len}
use Rattle.js_event_log.specs.MirrorJoin.{joined}
use Rattle.js_event_log.proofs.mirror.merge.join.Given as goal

abbrev pub invariant-loop-entry : goal.invariant-loop-entry
invariant-loop-entry l = record {
  joined : joined l.fn.one.items l.fn.other.items ≡ l.to.items ++ joined (into_iter_items l.entry-iterator) l.other.items;
  room : vec_len l.to + (into_iter_len l.entry-iterator + deque_len l.other) ≤ vec_capacity l.to;
}
