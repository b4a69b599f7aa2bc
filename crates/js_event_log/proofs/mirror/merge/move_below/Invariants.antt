use Rattle.std.proofs.Common.{◌≡◌, ◌+◌, ◌++◌, vec_len, vec_capacity, deque_len}
use Rattle.js_event_log.specs.MirrorJoin.{front_below, behind_below}
use Rattle.js_event_log.proofs.mirror.merge.move_below.Given as goal

abbrev pub invariant-loop-entry : goal.invariant-loop-entry
invariant-loop-entry l = record {
  moved : l.to.items ++ front_below l.sequence l.from.items ≡ l.initial.to.items ++ front_below l.sequence l.initial.from.items;
  left : behind_below l.sequence l.from.items ≡ behind_below l.sequence l.initial.from.items;
  number : vec_len l.to + deque_len l.from ≡ vec_len l.initial.to + deque_len l.initial.from;
  capacity : vec_capacity l.to ≡ vec_capacity l.initial.to;
}

abbrev pub decreases-loop-entry : goal.decreases-loop-entry
decreases-loop-entry l = deque_len l.from
