use Rattle.std.proofs.Common.{◌≡◌, ◌+◌, ◌-◌, ◌++◌, drop}
use Rattle.js_event_log.specs.Mirror.{RisesFrom}
use Rattle.js_event_log.proofs.MirrorGaps.{gaps}
use Rattle.js_event_log.proofs.mirror.Mirror.holes.Given as goal

abbrev pub invariant-loop-entry : goal.invariant-loop-entry
invariant-loop-entry l = record {
  gaps : gaps (l.self.start - 1) l.entry-items ≡ l.ranges.items ++ gaps l.last (drop l.entry-index l.entry-items);
  rising : RisesFrom (l.last + 1) (drop l.entry-index l.entry-items);
}
