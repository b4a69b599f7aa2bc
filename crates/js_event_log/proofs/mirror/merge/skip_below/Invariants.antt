use Rattle.std.proofs.Common.{◌≡◌, length}
use Rattle.js_event_log.specs.MirrorJoin.{behind_below}
use Rattle.js_event_log.proofs.mirror.merge.skip_below.Given as goal

abbrev pub invariant-loop-first : goal.invariant-loop-first
invariant-loop-first l = behind_below l.sequence l.entries ≡ behind_below l.sequence l.rest

abbrev pub decreases-loop-first : goal.decreases-loop-first
decreases-loop-first l = length l.rest
