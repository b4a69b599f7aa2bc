use Rattle.std.proofs.Common.{◌≡◌, ◌++◌, drop}
use Rattle.js_event_log.specs.MirrorJoin.{lacking}
use Rattle.js_event_log.proofs.MirrorPass.{IsPassing}
use Rattle.js_event_log.proofs.mirror.merge.missing.Given as goal

abbrev pub invariant-loop-entry : goal.invariant-loop-entry
invariant-loop-entry l = record {
  pass : IsPassing l.one l.rest (drop l.entry-index l.other);
  lacking : lacking l.one l.other ≡ l.missing.items ++ lacking l.one (drop l.entry-index l.other);
}
