use Rattle.std.proofs.Common.{drop}
use Rattle.js_event_log.proofs.MirrorPass.{IsPassing, IsSearching}
use Rattle.js_event_log.proofs.mirror.merge.first_conflict.Given as goal

abbrev pub invariant-loop-entry : goal.invariant-loop-entry
invariant-loop-entry l = record {
  pass : IsPassing l.one l.rest (drop l.entry-index l.other);
  search : IsSearching l.one l.other (drop l.entry-index l.other);
}
