use Rattle.std.proofs.Common.{◌≡◌, take}
use Rattle.js_event_log.proofs.mirror.Mirror.serve.Given as goal

abbrev pub invariant-loop-entry : goal.invariant-loop-entry
invariant-loop-entry l = l.served.items ≡ take l.entry-index l.entry-items
