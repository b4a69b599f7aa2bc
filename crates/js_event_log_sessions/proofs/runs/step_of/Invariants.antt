use Rattle.std.proofs.Common.{◌≡◌, take}
use Rattle.js_event_log_sessions.proofs.runs.step_of.Given as goal

abbrev pub invariant-loop-output : goal.invariant-loop-output
invariant-loop-output l = l.copies ≡ take l.output-index l.outputs
