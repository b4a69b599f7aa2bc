use Rattle.std.proofs.Common.{◌≡◌, ℕ, List, ◌++◌, take}
use Rattle.js_ordered_table.specs.Gapless.{Entry, yields}
use Rattle.js_event_log_sessions.specs.SessionReplay.{mark_of}
use Rattle.js_event_log_sessions.proofs.mark.Mark.after.Given as goal

abbrev pub invariant-loop-output : goal.invariant-loop-output
invariant-loop-output l = (next : ℕ) (entries : List Entry) → l.fn.self ≡ mark_of next entries → l.mark ≡ mark_of next (entries ++ yields (take l.output-index l.outputs))
