use Rattle.std.proofs.Common.{take}
use Rattle.js_event_log_sessions.specs.SessionReplay.{HaveRun}
use Rattle.js_event_log_sessions.proofs.runs.run_sessions.Given as goal

abbrev pub invariant-loop-session : goal.invariant-loop-session
invariant-loop-session l = HaveRun l.fn.next (take l.session-index l.sessions) l.so_far l.runs
