use Rattle.std.proofs.Common.{ℕ, List, [], take}
use Rattle.js_event_log_sessions.specs.declared.session.Session.{Session}
use Rattle.js_event_log_sessions.specs.SessionReplay.{HasComeTo, HasStepped, with_lines}
use Rattle.js_event_log_sessions.proofs.runs.steps_of.Given as goal

abbrev pub invariant-loop-line : goal.invariant-loop-line
invariant-loop-line l = (next : ℕ) (done : List Session) (s : Session) → HasComeTo next done (with_lines s []) l.fn.replay → HasStepped next done (with_lines s (take l.line-index l.lines)) l.replay l.steps
