use Rattle.std.proofs.Common.{◌≡◌, List, None, subst, take, take_all, arith}
use Rattle.js_event_log_sessions.specs.declared.session.Session.{Session}
use Rattle.js_event_log_sessions.specs.Runs.{refuse_sessions}
use Rattle.js_event_log_sessions.proofs.GaplessSessions.{sessions_leave_no_gap}
use Rattle.js_event_log_sessions.proofs.AllSessions.{refused_at}
use Rattle.js_event_log_sessions.proofs.runs.run_sessions.Goals as goal

pub returns-in-Err-clause-answer : goal.returns-in-Err-clause-answer
returns-in-Err-clause-answer c =
    refused_at c.args.next c.args.sessions.now c.loop-session.session-index c.session-item.result c.in-Err.refusal (omega arith) c.session-item.is
    (c.in-Err.ensures c.args.next (take c.loop-session.session-index c.args.sessions.now) c.loop-session.invariant)

pub returns-clause-joined : goal.returns-clause-joined
returns-clause-joined c = λ log servers served.
    let all = c.args.sessions.now in
    sessions_leave_no_gap log servers c.args.next all
    (subst (λ (some : List Session). refuse_sessions c.args.next some ≡ None) (take_all c.loop-session.session-index all (omega arith)) c.loop-session.invariant.ended.accepted)
    served
