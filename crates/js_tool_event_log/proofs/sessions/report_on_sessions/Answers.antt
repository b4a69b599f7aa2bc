use Rattle.js_tool_event_log.specs.SessionInput.{sessions}
use Rattle.js_tool_event_log.proofs.JoinedSessions.{sessions_reported}
use Rattle.js_tool_event_log.proofs.sessions.report_on_sessions.Goals as goal

pub returns-in-Ok : goal.returns-in-Ok
returns-in-Ok c = sessions_reported c.args.next (sessions c.args.bytes) c.in-Ok.made c.as_report.result c.in-Ok.ensures.report c.in-Ok.ensures.joined c.as_report.ensures
