-- What sessions call for.
use Rattle.std.specs.Prelude.{◌≡◌, ℕ, List, [], Option, Some, None, Result, Ok, Err}
use Rattle.js_event_log_sessions.specs.declared.error.SessionsError.{SessionsError}
use Rattle.js_event_log_sessions.specs.declared.session.Session.{Session}
use Rattle.js_event_log_sessions.specs.GaplessSessions.{AreServed, LeaveNoGap}
use Rattle.js_event_log_sessions.specs.Runs.{refuse_sessions}
use Rattle.js_ordered_table.specs.Gapless.{Logged, Server}
use Rattle.js_tool_transcript.specs.declared.transcript.Unread.{Unread}
use Rattle.js_tool_transcript.specs.Transcript.{StopsAt}
use Rattle.js_tool_event_log.specs.declared.sessions.report.SessionsReport.{SessionsReport}
use Rattle.js_tool_event_log.specs.declared.sessions.report.SessionsReport.TheVariants.{Done, Refused}
use Rattle.js_tool_event_log.specs.SessionTexts.{sessions_text, refusal_text}

-- the text, unless they are refused
abbrev pub report_from : Option SessionsError → List ℕ → SessionsReport
report_from None text = Done text
report_from (Some refusal) text = Refused (refusal_text refusal)

-- the text of all sessions from a bookmark on, or the line of the first refusal that applies
abbrev pub report_of : ℕ → List Session → SessionsReport
report_of next sessions = report_from (refuse_sessions next sessions) (sessions_text next sessions)

-- what was read is reported on, or it is the number of the first line that does not read; want of memory may come before either
abbrev pub Reports : ℕ → Result (List Session) ℕ → Result SessionsReport Unread → Type 0
Reports next reading (Ok report) = (sessions : List Session) × (reading ≡ Ok sessions) × (report ≡ report_of next sessions)
Reports next reading (Err unread) = StopsAt unread reading

-- The committed yields of sessions whose text is reported leave no gap, where each was served of one log by an honest server.
abbrev pub AreJoined : ℕ → Result (List Session) ℕ → SessionsReport → Type 0
AreJoined next reading (Done text) =
    (sessions : List Session) (log : List Logged) (servers : List Server) → reading ≡ Ok sessions → AreServed log [] sessions servers → LeaveNoGap log servers next sessions
AreJoined next reading (Refused line) = Unit {0}
