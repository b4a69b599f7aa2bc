-- What the word `sessions` answers and writes, and what its text says of the log of honest servers.
use Rattle.std.specs.Prelude.{◌≡◌, ℕ, List, [], Option, None, ⊤}
use Rattle.std.specs.Io.KnownBytes.{Appends}
use Rattle.js_event_log_sessions.specs.declared.session.Session.{Session}
use Rattle.js_event_log_sessions.specs.GaplessSessions.{AreServed, LeaveNoGap}
use Rattle.js_event_log_sessions.specs.Runs.{refuse_sessions}
use Rattle.js_tool_event_log.specs.declared.sessions.report.SessionsReport.{SessionsReport}
use Rattle.js_tool_event_log.specs.declared.sessions.report.SessionsReport.TheVariants as made
use Rattle.js_tool_event_log.specs.SessionReport as reports
use Rattle.js_tool_event_log.specs.SessionInput as lines
use Rattle.js_tool_event_log.specs.SessionTexts.{sessions_text}
use Rattle.js_ordered_table.specs.Gapless.{Logged, Server}
use Rattle.js_tool.specs.declared.status.Status.{Status}
use Rattle.js_tool_event_log.specs.declared.report.Report.{Report}
use Rattle.js_tool_event_log.specs.declared.report.Report.TheVariants as report
use Rattle.js_tool_event_log.specs.Answer.{ReadsBy, AnswersSource}

-- what is made of sessions, as the report of a command
abbrev pub as_report : SessionsReport → Report
as_report (made.Done text) = report.Done text
as_report (made.Refused line) = report.Refused line

-- the text of all sessions from a bookmark on, or the line of the first refusal that applies
abbrev pub report_of : ℕ → List Session → Report
report_of next all = as_report (reports.report_of next all)

-- Over one log, with an honest server for each session, and with what was removed staying removed, the committed yields leave no gap.
abbrev pub AreJoined : ℕ → List Session → Type 0
AreJoined next all = (log : List Logged) (servers : List Server) → AreServed log [] all servers → LeaveNoGap log servers next all

-- so it is of the sessions whose text is made
abbrev pub Joins : ℕ → List Session → Report → Type 0
Joins next all (report.Done text) = AreJoined next all
Joins next all (report.Refused line) = ⊤

-- what sessions answer from a bookmark on, and what is written of them
abbrev pub AnswersSessions : ℕ → Option (List ℕ) → Option (List ℕ) → Option (List ℕ) → Option (List ℕ) → ℕ → ℕ → Status → Type 0
AnswersSessions next left left_after taken taken_after faults faults_after answer =
    AnswersSource lines.sessions (report_of next) (Joins next) left left_after taken taken_after faults faults_after answer

-- What was written is the text of the sessions that the bytes say, none of which is refused. Where each was served of one log by an honest server, the committed yields of all, joined in order, leave no gap from the bookmark to the last of them.
pub record WritesLogsSessions (next : ℕ) (bytes : List ℕ) (taken taken_after : Option (List ℕ)) : Type 0 where
  pub sessions : List Session
  pub reads : ReadsBy lines.sessions bytes sessions
  pub accepted : refuse_sessions next sessions ≡ None
  pub written : Appends taken taken_after (sessions_text next sessions)
  pub joined : AreJoined next sessions
