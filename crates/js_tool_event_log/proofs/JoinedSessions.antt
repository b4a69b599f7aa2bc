-- What is made of sessions, and what their text says of the log of honest servers.
use Rattle.std.proofs.Common.{◌≡◌, ℕ, List, Option, Some, None, IfSome, Result, Ok, refl, subst, sym, ap, ◌∙◌}
use Rattle.std.specs.Io.KnownBytes.{Appends}
use Rattle.js_event_log_sessions.specs.declared.error.SessionsError.{SessionsError}
use Rattle.js_event_log_sessions.specs.declared.session.Session.{Session}
use Rattle.js_event_log_sessions.specs.Runs.{refuse_sessions}
use Rattle.js_tool_event_log.specs.declared.sessions.report.SessionsReport.{SessionsReport}
use Rattle.js_tool_event_log.specs.declared.sessions.report.SessionsReport.TheVariants as made
use Rattle.js_tool_event_log.specs.SessionReport as reports
use Rattle.js_tool_event_log.specs.SessionTexts.{sessions_text}
use Rattle.js_tool.specs.declared.status.Status.{Status}
use Rattle.js_tool.specs.declared.status.Status.TheVariants as status
use Rattle.js_tool_event_log.specs.declared.report.Report.{Report}
use Rattle.js_tool_event_log.specs.declared.report.Report.TheVariants as report
use Rattle.js_tool_event_log.specs.Sessions.{as_report, report_of, Joins, AnswersSessions, WritesLogsSessions}
use Rattle.js_tool_event_log.specs.Report.{Reports}

-- ---- what is made of them

joins : (next : ℕ) (reading : Result (List Session) ℕ) (all : List Session) → reading ≡ Ok all → (r : SessionsReport) → reports.AreJoined next reading r → Joins next all (as_report r)
joins next reading all reads (made.Done text) joined = λ log servers served. joined all log servers reads served
joins next reading all reads (made.Refused line) joined = tt

pub sessions_reported : (next : ℕ) (reading : Result (List Session) ℕ) (r : SessionsReport) (is_made : Report) → reports.Reports next reading (Ok r) → reports.AreJoined next reading r → is_made ≡ as_report r
    → Reports (report_of next) (Joins next) reading (Ok is_made)
sessions_reported next reading r is_made (all, reads, says) joined is =
    (all, reads, is ∙ ap as_report says, subst (λ (x : Report). Joins next all x) (sym is) (joins next reading all reads r joined))

-- ---- what was written

-- they are refused nowhere, and the text is the one that was made
text_of : (refusal : Option SessionsError) (all text : List ℕ) → as_report (reports.report_from refusal all) ≡ report.Done text → (refusal ≡ None) × (text ≡ all)
text_of None all text is = (refl, injected text all (sym is))
  where
    injected : (x y : List ℕ) → report.Done x ≡ report.Done y → x ≡ y
    injected x y same = cc
text_of (Some refusal) all text is = absurd (cc)

pub sessions_told : (next : ℕ) (left left_after taken taken_after : Option (List ℕ)) (faults faults_after : ℕ) (s : Status)
    → AnswersSessions next left left_after taken taken_after faults faults_after s → s ≡ status.Done
    → IfSome left (λ bytes. WritesLogsSessions next bytes taken taken_after)
sessions_told next None left_after taken taken_after faults faults_after s answers done = tt
sessions_told next (Some bytes) left_after taken taken_after faults faults_after s answers done =
    let (all, text, reads, is, appends, joined) = answers.told.done done in
    let said = text_of (refuse_sessions next all) (sessions_text next all) text is in
    record {
      sessions = all;
      reads = reads;
      accepted = said.0;
      written = subst (λ (bytes : List ℕ). Appends taken taken_after bytes) said.1 appends;
      joined = joined;
    }
