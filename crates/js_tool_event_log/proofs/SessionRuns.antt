-- One session more, and all of them.
use Rattle.std.proofs.Common.{◌≡◌, ℕ, List, [], ◌∷◌, ◌++◌, Option, Some, None, IfOk, sym, ◌∙◌, subst}
use Rattle.std.specs.Prelude.{Result, Ok, Err}
use Rattle.js_event_log_sessions.specs.declared.error.SessionsError.{SessionsError}
use Rattle.js_event_log_sessions.specs.declared.session.Session.{Session}
use Rattle.js_tool_transcript.specs.declared.transcript.Unread.{Unread}
use Rattle.js_tool_transcript.specs.declared.transcript.Unread.TheVariants as unread
use Rattle.js_tool_transcript.specs.declared.transcript.setup.Setup.{Setup}
use Rattle.js_tool_transcript.specs.Transcript.{StopsAt}
use Rattle.js_tool_event_log.specs.declared.sessions.reader.Reader.{Reader}
use Rattle.js_tool_event_log.specs.declared.sessions.report.SessionsReport.{SessionsReport}
use Rattle.js_tool_event_log.specs.declared.sessions.report.SessionsReport.TheVariants as report
use Rattle.js_tool_event_log.specs.declared.sessions.report.Stage.{Stage}
use Rattle.js_tool_event_log.specs.declared.sessions.report.Stage.TheVariants as stage
use Rattle.js_tool_event_log.specs.declared.sessions.session.EndedText.{EndedText}
use Rattle.js_tool_event_log.specs.declared.sessions.session.SessionText.{SessionText}
use Rattle.js_tool_event_log.specs.SessionProgress.{rest_of, HaveText, Begins, Ends, PassesLines, IsRefusedIn, IsLess, RunsOn, RefusesBy, RefusesIn}
use Rattle.js_tool_event_log.specs.SessionReport.{Reports, AreJoined}
use Rattle.js_tool_event_log.specs.SessionInput.{session_of}
use Rattle.js_tool_event_log.specs.SessionTexts.{sessions_end}
use Rattle.js_tool_event_log.proofs.SessionsReported.{refused_begin, refused_between, refused_last, refused_reports, refused_stops, done_report, reports_joined}

-- ---- refusals

no_memory : (u : Unread) (reading : Result (List Session) ℕ) → u ≡ unread.OutOfMemory → StopsAt u reading
no_memory unread.OutOfMemory reading is = tt
no_memory (unread.BadLine n) reading is = cc

-- a session that is refused by some cause comes to what this cause says
abbrev pub IsRefusedSo : EndedText → Setup → Reader → Reader → SessionsError → Type 0
IsRefusedSo ended setup was is refusal = (next : ℕ) (done : List Session) → HaveText next done ended → IsRefusedIn next refusal is (rest_of done setup [] was)

refused_runs : (ended : EndedText) (setup : Setup) (was is : Reader) (refusal : SessionsError) (result : Result Stage Unread) → IsRefusedSo ended setup was is refusal → RefusesBy refusal result
    → RunsOn ended setup was is result
refused_runs ended setup was is refusal (Ok (stage.Last all)) refused never = absurd never
refused_runs ended setup was is refusal (Ok (stage.More all following)) refused never = absurd never
refused_runs ended setup was is refusal (Ok (stage.Refused named)) refused (same, other) = λ next done have. (
  (λ none. other (sym same ∙ none)),
  subst (λ (r : SessionsError). IsRefusedIn next r is (rest_of done setup [] was)) (sym same) (refused next done have),
)
refused_runs ended setup was is refusal (Err u) refused none = λ next done have. no_memory u (rest_of done setup [] was) none

pub refuses_less : (refusal : SessionsError) (result : Result Stage Unread) (now before : ℕ) → RefusesBy refusal result → IfOk result (λ s. IsLess s now before)
refuses_less refusal (Ok (stage.Last all)) now before refuses = tt
refuses_less refusal (Ok (stage.More all following)) now before never = absurd never
refuses_less refusal (Ok (stage.Refused named)) now before refuses = tt
refuses_less refusal (Err u) now before refuses = tt

-- ---- one session

pub begin_refused : (ended : EndedText) (setup : Setup) (was : Reader) (refusal : SessionsError) (result : Result Stage Unread) → Begins ended setup (Err refusal) → RefusesBy refusal result
    → RunsOn ended setup was was result
begin_refused ended setup was refusal result begins refuses =
    refused_runs ended setup was was refusal result (λ next done have. refused_begin next done setup refusal was (begins next done have)) refuses

end_refuses : (ended : EndedText) (setup : Setup) (old new : SessionText) (was is : Reader) (following : Option Setup) (refusal : SessionsError) → Begins ended setup (Ok old)
    → PassesLines old was new is (Ok following) → Ends new (Err refusal) → IsRefusedSo ended setup was is refusal
end_refuses ended setup old new was is None refusal begins passes ends = λ next done have.
    let (all, has, reads, none) = passes next done setup [] (begins next done have) in
    refused_last next (done ++ session_of setup all ∷ []) refusal is (rest_of done setup [] was) (ends next done setup all has) reads none
end_refuses ended setup old new was is (Some following) refusal begins passes ends = λ next done have.
    let (all, has, reads) = passes next done setup [] (begins next done have) in
    refused_between next (done ++ session_of setup all ∷ []) following refusal is (rest_of done setup [] was) (ends next done setup all has) reads

pub end_refused : (ended : EndedText) (setup : Setup) (old new : SessionText) (was is : Reader) (following : Option Setup) (refusal : SessionsError) (result : Result Stage Unread)
    → Begins ended setup (Ok old) → PassesLines old was new is (Ok following) → Ends new (Err refusal) → RefusesBy refusal result → RunsOn ended setup was is result
end_refused ended setup old new was is following refusal result begins passes ends refuses =
    refused_runs ended setup was is refusal result (end_refuses ended setup old new was is following refusal begins passes ends) refuses

pub runs_last : (ended all : EndedText) (setup : Setup) (old new : SessionText) (was is : Reader) → Begins ended setup (Ok old) → PassesLines old was new is (Ok None) → Ends new (Ok all)
    → RunsOn ended setup was is (Ok (stage.Last all))
runs_last ended all setup old new was is begins passes ends = λ next done have.
    let (lines, has, reads, none) = passes next done setup [] (begins next done have) in
    (session_of setup lines, ends next done setup lines has, reads)

pub runs_more : (ended all : EndedText) (setup following : Setup) (old new : SessionText) (was is : Reader) → Begins ended setup (Ok old) → PassesLines old was new is (Ok (Some following))
    → Ends new (Ok all) → RunsOn ended setup was is (Ok (stage.More all following))
runs_more ended all setup following old new was is begins passes ends = λ next done have.
    let (lines, has, reads) = passes next done setup [] (begins next done have) in
    (session_of setup lines, ends next done setup lines has, reads)

pub runs_stop : (ended : EndedText) (setup : Setup) (old new : SessionText) (was is : Reader) (u : Unread) → Begins ended setup (Ok old) → PassesLines old was new is (Err u)
    → RunsOn ended setup was is (Err u)
runs_stop ended setup old new was is u begins passes = λ next done have. passes next done setup [] (begins next done have)

-- ---- all sessions

-- these sessions have ended, and the lines that are left say the rest
pub record HasRun (next : ℕ) (first : Setup) (from : Reader) (ended : EndedText) (setup : Setup) (is : Reader) : Type 0 where
  pub done : List Session
  pub have : HaveText next done ended
  pub rest : rest_of [] first [] from ≡ rest_of done setup [] is

pub run_last : (next : ℕ) (first : Setup) (from : Reader) (ended all : EndedText) (setup : Setup) (was is : Reader) (made : SessionsReport) → HasRun next first from ended setup was
    → RunsOn ended setup was is (Ok (stage.Last all)) → made ≡ report.Done (all.text.items ++ sessions_end all.sessions.count all.sessions.committed all.sessions.next)
    → Reports next (rest_of [] first [] from) (Ok made)
run_last next first from ended all setup was is made run runs says =
    let (s, have, reads) = runs next run.done run.have in
    (run.done ++ s ∷ [], run.rest ∙ reads, says ∙ done_report next (run.done ++ s ∷ []) all have)

pub run_refused : (next : ℕ) (first : Setup) (from : Reader) (ended : EndedText) (setup : Setup) (was is : Reader) (refusal : SessionsError) (result : Result SessionsReport Unread)
    → HasRun next first from ended setup was → RunsOn ended setup was is (Ok (stage.Refused refusal)) → RefusesIn refusal is result → Reports next (rest_of [] first [] from) result
run_refused next first from ended setup was is refusal (Ok made) run runs (more, reads, says) =
    let (other, refused) = runs next run.done run.have in
    let (all, is_all, reported) = refused_reports next refusal is (rest_of run.done setup [] was) more made other refused reads says in
    (all, run.rest ∙ is_all, reported)
run_refused next first from ended setup was is refusal (Err u) run runs stops =
    subst (λ (reading : Result (List Session) ℕ). StopsAt u reading) (sym run.rest)
    (refused_stops next refusal is (rest_of run.done setup [] was) u (runs next run.done run.have).1 stops)

-- ---- the bytes

pub reports_same : (next : ℕ) (reading same : Result (List Session) ℕ) (result : Result SessionsReport Unread) → reading ≡ same → Reports next same result → Reports next reading result
reports_same next reading same result is reports = subst (λ (r : Result (List Session) ℕ). Reports next r result) (sym is) reports

pub joined_result : (next : ℕ) (reading : Result (List Session) ℕ) (result : Result SessionsReport Unread) → Reports next reading result → IfOk result (λ made. AreJoined next reading made)
joined_result next reading (Ok made) reports = reports_joined next reading made reports
joined_result next reading (Err u) reports = tt
