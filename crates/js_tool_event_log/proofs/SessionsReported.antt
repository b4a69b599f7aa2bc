-- The report on sessions that have all ended, or that are refused.
use Rattle.std.proofs.Common.{◌≡◌, ℕ, List, [], ◌∷◌, ◌++◌, length, Some, None, refl, sym, ap, ◌∙◌, subst, append_assoc}
use Rattle.std.specs.Prelude.{Result, Ok, Err}
use Rattle.js_event_log_sessions.specs.declared.error.SessionsError.{SessionsError}
use Rattle.js_event_log_sessions.specs.declared.error.SessionsError.TheVariants as error
use Rattle.js_event_log_sessions.specs.declared.session.Line.{Line}
use Rattle.js_event_log_sessions.specs.declared.session.Session.{Session}
use Rattle.js_event_log_sessions.specs.Runs.{all_committed, refuse_sessions, IsRefusal}
use Rattle.js_event_log_sessions.proofs.GaplessSessions.{sessions_leave_no_gap}
use Rattle.js_event_log_sessions.proofs.Refusals.{refusal_stays}
use Rattle.js_tool_io.specs.Lines.{lines_of}
use Rattle.js_tool_transcript.specs.declared.transcript.Unread.{Unread}
use Rattle.js_tool_transcript.specs.declared.transcript.Unread.TheVariants as unread
use Rattle.js_tool_transcript.specs.declared.transcript.setup.Setup.{Setup}
use Rattle.js_tool_transcript.specs.Setup.{setup_line}
use Rattle.js_tool_transcript.specs.Transcript.{◌>>=◌, numbered, StopsAt}
use Rattle.js_tool_event_log.specs.declared.sessions.line.Said.{Said}
use Rattle.js_tool_event_log.specs.declared.sessions.reader.Reader.{Reader}
use Rattle.js_tool_event_log.specs.declared.sessions.report.SessionsReport.{SessionsReport}
use Rattle.js_tool_event_log.specs.declared.sessions.report.SessionsReport.TheVariants as report
use Rattle.js_tool_event_log.specs.declared.sessions.session.EndedText.{EndedText}
use Rattle.js_tool_event_log.specs.SessionProgress.{left_said, HaveText, all_of, rest_of, IsRefusedIn}
use Rattle.js_tool_event_log.specs.SessionReport.{report_from, report_of, Reports, AreJoined}
use Rattle.js_tool_event_log.specs.SessionInput.{session_of, lines_before, begun, with_said, sessions_of, sessions}
use Rattle.js_tool_event_log.specs.SessionTexts.{texts, sessions_end, sessions_text, refusal_text}

-- ---- refusals

-- a refusal that is not want of memory is the first that applies
pub refusal_is : (next : ℕ) (all : List Session) (refusal : SessionsError) → (refusal ≡ error.OutOfMemory → ⊥) → IsRefusal next all refusal → refuse_sessions next all ≡ Some refusal
refusal_is next all (error.WrongStart session at) other is = is
refusal_is next all (error.WrongFilter session) other is = is
refusal_is next all (error.Replay session refusal) other is = is
refusal_is next all (error.BookmarkEnd session) other is = is
refusal_is next all error.OutOfMemory other is = absurd (other refl)

pub refused_report : (next : ℕ) (all : List Session) (refusal : SessionsError) → (refusal ≡ error.OutOfMemory → ⊥) → IsRefusal next all refusal
    → report.Refused (refusal_text refusal) ≡ report_of next all
refused_report next all refusal other is = sym (ap (λ r. report_from r (sessions_text next all)) (refusal_is next all refusal other is))

bind_ok : {A B : Type 0} (r : Result A ℕ) (x : A) (f : A → Result B ℕ) → r ≡ Ok x → (r >>= f) ≡ f x
bind_ok r x f is = ap (λ r. r >>= f) is

bind_err : {A B : Type 0} (r : Result A ℕ) (n : ℕ) (f : A → Result B ℕ) → r ≡ Err n → (r >>= f) ≡ Err n
bind_err r n f is = ap (λ r. r >>= f) is

-- a session that is refused at its begin, whatever its lines are
pub refused_begin : (next : ℕ) (done : List Session) (setup : Setup) (refusal : SessionsError) (r : Reader) → ((lines : List Line) → IsRefusal next (done ++ session_of setup lines ∷ []) refusal)
    → IsRefusedIn next refusal r (rest_of done setup [] r)
refused_begin next done setup refusal r refuses = record {
  read = λ more reads. (
    all_of done setup [] more,
    bind_ok (left_said r) more (λ more. Ok (all_of done setup [] more)) reads,
    subst (λ (all : List Session). IsRefusal next all refusal) (append_assoc done (session_of setup (lines_before more) ∷ []) (begun more))
        (refusal_stays next (done ++ session_of setup (lines_before more) ∷ []) (begun more) refusal (refuses (lines_before more))),
  );
  unread = λ n fails. bind_err (left_said r) n (λ more. Ok (all_of done setup [] more)) fails;
}

-- a session that is refused at its end, before another one
pub refused_between : (next : ℕ) (done : List Session) (setup : Setup) (refusal : SessionsError) (r : Reader) (reading : Result (List Session) ℕ) → IsRefusal next done refusal
    → reading ≡ rest_of done setup [] r → IsRefusedIn next refusal r reading
refused_between next done setup refusal r reading refused same = record {
  read = λ more reads. (
    all_of done setup [] more,
    same ∙ bind_ok (left_said r) more (λ more. Ok (all_of done setup [] more)) reads,
    refusal_stays next done (session_of setup (lines_before more) ∷ begun more) refusal refused,
  );
  unread = λ n fails. same ∙ bind_err (left_said r) n (λ more. Ok (all_of done setup [] more)) fails;
}

none_fail : (r : Reader) (n : ℕ) → r.lines.left ≡ [] → left_said r ≡ Err n → ⊥
none_fail r n none fails = let ok : left_said r ≡ Ok [] = rw none refl in cc

-- a session that is refused at its end, behind which nothing is left
pub refused_last : (next : ℕ) (done : List Session) (refusal : SessionsError) (r : Reader) (reading : Result (List Session) ℕ) → IsRefusal next done refusal
    → reading ≡ Ok done → r.lines.left ≡ [] → IsRefusedIn next refusal r reading
refused_last next done refusal r reading refused same none = record {
  read = λ more reads. (done, same, refused);
  unread = λ n fails. absurd (none_fail r n none fails);
}

-- the report of a refusal
pub refused_reports : (next : ℕ) (refusal : SessionsError) (r : Reader) (reading : Result (List Session) ℕ) (more : List Said) (line : SessionsReport) → (refusal ≡ error.OutOfMemory → ⊥)
    → IsRefusedIn next refusal r reading → left_said r ≡ Ok more → line ≡ report.Refused (refusal_text refusal)
    → (all : List Session) × (reading ≡ Ok all) × (line ≡ report_of next all)
refused_reports next refusal r reading more line other refused reads says =
    let (all, is, applies) = refused.read more reads in
    (all, is, says ∙ refused_report next all refusal other applies)

pub refused_stops : (next : ℕ) (refusal : SessionsError) (r : Reader) (reading : Result (List Session) ℕ) (e : Unread) → IsRefusedIn next refusal r reading
    → StopsAt e (left_said r) → StopsAt e reading
refused_stops next refusal r reading unread.OutOfMemory refused stops = tt
refused_stops next refusal r reading (unread.BadLine n) refused stops = refused.unread n stops

-- ---- the end

pub done_report : (next : ℕ) (all : List Session) (ended : EndedText) → HaveText next all ended
    → report.Done (ended.text.items ++ sessions_end ended.sessions.count ended.sessions.committed ended.sessions.next) ≡ report_of next all
unfolding sessions_text
done_report next all ended have =
    ap (λ (text : List ℕ). report.Done (text ++ sessions_end ended.sessions.count ended.sessions.committed ended.sessions.next)) have.text
    ∙ ap (λ (n : ℕ). report.Done (texts next all ++ sessions_end n ended.sessions.committed ended.sessions.next)) have.ended.count
    ∙ ap (λ (n : ℕ). report.Done (texts next all ++ sessions_end (length all) n ended.sessions.next)) have.ended.committed
    ∙ ap (λ (n : ℕ). report.Done (texts next all ++ sessions_end (length all) (length (all_committed all)) n)) have.ended.goes_on
    ∙ sym (ap (λ r. report_from r (sessions_text next all)) have.ended.accepted)

-- ---- the bytes

-- a setup, and the lines behind it
pub with_setup : (bytes line : List ℕ) (setup : Setup) (r : Reader) → lines_of bytes ≡ line ∷ r.lines.left → numbered 1 (setup_line line) ≡ Ok setup → r.number ≡ 1
    → sessions bytes ≡ rest_of [] setup [] r
unfolding sessions
with_setup bytes line setup r cut reads first =
    ap sessions_of cut ∙ bind_ok (numbered 1 (setup_line line)) setup (λ setup. with_said setup r.lines.left) reads ∙ rw first refl

pub first_stops : (bytes line : List ℕ) (left : List (List ℕ)) (e : Unread) → lines_of bytes ≡ line ∷ left → StopsAt e (numbered 1 (setup_line line)) → StopsAt e (sessions bytes)
unfolding sessions
first_stops bytes line left unread.OutOfMemory cut stops = tt
first_stops bytes line left (unread.BadLine n) cut stops = ap sessions_of cut ∙ bind_err (numbered 1 (setup_line line)) n (λ setup. with_said setup left) stops

pub no_line : (bytes : List ℕ) → lines_of bytes ≡ [] → sessions bytes ≡ Err 1
unfolding sessions
no_line bytes none = ap sessions_of none

-- ---- the theorem

done_accepted : (next : ℕ) (all : List Session) (text : List ℕ) (refusal : _) → refuse_sessions next all ≡ refusal → report.Done text ≡ report_from refusal (sessions_text next all)
    → refuse_sessions next all ≡ None
done_accepted next all text None is same = is
done_accepted next all text (Some refusal) is same = cc

joined_of : (next : ℕ) (reading : Result (List Session) ℕ) (made : SessionsReport) (all : List Session) → reading ≡ Ok all → made ≡ report_of next all → AreJoined next reading made
joined_of next reading (report.Refused line) all reads says = tt
joined_of next reading (report.Done text) all reads says = λ some log servers is served.
    let both : Ok all ≡ Ok some = sym reads ∙ is in
    let same : all ≡ some = cc in
    sessions_leave_no_gap log servers next some
    (subst (λ (ss : List Session). refuse_sessions next ss ≡ None) same (done_accepted next all text (refuse_sessions next all) refl says)) served

-- where the text of sessions is reported, their committed yields leave no gap
pub reports_joined : (next : ℕ) (reading : Result (List Session) ℕ) (made : SessionsReport) → Reports next reading (Ok made) → AreJoined next reading made
reports_joined next reading made (all, reads, says) = joined_of next reading made all reads says
