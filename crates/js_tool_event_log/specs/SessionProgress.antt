-- How far sessions have come as their lines are read, and what the lines that are left say.
use Rattle.std.specs.Prelude.{◌≡◌, ⊤, ℕ, ◌+◌, ◌^◌, ◌<◌, List, [], ◌∷◌, ◌++◌, length, Option, Some, None, Result, Ok, Err}
use Rattle.js_event_log_sessions.specs.declared.error.SessionsError.{SessionsError}
use Rattle.js_event_log_sessions.specs.declared.error.SessionsError.TheVariants as errors
use Rattle.js_event_log_sessions.specs.declared.session.Line.{Line}
use Rattle.js_event_log_sessions.specs.declared.session.Session.{Session}
use Rattle.js_event_log_sessions.specs.SessionReplay.{HasComeTo, HaveEnded}
use Rattle.js_event_log_sessions.specs.Runs.{run_of, IsRefusal}
use Rattle.js_tool_transcript.specs.declared.transcript.Unread.{Unread}
use Rattle.js_tool_transcript.specs.declared.transcript.Unread.TheVariants as unreads
use Rattle.js_tool_transcript.specs.declared.transcript.setup.Setup.{Setup}
use Rattle.js_tool_transcript.specs.Text.{text_so_far}
use Rattle.js_tool_transcript.specs.Transcript.{◌>>=◌, numbered, StopsAt}
use Rattle.js_tool_event_log.specs.declared.sessions.line.Said.{Said}
use Rattle.js_tool_event_log.specs.declared.sessions.reader.Reader.{Reader}
use Rattle.js_tool_event_log.specs.declared.sessions.report.SessionsReport.{SessionsReport}
use Rattle.js_tool_event_log.specs.declared.sessions.report.SessionsReport.TheVariants as reports
use Rattle.js_tool_event_log.specs.declared.sessions.report.Stage.{Stage}
use Rattle.js_tool_event_log.specs.declared.sessions.report.Stage.TheVariants as stage
use Rattle.js_tool_event_log.specs.declared.sessions.session.EndedText.{EndedText}
use Rattle.js_tool_event_log.specs.declared.sessions.session.SessionText.{SessionText}
use Rattle.js_tool_event_log.specs.SessionLine.{session_line}
use Rattle.js_tool_event_log.specs.SessionInput.{said_from, session_of, lines_before, begun}
use Rattle.js_tool_event_log.specs.SessionTexts.{texts, refusal_text}

-- ---- lines

-- the next line says this, or is the first that does not read, or none is left
abbrev pub ReadsNext : Reader → Reader → Result (Option Said) Unread → Type 0
ReadsNext old new (Ok None) = (old.lines.left ≡ []) × (new.lines.left ≡ [])
ReadsNext old new (Ok (Some said)) =
    (line : List ℕ) × (old.lines.left ≡ line ∷ new.lines.left) × (numbered (old.number + 1) (session_line line) ≡ Ok said) × (new.number ≡ old.number + 1)
ReadsNext old new (Err unread) = (line : List ℕ) × (left : List (List ℕ)) × (old.lines.left ≡ line ∷ left) × StopsAt unread (numbered (old.number + 1) (session_line line))

-- the number of each line that is left is below 2 ^ 64
abbrev pub HasRoom : Reader → Type 0
HasRoom r = r.number + length r.lines.left < 2 ^ 64

-- what all lines say that are left
abbrev pub left_said : Reader → Result (List Said) ℕ
left_said r = said_from (r.number + 1) r.lines.left

-- all of them read, or not
abbrev pub ReadsRest : Reader → Result (Unit {0}) Unread → Type 0
ReadsRest old (Ok done) = (more : List Said) × (left_said old ≡ Ok more)
ReadsRest old (Err unread) = StopsAt unread (left_said old)

-- ---- one session

-- a session has come through these lines, after others that have ended, and the text of all is there
pub record HasText (next : ℕ) (done : List Session) (setup : Setup) (lines : List Line) (p : SessionText) : Type 0 where
  pub come : HasComeTo next done (session_of setup lines) p.replay
  pub text : p.text.items ≡ texts next done ++ text_so_far (run_of (session_of setup lines))

-- these sessions have ended, and their text is there
pub record HaveText (next : ℕ) (done : List Session) (so_far : EndedText) : Type 0 where
  pub ended : HaveEnded next done so_far.sessions
  pub text : so_far.text.items ≡ texts next done

-- a session with these lines before it, what is said further, and the sessions behind it
abbrev pub all_of : List Session → Setup → List Line → List Said → List Session
all_of done setup lines more = done ++ session_of setup (lines ++ lines_before more) ∷ begun more

-- what a reader's lines make of it
abbrev pub rest_of : List Session → Setup → List Line → Reader → Result (List Session) ℕ
rest_of done setup lines r = left_said r >>= λ more. Ok (all_of done setup lines more)

-- what the begin of a session answers
abbrev pub Begins : EndedText → Setup → Result SessionText SessionsError → Type 0
Begins ended setup (Ok p) = (next : ℕ) (done : List Session) → HaveText next done ended → HasText next done setup [] p
Begins ended setup (Err refusal) =
    (next : ℕ) (done : List Session) → HaveText next done ended → (lines : List Line) → IsRefusal next (done ++ session_of setup lines ∷ []) refusal

-- what its end answers
abbrev pub Ends : SessionText → Result EndedText SessionsError → Type 0
Ends p (Ok ended) =
    (next : ℕ) (done : List Session) (setup : Setup) (lines : List Line) → HasText next done setup lines p → HaveText next (done ++ session_of setup lines ∷ []) ended
Ends p (Err refusal) =
    (next : ℕ) (done : List Session) (setup : Setup) (lines : List Line) → HasText next done setup lines p → IsRefusal next (done ++ session_of setup lines ∷ []) refusal

-- a session's lines were passed up to the next setup or to the end: whatever stands behind them reads as it did before
abbrev pub PassesLines : SessionText → Reader → SessionText → Reader → Result (Option Setup) Unread → Type 0
PassesLines old was new is (Ok None) =
    (next : ℕ) (done : List Session) (setup : Setup) (lines : List Line) → HasText next done setup lines old
    → (all : List Line) × HasText next done setup all new × (rest_of done setup lines was ≡ Ok (done ++ session_of setup all ∷ [])) × (is.lines.left ≡ [])
PassesLines old was new is (Ok (Some following)) =
    (next : ℕ) (done : List Session) (setup : Setup) (lines : List Line) → HasText next done setup lines old
    → (all : List Line) × HasText next done setup all new × (rest_of done setup lines was ≡ rest_of (done ++ session_of setup all ∷ []) following [] is)
PassesLines old was new is (Err unread) =
    (next : ℕ) (done : List Session) (setup : Setup) (lines : List Line) → HasText next done setup lines old → StopsAt unread (rest_of done setup lines was)

-- ---- all sessions

-- if the lines that are left read, the sessions are refused; if not, their first that does not read is the whole's
pub record IsRefusedIn (next : ℕ) (refusal : SessionsError) (is : Reader) (reading : Result (List Session) ℕ) : Type 0 where
  pub read : (more : List Said) → left_said is ≡ Ok more → (all : List Session) × (reading ≡ Ok all) × IsRefusal next all refusal
  pub unread : (n : ℕ) → left_said is ≡ Err n → reading ≡ Err n

-- what one session more comes to, after these
abbrev pub RunsOn : EndedText → Setup → Reader → Reader → Result Stage Unread → Type 0
RunsOn ended setup was is (Ok (stage.Last all)) =
    (next : ℕ) (done : List Session) → HaveText next done ended
    → (s : Session) × HaveText next (done ++ s ∷ []) all × (rest_of done setup [] was ≡ Ok (done ++ s ∷ []))
RunsOn ended setup was is (Ok (stage.More all following)) =
    (next : ℕ) (done : List Session) → HaveText next done ended
    → (s : Session) × HaveText next (done ++ s ∷ []) all × (rest_of done setup [] was ≡ rest_of (done ++ s ∷ []) following [] is)
RunsOn ended setup was is (Ok (stage.Refused refusal)) =
    (next : ℕ) (done : List Session) → HaveText next done ended → (refusal ≡ errors.OutOfMemory → ⊥) × IsRefusedIn next refusal is (rest_of done setup [] was)
RunsOn ended setup was is (Err unread) =
    (next : ℕ) (done : List Session) → HaveText next done ended → StopsAt unread (rest_of done setup [] was)

-- fewer lines are left, where another session begins
abbrev pub IsLess : Stage → ℕ → ℕ → Type 0
IsLess (stage.Last all) now before = ⊤
IsLess (stage.More all following) now before = now < before
IsLess (stage.Refused refusal) now before = ⊤

-- a refusal other than want of memory
abbrev pub RefusesBy : SessionsError → Result Stage Unread → Type 0
RefusesBy refusal (Ok (stage.Last all)) = ⊥
RefusesBy refusal (Ok (stage.More all following)) = ⊥
RefusesBy refusal (Ok (stage.Refused named)) = (named ≡ refusal) × (refusal ≡ errors.OutOfMemory → ⊥)
RefusesBy refusal (Err unread) = unread ≡ unreads.OutOfMemory

-- the line of a refusal, once all lines that are left have read
abbrev pub RefusesIn : SessionsError → Reader → Result SessionsReport Unread → Type 0
RefusesIn refusal old (Ok report) = (more : List Said) × (left_said old ≡ Ok more) × (report ≡ reports.Refused (refusal_text refusal))
RefusesIn refusal old (Err unread) = StopsAt unread (left_said old)
