-- The text of sessions, and of a refusal.
use Rattle.std.specs.Prelude.{ℕ, List, [], ◌∷◌, ◌++◌, codes, flat_map, length}
use Rattle.serde_json.specs.Data.{Data, string}
use Rattle.js_event_log_sessions.specs.declared.error.SessionsError.{SessionsError}
use Rattle.js_event_log_sessions.specs.declared.error.SessionsError.TheVariants as error
use Rattle.js_event_log_sessions.specs.declared.session.Session.{Session}
use Rattle.js_event_log_sessions.specs.declared.session.SessionRun.{SessionRun}
use Rattle.js_event_log_sessions.specs.Bookmark.{bookmark}
use Rattle.js_event_log_sessions.specs.Runs.{all_committed, runs}
use Rattle.js_ordered_table.specs.declared.run.ReplayError.{ReplayError}
use Rattle.js_tool_transcript.specs.Text.{line_text, count, run_text, refusal_cells}

-- ---- the text

-- how many yields are committed, and the bookmark behind them
abbrev pub bookmark_text : ℕ → ℕ → List ℕ
bookmark_text committed next = line_text (string (codes "bookmark") ∷ count committed ∷ count next ∷ [])

-- a session's run, and its bookmark
abbrev pub session_text : SessionRun → List ℕ
session_text s = run_text s.run ++ bookmark_text s.committed s.next

-- the texts of sessions from a bookmark on, each of which begins at the bookmark of the one before it
abbrev pub texts : ℕ → List Session → List ℕ
texts next sessions = flat_map session_text (runs next sessions)

-- how many sessions there are, how many yields of all are committed, and the last bookmark
abbrev pub sessions_end : ℕ → ℕ → ℕ → List ℕ
sessions_end number committed next = line_text (string (codes "sessions") ∷ count number ∷ count committed ∷ count next ∷ [])

-- the text of each session, and the last line
unfoldable pub sessions_text : ℕ → List Session → List ℕ
sessions_text next sessions =
    texts next sessions ++ sessions_end (length sessions) (length (all_committed sessions)) (bookmark next (all_committed sessions))

-- ---- refusals

-- the session's number behind the name
abbrev pub with_session : ℕ → List Data → List Data
with_session session [] = count session ∷ []
with_session session (name ∷ cells) = name ∷ count session ∷ cells

abbrev pub error_cells : SessionsError → List Data
error_cells (error.WrongStart session next) = string (codes "WrongStart") ∷ count session ∷ count next ∷ []
error_cells (error.WrongFilter session) = string (codes "WrongFilter") ∷ count session ∷ []
error_cells (error.Replay session refusal) = with_session session (refusal_cells refusal)
error_cells (error.BookmarkEnd session) = string (codes "BookmarkEnd") ∷ count session ∷ []
error_cells error.OutOfMemory = string (codes "OutOfMemory") ∷ []

-- the line of a replay's refusal
abbrev pub replay_refusal_text : ℕ → ReplayError → List ℕ
replay_refusal_text session refusal = line_text (string (codes "refused") ∷ with_session session (refusal_cells refusal))

-- the line of a refusal
abbrev pub refusal_text : SessionsError → List ℕ
refusal_text refusal = line_text (string (codes "refused") ∷ error_cells refusal)
