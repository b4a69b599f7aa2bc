-- Sessions one after another: which are refused, and what the others come to.
use Rattle.std.specs.Prelude.{◌≡◌, ℕ, ◌+◌, ◌==◌, ◌&&◌, Bool, false, not, List, [], ◌∷◌, ◌++◌, length, Option, Some, None, option_map, nat_eq, Result, Ok, Err, ⊤}
use Rattle.std.specs.Cmp.Lexicographic.{pointwise}
use Rattle.js_json.specs.declared.consumer.info.Info.{Info}
use Rattle.js_ordered_table.specs.declared.consumer.ReplayInput.{ReplayInput}
use Rattle.js_ordered_table.specs.declared.run.Run.{Run}
use Rattle.js_ordered_table.specs.declared.run.ReplayError.{ReplayError}
use Rattle.js_ordered_table.specs.declared.run.ReplayError.TheVariants as replay
use Rattle.js_ordered_table.specs.declared.setup.OrderedSetup.{OrderedSetup}
use Rattle.js_ordered_table.specs.Fold.{fold}
use Rattle.js_ordered_table.specs.Gapless.{Entry}
use Rattle.js_ordered_table.specs.Refusal.{first_of, unless, refuse}
use Rattle.js_ordered_table.specs.Texts.{filters, configured_start}
use Rattle.js_event_log_sessions.specs.declared.error.SessionsError.{SessionsError}
use Rattle.js_event_log_sessions.specs.declared.error.SessionsError.TheVariants as error
use Rattle.js_event_log_sessions.specs.declared.scope.Scope.{Scope}
use Rattle.js_event_log_sessions.specs.declared.session.Session.{Session}
use Rattle.js_event_log_sessions.specs.declared.session.SessionRun.{SessionRun}
use Rattle.js_event_log_sessions.specs.Bookmark.{events_of, saved, committed_of, bookmark, has_last}

-- ---- one session

-- what a session's consumer is made with
abbrev pub replay_input_of : Session → ReplayInput
replay_input_of s = record { settings = s.settings; setup = s.setup; first = s.first }

-- the run of its events
abbrev pub run_of : Session → Run
run_of s = fold (replay_input_of s) s.start (events_of s.lines)

-- its committed yields
abbrev pub committed : Session → List Entry
committed s = committed_of (saved s.lines) (run_of s)

-- what it comes to where it begins at a bookmark
abbrev pub session_run : ℕ → Session → SessionRun
session_run next s = record { run = run_of s; committed = length (committed s); next = bookmark next (committed s) }

-- ---- all sessions

-- the committed yields of all sessions, in order
abbrev pub all_committed : List Session → List Entry
all_committed [] = []
all_committed (s ∷ ss) = committed s ++ all_committed ss

-- what all come to, each from the bookmark of the one before it
abbrev pub runs : ℕ → List Session → List SessionRun
runs next [] = []
runs next (s ∷ ss) = session_run next s ∷ runs (bookmark next (committed s)) ss

-- ---- refusals

-- it starts there
abbrev pub is_at : ℕ → Option ℕ → Bool
is_at next None = false
is_at next (Some start) = start == next

-- what a session reads: its stream, and the subjects that it filters by
abbrev pub scope_of : OrderedSetup → Info → Scope
scope_of setup first = record { stream = first.stream_name; filters = filters setup }

-- two read the same
abbrev pub same_scope : Scope → Scope → Bool
same_scope one other = pointwise nat_eq one.stream other.stream && pointwise (pointwise nat_eq) one.filters other.filters

-- a replay's refusal as one of its session
abbrev pub replay_refusal : ℕ → ReplayError → SessionsError
replay_refusal session replay.OutOfMemory = error.OutOfMemory
replay_refusal session refusal = error.Replay session refusal

-- The first refusal of a session that applies: it starts elsewhere than at the bookmark, reads something else than the first session, is refused by
-- its replay, or commits the last of all sequences.
unfoldable pub refuse_session : Scope → ℕ → ℕ → Session → Option SessionsError
refuse_session scope number next s =
    first_of (unless (is_at next (configured_start s.setup)) (error.WrongStart number next)) (
    first_of (unless (same_scope scope (scope_of s.setup s.first)) (error.WrongFilter number)) (
    first_of (option_map (error.Replay number) (refuse (replay_input_of s) s.start (events_of s.lines)))
    (unless (not (has_last (committed s))) (error.BookmarkEnd number))))

-- the first refusal of sessions from a number on
unfoldable pub refuse_from : Scope → ℕ → ℕ → List Session → Option SessionsError
refuse_from scope number next [] = None
refuse_from scope number next (s ∷ ss) =
    first_of (refuse_session scope number next s) (refuse_from scope (number + 1) (bookmark next (committed s)) ss)

-- the first refusal of all sessions, which are counted from 1 and read what the first one reads
abbrev pub refuse_sessions : ℕ → List Session → Option SessionsError
refuse_sessions next [] = None
refuse_sessions next (s ∷ ss) = refuse_from (scope_of s.setup s.first) 1 next (s ∷ ss)

-- ---- what the sessions answer

-- a refusal is the first that applies; want of memory may come before any
abbrev pub IsRefusal : ℕ → List Session → SessionsError → Type 0
IsRefusal next sessions error.OutOfMemory = ⊤
IsRefusal next sessions refusal = refuse_sessions next sessions ≡ Some refusal

-- all runs, where nothing is refused, or the refusal that applies
abbrev pub IsAnswer : ℕ → List Session → Result (List SessionRun) SessionsError → Type 0
IsAnswer next sessions (Ok answer) = (refuse_sessions next sessions ≡ None) × (answer ≡ runs next sessions)
IsAnswer next sessions (Err refusal) = IsRefusal next sessions refusal
