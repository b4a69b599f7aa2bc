-- How far sessions have come that are told line by line.
use Rattle.std.specs.Prelude.{◌≡◌, ℕ, ◌+◌, ◌==◌, List, [], ◌∷◌, ◌++◌, length, true, false, Option, Some, None, unwrap_or, if◌then◌else◌, Result, Ok, Err}
use Rattle.js_ordered.specs.IncrementalReplay.{HasCome}
use Rattle.js_pull.specs.Reader.{u64_max}
use Rattle.js_ordered_table.specs.declared.run.Step.{Step}
use Rattle.js_ordered_table.specs.Gapless.{Entry, yields, all_outputs}
use Rattle.js_ordered_table.specs.Texts.{configured_start}
use Rattle.js_event_log_sessions.specs.declared.session_replay.SessionReplay.{SessionReplay}
use Rattle.js_event_log_sessions.specs.declared.session_replay.SessionEnd.{SessionEnd}
use Rattle.js_event_log_sessions.specs.declared.session_replay.Sessions.{Sessions}
use Rattle.js_event_log_sessions.specs.declared.error.SessionsError.{SessionsError}
use Rattle.js_event_log_sessions.specs.declared.mark.Mark.{Mark}
use Rattle.js_event_log_sessions.specs.declared.scope.Scope.{Scope}
use Rattle.js_event_log_sessions.specs.declared.session.Line.{Line}
use Rattle.js_event_log_sessions.specs.declared.session.Session.{Session}
use Rattle.js_event_log_sessions.specs.declared.session.SessionRun.{SessionRun}
use Rattle.js_event_log_sessions.specs.Bookmark.{events_of, bookmark, has_last}
use Rattle.js_event_log_sessions.specs.Runs.{replay_input_of, run_of, committed, all_committed, is_at, scope_of, same_scope, refuse_sessions, runs, IsRefusal}

-- ---- marks

-- the bookmark after these yields, none after the last of all sequences
abbrev pub bookmark_within : ℕ → List Entry → Option ℕ
bookmark_within next entries = if has_last entries then None else Some (bookmark next entries)

-- the bookmark after a yield of this sequence
abbrev pub after_yield : Option ℕ → ℕ → Option ℕ
after_yield None sequence = None
after_yield (Some before) sequence = if sequence == u64_max then None else Some (sequence + 1)

-- what is noted of yields that go on from a bookmark
abbrev pub mark_of : ℕ → List Entry → Mark
mark_of next entries = record { count = length entries; next = bookmark_within next entries }

-- ---- what sessions read

-- what the first session reads, this one where there was none, where this one reads the same
abbrev pub agreed : Option Scope → Scope → Option Scope
agreed None scope = Some scope
agreed (Some first) scope = if same_scope first scope then Some first else None

-- ---- between sessions

-- what the first session reads, where there was one
abbrev pub first_scope : List Session → Option Scope
first_scope [] = None
first_scope (s ∷ ss) = Some (scope_of s.setup s.first)

-- these sessions have ended, and none of them was refused
pub record HaveEnded (next : ℕ) (done : List Session) (sessions : Sessions) : Type 0 where
  pub count : sessions.count ≡ length done
  pub goes_on : sessions.next ≡ bookmark next (all_committed done)
  pub committed : sessions.committed ≡ length (all_committed done)
  pub scope : sessions.scope ≡ first_scope done
  pub accepted : refuse_sessions next done ≡ None

-- ---- in a session

-- the session with these lines
abbrev pub with_lines : Session → List Line → Session
with_lines s lines = record s { lines = lines }

-- the session with one line more
abbrev pub with_line : Session → Line → Session
with_line s line = with_lines s (s.lines ++ line ∷ [])

-- what the first of all sessions reads, this one among them
abbrev pub scope_for : List Session → Session → Scope
scope_for done s = unwrap_or (first_scope done) (scope_of s.setup s.first)

-- sessions have ended, and the next one has come through these lines
pub record HasComeTo (next : ℕ) (done : List Session) (s : Session) (c : SessionReplay) : Type 0 where
  pub number : c.number ≡ length done + 1
  pub before : c.before ≡ length (all_committed done)
  pub scope : c.scope ≡ scope_for done s
  pub accepted : refuse_sessions next done ≡ None
  pub starts : is_at (bookmark next (all_committed done)) (configured_start s.setup) ≡ true
  pub matches : same_scope (scope_for done s) (scope_of s.setup s.first) ≡ true
  pub replay : HasCome (replay_input_of s) s.start (events_of s.lines) c.replay
  pub yielded : c.yielded ≡ mark_of (bookmark next (all_committed done)) (yields (all_outputs (run_of s)))
  pub saved : c.saved ≡ mark_of (bookmark next (all_committed done)) (committed s)
  pub sound : c.has_failed ≡ false

-- what the begin of a session answers: a session with no lines yet, or the refusal that applies whatever lines it has
abbrev pub Begins : ℕ → List Session → Session → Result SessionReplay SessionsError → Type 0
Begins next done s (Ok replay) = HasComeTo next done (with_lines s []) replay
Begins next done s (Err refusal) = (lines : List Line) → IsRefusal next (done ++ with_lines s lines ∷ []) refusal

-- the session has ended too
pub record HasEnded (next : ℕ) (done : List Session) (s : Session) (end : SessionEnd) : Type 0 where
  pub sessions : HaveEnded next (done ++ s ∷ []) end.sessions
  pub ended : end.ended ≡ (run_of s).ended
  pub count : end.committed ≡ length (committed s)
  pub goes_on : end.sessions.next ≡ bookmark (bookmark next (all_committed done)) (committed s)

-- what the end of a session answers
abbrev pub Ends : ℕ → List Session → Session → Result SessionEnd SessionsError → Type 0
Ends next done s (Ok end) = HasEnded next done s end
Ends next done s (Err refusal) = IsRefusal next (done ++ s ∷ []) refusal

-- ---- with their runs

-- a session that has come through its lines, and the steps of its events
pub record HasStepped (next : ℕ) (done : List Session) (s : Session) (c : SessionReplay) (steps : List Step) : Type 0 where
  pub come : HasComeTo next done s c
  pub so_far : steps ≡ (run_of s).steps

-- sessions that have ended, and their runs
pub record HaveRun (next : ℕ) (done : List Session) (sessions : Sessions) (all : List SessionRun) : Type 0 where
  pub ended : HaveEnded next done sessions
  pub so_far : all ≡ runs next done

-- what one session more answers
abbrev pub RunsOn : ℕ → List Session → Session → List SessionRun → Result Sessions SessionsError → Type 0
RunsOn next done s all (Ok sessions) = HaveRun next (done ++ s ∷ []) sessions all
RunsOn next done s all (Err refusal) = IsRefusal next (done ++ s ∷ []) refusal
