-- Over one log, with an honest server for each session, the committed yields of all sessions leave no gap.
use Rattle.std.specs.Prelude.{◌≡◌, ℕ, List, [], ◌∷◌, Contains, ⊤}
use Rattle.std.specs.List.{AllByRecursion}
use Rattle.js_ordered_table.specs.Gapless.{Entry, Logged, Server, IsHonest, IsLogged, IsWhole, sequences}
use Rattle.js_ordered_table.specs.declared.setup.OrderedSetup.{OrderedSetup}
use Rattle.js_event_log_sessions.specs.declared.session.Session.{Session}
use Rattle.js_event_log_sessions.specs.Bookmark.{events_of}
use Rattle.js_event_log_sessions.specs.Runs.{run_of, all_committed}

-- a session is served of this log by an honest server, which has removed all that was removed before
pub record IsServed (log : List Logged) (removed : List ℕ) (s : Session) (server : Server) : Type 0 where
  pub same_log : server.log ≡ log
  pub stays : (q : ℕ) → Contains removed q → Contains server.removed q
  pub honest : IsHonest server s.setup (events_of s.lines) (run_of s)

-- each session has such a server, and what is removed stays so
abbrev pub AreServed : List Logged → List ℕ → List Session → List Server → Type 0
AreServed log removed [] [] = ⊤
AreServed log removed (s ∷ ss) (server ∷ servers) = IsServed log removed s server × AreServed log server.removed ss servers
AreServed log removed _ _ = ⊥

-- what the last server has removed
abbrev pub last_removed : List ℕ → List Server → List ℕ
last_removed removed [] = removed
last_removed removed (server ∷ servers) = last_removed server.removed servers

-- the entries rise strictly, match, are those of the log, and leave out a matching one between a bookmark and their last only where it was removed
pub record IsJoined (setup : OrderedSetup) (log : List Logged) (removed : List ℕ) (next : ℕ) (entries : List Entry) : Type 0 where
  pub whole : IsWhole setup log removed next (sequences entries)
  pub logged : AllByRecursion (IsLogged log) entries

-- The committed yields of all sessions, by what the first one reads, from the first bookmark on. It does not say that an uncommitted yield comes
-- again.
abbrev pub LeaveNoGap : List Logged → List Server → ℕ → List Session → Type 0
LeaveNoGap log servers next [] = ⊤
LeaveNoGap log servers next (s ∷ ss) = IsJoined s.setup log (last_removed [] servers) next (all_committed (s ∷ ss))
