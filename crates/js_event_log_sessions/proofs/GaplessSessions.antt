-- The committed yields of sessions that are not refused leave no gap over one log.
use Rattle.std.proofs.Common.{◌≡◌, ℕ, ◌+◌, Bool, true, false, List, [], ◌∷◌, ◌++◌, Option, Some, None, refl, sym, ap, ◌∙◌, subst, slice_index, Contains, nat_eq}
use Rattle.std.proofs.lemmas.Bool.{eqb-true}
use Rattle.std.specs.Prelude.{◌&&◌, unwrap_or}
use Rattle.std.specs.Cmp.Lexicographic.{pointwise}
use Rattle.std.specs.List.{AllByRecursion}
use Rattle.js_ordered_table.specs.declared.setup.OrderedSetup.{OrderedSetup}
use Rattle.js_ordered_table.specs.Gapless.{Entry, Logged, Server, IsHonest, IsGapless, IsLogged, IsMatching, IsWhole, all_outputs, first_due, sequences, yields}
use Rattle.js_ordered_table.specs.Texts.{configured_start, filters}
use Rattle.js_ordered_table.proofs.Headline.{replay_gapless}
use Rattle.js_event_log_sessions.specs.declared.scope.Scope.{Scope}
use Rattle.js_event_log_sessions.specs.declared.session.Session.{Session}
use Rattle.js_event_log_sessions.specs.GaplessSessions.{AreServed, LeaveNoGap, last_removed}
use Rattle.js_event_log_sessions.specs.Bookmark.{bookmark, saved, events_of}
use Rattle.js_event_log_sessions.specs.Runs.{replay_input_of, run_of, committed, all_committed, is_at, same_scope, scope_of, refuse_from, refuse_sessions}
use Rattle.js_event_log_sessions.proofs.Chains.{Chain, chain_append, chain_as, chain_front, chain_of_whole, matches_too, whole_of_chain}
use Rattle.js_event_log_sessions.proofs.Refusals.{accepted_first, accepted_matches, accepted_rest, accepted_starts}
use Rattle.js_event_log_sessions.proofs.Saves.{committed_first}

-- ---- what the tests mean

is_there : (next : ℕ) (start : Option ℕ) → is_at next start ≡ true → start ≡ Some next
is_there next None is = cc
is_there next (Some start) is = ap (λ (n : ℕ). Some n) (eqb-true start next is)

both_first : (a b : Bool) → (a && b) ≡ true → a ≡ true
both_first true b is = refl
both_first false b is = cc

both_second : (a b : Bool) → (a && b) ≡ true → b ≡ true
both_second true b is = is
both_second false b is = cc

same_list : {A : Type 0} (eq : A → A → Bool) → ((x y : A) → eq x y ≡ true → x ≡ y) → (xs ys : List A) → pointwise eq xs ys ≡ true → xs ≡ ys
same_list eq means [] [] is = refl
same_list eq means [] (y ∷ ys) is = cc
same_list eq means (x ∷ xs) [] is = cc
same_list {A} eq means (x ∷ xs) (y ∷ ys) is =
    ap (λ (z : A). z ∷ xs) (means x y (both_first (eq x y) (pointwise eq xs ys) is)) ∙ ap (λ (zs : List A). y ∷ zs) (same_list eq means xs ys (both_second (eq x y) (pointwise eq xs ys) is))

same_text : (xs ys : List ℕ) → pointwise nat_eq xs ys ≡ true → xs ≡ ys
same_text xs ys is = same_list nat_eq eqb-true xs ys is

same_filters : (one other : Scope) → same_scope one other ≡ true → one.filters ≡ other.filters
same_filters one other is =
    same_list (pointwise nat_eq) same_text one.filters other.filters (both_second (pointwise nat_eq one.stream other.stream) (pointwise (pointwise nat_eq) one.filters other.filters) is)

-- ---- one session

logged_front : (log : List Logged) (xs ys : List Entry) → AllByRecursion (IsLogged log) (xs ++ ys) → AllByRecursion (IsLogged log) xs
logged_front log [] ys logged = tt
logged_front log (x ∷ xs) ys logged = (logged.0, logged_front log xs ys logged.1)

logged_append : (log : List Logged) (xs ys : List Entry) → AllByRecursion (IsLogged log) xs → AllByRecursion (IsLogged log) ys → AllByRecursion (IsLogged log) (xs ++ ys)
logged_append log [] ys first second = second
logged_append log (x ∷ xs) ys first second = (first.0, logged_append log xs ys first.1 second)

-- the entries are those of the log, and go on from a bookmark
record GoesOn (setup : OrderedSetup) (log : List Logged) (removed : List ℕ) (next : ℕ) (entries : List Entry) : Type 0 where
  chain : Chain (IsMatching setup log) removed next (sequences entries)
  logged : AllByRecursion (IsLogged log) entries

-- the yields of a run that starts at a bookmark
run_goes_on : (s : Session) (server : Server) (next : ℕ) → configured_start s.setup ≡ Some next → IsHonest server s.setup (events_of s.lines) (run_of s)
    → GoesOn s.setup server.log server.removed next (yields (all_outputs (run_of s)))
run_goes_on s server next starts honest =
    let entries : List Entry = yields (all_outputs (run_of s)) in
    let gapless : IsGapless server s.setup entries = replay_gapless (replay_input_of s) s.start (events_of s.lines) server honest in
    let due : first_due s.setup entries ≡ next = ap (λ (start : Option ℕ). unwrap_or start (slice_index (sequences entries) 0)) starts in
    record {
      chain = chain_of_whole s.setup server.log server.removed next (sequences entries)
          (subst (λ (start : ℕ). IsWhole s.setup server.log server.removed start (sequences entries)) due gapless.whole);
      logged = gapless.logged;
    }

front_goes_on : (setup : OrderedSetup) (log : List Logged) (removed : List ℕ) (next : ℕ) (all xs rest : List Entry) → all ≡ xs ++ rest → GoesOn setup log removed next all → GoesOn setup log removed next xs
front_goes_on setup log removed next all xs rest same goes =
    let as_one : GoesOn setup log removed next (xs ++ rest) = subst (λ (entries : List Entry). GoesOn setup log removed next entries) same goes in
    record { chain = chain_front (IsMatching setup log) removed next xs rest as_one.chain; logged = logged_front log xs rest as_one.logged }

-- so do the committed ones
committed_goes_on : (s : Session) (server : Server) (next : ℕ) → configured_start s.setup ≡ Some next → IsHonest server s.setup (events_of s.lines) (run_of s)
    → GoesOn s.setup server.log server.removed next (committed s)
committed_goes_on s server next starts honest =
    let (rest, same) = committed_first (saved s.lines) (run_of s) in
    front_goes_on s.setup server.log server.removed next (yields (all_outputs (run_of s))) (committed s) rest same (run_goes_on s server next starts honest)

goes_as : (one other : OrderedSetup) (log : List Logged) (removed more : List ℕ) (next : ℕ) (entries : List Entry) → filters one ≡ filters other → ((q : ℕ) → Contains removed q → Contains more q)
    → GoesOn one log removed next entries → GoesOn other log more next entries
goes_as one other log removed more next entries same grows goes = record {
  chain = chain_as (IsMatching one log) (IsMatching other log) removed more (λ q. matches_too one other log q same) (λ q. matches_too other one log q (sym same)) grows next (sequences entries) goes.chain;
  logged = goes.logged;
}

-- one log
of_log : (setup : OrderedSetup) (log other : List Logged) (removed : List ℕ) (next : ℕ) (entries : List Entry) → log ≡ other → GoesOn setup log removed next entries → GoesOn setup other removed next entries
of_log setup log other removed next entries same goes = subst (λ (l : List Logged). GoesOn setup l removed next entries) same goes

join : (setup : OrderedSetup) (log : List Logged) (removed : List ℕ) (next : ℕ) (xs ys : List Entry) → GoesOn setup log removed next xs → GoesOn setup log removed (bookmark next xs) ys → GoesOn setup log removed next (xs ++ ys)
join setup log removed next xs ys first second = record {
  chain = chain_append (IsMatching setup log) removed next xs ys first.chain second.chain;
  logged = logged_append log xs ys first.logged second.logged;
}

-- ---- all sessions

-- what was removed before is removed at the end
stays_removed : (log : List Logged) (removed : List ℕ) (ss : List Session) (servers : List Server) → AreServed log removed ss servers → (q : ℕ) → Contains removed q → Contains (last_removed removed servers) q
stays_removed log removed [] [] served q is = is
stays_removed log removed [] (server ∷ servers) served q is = absurd served
stays_removed log removed (s ∷ ss) [] served q is = absurd served
stays_removed log removed (s ∷ ss) (server ∷ servers) served q is = stays_removed log server.removed ss servers served.1 q (served.0.stays q is)

sessions_go_on : (setup : OrderedSetup) (scope : Scope) (log : List Logged) (number next : ℕ) (removed : List ℕ) (ss : List Session) (servers : List Server)
    → filters setup ≡ scope.filters → refuse_from scope number next ss ≡ None → AreServed log removed ss servers
    → GoesOn setup log (last_removed removed servers) next (all_committed ss)
sessions_go_on setup scope log number next removed [] servers same accepted served = record { chain = tt; logged = tt }
sessions_go_on setup scope log number next removed (s ∷ ss) [] same accepted served = absurd served
sessions_go_on setup scope log number next removed (s ∷ ss) (server ∷ servers) same accepted served =
    let first = accepted_first scope number next s ss accepted in
    let starts : configured_start s.setup ≡ Some next = is_there next (configured_start s.setup) (accepted_starts scope number next s first) in
    let reads : scope.filters ≡ filters s.setup = same_filters scope (scope_of s.setup s.first) (accepted_matches scope number next s first) in
    let end : List ℕ = last_removed server.removed servers in
    let mine : GoesOn setup log end next (committed s) =
    goes_as s.setup setup log server.removed end next (committed s) (sym reads ∙ sym same) (stays_removed log server.removed ss servers served.1)
    (of_log s.setup server.log log server.removed next (committed s) served.0.same_log (committed_goes_on s server next starts served.0.honest)) in
    join setup log end next (committed s) (all_committed ss) mine
    (sessions_go_on setup scope log (number + 1) (bookmark next (committed s)) server.removed ss servers same (accepted_rest scope number next s ss accepted) served.1)

-- the committed yields of all sessions, joined in order
pub sessions_leave_no_gap : (log : List Logged) (servers : List Server) (next : ℕ) (sessions : List Session) → refuse_sessions next sessions ≡ None → AreServed log [] sessions servers
    → LeaveNoGap log servers next sessions
sessions_leave_no_gap log servers next [] accepted served = tt
sessions_leave_no_gap log servers next (s ∷ ss) accepted served =
    let goes : GoesOn s.setup log (last_removed [] servers) next (all_committed (s ∷ ss)) =
    sessions_go_on s.setup (scope_of s.setup s.first) log 1 next [] (s ∷ ss) servers refl accepted served in
    record {
      whole = whole_of_chain s.setup log (last_removed [] servers) next (sequences (all_committed (s ∷ ss))) goes.chain;
      logged = goes.logged;
    }
