-- Which refusal applies, with one session more and with whatever follows.
use Rattle.std.proofs.Common.{◌≡◌, ℕ, suc, ◌+◌, Bool, true, false, List, [], ◌∷◌, ◌++◌, length, Option, Some, None, refl, sym, ap, ◌∙◌, arith}
use Rattle.std.specs.Prelude.{not, option_map}
use Rattle.js_ordered_table.specs.declared.run.ReplayError.{ReplayError}
use Rattle.js_ordered_table.specs.Refusal.{first_of, unless, refuse}
use Rattle.js_ordered_table.specs.Texts.{configured_start}
use Rattle.js_event_log_sessions.specs.declared.error.SessionsError.{SessionsError}
use Rattle.js_event_log_sessions.specs.declared.error.SessionsError.TheVariants as error
use Rattle.js_event_log_sessions.specs.declared.scope.Scope.{Scope}
use Rattle.js_event_log_sessions.specs.declared.session.Session.{Session}
use Rattle.js_event_log_sessions.specs.Bookmark.{events_of, bookmark, has_last}
use Rattle.js_event_log_sessions.specs.SessionReplay.{scope_for}
use Rattle.js_event_log_sessions.specs.Runs.{replay_input_of, committed, all_committed, is_at, scope_of, same_scope, refuse_session, refuse_from, refuse_sessions, IsRefusal}
use Rattle.js_event_log_sessions.proofs.NextSession.{bookmark_append}

-- ---- the first of several

first_assoc : {A : Type 0} (one two three : Option A) → first_of one (first_of two three) ≡ first_of (first_of one two) three
first_assoc None two three = refl
first_assoc (Some a) two three = refl

first_none : {A : Type 0} (one : Option A) → first_of one None ≡ one
first_none None = refl
first_none (Some a) = refl

-- ---- some sessions, and then others

refuse_append : (scope : Scope) (number next : ℕ) (xs ys : List Session)
    → refuse_from scope number next (xs ++ ys) ≡ first_of (refuse_from scope number next xs) (refuse_from scope (number + length xs) (bookmark next (all_committed xs)) ys)
unfolding refuse_from
refuse_append scope number next [] ys =
    let at : number ≡ number + 0 = omega arith in
    ap (λ (n : ℕ). refuse_from scope n next ys) at
refuse_append scope number next (x ∷ xs) ys =
    let at : number + 1 + length xs ≡ number + suc (length xs) = omega arith in
    let after : ℕ = bookmark next (committed x) in
    ap (first_of (refuse_session scope number next x))
    (refuse_append scope (number + 1) after xs ys
    ∙ ap (λ (n : ℕ). first_of (refuse_from scope (number + 1) after xs) (refuse_from scope n (bookmark after (all_committed xs)) ys)) at
    ∙ ap (λ (b : ℕ). first_of (refuse_from scope (number + 1) after xs) (refuse_from scope (number + suc (length xs)) b ys)) (sym (bookmark_append next (committed x) (all_committed xs))))
    ∙ first_assoc (refuse_session scope number next x) (refuse_from scope (number + 1) after xs) (refuse_from scope (number + suc (length xs)) (bookmark next (committed x ++ all_committed xs)) ys)

-- a session is looked at where none before it is refused, and what follows it after that
pub refuse_on : (next : ℕ) (done : List Session) (s : Session) (more : List Session)
    → refuse_sessions next (done ++ s ∷ more) ≡ first_of (refuse_sessions next done) (refuse_from (scope_for done s) (length done + 1) (bookmark next (all_committed done)) (s ∷ more))
refuse_on next [] s more = refl
refuse_on next (first ∷ done) s more =
    let at : 1 + suc (length done) ≡ suc (length done) + 1 = omega arith in
    refuse_append (scope_of first.setup first.first) 1 next (first ∷ done) (s ∷ more)
    ∙ ap (λ (n : ℕ). first_of (refuse_sessions next (first ∷ done)) (refuse_from (scope_of first.setup first.first) n (bookmark next (all_committed (first ∷ done))) (s ∷ more))) at

one_more : (next : ℕ) (done : List Session) (s : Session) → refuse_sessions next done ≡ None
    → refuse_sessions next (done ++ s ∷ []) ≡ refuse_session (scope_for done s) (length done + 1) (bookmark next (all_committed done)) s
unfolding refuse_from
one_more next done s accepted =
    let here : Option SessionsError = refuse_session (scope_for done s) (length done + 1) (bookmark next (all_committed done)) s in
    refuse_on next done s [] ∙ ap (λ (first : Option SessionsError). first_of first (first_of here None)) accepted ∙ first_none here

-- the refusal of some sessions is that of all, whatever follows
pub refuse_stays : (next : ℕ) (xs ys : List Session) (refusal : SessionsError) → refuse_sessions next xs ≡ Some refusal → refuse_sessions next (xs ++ ys) ≡ Some refusal
refuse_stays next [] ys refusal refused = cc
refuse_stays next (x ∷ xs) ys refusal refused =
    refuse_append (scope_of x.setup x.first) 1 next (x ∷ xs) ys
    ∙ ap (λ (first : Option SessionsError). first_of first (refuse_from (scope_of x.setup x.first) (1 + length (x ∷ xs)) (bookmark next (all_committed (x ∷ xs))) ys)) refused

pub refusal_stays : (next : ℕ) (xs ys : List Session) (refusal : SessionsError) → IsRefusal next xs refusal → IsRefusal next (xs ++ ys) refusal
refusal_stays next xs ys error.OutOfMemory refused = tt
refusal_stays next xs ys (error.WrongStart session at) refused = refuse_stays next xs ys (error.WrongStart session at) refused
refusal_stays next xs ys (error.WrongFilter session) refused = refuse_stays next xs ys (error.WrongFilter session) refused
refusal_stays next xs ys (error.Replay session refusal) refused = refuse_stays next xs ys (error.Replay session refusal) refused
refusal_stays next xs ys (error.BookmarkEnd session) refused = refuse_stays next xs ys (error.BookmarkEnd session) refused

-- ---- one session

-- what its tests come to
abbrev tests : ℕ → ℕ → Bool → Bool → Option ReplayError → Bool → Option SessionsError
tests number next starts matches replayed ends =
    first_of (unless starts (error.WrongStart number next)) (
    first_of (unless matches (error.WrongFilter number)) (
    first_of (option_map (error.Replay number) replayed)
    (unless (not ends) (error.BookmarkEnd number))))

as_tests : (scope : Scope) (number next : ℕ) (s : Session) (starts matches ends : Bool) (replayed : Option ReplayError)
    → is_at next (configured_start s.setup) ≡ starts → same_scope scope (scope_of s.setup s.first) ≡ matches
    → refuse (replay_input_of s) s.start (events_of s.lines) ≡ replayed → has_last (committed s) ≡ ends
    → refuse_session scope number next s ≡ tests number next starts matches replayed ends
unfolding refuse_session
as_tests scope number next s starts matches ends replayed is_start is_match is_replay is_end =
    ap (λ (b : Bool). tests number next b (same_scope scope (scope_of s.setup s.first)) (refuse (replay_input_of s) s.start (events_of s.lines)) (has_last (committed s))) is_start
    ∙ ap (λ (b : Bool). tests number next starts b (refuse (replay_input_of s) s.start (events_of s.lines)) (has_last (committed s))) is_match
    ∙ ap (λ (r : Option ReplayError). tests number next starts matches r (has_last (committed s))) is_replay
    ∙ ap (λ (b : Bool). tests number next starts matches replayed b) is_end

-- where it starts elsewhere it is refused for that
pub wrong_start : (next number at : ℕ) (done : List Session) (s : Session) → refuse_sessions next done ≡ None → number ≡ length done + 1 → at ≡ bookmark next (all_committed done)
    → is_at at (configured_start s.setup) ≡ false → refuse_sessions next (done ++ s ∷ []) ≡ Some (error.WrongStart number at)
wrong_start next number at done s accepted is_number is_next elsewhere =
    one_more next done s accepted
    ∙ ap (λ (n : ℕ). refuse_session (scope_for done s) n (bookmark next (all_committed done)) s) (sym is_number)
    ∙ ap (λ (b : ℕ). refuse_session (scope_for done s) number b s) (sym is_next)
    ∙ as_tests (scope_for done s) number at s false _ _ _ elsewhere refl refl refl

-- where it reads something else,
pub wrong_filter : (next number : ℕ) (done : List Session) (s : Session) → refuse_sessions next done ≡ None → number ≡ length done + 1
    → is_at (bookmark next (all_committed done)) (configured_start s.setup) ≡ true → same_scope (scope_for done s) (scope_of s.setup s.first) ≡ false
    → refuse_sessions next (done ++ s ∷ []) ≡ Some (error.WrongFilter number)
wrong_filter next number done s accepted is_number starts differs =
    one_more next done s accepted
    ∙ ap (λ (n : ℕ). refuse_session (scope_for done s) n (bookmark next (all_committed done)) s) (sym is_number)
    ∙ as_tests (scope_for done s) number (bookmark next (all_committed done)) s true false _ _ starts differs refl refl

-- where its replay is refused,
pub replay_refused : (next number : ℕ) (done : List Session) (s : Session) (refusal : ReplayError) → refuse_sessions next done ≡ None → number ≡ length done + 1
    → is_at (bookmark next (all_committed done)) (configured_start s.setup) ≡ true → same_scope (scope_for done s) (scope_of s.setup s.first) ≡ true
    → refuse (replay_input_of s) s.start (events_of s.lines) ≡ Some refusal
    → refuse_sessions next (done ++ s ∷ []) ≡ Some (error.Replay number refusal)
replay_refused next number done s refusal accepted is_number starts matches refused =
    one_more next done s accepted
    ∙ ap (λ (n : ℕ). refuse_session (scope_for done s) n (bookmark next (all_committed done)) s) (sym is_number)
    ∙ as_tests (scope_for done s) number (bookmark next (all_committed done)) s true true _ (Some refusal) starts matches refused refl

-- or where it commits the last of all sequences;
pub bookmark_ends : (next number : ℕ) (done : List Session) (s : Session) → refuse_sessions next done ≡ None → number ≡ length done + 1
    → is_at (bookmark next (all_committed done)) (configured_start s.setup) ≡ true → same_scope (scope_for done s) (scope_of s.setup s.first) ≡ true
    → refuse (replay_input_of s) s.start (events_of s.lines) ≡ None → has_last (committed s) ≡ true
    → refuse_sessions next (done ++ s ∷ []) ≡ Some (error.BookmarkEnd number)
bookmark_ends next number done s accepted is_number starts matches replayed ends =
    one_more next done s accepted
    ∙ ap (λ (n : ℕ). refuse_session (scope_for done s) n (bookmark next (all_committed done)) s) (sym is_number)
    ∙ as_tests (scope_for done s) number (bookmark next (all_committed done)) s true true true None starts matches replayed ends

-- else it is not refused
pub one_accepted : (next : ℕ) (done : List Session) (s : Session) → refuse_sessions next done ≡ None
    → is_at (bookmark next (all_committed done)) (configured_start s.setup) ≡ true → same_scope (scope_for done s) (scope_of s.setup s.first) ≡ true
    → refuse (replay_input_of s) s.start (events_of s.lines) ≡ None → has_last (committed s) ≡ false
    → refuse_sessions next (done ++ s ∷ []) ≡ None
one_accepted next done s accepted starts matches replayed ends =
    one_more next done s accepted
    ∙ as_tests (scope_for done s) (length done + 1) (bookmark next (all_committed done)) s true true false None starts matches replayed ends

-- ---- what is not refused

first_is_none : {A : Type 0} (one two : Option A) → first_of one two ≡ None → one ≡ None
first_is_none None two none = refl
first_is_none (Some a) two none = cc

second_is_none : {A : Type 0} (one two : Option A) → first_of one two ≡ None → two ≡ None
second_is_none None two none = none
second_is_none (Some a) two none = cc

passes : {A : Type 0} (test : Bool) (refusal : A) → unless test refusal ≡ None → test ≡ true
passes true refusal none = refl
passes false refusal none = cc

-- a session that is not refused starts at the bookmark,
pub accepted_starts : (scope : Scope) (number next : ℕ) (s : Session) → refuse_session scope number next s ≡ None → is_at next (configured_start s.setup) ≡ true
unfolding refuse_session
accepted_starts scope number next s none = passes (is_at next (configured_start s.setup)) (error.WrongStart number next) (first_is_none _ _ none)

-- and reads the same
pub accepted_matches : (scope : Scope) (number next : ℕ) (s : Session) → refuse_session scope number next s ≡ None → same_scope scope (scope_of s.setup s.first) ≡ true
unfolding refuse_session
accepted_matches scope number next s none = passes (same_scope scope (scope_of s.setup s.first)) (error.WrongFilter number) (first_is_none _ _ (second_is_none _ _ none))

pub accepted_first : (scope : Scope) (number next : ℕ) (s : Session) (ss : List Session) → refuse_from scope number next (s ∷ ss) ≡ None → refuse_session scope number next s ≡ None
unfolding refuse_from
accepted_first scope number next s ss none = first_is_none _ _ none

pub accepted_rest : (scope : Scope) (number next : ℕ) (s : Session) (ss : List Session) → refuse_from scope number next (s ∷ ss) ≡ None
    → refuse_from scope (number + 1) (bookmark next (committed s)) ss ≡ None
unfolding refuse_from
accepted_rest scope number next s ss none = second_is_none _ _ none
