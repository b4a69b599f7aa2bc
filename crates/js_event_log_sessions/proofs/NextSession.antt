-- One session more: its committed yields, its bookmark and its run.
use Rattle.std.proofs.Common.{◌≡◌, ℕ, ◌+◌, List, [], ◌∷◌, ◌++◌, refl, sym, ap, ◌∙◌, append_assoc, append-nil}
use Rattle.js_ordered_table.specs.Gapless.{Entry}
use Rattle.js_event_log_sessions.specs.declared.session.Session.{Session}
use Rattle.js_event_log_sessions.specs.declared.session.SessionRun.{SessionRun}
use Rattle.js_event_log_sessions.specs.Bookmark.{bookmark}
use Rattle.js_event_log_sessions.specs.Runs.{committed, session_run, all_committed, runs}

pub committed_append : (xs ys : List Session) → all_committed (xs ++ ys) ≡ all_committed xs ++ all_committed ys
committed_append [] ys = refl
committed_append (x ∷ xs) ys = ap (λ (entries : List Entry). committed x ++ entries) (committed_append xs ys) ∙ sym (append_assoc (committed x) (all_committed xs) (all_committed ys))

pub committed_on : (done : List Session) (s : Session) → all_committed (done ++ s ∷ []) ≡ all_committed done ++ committed s
committed_on done s = committed_append done (s ∷ []) ∙ ap (λ (entries : List Entry). all_committed done ++ entries) (append-nil (committed s))

-- the bookmark goes on from the one before
pub bookmark_append : (next : ℕ) (xs ys : List Entry) → bookmark next (xs ++ ys) ≡ bookmark (bookmark next xs) ys
bookmark_append next [] ys = refl
bookmark_append next (x ∷ xs) ys = bookmark_append (x.sequence + 1) xs ys

pub bookmark_on : (next : ℕ) (done : List Session) (s : Session) → bookmark next (all_committed (done ++ s ∷ [])) ≡ bookmark (bookmark next (all_committed done)) (committed s)
bookmark_on next done s = ap (bookmark next) (committed_on done s) ∙ bookmark_append next (all_committed done) (committed s)

-- the run of one session more stands behind the others
pub runs_on : (next : ℕ) (done : List Session) (s : Session) → runs next (done ++ s ∷ []) ≡ runs next done ++ session_run (bookmark next (all_committed done)) s ∷ []
runs_on next [] s = refl
runs_on next (x ∷ done) s =
    ap (λ (all : List SessionRun). session_run next x ∷ all)
    (runs_on (bookmark next (committed x)) done s
    ∙ ap (λ (at : ℕ). runs (bookmark next (committed x)) done ++ session_run at s ∷ []) (sym (bookmark_append next (committed x) (all_committed done))))
