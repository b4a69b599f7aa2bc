use Rattle.std.proofs.Common.{◌≡◌, ℕ, ◌+◌, ◌++◌, ◌∷◌, [], Some, refl, sym, ap, ◌∙◌, subst}
use Rattle.std.proofs.lemmas.Result.{IfOk-at_ok}
use Rattle.js_event_log_sessions.specs.declared.error.SessionsError.{SessionsError}
use Rattle.js_event_log_sessions.specs.declared.scope.Scope.{Scope}
use Rattle.js_event_log_sessions.specs.Bookmark.{events_of}
use Rattle.js_event_log_sessions.specs.Runs.{IsRefusal, replay_input_of}
use Rattle.js_event_log_sessions.proofs.ReplayProgress.{ends_last, ends_refused, ends_well}
use Rattle.js_event_log_sessions.proofs.session_replay.SessionReplay.end.Goals as goal

pub returns-in-Err-clause-ended : goal.returns-in-Err-clause-ended
returns-in-Err-clause-ended c = λ next done s come.
    subst (λ (e : SessionsError). IsRefusal next (done ++ s ∷ []) e) (sym c.replay_refusal.ensures)
    (ends_refused next done s c.args.self c.in-Err.error come (c.in-Err.ensures.ended (replay_input_of s) s.start (events_of s.lines) come.replay))

pub returns-in_default-clause-ended : goal.returns-in_default-clause-ended
returns-in_default-clause-ended c = λ next done s come.
    ends_last next done s c.args.self come (c.in-Ok.ensures.ended (replay_input_of s) s.start (events_of s.lines) come.replay).0 c.in_default.is

pub returns-clause-ended : goal.returns-clause-ended
returns-clause-ended c = λ next done s come.
    let ended = c.in-Ok.ensures.ended (replay_input_of s) s.start (events_of s.lines) come.replay in
    let values = c.in_ok-scope.ensures.values in
    let kept : c.in_ok-scope.scope ≡ c.args.self.scope = IfOk-at_ok (λ (scope : Scope). scope ≡ c.args.self.scope) values.0 refl in
    let sum : c.in_ok-scope.committed ≡ c.args.self.before + c.args.self.saved.count =
    IfOk-at_ok (λ (n : ℕ). n ≡ c.args.self.before + c.args.self.saved.count) values.1 c.sum_of.ensures in
    ends_well next done s c.args.self _ c.in-Some.next come ended.0 ended.1 c.in-Some.is refl
    (ap (λ (n : ℕ). record { count = c.args.self.number; next = c.in-Some.next; committed = n; scope = Some c.in_ok-scope.scope }) sum
    ∙ ap (λ (scope : Scope). record { count = c.args.self.number; next = c.in-Some.next; committed = c.args.self.before + c.args.self.saved.count; scope = Some scope }) kept)
