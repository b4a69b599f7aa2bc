use Rattle.std.proofs.Common.{◌≡◌, ℕ, ◌+◌, Option, None, [], refl, sym, ap, ◌∙◌, List}
use Rattle.std.proofs.lemmas.Result.{IfOk-at_ok}
use Rattle.js_ordered_table.specs.declared.run.Output.{Output}
use Rattle.js_ordered_table.specs.Gapless.{yields}
use Rattle.js_ordered_table.specs.Texts.{configured_start}
use Rattle.js_event_log_sessions.specs.declared.scope.Scope.{Scope}
use Rattle.js_event_log_sessions.specs.SessionReplay.{agreed, first_scope, mark_of}
use Rattle.js_event_log_sessions.specs.Runs.{is_at, scope_of}
use Rattle.js_event_log_sessions.proofs.ReplayProgress.{agreed_none, begun}
use Rattle.js_event_log_sessions.proofs.Refusals.{wrong_filter, wrong_start}
use Rattle.js_event_log_sessions.proofs.session_replay.Sessions.begin.Goals as goal

pub returns-then-not-is_at : goal.returns-then-not-is_at
returns-then-not-is_at c = λ next done ended lines.
    let values = c.in_ok-before.ensures.values in
    let number : c.in_ok-before.number ≡ c.args.self.count + 1 = IfOk-at_ok (λ (n : ℕ). n ≡ c.args.self.count + 1) values.1 c.next_number.ensures.next in
    wrong_start next c.in_ok-before.number c.args.self.next done _ ended.accepted (number ∙ ap (λ (n : ℕ). n + 1) ended.count) ended.goes_on
    (ap (is_at c.args.self.next) (sym c.configured_start.ensures) ∙ sym c.is_at.ensures ∙ c.if-not-is_at.true)

pub returns-in_default : goal.returns-in_default
returns-in_default c = λ next done ended lines.
    let values = c.in_ok-before.ensures.values in
    let number : c.in_ok-before.number ≡ c.args.self.count + 1 = IfOk-at_ok (λ (n : ℕ). n ≡ c.args.self.count + 1) values.1 c.next_number.ensures.next in
    let held : c.in_ok-before.before ≡ c.args.self.scope = IfOk-at_ok (λ (o : Option Scope). o ≡ c.args.self.scope) values.0 refl in
    let reads : Scope = scope_of c.args.setup.now c.args.first.now in
    let none : agreed (first_scope done) reads ≡ None =
    ap (λ (o : Option Scope). agreed o reads) (sym ended.scope ∙ sym held) ∙ sym c.in_ok-scope.ensures ∙ c.in_default.is in
    wrong_filter next c.in_ok-before.number done _ ended.accepted (number ∙ ap (λ (n : ℕ). n + 1) ended.count)
    (ap (λ (n : ℕ). is_at n (configured_start c.args.setup.now)) (sym ended.goes_on) ∙ ap (is_at c.args.self.next) (sym c.configured_start.ensures) ∙ sym c.is_at.ensures ∙ c.if-not-is_at.false)
    (agreed_none (first_scope done) reads none)

pub returns : goal.returns
returns c = λ next done ended.
    let values = c.in_ok-before.ensures.values in
    let number : c.in_ok-before.number ≡ c.args.self.count + 1 = IfOk-at_ok (λ (n : ℕ). n ≡ c.args.self.count + 1) values.1 c.next_number.ensures.next in
    let held : c.in_ok-before.before ≡ c.args.self.scope = IfOk-at_ok (λ (o : Option Scope). o ≡ c.args.self.scope) values.0 refl in
    let reads : Scope = scope_of c.args.setup.now c.args.first.now in
    begun next done _ c.args.self _ c.in-Some.scope ended refl number
    (ap (is_at c.args.self.next) (sym c.configured_start.ensures) ∙ sym c.is_at.ensures ∙ c.if-not-is_at.false)
    (ap (λ (o : Option Scope). agreed o reads) (sym held) ∙ sym c.in_ok-scope.ensures ∙ c.in-Some.is)
    refl refl c.in_ok-replay.ensures c.at-saved.ensures
    (c.in-Ok.ensures c.args.self.next [] c.at-saved.ensures ∙ ap (λ (outputs : List Output). mark_of c.args.self.next (yields outputs)) c.outputs.ensures)
    refl
