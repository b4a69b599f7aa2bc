use Rattle.std.proofs.Common.{◌≡◌, ◌∙◌, ap, rules, Err}
use Rattle.js_message.specs.AckSubject.{i64_of, i128_of}
use Rattle.js_message.specs.Numbers.{u64_of}
use Rattle.js_message.proofs.Refusals.{number_refused, instant_refused}
use Rattle.js_message.proofs.ack_subject.read_seven.Goals as goal

pub returns-in_err-delivered : goal.returns-in_err-delivered
returns-in_err-delivered c =
    let is : c.from_residual.result ≡ Err c.in_err-delivered.field-0.0 = search rules in
    rw is (number_refused _ _ _ _ _ _ c.ok_or-delivered.ensures.value c.not_a_number.ensures (c.read_i64.ensures ∙ ap i64_of c.token.ensures) _ _
    (λ _. number_refused _ _ _ _ _ _ c.ok_or-stream_sequence.ensures.value c.not_a_number-2.ensures (c.read_u64.ensures ∙ ap u64_of c.token-2.ensures) _ _
    (λ _. number_refused _ _ _ _ _ _ c.ok_or-consumer_sequence.ensures.value c.not_a_number-3.ensures (c.read_u64-2.ensures ∙ ap u64_of c.token-3.ensures) _ _
    (λ _. instant_refused _ _ _ _ _ c.read_instant-published.ensures (ap i128_of c.token-4.ensures) _ _
    (λ _. number_refused _ _ _ _ _ _ c.ok_or-pending.ensures.value c.not_a_number-4.ensures (c.read_u64-3.ensures ∙ ap u64_of c.token-5.ensures) _ _ (λ _ other. cc))))) c.in_err-delivered.ensures.first)
