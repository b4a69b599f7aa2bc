use Rattle.std.proofs.Common.{◌++◌, ℕ, List, decimal, ap, ◌∙◌}
use Rattle.json.specs.Print.{quoted}
use Rattle.js_tool_transcript.proofs.PushedText.{arrival_pushed, before_reply, before_subject, before_at, arrival_closes}
use Rattle.js_tool_transcript.proofs.relay.push_arrival.Goals as goal

pub returns-clause-text : goal.returns-clause-text
returns-clause-text c =
    let t1 = c.in_ok-push_plain.ensures in
    let t2 = c.in_ok-push_quoted.ensures ∙ ap (λ (s : List ℕ). s ++ quoted c.as_slice.result.now) t1 in
    let t3 = c.in_ok-push_plain-2.ensures ∙ ap (λ (s : List ℕ). s ++ before_reply) t2 in
    let t4 = c.in_ok-push_quoted-2.ensures ∙ ap (λ (s : List ℕ). s ++ quoted c.as_bytes.result.now) t3 in
    let t5 = c.in_ok-push_plain-3.ensures ∙ ap (λ (s : List ℕ). s ++ before_subject) t4 in
    let t6 = c.in_ok-push_quoted-3.ensures ∙ ap (λ (s : List ℕ). s ++ quoted c.as_bytes-2.result.now) t5 in
    let t7 = c.in_ok-push_plain-4.ensures ∙ ap (λ (s : List ℕ). s ++ before_at) t6 in
    let t8 = c.in_ok-push_decimal.ensures ∙ ap (λ (s : List ℕ). s ++ decimal c.args.number) t7 in
    let t9 = c.in_ok-push_plain-5.ensures ∙ ap (λ (s : List ℕ). s ++ arrival_closes) t8 in
    t9 ∙ arrival_pushed c.args.out.now.items c.as_slice.result.now c.as_bytes.result.now c.as_bytes-2.result.now c.args.stream.now c.args.name.now c.args.number c.args.entry.now
    c.as_slice.ensures (c.as_bytes.ensures.value ∙ c.in_ok-reply.ensures) (c.as_bytes-2.ensures.value ∙ c.as_str.ensures)
