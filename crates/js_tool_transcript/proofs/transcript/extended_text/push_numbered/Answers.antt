use Rattle.std.proofs.Common.{ℕ, List, ◌++◌, codes, decimal, ap, ◌∙◌}
use Rattle.js_tool_transcript.specs.ExtendedText.{any_message_text}
use Rattle.js_tool_transcript.proofs.EventPushed.{joined}
use Rattle.js_tool_transcript.proofs.transcript.extended_text.push_numbered.Goals as goal

pub returns-clause-text : goal.returns-clause-text
returns-clause-text c =
    let t1 = c.in_ok-push_number_member.ensures.text in
    let t2 = c.in_ok-push_any_message.ensures.text ∙ ap (λ (s : List ℕ). s ++ any_message_text c.args.message.now) t1 in
    let t3 = c.in_ok-push_plain.ensures ∙ ap (λ (s : List ℕ). s ++ codes "}") t2 in
    t3 ∙ joined c.args.out.now.items c.args.key.now (decimal c.args.number) (any_message_text c.args.message.now) (codes "}")
