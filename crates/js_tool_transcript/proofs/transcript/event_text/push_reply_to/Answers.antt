use Rattle.std.proofs.Common.{ℕ, List, ◌++◌, codes, decimal, ap, ◌∙◌}
use Rattle.js_tool_transcript.specs.EventText.{message_text}
use Rattle.js_tool_transcript.proofs.EventPushed.{joined}
use Rattle.js_tool_transcript.proofs.transcript.event_text.push_reply_to.Goals as goal

pub returns-clause-text : goal.returns-clause-text
returns-clause-text c =
    let t1 = c.in_ok-push_number_member.ensures.text in
    let t2 = c.in_ok-push_message.ensures.text ∙ ap (λ (s : List ℕ). s ++ message_text c.args.message.now) t1 in
    let t3 = c.in_ok-push_plain.ensures ∙ ap (λ (s : List ℕ). s ++ codes "}") t2 in
    t3 ∙ joined c.args.out.now.items (codes ",\"answer\":{\"request\":") (decimal c.args.request) (message_text c.args.message.now) (codes "}")
