use Rattle.std.proofs.Common.{ℕ, List, ◌++◌, codes, false, ap, ◌∙◌}
use Rattle.js_base.specs.Headers.{pairs}
use Rattle.js_tool_transcript.specs.EventText.{list_text}
use Rattle.js_tool_transcript.proofs.EventPushed.{enclosed}
use Rattle.js_tool_transcript.proofs.transcript.event_text.push_list_member.Goals as goal

pub returns-clause-text : goal.returns-clause-text
returns-clause-text c =
    let list = list_text false (pairs c.args.headers.now) in
    let t1 = c.in_ok-push_plain.ensures in
    let t2 = c.in_ok-push_list.ensures.text ∙ ap (λ (s : List ℕ). s ++ list) t1 in
    let t3 = c.in_ok-push_plain-2.ensures ∙ ap (λ (s : List ℕ). s ++ codes "]") t2 in
    t3 ∙ enclosed c.args.out.now.items (codes ",\"headers\":[") list (codes "]")
