use Rattle.std.proofs.Common.{◌++◌, ◌∷◌, ℕ, List, codes, sym, ap, ◌∙◌}
use Rattle.json.specs.Print.{quoted}
use Rattle.js_tool_transcript.proofs.PushedText.{filters_pushed}
use Rattle.js_tool_transcript.specs.RelayConfigText.{further_texts}
use Rattle.js_tool_transcript.proofs.relay.push_filters.Goals as goal

pub returns : goal.returns
returns c =
    let t1 = c.in_ok-push_plain.ensures in
    let t2 = c.in_ok-push_list.ensures ∙ ap (λ (s : List ℕ). s ++ (quoted c.as_str.result.now ++ further_texts c.in-Some.further.now)) t1 in
    let t3 = c.in_ok-push_plain-2.ensures ∙ ap (λ (s : List ℕ). s ++ codes "]") t2 in
    t3 ∙ filters_pushed c.args.out.now.items c.as_str.result.now c.in-Some.further.now c.args.filters.now
    (c.in-Some.ensures.cases.0 ∙ ap (λ (first : List ℕ). first ∷ c.in-Some.further.now) (sym c.as_str.ensures))
