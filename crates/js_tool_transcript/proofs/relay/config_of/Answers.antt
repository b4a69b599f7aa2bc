use Rattle.std.proofs.Common.{◌++◌, ℕ, List, ap, ◌∙◌}
use Rattle.js_tool_transcript.proofs.PushedText.{config_pushed, start_text}
use Rattle.js_tool_transcript.specs.RelayConfigText.{filter_text, filters_text}
use Rattle.js_tool_transcript.proofs.relay.config_of.Goals as goal

pub returns : goal.returns
returns c =
    let t1 = c.in_ok-push_plain.ensures in
    let t2 = c.in_ok-push_filter.ensures ∙ ap (λ (s : List ℕ). s ++ filter_text c.args.filter.now) t1 in
    let t3 = c.in_ok-push_filters.ensures ∙ ap (λ (s : List ℕ). s ++ filters_text c.args.filters.now) t2 in
    let t4 = c.in_ok-push_start.ensures ∙ ap (λ (s : List ℕ). s ++ start_text c.args.start) t3 in
    t4 ∙ config_pushed c.new-out.result.items c.args.filter.now c.args.filters.now c.args.start c.new-out.ensures.items
