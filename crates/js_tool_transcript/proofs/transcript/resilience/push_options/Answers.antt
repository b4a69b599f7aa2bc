use Rattle.std.proofs.Common.{ℕ, List, ◌++◌, codes, ap, ◌∙◌}
use Rattle.js_tool_transcript.specs.ExtendedSetup.{option_text}
use Rattle.js_tool_transcript.proofs.ResilienceRead.{options_joined}
use Rattle.js_tool_transcript.proofs.transcript.resilience.push_options.Goals as goal

pub returns : goal.returns
returns c =
    let r = c.args.resilience in
    let stalled = codes "{\"answers_stalled\":" ++ option_text r.answers_stalled in
    let first = codes ",\"asks_at_first_heartbeat\":" ++ option_text r.asks_at_first_heartbeat in
    let gone = codes ",\"recreates_when_gone\":" ++ option_text r.recreates_when_gone in
    let missing = codes ",\"tells_missing_stream\":" ++ option_text r.tells_missing_stream in
    let t1 = c.in_ok-push_option.ensures in
    let t2 = c.in_ok-push_option-2.ensures ∙ ap (λ (s : List ℕ). s ++ first) t1 in
    let t3 = c.in_ok-push_option-3.ensures ∙ ap (λ (s : List ℕ). s ++ gone) t2 in
    let t4 = c.in_ok-push_option-4.ensures ∙ ap (λ (s : List ℕ). s ++ missing) t3 in
    let t5 = c.in_ok-push_plain.ensures ∙ ap (λ (s : List ℕ). s ++ codes "}") t4 in
    t5 ∙ options_joined c.args.out.now.items stalled first gone missing (codes "}")
