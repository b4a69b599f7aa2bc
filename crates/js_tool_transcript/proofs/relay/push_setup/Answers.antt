use Rattle.std.proofs.Common.{◌++◌, ℕ, List, ap, ◌∙◌}
use Rattle.json.specs.Print.{quoted}
use Rattle.js_tool_transcript.proofs.PushedText.{setup_pushed, info_opens, before_name, before_stream, setup_closes}
use Rattle.js_tool_transcript.proofs.relay.push_setup.Goals as goal

pub returns : goal.returns
returns c = λ d same.
    let t1 = c.in_ok-push_plain.ensures in
    let t2 = c.in_ok-push_plain-2.ensures ∙ ap (λ (s : List ℕ). s ++ c.args.config.now) t1 in
    let t3 = c.in_ok-push_plain-3.ensures ∙ ap (λ (s : List ℕ). s ++ info_opens) t2 in
    let t4 = c.in_ok-push_plain-4.ensures ∙ ap (λ (s : List ℕ). s ++ c.args.config.now) t3 in
    let t5 = c.in_ok-push_plain-5.ensures ∙ ap (λ (s : List ℕ). s ++ before_name) t4 in
    let t6 = c.in_ok-push_quoted.ensures ∙ ap (λ (s : List ℕ). s ++ quoted c.as_bytes.result.now) t5 in
    let t7 = c.in_ok-push_plain-6.ensures ∙ ap (λ (s : List ℕ). s ++ before_stream) t6 in
    let t8 = c.in_ok-push_quoted-2.ensures ∙ ap (λ (s : List ℕ). s ++ quoted c.as_bytes-2.result.now) t7 in
    let t9 = c.in_ok-push_plain-7.ensures ∙ ap (λ (s : List ℕ). s ++ setup_closes) t8 in
    t9 ∙ setup_pushed c.args.out.now.items c.args.config.now c.as_bytes.result.now c.as_bytes-2.result.now c.args.stream.now c.args.name.now d same c.as_bytes.ensures.value c.as_bytes-2.ensures.value
