use Rattle.std.proofs.Common.{◌≡◌, ℕ, List, ◌++◌, codes, OnOk, subst, rules}
use Rattle.json.specs.Print.{quoted}
use Rattle.js_tool_transcript.specs.ExtendedMessage.{base64_of}
use Rattle.js_tool_transcript.proofs.transcript.extended_text.push_base64.Goals as goal

pub returns-clause-text : goal.returns-clause-text
unfolding base64_of
returns-clause-text c =
    let is : c.as_str.result.now ≡ base64_of c.args.payload.now = search rules in
    subst (λ (s : List ℕ). OnOk c.push_text_member-pushed.result (c.push_text_member-pushed.new.out.items ≡ c.args.out.now.items ++ (codes ",\"payload_base64\":" ++ quoted s))) is c.push_text_member-pushed.ensures.text
