use Rattle.std.proofs.Common.{◌≡◌, ◌∙◌, sym}
use Rattle.base64.specs.Engines.{standard}
use Rattle.base64.specs.GeneralPurpose.{encode_of}
use Rattle.js_tool_follow.proofs.AnswerTexts.{payload_so}
use Rattle.js_tool_follow.proofs.details.push_payload.Goals as goal

pub returns : goal.returns
returns c =
    let encoded : c.as_bytes.result.now ≡ encode_of standard c.args.payload.now = c.as_bytes.ensures.value ∙ c.in_ok-text.ensures.text in
    payload_so c.push_line.result c.args.step c.args.sequence c.args.payload.now c.as_bytes.result.now c.args.out.now.items c.push_line.new.out.items (sym c.is_text.ensures ∙ c.if-is_text.false) encoded c.push_line.ensures
