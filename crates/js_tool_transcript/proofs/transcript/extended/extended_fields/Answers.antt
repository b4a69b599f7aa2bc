use Rattle.std.proofs.Common.{◌≡◌, rules}
use Rattle.std.specs.Prelude.{Err}
use Rattle.js_json_members.proofs.Gathered.{gathered_3}
use Rattle.js_tool_transcript.specs.ExtendedMessage.{extended_fields}
use Rattle.js_tool_transcript.proofs.transcript.extended.extended_fields.Goals as goal

pub returns-in_err-bytes : goal.returns-in_err-bytes
unfolding extended_fields
returns-in_err-bytes c =
    let is : c.from_residual.result ≡ Err c.in_err-bytes.field-0.0 = search rules in
    rw (is) (gathered_3 _ _ _ _ _ _ _ c.in_err-bytes.ensures.first c.payload_base64.ensures c.under.ensures c.message_fields.ensures _)
