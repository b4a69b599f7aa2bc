use Rattle.std.proofs.Common.{◌≡◌, rules}
use Rattle.std.specs.Prelude.{Err}
use Rattle.js_json_members.proofs.Gathered.{gathered_6}
use Rattle.js_tool_transcript.specs.Message.{message_fields}
use Rattle.js_tool_transcript.proofs.transcript.message.message_fields.Goals as goal

pub returns-in_err-subject : goal.returns-in_err-subject
unfolding message_fields
returns-in_err-subject c =
    let is : c.from_residual.result ≡ Err c.in_err-subject.field-0.0 = search rules in
    rw (is) (gathered_6 _ _ _ _ _ _ _ _ _ _ _ _ _ c.in_err-subject.ensures.first c.optional.ensures c.optional-2.ensures c.payload_member.ensures c.optional-3.ensures c.optional-4.ensures c.headers_member.ensures _)
