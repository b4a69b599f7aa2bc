use Rattle.std.proofs.Common.{◌≡◌, rules}
use Rattle.std.specs.Prelude.{Err}
use Rattle.js_json_members.proofs.Gathered.{gathered_7}
use Rattle.js_json.specs.PublishAck.{publish_ack_fields}
use Rattle.js_json.proofs.publish_ack.PublishAckFromValue.from_fields.Goals as goal

pub returns-in_err-stream : goal.returns-in_err-stream
unfolding publish_ack_fields
returns-in_err-stream c =
    let is : c.from_residual.result ≡ Err c.in_err-stream.field-0.0 = search rules in
    rw (is) (gathered_7 _ _ _ _ _ _ _ _ _ _ _ _ _ _ _ c.in_err-stream.ensures.first c.required.ensures c.required-2.ensures c.defaulted.ensures c.defaulted-2.ensures c.optional.ensures c.optional-2.ensures c.optional-3.ensures _)
