use Rattle.std.proofs.Common.{◌≡◌, rules}
use Rattle.std.specs.Prelude.{Err}
use Rattle.js_json_members.proofs.Gathered.{gathered_4}
use Rattle.js_json.specs.ConsumerInfo.{info_fields}
use Rattle.js_json.proofs.consumer.info.InfoFromValue.from_fields.Goals as goal

pub returns-in_err-identity : goal.returns-in_err-identity
unfolding info_fields
returns-in_err-identity c =
    let is : c.from_residual.result ≡ Err c.in_err-identity.field-0.0 = search rules in
    rw (is) (gathered_4 _ _ _ _ _ _ _ _ _ c.in_err-identity.ensures.first c.read.ensures c.required.ensures c.read-2.ensures c.read-3.ensures _)
