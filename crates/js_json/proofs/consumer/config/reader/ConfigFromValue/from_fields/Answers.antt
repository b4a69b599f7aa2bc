use Rattle.std.proofs.Common.{◌≡◌, rules}
use Rattle.std.specs.Prelude.{Err}
use Rattle.js_json_members.proofs.Gathered.{gathered_5}
use Rattle.js_json.specs.ConsumerConfig.{config_fields}
use Rattle.js_json.proofs.consumer.config.reader.ConfigFromValue.from_fields.Goals as goal

pub returns-in_err-names : goal.returns-in_err-names
unfolding config_fields
returns-in_err-names c =
    let is : c.from_residual.result ≡ Err c.in_err-names.field-0.0 = search rules in
    rw (is) (gathered_5 _ _ _ _ _ _ _ _ _ _ _ c.in_err-names.ensures.first c.read.ensures c.read-2.ensures c.read-3.ensures c.read-4.ensures c.read-5.ensures _)
