use Rattle.std.proofs.Common.{◌≡◌, rules}
use Rattle.std.specs.Prelude.{Err}
use Rattle.js_json_members.proofs.Gathered.{gathered_7}
use Rattle.js_json.specs.ConsumerConfig.{delivery}
use Rattle.js_json.proofs.consumer.config.reader.Delivery.read.Goals as goal

pub returns-in_err-deliver_policy : goal.returns-in_err-deliver_policy
unfolding delivery
returns-in_err-deliver_policy c =
    let is : c.from_residual.result ≡ Err c.in_err-deliver_policy.field-0.0 = search rules in
    rw (is) (gathered_7 _ _ _ _ _ _ _ _ _ _ _ _ _ _ _ c.in_err-deliver_policy.ensures.first c.from_fields.ensures c.defaulted.ensures c.defaulted-2.ensures c.defaulted-3.ensures c.defaulted-4.ensures c.defaulted-5.ensures c.defaulted-6.ensures _)
