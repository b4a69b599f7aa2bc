use Rattle.std.proofs.Common.{◌≡◌, rules}
use Rattle.std.specs.Prelude.{Err}
use Rattle.js_json_members.proofs.Gathered.{gathered_5}
use Rattle.js_json.specs.ConsumerConfig.{limits}
use Rattle.js_json.proofs.consumer.config.reader.Limits.read.Goals as goal

pub returns-in_err-max_batch : goal.returns-in_err-max_batch
unfolding limits
returns-in_err-max_batch c =
    let is : c.from_residual.result ≡ Err c.in_err-max_batch.field-0.0 = search rules in
    rw (is) (gathered_5 _ _ _ _ _ _ _ _ _ _ _ c.in_err-max_batch.ensures.first c.defaulted.ensures c.defaulted-2.ensures c.defaulted-3.ensures c.defaulted-4.ensures c.defaulted-5.ensures _)
