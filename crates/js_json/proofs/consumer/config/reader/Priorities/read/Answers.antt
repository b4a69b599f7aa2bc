use Rattle.std.proofs.Common.{◌≡◌, rules}
use Rattle.std.specs.Prelude.{Err}
use Rattle.js_json_members.proofs.Gathered.{gathered_7}
use Rattle.js_json.specs.ConsumerConfig.{priorities}
use Rattle.js_json.proofs.consumer.config.reader.Priorities.read.Goals as goal

pub returns-in_err-memory_storage : goal.returns-in_err-memory_storage
unfolding priorities
returns-in_err-memory_storage c =
    let is : c.from_residual.result ≡ Err c.in_err-memory_storage.field-0.0 = search rules in
    rw (is) (gathered_7 _ _ _ _ _ _ _ _ _ _ _ _ _ _ _ c.in_err-memory_storage.ensures.first c.defaulted.ensures c.defaulted-2.ensures c.defaulted-3.ensures c.defaulted-4.ensures c.defaulted-5.ensures c.defaulted-6.ensures c.optional.ensures _)
