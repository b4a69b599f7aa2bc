use Rattle.std.proofs.Common.{◌≡◌, rules}
use Rattle.std.specs.Prelude.{Err}
use Rattle.js_json_members.proofs.Gathered.{gathered_5}
use Rattle.js_json.specs.ConsumerInfo.{states}
use Rattle.js_json.proofs.consumer.info.States.read.Goals as goal

pub returns-in_err-cluster : goal.returns-in_err-cluster
unfolding states
returns-in_err-cluster c =
    let is : c.from_residual.result ≡ Err c.in_err-cluster.field-0.0 = search rules in
    rw (is) (gathered_5 _ _ _ _ _ _ _ _ _ _ _ c.in_err-cluster.ensures.first c.optional.ensures c.defaulted.ensures c.defaulted-2.ensures c.optional-2.ensures c.defaulted-3.ensures _)
