use Rattle.std.proofs.Common.{◌≡◌, rules}
use Rattle.std.specs.Prelude.{Err}
use Rattle.js_json_members.proofs.Gathered.{gathered_6}
use Rattle.js_json.specs.ConsumerInfo.{progress}
use Rattle.js_json.proofs.consumer.info.Progress.read.Goals as goal

pub returns-in_err-delivered : goal.returns-in_err-delivered
unfolding progress
returns-in_err-delivered c =
    let is : c.from_residual.result ≡ Err c.in_err-delivered.field-0.0 = search rules in
    rw (is) (gathered_6 _ _ _ _ _ _ _ _ _ _ _ _ _ c.in_err-delivered.ensures.first c.required.ensures c.required-2.ensures c.required-3.ensures c.required-4.ensures c.required-5.ensures c.required-6.ensures _)
