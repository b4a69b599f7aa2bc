use Rattle.std.proofs.Common.{◌≡◌, rules}
use Rattle.std.specs.Prelude.{Err}
use Rattle.js_json_members.proofs.Gathered.{gathered_3}
use Rattle.js_json.specs.ConsumerInfo.{identity}
use Rattle.js_json.proofs.consumer.info.Identity.read.Goals as goal

pub returns-in_err-stream_name : goal.returns-in_err-stream_name
unfolding identity
returns-in_err-stream_name c =
    let is : c.from_residual.result ≡ Err c.in_err-stream_name.field-0.0 = search rules in
    rw (is) (gathered_3 _ _ _ _ _ _ _ c.in_err-stream_name.ensures.first c.required.ensures c.required-2.ensures c.required-3.ensures _)
