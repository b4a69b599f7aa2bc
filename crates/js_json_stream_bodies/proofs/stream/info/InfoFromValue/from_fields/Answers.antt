use Rattle.std.proofs.Common.{◌≡◌, rules}
use Rattle.std.specs.Prelude.{Err}
use Rattle.js_json_members.proofs.Gathered.{gathered_3}
use Rattle.js_json_stream_bodies.specs.StreamInfo.{info_fields}
use Rattle.js_json_stream_bodies.proofs.stream.info.InfoFromValue.from_fields.Goals as goal

pub returns-in_err-config : goal.returns-in_err-config
unfolding info_fields
returns-in_err-config c =
    let is : c.from_residual.result ≡ Err c.in_err-config.field-0.0 = search rules in
    rw (is) (gathered_3 _ _ _ _ _ _ _ c.in_err-config.ensures.first c.required.ensures c.required-2.ensures c.required-3.ensures _)
