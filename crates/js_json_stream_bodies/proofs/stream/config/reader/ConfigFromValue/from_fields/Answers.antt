use Rattle.std.proofs.Common.{◌≡◌, rules}
use Rattle.std.specs.Prelude.{Err}
use Rattle.js_json_members.proofs.Gathered.{gathered_4}
use Rattle.js_json_stream_bodies.specs.StreamConfig.{config_fields}
use Rattle.js_json_stream_bodies.proofs.stream.config.reader.ConfigFromValue.from_fields.Goals as goal

pub returns-in_err-basics : goal.returns-in_err-basics
unfolding config_fields
returns-in_err-basics c =
    let is : c.from_residual.result ≡ Err c.in_err-basics.field-0.0 = search rules in
    rw (is) (gathered_4 _ _ _ _ _ _ _ _ _ c.in_err-basics.ensures.first c.read.ensures c.read-2.ensures c.read-3.ensures c.read-4.ensures _)
