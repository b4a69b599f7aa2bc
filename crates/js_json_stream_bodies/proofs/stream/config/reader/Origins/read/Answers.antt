use Rattle.std.proofs.Common.{◌≡◌, rules}
use Rattle.std.specs.Prelude.{Err}
use Rattle.js_json_members.proofs.Gathered.{gathered_6}
use Rattle.js_json_stream_bodies.specs.StreamConfig.{origins}
use Rattle.js_json_stream_bodies.proofs.stream.config.reader.Origins.read.Goals as goal

pub returns-in_err-mirror : goal.returns-in_err-mirror
unfolding origins
returns-in_err-mirror c =
    let is : c.from_residual.result ≡ Err c.in_err-mirror.field-0.0 = search rules in
    rw (is) (gathered_6 _ _ _ _ _ _ _ _ _ _ _ _ _ c.in_err-mirror.ensures.first c.optional.ensures c.optional-2.ensures c.optional-3.ensures c.optional-4.ensures c.defaulted.ensures c.optional-5.ensures _)
