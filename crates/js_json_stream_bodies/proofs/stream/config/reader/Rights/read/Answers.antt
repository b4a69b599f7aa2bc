use Rattle.std.proofs.Common.{◌≡◌, rules}
use Rattle.std.specs.Prelude.{Err}
use Rattle.js_json_members.proofs.Gathered.{gathered_6}
use Rattle.js_json_stream_bodies.specs.StreamConfig.{rights}
use Rattle.js_json_stream_bodies.proofs.stream.config.reader.Rights.read.Goals as goal

pub returns-in_err-republish : goal.returns-in_err-republish
unfolding rights
returns-in_err-republish c =
    let is : c.from_residual.result ≡ Err c.in_err-republish.field-0.0 = search rules in
    rw (is) (gathered_6 _ _ _ _ _ _ _ _ _ _ _ _ _ c.in_err-republish.ensures.first c.optional.ensures c.defaulted.ensures c.defaulted-2.ensures c.defaulted-3.ensures c.defaulted-4.ensures c.defaulted-5.ensures _)
