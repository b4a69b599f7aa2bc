use Rattle.std.proofs.Common.{◌≡◌, rules}
use Rattle.std.specs.Prelude.{Err}
use Rattle.js_json_members.proofs.Gathered.{gathered_6}
use Rattle.js_json_stream_bodies.specs.StreamConfig.{limits}
use Rattle.js_json_stream_bodies.proofs.stream.config.reader.Limits.read.Goals as goal

pub returns-in_err-max_messages : goal.returns-in_err-max_messages
unfolding limits
returns-in_err-max_messages c =
    let is : c.from_residual.result ≡ Err c.in_err-max_messages.field-0.0 = search rules in
    rw (is) (gathered_6 _ _ _ _ _ _ _ _ _ _ _ _ _ c.in_err-max_messages.ensures.first c.defaulted.ensures c.defaulted-2.ensures c.defaulted-3.ensures c.defaulted-4.ensures c.defaulted-5.ensures c.defaulted-6.ensures _)
