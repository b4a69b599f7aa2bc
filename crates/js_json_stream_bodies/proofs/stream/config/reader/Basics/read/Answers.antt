use Rattle.std.proofs.Common.{◌≡◌, rules}
use Rattle.std.specs.Prelude.{Err}
use Rattle.js_json_members.proofs.Gathered.{gathered_6}
use Rattle.js_json_stream_bodies.specs.StreamConfig.{basics}
use Rattle.js_json_stream_bodies.proofs.stream.config.reader.Basics.read.Goals as goal

pub returns-in_err-name : goal.returns-in_err-name
unfolding basics
returns-in_err-name c =
    let is : c.from_residual.result ≡ Err c.in_err-name.field-0.0 = search rules in
    rw (is) (gathered_6 _ _ _ _ _ _ _ _ _ _ _ _ _ c.in_err-name.ensures.first c.required.ensures c.defaulted.ensures c.defaulted-2.ensures c.defaulted-3.ensures c.optional.ensures c.defaulted-4.ensures _)
