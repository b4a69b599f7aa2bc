use Rattle.std.proofs.Common.{◌≡◌, rules}
use Rattle.std.specs.Prelude.{Err}
use Rattle.js_json_members.proofs.Gathered.{gathered_4}
use Rattle.js_json_stream_bodies.specs.Source.{source_fields}
use Rattle.js_json_stream_bodies.proofs.stream.source.SourceFromValue.from_fields.Goals as goal

pub returns-in_err-name : goal.returns-in_err-name
unfolding source_fields
returns-in_err-name c =
    let is : c.from_residual.result ≡ Err c.in_err-name.field-0.0 = search rules in
    rw (is) (gathered_4 _ _ _ _ _ _ _ _ _ c.in_err-name.ensures.first c.required.ensures c.optional.ensures c.optional-2.ensures c.optional-3.ensures _)
