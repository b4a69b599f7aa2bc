use Rattle.std.proofs.Common.{◌≡◌, rules, true}
use Rattle.std.specs.Prelude.{Err, is_some}
use Rattle.serde_json.specs.Find.{as_object}
use Rattle.serde_json.specs.View.{view}
use Rattle.js_json_members.specs.declared.key.Key.TheVariants as key
use Rattle.js_json_members.proofs.Gathered.{gathered_2}
use Rattle.js_json_stream_bodies.specs.External.{external_fields, external_members}
use Rattle.js_json_members.proofs.ByMembers.{by_members}
use Rattle.js_json_stream_bodies.proofs.stream.source.ExternalFromValue.from_fields.Goals as goal

pub returns-in_err-api_prefix : goal.returns-in_err-api_prefix
unfolding external_fields external_members
returns-in_err-api_prefix c =
    let is : c.from_residual.result ≡ Err c.in_err-api_prefix.field-0.0 = search rules in
    let object : is_some (as_object (view c.args.object.now)) ≡ true = search rules in
    by_members external_members key.Api (view c.args.object.now) c.from_residual.result object
    (rw (is) (gathered_2 _ _ _ _ _ c.in_err-api_prefix.ensures.first c.defaulted.ensures c.optional.ensures _))
