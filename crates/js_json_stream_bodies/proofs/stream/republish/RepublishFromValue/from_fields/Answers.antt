use Rattle.std.proofs.Common.{◌≡◌, rules, true}
use Rattle.std.specs.Prelude.{Err, is_some}
use Rattle.serde_json.specs.Find.{as_object}
use Rattle.serde_json.specs.View.{view}
use Rattle.js_json_members.specs.declared.key.Key.TheVariants as key
use Rattle.js_json_members.proofs.Gathered.{gathered_3}
use Rattle.js_json_stream_bodies.specs.Republish.{republish_fields, republish_members}
use Rattle.js_json_members.proofs.ByMembers.{by_members}
use Rattle.js_json_stream_bodies.proofs.stream.republish.RepublishFromValue.from_fields.Goals as goal

pub returns-in_err-source : goal.returns-in_err-source
unfolding republish_fields republish_members
returns-in_err-source c =
    let is : c.from_residual.result ≡ Err c.in_err-source.field-0.0 = search rules in
    let object : is_some (as_object (view c.args.object.now)) ≡ true = search rules in
    by_members republish_members key.Src (view c.args.object.now) c.from_residual.result object
    (rw (is) (gathered_3 _ _ _ _ _ _ _ c.in_err-source.ensures.first c.defaulted.ensures c.defaulted-2.ensures c.defaulted-3.ensures _))
