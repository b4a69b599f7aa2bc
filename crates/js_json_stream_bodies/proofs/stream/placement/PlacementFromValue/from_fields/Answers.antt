use Rattle.std.proofs.Common.{◌≡◌, rules, true}
use Rattle.std.specs.Prelude.{Err, is_some}
use Rattle.serde_json.specs.Find.{as_object}
use Rattle.serde_json.specs.View.{view}
use Rattle.js_json_members.specs.declared.key.Key.TheVariants as key
use Rattle.js_json_members.proofs.Gathered.{gathered_2}
use Rattle.js_json_stream_bodies.specs.Placement.{placement_fields, placement_members}
use Rattle.js_json_members.proofs.ByMembers.{by_members}
use Rattle.js_json_stream_bodies.proofs.stream.placement.PlacementFromValue.from_fields.Goals as goal

pub returns-in_err-cluster : goal.returns-in_err-cluster
unfolding placement_fields placement_members
returns-in_err-cluster c =
    let is : c.from_residual.result ≡ Err c.in_err-cluster.field-0.0 = search rules in
    let object : is_some (as_object (view c.args.object.now)) ≡ true = search rules in
    by_members placement_members key.Cluster (view c.args.object.now) c.from_residual.result object
    (rw (is) (gathered_2 _ _ _ _ _ c.in_err-cluster.ensures.first c.optional.ensures c.defaulted.ensures _))
