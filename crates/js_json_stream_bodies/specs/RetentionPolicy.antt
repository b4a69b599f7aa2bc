-- How long messages are kept.
use Rattle.std.specs.Prelude.{ℕ, List, [], ◌∷◌, Option, Ok, codes}
use Rattle.serde_json.specs.Data.{string}
use Rattle.js_json_members.specs.Member.{value_of}
use Rattle.js_json_members.specs.Rows.{Writes}
use Rattle.js_json_stream_bodies.specs.declared.stream.policies.RetentionPolicy.{RetentionPolicy}
use Rattle.js_json_stream_bodies.specs.declared.stream.policies.RetentionPolicy.TheVariants as retention_policy

-- the one of a name
unfoldable pub retention_policy_named : List ℕ → Option RetentionPolicy
retention_policy_named =
    value_of (
    (codes "limits", retention_policy.Limits) ∷
    (codes "interest", retention_policy.Interest) ∷
    (codes "workqueue", retention_policy.WorkQueue) ∷
    [])

-- its name
abbrev pub retention_policy_data : Writes RetentionPolicy
retention_policy_data k retention_policy.Limits = Ok (string (codes "limits"))
retention_policy_data k retention_policy.Interest = Ok (string (codes "interest"))
retention_policy_data k retention_policy.WorkQueue = Ok (string (codes "workqueue"))
