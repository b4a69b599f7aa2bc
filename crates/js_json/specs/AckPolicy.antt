-- How messages are acknowledged.
use Rattle.std.specs.Prelude.{ℕ, List, [], ◌∷◌, Option, Ok, codes}
use Rattle.serde_json.specs.Data.{string}
use Rattle.js_json_members.specs.Member.{value_of}
use Rattle.js_json_members.specs.Rows.{Writes}
use Rattle.js_json.specs.declared.consumer.policies.AckPolicy.{AckPolicy}
use Rattle.js_json.specs.declared.consumer.policies.AckPolicy.TheVariants as ack_policy

-- the policy of a name
unfoldable pub ack_policy_named : List ℕ → Option AckPolicy
ack_policy_named =
    value_of (
    (codes "none", ack_policy.None) ∷
    (codes "all", ack_policy.All) ∷
    (codes "explicit", ack_policy.Explicit) ∷
    (codes "flow_control", ack_policy.FlowControl) ∷
    [])

-- its name
abbrev pub ack_policy_data : Writes AckPolicy
ack_policy_data k ack_policy.None = Ok (string (codes "none"))
ack_policy_data k ack_policy.All = Ok (string (codes "all"))
ack_policy_data k ack_policy.Explicit = Ok (string (codes "explicit"))
ack_policy_data k ack_policy.FlowControl = Ok (string (codes "flow_control"))
