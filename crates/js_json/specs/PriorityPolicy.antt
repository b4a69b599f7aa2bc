-- Which reader of a priority group is served.
use Rattle.std.specs.Prelude.{ℕ, List, [], ◌∷◌, Option, Bool, true, false, Ok, codes}
use Rattle.serde_json.specs.Data.{string}
use Rattle.js_json_members.specs.Member.{value_of}
use Rattle.js_json_members.specs.Rows.{Writes}
use Rattle.js_json.specs.declared.consumer.policies.PriorityPolicy.{PriorityPolicy}
use Rattle.js_json.specs.declared.consumer.policies.PriorityPolicy.TheVariants as priority_policy

-- the policy of a name
unfoldable pub priority_policy_named : List ℕ → Option PriorityPolicy
priority_policy_named =
    value_of (
    (codes "overflow", priority_policy.Overflow) ∷
    (codes "none", priority_policy.None) ∷
    (codes "pinned_client", priority_policy.PinnedClient) ∷
    (codes "prioritized", priority_policy.Prioritized) ∷
    [])

-- its name
abbrev pub priority_policy_data : Writes PriorityPolicy
priority_policy_data k priority_policy.Overflow = Ok (string (codes "overflow"))
priority_policy_data k priority_policy.None = Ok (string (codes "none"))
priority_policy_data k priority_policy.PinnedClient = Ok (string (codes "pinned_client"))
priority_policy_data k priority_policy.Prioritized = Ok (string (codes "prioritized"))

-- the default, which is left out
abbrev pub is_blank_priority_policy : PriorityPolicy → Bool
is_blank_priority_policy priority_policy.Overflow = false
is_blank_priority_policy priority_policy.None = true
is_blank_priority_policy priority_policy.PinnedClient = false
is_blank_priority_policy priority_policy.Prioritized = false
