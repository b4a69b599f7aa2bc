-- How fast the messages that are there already are sent.
use Rattle.std.specs.Prelude.{ℕ, List, [], ◌∷◌, Option, Ok, codes}
use Rattle.serde_json.specs.Data.{string}
use Rattle.js_json_members.specs.Member.{value_of}
use Rattle.js_json_members.specs.Rows.{Writes}
use Rattle.js_json.specs.declared.consumer.policies.ReplayPolicy.{ReplayPolicy}
use Rattle.js_json.specs.declared.consumer.policies.ReplayPolicy.TheVariants as replay_policy

-- the policy of a name
unfoldable pub replay_policy_named : List ℕ → Option ReplayPolicy
replay_policy_named =
    value_of (
    (codes "instant", replay_policy.Instant) ∷
    (codes "original", replay_policy.Original) ∷
    [])

-- its name
abbrev pub replay_policy_data : Writes ReplayPolicy
replay_policy_data k replay_policy.Instant = Ok (string (codes "instant"))
replay_policy_data k replay_policy.Original = Ok (string (codes "original"))
