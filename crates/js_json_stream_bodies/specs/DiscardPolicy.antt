-- What gives way where a limit is reached.
use Rattle.std.specs.Prelude.{ℕ, List, [], ◌∷◌, Option, Ok, codes}
use Rattle.serde_json.specs.Data.{string}
use Rattle.js_json_members.specs.Member.{value_of}
use Rattle.js_json_members.specs.Rows.{Writes}
use Rattle.js_json_stream_bodies.specs.declared.stream.policies.DiscardPolicy.{DiscardPolicy}
use Rattle.js_json_stream_bodies.specs.declared.stream.policies.DiscardPolicy.TheVariants as discard_policy

-- the one of a name
unfoldable pub discard_policy_named : List ℕ → Option DiscardPolicy
discard_policy_named =
    value_of (
    (codes "old", discard_policy.Old) ∷
    (codes "new", discard_policy.New) ∷
    [])

-- its name
abbrev pub discard_policy_data : Writes DiscardPolicy
discard_policy_data k discard_policy.Old = Ok (string (codes "old"))
discard_policy_data k discard_policy.New = Ok (string (codes "new"))
