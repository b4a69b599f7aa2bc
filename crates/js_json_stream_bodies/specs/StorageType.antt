-- Where messages are kept.
use Rattle.std.specs.Prelude.{ℕ, List, [], ◌∷◌, Option, Ok, codes}
use Rattle.serde_json.specs.Data.{string}
use Rattle.js_json_members.specs.Member.{value_of}
use Rattle.js_json_members.specs.Rows.{Writes}
use Rattle.js_json_stream_bodies.specs.declared.stream.policies.StorageType.{StorageType}
use Rattle.js_json_stream_bodies.specs.declared.stream.policies.StorageType.TheVariants as storage_type

-- the one of a name
unfoldable pub storage_type_named : List ℕ → Option StorageType
storage_type_named =
    value_of (
    (codes "file", storage_type.File) ∷
    (codes "memory", storage_type.Memory) ∷
    [])

-- its name
abbrev pub storage_type_data : Writes StorageType
storage_type_data k storage_type.File = Ok (string (codes "file"))
storage_type_data k storage_type.Memory = Ok (string (codes "memory"))
