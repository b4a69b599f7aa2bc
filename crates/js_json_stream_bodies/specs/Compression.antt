-- How stored messages are compressed.
use Rattle.std.specs.Prelude.{ℕ, List, [], ◌∷◌, Option, Ok, codes}
use Rattle.serde_json.specs.Data.{string}
use Rattle.js_json_members.specs.Member.{value_of}
use Rattle.js_json_members.specs.Rows.{Writes}
use Rattle.js_json_stream_bodies.specs.declared.stream.policies.Compression.{Compression}
use Rattle.js_json_stream_bodies.specs.declared.stream.policies.Compression.TheVariants as compression

-- the one of a name
unfoldable pub compression_named : List ℕ → Option Compression
compression_named =
    value_of (
    (codes "s2", compression.S2) ∷
    (codes "none", compression.None) ∷
    [])

-- its name
abbrev pub compression_data : Writes Compression
compression_data k compression.S2 = Ok (string (codes "s2"))
compression_data k compression.None = Ok (string (codes "none"))
