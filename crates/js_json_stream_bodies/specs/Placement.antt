-- Which servers keep a stream.
use Rattle.std.specs.Prelude.{List, [], ◌∷◌, Result, Ok}
use Rattle.serde_json.specs.Data.{Data, no_members}
use Rattle.js_json_members.specs.declared.key.Key.TheVariants as key
use Rattle.js_json_members.specs.declared.error.ReadError.{ReadError}
use Rattle.js_json_members.specs.Member.{◌>>=◌, optional, defaulted, text, list_of, nested}
use Rattle.js_json_members.specs.Rows.{Writes, Row, row, with_rows, object_of, unless, where_some, text_data, list_data}
use Rattle.js_json_members.specs.Rows.{is_empty}
use Rattle.js_json_stream_bodies.specs.declared.stream.placement.Placement.{Placement}

-- from its members
unfoldable pub placement_members : Data → Result Placement ReadError
placement_members d = do
  cluster ← optional text key.Cluster d
  tags ← defaulted (list_of text) key.Tags [] d
  Ok (record { cluster = cluster; tags = tags })

-- the same, of an object alone: each member may be absent
unfoldable pub placement_fields : Data → Result Placement ReadError
placement_fields = nested placement_members key.Cluster

-- the members that are written
abbrev pub placement_rows : Placement → List Row
placement_rows c =
    row key.Cluster (λ k. where_some text_data k c.cluster) ∷
    row key.Tags (λ k. unless is_empty (list_data text_data) k c.tags) ∷ []

-- the object that is written
unfoldable pub placement_value : Placement → Result Data ReadError
placement_value c = object_of (with_rows (Ok no_members) (placement_rows c))

-- the same, under a key
abbrev pub placement_data : Writes Placement
placement_data k c = placement_value c
