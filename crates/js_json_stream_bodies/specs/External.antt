-- Where a stream of another account or domain is reached.
use Rattle.std.specs.Prelude.{List, [], ◌∷◌, Result, Ok}
use Rattle.serde_json.specs.Data.{Data, no_members}
use Rattle.js_json_members.specs.declared.key.Key.TheVariants as key
use Rattle.js_json_members.specs.declared.error.ReadError.{ReadError}
use Rattle.js_json_members.specs.Member.{◌>>=◌, optional, defaulted, text, nested}
use Rattle.js_json_members.specs.Rows.{Writes, Row, row, with_rows, object_of, always, where_some, text_data}
use Rattle.js_json_stream_bodies.specs.declared.stream.source.External.{External}

-- from its members
unfoldable pub external_members : Data → Result External ReadError
external_members d = do
  api_prefix ← defaulted text key.Api [] d
  delivery_prefix ← optional text key.Deliver d
  Ok (record { api_prefix = api_prefix; delivery_prefix = delivery_prefix })

-- the same, of an object alone: each member may be absent
unfoldable pub external_fields : Data → Result External ReadError
external_fields = nested external_members key.Api

-- the members that are written
abbrev pub external_rows : External → List Row
external_rows c =
    row key.Api (λ k. always text_data k c.api_prefix) ∷
    row key.Deliver (λ k. where_some text_data k c.delivery_prefix) ∷ []

-- the object that is written
unfoldable pub external_value : External → Result Data ReadError
external_value c = object_of (with_rows (Ok no_members) (external_rows c))

-- the same, under a key
abbrev pub external_data : Writes External
external_data k c = external_value c
