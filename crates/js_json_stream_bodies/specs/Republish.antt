-- Where messages are sent on to.
use Rattle.std.specs.Prelude.{List, [], ◌∷◌, false, Result, Ok}
use Rattle.serde_json.specs.Data.{Data, no_members}
use Rattle.js_json_members.specs.declared.key.Key.TheVariants as key
use Rattle.js_json_members.specs.declared.error.ReadError.{ReadError}
use Rattle.js_json_members.specs.Member.{◌>>=◌, defaulted, text, truth, nested}
use Rattle.js_json_members.specs.Rows.{Writes, Row, row, with_rows, object_of, always, text_data, truth_data}
use Rattle.js_json_stream_bodies.specs.declared.stream.republish.Republish.{Republish}

-- from its members
unfoldable pub republish_members : Data → Result Republish ReadError
republish_members d = do
  source ← defaulted text key.Src [] d
  destination ← defaulted text key.Dest [] d
  headers_only ← defaulted truth key.HeadersOnly false d
  Ok (record { source = source; destination = destination; headers_only = headers_only })

-- the same, of an object alone: each member may be absent
unfoldable pub republish_fields : Data → Result Republish ReadError
republish_fields = nested republish_members key.Src

-- the members that are written
abbrev pub republish_rows : Republish → List Row
republish_rows c =
    row key.Src (λ k. always text_data k c.source) ∷
    row key.Dest (λ k. always text_data k c.destination) ∷
    row key.HeadersOnly (λ k. always truth_data k c.headers_only) ∷ []

-- the object that is written
unfoldable pub republish_value : Republish → Result Data ReadError
republish_value c = object_of (with_rows (Ok no_members) (republish_rows c))

-- the same, under a key
abbrev pub republish_data : Writes Republish
republish_data k c = republish_value c
