-- Lists of streams, page by page.
use Rattle.std.specs.Prelude.{List, [], ◌∷◌, Result, Ok}
use Rattle.serde_json.specs.Data.{Data, no_members}
use Rattle.js_json_members.specs.declared.key.Key.TheVariants as key
use Rattle.js_json_members.specs.declared.error.ReadError.{ReadError}
use Rattle.js_json_members.specs.Member.{◌>>=◌, Reads, required, optional, natural, list_of}
use Rattle.js_json_members.specs.Rows.{Row, row, with_rows, object_of, always, or_null, text_data, natural_data}
use Rattle.js_json_stream_bodies.specs.declared.stream.page.Page.{Page}
use Rattle.js_json_stream_bodies.specs.declared.stream.page.NamesRequest.{NamesRequest}
use Rattle.js_json_stream_bodies.specs.declared.stream.page.ListRequest.{ListRequest}

-- a page of items of one kind from its members
unfoldable pub page_fields : {A : Type 0} → Reads A → Data → Result (Page A) ReadError
page_fields reads d = do
  total ← required natural key.Total d
  streams ← optional (list_of reads) key.Streams d
  Ok (record { total = total; streams = streams })

-- what asks for a page of names
abbrev pub names_request_rows : NamesRequest → List Row
names_request_rows c =
    row key.Offset (λ k. always natural_data k c.offset) ∷
    row key.Subject (λ k. or_null text_data k c.subject) ∷ []

-- the object that is written
unfoldable pub names_request_value : NamesRequest → Result Data ReadError
names_request_value c = object_of (with_rows (Ok no_members) (names_request_rows c))

-- what asks for a page of infos
abbrev pub list_request_rows : ListRequest → List Row
list_request_rows c = row key.Offset (λ k. always natural_data k c.offset) ∷ []

-- the object that is written
unfoldable pub list_request_value : ListRequest → Result Data ReadError
list_request_value c = object_of (with_rows (Ok no_members) (list_request_rows c))
