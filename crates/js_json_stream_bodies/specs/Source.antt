-- A stream that is copied.
use Rattle.std.specs.Prelude.{List, [], ◌∷◌, None, Result, Ok}
use Rattle.serde_json.specs.Data.{Data, no_members}
use Rattle.js_json_members.specs.declared.key.Key.TheVariants as key
use Rattle.js_json_members.specs.declared.error.ReadError.{ReadError}
use Rattle.js_json_members.specs.Member.{◌>>=◌, required, optional, text, natural, nested}
use Rattle.js_json_members.specs.Rows.{Writes, Row, row, with_rows, object_of, always, where_some, text_data, natural_data}
use Rattle.js_json_stream_bodies.specs.declared.stream.source.Source.{Source}
use Rattle.js_json_stream_bodies.specs.External.{external_fields, external_data}

-- from its members, which say nothing of a domain
unfoldable pub source_fields : Data → Result Source ReadError
source_fields d = do
  name ← required text key.Name d
  start_sequence ← optional natural key.OptStartSeq d
  filter_subject ← optional text key.FilterSubject d
  external ← optional (nested external_fields) key.External d
  Ok (record {
    name = name;
    start_sequence = start_sequence;
    filter_subject = filter_subject;
    external = external;
    domain = None;
  })

-- the members that are written, of which none is the domain
abbrev pub source_rows : Source → List Row
source_rows c =
    row key.Name (λ k. always text_data k c.name) ∷
    row key.OptStartSeq (λ k. where_some natural_data k c.start_sequence) ∷
    row key.FilterSubject (λ k. where_some text_data k c.filter_subject) ∷
    row key.External (λ k. where_some external_data k c.external) ∷ []

-- the object that is written
unfoldable pub source_value : Source → Result Data ReadError
source_value c = object_of (with_rows (Ok no_members) (source_rows c))

-- the same, under a key
abbrev pub source_data : Writes Source
source_data k c = source_value c
