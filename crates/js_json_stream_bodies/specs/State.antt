-- What is stored in a stream.
use Rattle.std.specs.Prelude.{Result, Ok}
use Rattle.serde_json.specs.Data.{Data}
use Rattle.js_json_members.specs.declared.key.Key.TheVariants as key
use Rattle.js_json_members.specs.declared.error.ReadError.{ReadError}
use Rattle.js_json_members.specs.Member.{◌>>=◌, required, natural}
use Rattle.js_json_stream_bodies.specs.declared.stream.info.State.{State}

-- the counts from their members
unfoldable pub state_fields : Data → Result State ReadError
state_fields d = do
  messages ← required natural key.Messages d
  bytes ← required natural key.Bytes d
  first_sequence ← required natural key.FirstSeq d
  last_sequence ← required natural key.LastSeq d
  Ok (record {
    messages = messages;
    bytes = bytes;
    first_sequence = first_sequence;
    last_sequence = last_sequence;
  })
