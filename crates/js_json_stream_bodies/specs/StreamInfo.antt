-- What the server knows of a stream.
use Rattle.std.specs.Prelude.{Result, Ok}
use Rattle.serde_json.specs.Data.{Data}
use Rattle.js_json_members.specs.declared.key.Key.TheVariants as key
use Rattle.js_json_members.specs.declared.error.ReadError.{ReadError}
use Rattle.js_json_members.specs.Member.{◌>>=◌, required, nested}
use Rattle.js_json_members.specs.Instant.{instant}
use Rattle.js_json_stream_bodies.specs.declared.stream.info.Info.{Info}
use Rattle.js_json_stream_bodies.specs.State.{state_fields}
use Rattle.js_json_stream_bodies.specs.StreamConfig.{config_fields}

-- an info from its members
unfoldable pub info_fields : Data → Result Info ReadError
info_fields d = do
  config ← required (nested config_fields) key.Config d
  created ← required instant key.Created d
  state ← required (nested state_fields) key.State d
  Ok (record { config = config; created = created; state = state })
