-- What is kept of a stream's configuration as the server sent it.
use Rattle.std.specs.Prelude.{ℕ, List, Result, Ok, Err, if◌then◌else◌}
use Rattle.serde_json.specs.Data.{Data}
use Rattle.serde_json.specs.Written.{has_float, compact_text}
use Rattle.js_json_members.specs.Member.{◌>>=◌, Reads, required}
use Rattle.js_json_members.specs.declared.error.ReadError.{ReadError}
use Rattle.js_json_members.specs.declared.error.ReadError.TheVariants.{Float}
use Rattle.js_json_members.specs.declared.key.Key.TheVariants as key
use Rattle.js_json_stream_bodies.specs.StreamInfo.{info_fields}
use Rattle.js_call_streams.specs.declared.received_config.ReceivedInfo.{ReceivedInfo}

-- a whole value, in which no float may stand, as its compact text
abbrev pub whole : Reads (List ℕ)
whole key d = if has_float d then Err Float else Ok (compact_text d)

-- the configuration as it was sent, beside what was read before it
abbrev pub with_config : {I : Type 0} → I → Data → Result (I × List ℕ) ReadError
with_config info d = do
  config ← required whole key.Config d
  Ok (info, config)

-- an info from its members, and the configuration as it was sent
unfoldable pub kept_info_fields : Data → Result ReceivedInfo ReadError
kept_info_fields d = do
  info ← info_fields d
  config ← required whole key.Config d
  Ok (record { info = info; config = config })
