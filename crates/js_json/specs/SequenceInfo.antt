-- How far a consumer is.
use Rattle.std.specs.Prelude.{Result, Ok}
use Rattle.serde_json.specs.Data.{Data}
use Rattle.js_json_members.specs.declared.key.Key.TheVariants as key
use Rattle.js_json_members.specs.declared.error.ReadError.{ReadError}
use Rattle.js_json_members.specs.Member.{◌>>=◌, required, optional, natural}
use Rattle.js_json_members.specs.Instant.{instant}
use Rattle.js_json.specs.declared.consumer.info.SequenceInfo.{SequenceInfo}

-- the numbers from their members
unfoldable pub sequence_info_fields : Data → Result SequenceInfo ReadError
sequence_info_fields d = do
  consumer_sequence ← required natural key.ConsumerSeq d
  stream_sequence ← required natural key.StreamSeq d
  last_active ← optional instant key.LastActive d
  Ok (record { consumer_sequence = consumer_sequence; stream_sequence = stream_sequence; last_active = last_active })
