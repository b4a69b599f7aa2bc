-- What an account may use.
use Rattle.std.specs.Prelude.{ℤ, pos, int_lt, Option, Some, None, Result, Ok, if◌then◌else◌}
use Rattle.serde_json.specs.Data.{Data}
use Rattle.js_json_members.specs.declared.key.Key.TheVariants as key
use Rattle.js_json_members.specs.declared.error.ReadError.{ReadError}
use Rattle.js_json_members.specs.Member.{◌>>=◌, Reads, required, optional, truth, integer}
use Rattle.js_json.specs.declared.account.Limits.{Limits}

-- a limit, of which a negative number says that there is none
unfoldable pub limit_at : Reads (Option ℤ)
limit_at key d = required integer key d >>= λ z. Ok (if int_lt z (pos 0) then None else Some z)

-- the limits from their members
unfoldable pub limits_fields : Data → Result Limits ReadError
limits_fields d = do
  max_memory ← limit_at key.MaxMemory d
  max_storage ← limit_at key.MaxStorage d
  max_streams ← limit_at key.MaxStreams d
  max_consumers ← limit_at key.MaxConsumers d
  memory_max_stream_bytes ← limit_at key.MemoryMaxStreamBytes d
  max_bytes_required ← required truth key.MaxBytesRequired d
  max_ack_pending ← required integer key.MaxAckPending d
  storage_max_stream_bytes ← optional integer key.StorageMaxStreamBytes d
  Ok (record {
    max_memory = max_memory;
    max_storage = max_storage;
    max_streams = max_streams;
    max_consumers = max_consumers;
    memory_max_stream_bytes = memory_max_stream_bytes;
    max_bytes_required = max_bytes_required;
    max_ack_pending = max_ack_pending;
    storage_max_stream_bytes = storage_max_stream_bytes;
  })
