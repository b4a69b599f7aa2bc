-- The entry that a message of a bucket's stream tells.
use Rattle.std.specs.Prelude.{ℕ, ◌≡◌, if◌then◌else◌, List, length, drop, nat_eq, Option, Some, None, option_map, Result, Ok, Err, IsSome}
use Rattle.std.specs.List.{starts_with}
use Rattle.std.specs.Result.{result_ok}
use Rattle.js_base.specs.declared.message.Message.{Message}
use Rattle.js_message.specs.AckSubject.{Info, ack}
use Rattle.js_store_keys.specs.Operation.{operation_by}
use Rattle.js_store_keys.specs.declared.entry.Entry.{Entry}
use Rattle.js_store_table.specs.declared.message_entry.Untold.{Untold}
use Rattle.js_store_table.specs.declared.message_entry.Untold.TheVariants.{NoEntry, OutOfMemory}

-- where a message with this reply subject stands, if that is readable
abbrev pub info_in : Option (List ℕ) → Option Info
info_in None = None
info_in (Some reply) = result_ok (ack reply)

-- the key of a subject: what follows the prefix of the bucket's keys
abbrev pub key_in : List ℕ → List ℕ → Option (List ℕ)
key_in prefix subject = if starts_with nat_eq subject prefix then Some (drop (length prefix) subject) else None

-- the entry of a key: its revision is the sequence in the stream, and its operation what the headers say
abbrev pub entry_with : List ℕ → List ℕ → Message → Info → Entry
entry_with bucket key message info = record {
  bucket = bucket;
  key = key;
  value = message.payload;
  revision = info.stream_sequence;
  operation = operation_by message.headers;
  created = info.published;
  delta = info.pending;
}

-- there is none without a place in the stream, or without a key
abbrev pub entry_at : List ℕ → Option (List ℕ) → Message → Option Info → Option Entry
entry_at bucket key message None = None
entry_at bucket key message (Some info) = option_map (λ key. entry_with bucket key message info) key

-- the entry that a message tells
abbrev pub told_by : List ℕ → List ℕ → Message → Option Entry
told_by bucket prefix message = entry_at bucket (key_in prefix message.subject) message (info_in message.reply)

-- it is told, or there is none, or no memory for it
abbrev pub Tells : Option Entry → Result Entry Untold → Type 0
Tells told (Ok entry) = told ≡ Some entry
Tells told (Err NoEntry) = told ≡ None
Tells told (Err OutOfMemory) = IsSome told
