-- An account.
use Rattle.std.specs.Prelude.{[], pos, None, false, Result, Ok}
use Rattle.serde_json.specs.Data.{Data}
use Rattle.js_json_members.specs.declared.key.Key.TheVariants as key
use Rattle.js_json_members.specs.declared.error.ReadError.{ReadError}
use Rattle.js_json_members.specs.Member.{◌>>=◌, required, optional, defaulted, text, natural, by_name, nested}
use Rattle.js_json.specs.declared.account.Account.{Account}
use Rattle.js_json.specs.declared.account.Used.{Used}
use Rattle.js_json.specs.Limits.{limits_fields}
use Rattle.js_json.specs.Requests.{requests_fields}
use Rattle.js_json.specs.Tier.{tier_fields}

-- every field is 0, false, empty or none
abbrev pub new_account : Account
new_account = record {
  memory = 0;
  storage = 0;
  reserved_memory = 0;
  reserved_storage = 0;
  streams = 0;
  consumers = 0;
  domain = None;
  limits = record {
    max_memory = None;
    max_storage = None;
    max_streams = None;
    max_consumers = None;
    max_ack_pending = pos 0;
    memory_max_stream_bytes = None;
    storage_max_stream_bytes = None;
    max_bytes_required = false;
  };
  requests = record { total = 0; errors = 0; level = 0; inflight = 0 };
  tiers = [];
}

-- what it uses
unfoldable pub used : Data → Result Used ReadError
used d = do
  memory ← required natural key.Memory d
  storage ← required natural key.Storage d
  reserved_memory ← required natural key.ReservedMemory d
  reserved_storage ← required natural key.ReservedStorage d
  streams ← required natural key.Streams d
  consumers ← required natural key.Consumers d
  Ok (record {
    memory = memory;
    storage = storage;
    reserved_memory = reserved_memory;
    reserved_storage = reserved_storage;
    streams = streams;
    consumers = consumers;
  })

-- an account from its members
unfoldable pub account_fields : Data → Result Account ReadError
account_fields d = do
  used ← used d
  domain ← optional text key.Domain d
  limits ← required (nested limits_fields) key.Limits d
  requests ← required (nested requests_fields) key.Api d
  tiers ← defaulted (by_name (nested tier_fields)) key.Tiers [] d
  Ok (record {
    memory = used.memory;
    storage = used.storage;
    reserved_memory = used.reserved_memory;
    reserved_storage = used.reserved_storage;
    streams = used.streams;
    consumers = used.consumers;
    domain = domain;
    limits = limits;
    requests = requests;
    tiers = tiers;
  })
