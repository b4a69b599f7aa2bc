-- What an account uses and may use of streams with one number of replicas.
use Rattle.std.specs.Prelude.{Result, Ok}
use Rattle.serde_json.specs.Data.{Data}
use Rattle.js_json_members.specs.declared.key.Key.TheVariants as key
use Rattle.js_json_members.specs.declared.error.ReadError.{ReadError}
use Rattle.js_json_members.specs.Member.{◌>>=◌, required, natural, nested}
use Rattle.js_json.specs.declared.account.Tier.{Tier}
use Rattle.js_json.specs.Limits.{limits_fields}

-- a tier from its members
unfoldable pub tier_fields : Data → Result Tier ReadError
tier_fields d = do
  memory ← required natural key.Memory d
  storage ← required natural key.Storage d
  reserved_memory ← required natural key.ReservedMemory d
  reserved_storage ← required natural key.ReservedStorage d
  streams ← required natural key.Streams d
  consumers ← required natural key.Consumers d
  limits ← required (nested limits_fields) key.Limits d
  Ok (record {
    memory = memory;
    storage = storage;
    reserved_memory = reserved_memory;
    reserved_storage = reserved_storage;
    streams = streams;
    consumers = consumers;
    limits = limits;
  })
