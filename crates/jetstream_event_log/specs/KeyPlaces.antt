-- Where the keys of a bucket are.
use Rattle.std.specs.Prelude.{ℕ, ℤ, pos, negsuc, Bool, true, false, Option, Some, None, List}
use Rattle.js_store.specs.declared.store.Store.{Store}
use Rattle.js_store_keys.specs.declared.get_request.KeyReads.{KeyReads}
use Rattle.js_store_keys.specs.declared.key_places.KeyPlaces.{KeyPlaces}

-- how many entries of a key a bucket keeps, by its stream's limit for each subject; 0 stands for 1
abbrev pub history_in : ℤ → ℕ
history_in (pos n) = n
history_in (negsuc n) = 0

-- the prefix that stands before subjects that are put to, if it does
abbrev pub api_prefix_in : Bool → List ℕ → Option (List ℕ)
api_prefix_in true prefix = Some prefix
api_prefix_in false prefix = None

-- where the keys of this bucket are. For example: a bucket "cfg" with the prefix "$KV.cfg." and a history of 5 has its key "a" at "$KV.cfg.a", and keeps 5 entries of it
abbrev pub places_in : Store → KeyPlaces
places_in store = record {
  bucket = store.name;
  prefix = store.prefix;
  put_prefix = store.put_prefix;
  api_prefix = api_prefix_in store.use_jetstream_prefix store.stream.scope.prefix;
  history = history_in store.stream.info.config.max_messages_per_subject;
}

-- where the server reads the keys of this bucket. For example: under "$JS.API", the stream "KV_cfg", by direct gets if the stream allows them
abbrev pub reads_in : Store → KeyReads
reads_in store = record { api_prefix = store.stream.scope.prefix; stream_name = store.stream_name; allow_direct = store.stream.info.config.allow_direct }
