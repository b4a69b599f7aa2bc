-- What is known of a bucket of keys.
use Rattle.std.specs.Prelude.{ℕ, List}
use Rattle.js_json_stream_bodies.specs.declared.stream.config.Config.{Config}
use Rattle.js_json_stream_bodies.specs.declared.stream.info.Info.{Info}
use Rattle.js_call_streams.specs.declared.handle.StreamHandle.{StreamHandle}
use Rattle.js_store.specs.declared.store.Store.{Store}
use Rattle.js_store.specs.declared.store.StoreNames.{StoreNames}
use Rattle.js_store.specs.Places.{places_of}

-- the name of a bucket's stream, and where its values are, by the stream's configuration that was answered
abbrev pub answered_names : List ℕ → List ℕ → Config → StoreNames
answered_names api bucket config = record { stream_name = config.name; places = places_of api bucket config.mirror }

-- a bucket of a name
abbrev pub store_of : List ℕ → StoreNames → StreamHandle Info → Store
store_of name names stream = record {
  name = name;
  stream_name = names.stream_name;
  prefix = names.places.prefix;
  put_prefix = names.places.put_prefix;
  use_jetstream_prefix = names.places.use_jetstream_prefix;
  stream = stream;
}
