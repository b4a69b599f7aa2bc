-- The stream that a bucket of objects is.
use Rattle.std.specs.Prelude.{ℕ, ◌≡◌, pos, true, false, List, [], ◌∷◌, ◌++◌, codes, None, refl}
use Rattle.js_json_stream_bodies.specs.StreamConfig.{new_config as new_stream}
use Rattle.js_json_stream_bodies.specs.declared.stream.config.Config.{Config as StreamConfig}
use Rattle.js_json_stream_bodies.specs.declared.stream.policies.DiscardPolicy.TheVariants.{New}
use Rattle.js_json_stream_bodies.specs.declared.stream.policies.StorageType.TheVariants.{File}
use Rattle.js_store.specs.declared.object_store.Config.{Config}
use Rattle.js_store.specs.Kv.{compression_of}

-- every field is 0, false, empty, none or its enum's default
abbrev pub new_config : Config
new_config = record {
  bucket = [];
  description = None;
  max_age = 0;
  max_bytes = pos 0;
  storage = File;
  num_replicas = 0;
  compression = false;
  placement = None;
}

-- the name of the stream that a bucket is
abbrev pub stream_name : List ℕ → List ℕ
stream_name bucket = codes "OBJ_" ++ bucket

-- the subject of all chunks of objects
abbrev pub chunks : List ℕ → List ℕ
chunks bucket = codes "$O." ++ (bucket ++ codes ".C.>")

-- the subject of what is known of objects
abbrev pub metadata : List ℕ → List ℕ
metadata bucket = codes "$O." ++ (bucket ++ codes ".M.>")

-- what the bucket takes in
abbrev pub subjects_of : List ℕ → List (List ℕ)
subjects_of bucket = chunks bucket ∷ metadata bucket ∷ []

-- the stream: what is not named here is a stream's default
abbrev pub stream_config : Config → StreamConfig
stream_config c = record new_stream {
  name = stream_name c.bucket;
  storage = c.storage;
  discard = New;
  description = c.description;
  subjects = subjects_of c.bucket;
  max_bytes = c.max_bytes;
  max_age = c.max_age;
  num_replicas = c.num_replicas;
  allow_rollup = true;
  allow_direct = true;
  compression = compression_of c.compression;
  placement = c.placement;
}

-- the stream of `files`: with a prefix of its own, and with both subjects
files_is_a_stream : stream_config (record new_config { bucket = codes "files" }) ≡ record new_stream {
  name = codes "OBJ_files";
  discard = New;
  subjects = codes "$O.files.C.>" ∷ codes "$O.files.M.>" ∷ [];
  allow_rollup = true;
  allow_direct = true;
}
files_is_a_stream = refl
