-- The stream that a bucket of keys is.
use Rattle.std.specs.Prelude.{ℕ, ℤ, ◌≡◌, ◌==◌, pos, int_lt, Bool, true, false, if◌then◌else◌, List, [], ◌∷◌, ◌++◌, codes, Option, Some, None, refl}
use Rattle.std.specs.Option.{is_some}
use Rattle.js_json_stream_bodies.specs.StreamConfig.{new_config as new_stream}
use Rattle.js_json_stream_bodies.specs.declared.stream.config.Config.{Config as StreamConfig}
use Rattle.js_json_stream_bodies.specs.declared.stream.policies.Compression.{Compression}
use Rattle.js_json_stream_bodies.specs.declared.stream.policies.Compression.TheVariants.{S2}
use Rattle.js_json_stream_bodies.specs.declared.stream.policies.DiscardPolicy.TheVariants.{New}
use Rattle.js_json_stream_bodies.specs.declared.stream.policies.StorageType.TheVariants.{File}
use Rattle.js_json_stream_bodies.specs.declared.stream.source.Source.{Source}
use Rattle.js_store.specs.declared.kv.Config.{Config}
use Rattle.js_store.specs.declared.kv.Origins.{Origins}
use Rattle.js_store.specs.SourceBuckets.{stream_name, mirrored, gathered}

-- every field is 0, false, empty, none or its enum's default
abbrev pub new_config : Config
new_config = record {
  bucket = [];
  description = [];
  max_value_size = pos 0;
  history = pos 0;
  max_age = 0;
  max_bytes = pos 0;
  storage = File;
  num_replicas = 0;
  republish = None;
  mirror = None;
  sources = None;
  mirror_direct = false;
  compression = false;
  placement = None;
  limit_markers = None;
}

-- the subject of all keys
abbrev pub all_keys : List ℕ → List ℕ
all_keys bucket = codes "$KV." ++ (bucket ++ codes ".>")

-- a bucket that copies none takes in all keys
abbrev pub subjects_of : List ℕ → List (List ℕ)
subjects_of bucket = all_keys bucket ∷ []

-- how many values of a key are kept: one at least
abbrev pub history_of : ℤ → ℤ
history_of history = if int_lt (pos 0) history then history else pos 1

-- how many servers keep it: one at least
abbrev pub replicas_of : ℕ → ℕ
replicas_of replicas = if replicas == 0 then 1 else replicas

-- how its messages are compressed, if they are
abbrev pub compression_of : Bool → Option Compression
compression_of is_compressed = if is_compressed then Some S2 else None

-- What it copies. One with a mirror copies that alone as a bucket, and answers gets for it; without one the sources are buckets; and with
-- neither it takes in its own keys.
abbrev pub origins_of : List ℕ → Option Source → Option (List Source) → Bool → Origins
origins_of bucket (Some mirror) sources direct = record { subjects = []; mirror = mirrored (Some mirror); sources = sources; mirror_direct = true }
origins_of bucket None (Some sources) direct = record { subjects = []; mirror = None; sources = gathered (Some sources); mirror_direct = direct }
origins_of bucket None None direct = record { subjects = subjects_of bucket; mirror = None; sources = None; mirror_direct = direct }

-- what a configuration says that it copies
abbrev pub copied : Config → Origins
copied c = origins_of c.bucket c.mirror c.sources c.mirror_direct

-- the stream: what is not named here is a stream's default
abbrev pub stream_config : Config → StreamConfig
stream_config c = record new_stream {
  name = stream_name c.bucket;
  storage = c.storage;
  discard = New;
  description = Some c.description;
  subjects = (copied c).subjects;
  max_messages_per_subject = history_of c.history;
  max_bytes = c.max_bytes;
  max_message_size = c.max_value_size;
  max_age = c.max_age;
  num_replicas = replicas_of c.num_replicas;
  republish = c.republish;
  allow_rollup = true;
  deny_delete = true;
  allow_direct = true;
  mirror_direct = (copied c).mirror_direct;
  mirror = (copied c).mirror;
  sources = (copied c).sources;
  compression = compression_of c.compression;
  placement = c.placement;
  allow_message_ttl = is_some c.limit_markers;
  subject_delete_marker_ttl = c.limit_markers;
}

-- ---- worked buckets

-- a bucket of a name, all else by default
abbrev pub named : List ℕ → Config
named bucket = record new_config { bucket = bucket }

-- the stream of `cfg`: a stream without the prefix of its name, or one that keeps no value of a key, is another
cfg_is_a_stream : stream_config (named (codes "cfg")) ≡ record new_stream {
  name = codes "KV_cfg";
  discard = New;
  description = Some [];
  subjects = codes "$KV.cfg.>" ∷ [];
  max_messages_per_subject = pos 1;
  num_replicas = 1;
  allow_rollup = true;
  deny_delete = true;
  allow_direct = true;
}
cfg_is_a_stream = refl

-- a marker of a second is asked for in nanoseconds, and lets messages say how long they are kept
abbrev pub marked : StreamConfig
marked = stream_config (record (named (codes "cfg")) { limit_markers = Some 1_000_000_000 })

marks_for_a_second : (marked.allow_message_ttl ≡ true) × (marked.subject_delete_marker_ttl ≡ Some 1_000_000_000)
marks_for_a_second = (refl, refl)

-- a bucket elsewhere
abbrev pub elsewhere : List ℕ → Source
elsewhere name = record {
  name = name;
  start_sequence = None;
  filter_subject = None;
  external = Some (record { api_prefix = codes "$JS.hub.API"; delivery_prefix = None });
  domain = None;
}

-- a mirror takes in no keys of its own, and its external stays
abbrev pub mirror_of_src : StreamConfig
mirror_of_src = stream_config (record (named (codes "cfg")) { mirror = Some (elsewhere (codes "src")) })

mirror_copies_src : (mirror_of_src.mirror ≡ Some (elsewhere (codes "KV_src"))) × (mirror_of_src.subjects ≡ []) × (mirror_of_src.mirror_direct ≡ true)
mirror_copies_src = (refl, refl, refl)

-- of two sources each is a bucket's stream, and beside a mirror they stay as they are
abbrev pub gathering : Option Source → StreamConfig
gathering mirror = stream_config (record (named (codes "cfg")) { mirror = mirror; sources = Some (elsewhere (codes "a") ∷ elsewhere (codes "KV_b") ∷ []) })

gathers_buckets : ((gathering None).sources ≡ Some (elsewhere (codes "KV_a") ∷ elsewhere (codes "KV_b") ∷ [])) × ((gathering None).subjects ≡ [])
gathers_buckets = (refl, refl)

keeps_sources_beside_a_mirror : (gathering (Some (elsewhere (codes "src")))).sources ≡ Some (elsewhere (codes "a") ∷ elsewhere (codes "KV_b") ∷ [])
keeps_sources_beside_a_mirror = refl
