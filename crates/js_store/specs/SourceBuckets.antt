-- The streams of other buckets that a bucket of keys copies.
use Rattle.std.specs.Prelude.{ℕ, ◌≡◌, Bool, nat_eq, if◌then◌else◌, List, ◌++◌, map, codes, Option, option_map, refl}
use Rattle.std.specs.List.{starts_with}
use Rattle.js_json_stream_bodies.specs.declared.stream.source.Source.{Source}

-- the name of the stream that a bucket is
abbrev pub stream_name : List ℕ → List ℕ
stream_name bucket = codes "KV_" ++ bucket

-- whether a name is given as that of a bucket's stream
abbrev pub begins_as_stream : List ℕ → Bool
begins_as_stream name = starts_with nat_eq name (codes "KV_")

-- a name that may be given as that of a bucket or of its stream, as the stream's
abbrev pub as_stream_name : List ℕ → List ℕ
as_stream_name name = if begins_as_stream name then name else stream_name name

-- a stream that is copied, as that of a bucket
abbrev pub of_bucket : Source → Source
of_bucket source = record source { name = as_stream_name source.name }

-- the stream that is copied whole, if there is one
abbrev pub mirrored : Option Source → Option Source
mirrored mirror = option_map of_bucket mirror

-- the streams that are gathered
abbrev pub gathered : Option (List Source) → Option (List Source)
gathered sources = option_map (map of_bucket) sources

-- both spellings name one stream, and a name that only begins alike is a bucket's
bucket_is_named : as_stream_name (codes "src") ≡ codes "KV_src"
bucket_is_named = refl

stream_is_named : as_stream_name (codes "KV_src") ≡ codes "KV_src"
stream_is_named = refl

other_is_named : as_stream_name (codes "KVsrc") ≡ codes "KV_KVsrc"
other_is_named = refl
