-- Where the values of a bucket are.
use Rattle.std.specs.Prelude.{ℕ, ◌≡◌, Bool, true, false, not, if◌then◌else◌, List, [], ◌∷◌, ◌++◌, codes, Option, Some, None, refl}
use Rattle.std.specs.Str.{bytes_eq}
use Rattle.js_store.specs.SourceBuckets.{begins_as_stream}
use Rattle.js_json_stream_bodies.specs.declared.stream.source.External.{External}
use Rattle.js_json_stream_bodies.specs.declared.stream.source.Source.{Source}
use Rattle.js_store.specs.declared.places.Places.{Places}

-- what the subjects of a bucket's values begin with
abbrev pub key_prefix : List ℕ → List ℕ
key_prefix bucket = codes "$KV." ++ (bucket ++ codes ".")

-- the same of a bucket that is reached by another API
abbrev pub put_elsewhere : List ℕ → List ℕ → List ℕ
put_elsewhere api bucket = api ++ (codes ".$KV." ++ (bucket ++ codes "."))

-- the name of a stream without any `KV_` that it begins with
unfoldable pub without_prefix : List ℕ → List ℕ
without_prefix (a ∷ b ∷ c ∷ rest) = if begins_as_stream (a ∷ b ∷ c ∷ rest) then without_prefix rest else a ∷ b ∷ c ∷ rest
without_prefix short = short

-- whether the API is the one that a connection's own server has
abbrev pub is_own_api : List ℕ → Bool
is_own_api api = bytes_eq api (codes "$JS.API")

-- a bucket that is a mirror of none elsewhere: its values are read and put under its own name
abbrev pub own : List ℕ → List ℕ → Places
own api bucket = record { prefix = key_prefix bucket; put_prefix = None; use_jetstream_prefix = not (is_own_api api) }

-- a mirror of a bucket elsewhere: where an API is named, values are read as that bucket's, and put by that API
abbrev pub moved : List ℕ → List ℕ → List ℕ → List ℕ → Places
moved api bucket copied [] = record (own api bucket) { put_prefix = Some (key_prefix copied) }
moved api bucket copied (e ∷ es) = record { prefix = key_prefix copied; put_prefix = Some (put_elsewhere (e ∷ es) copied); use_jetstream_prefix = false }

-- a mirror
abbrev pub mirrored : List ℕ → List ℕ → List ℕ → Option External → Places
mirrored api bucket name None = own api bucket
mirrored api bucket name (Some external) = moved api bucket (without_prefix name) external.api_prefix

-- where they are, by the prefix of the API and the mirror that the stream is
abbrev pub places_of : List ℕ → List ℕ → Option Source → Places
places_of api bucket None = own api bucket
places_of api bucket (Some mirror) = mirrored api bucket mirror.name mirror.external

-- ---- worked places

-- a mirror of the bucket `src` that another API reaches, or none that is named
abbrev pub mirror_by : List ℕ → Option Source
mirror_by api = Some (record {
  name = codes "KV_src";
  start_sequence = None;
  filter_subject = None;
  external = Some (record { api_prefix = api; delivery_prefix = None });
  domain = None;
})

-- a bucket of its own, by the API of its connection's server and by that of a domain
own_is_read : places_of (codes "$JS.API") (codes "cfg") None ≡ record { prefix = codes "$KV.cfg."; put_prefix = None; use_jetstream_prefix = false }
own_is_read = refl

domain_is_put_to : places_of (codes "$JS.hub.API") (codes "cfg") None ≡ record { prefix = codes "$KV.cfg."; put_prefix = None; use_jetstream_prefix = true }
domain_is_put_to = refl

-- a mirror of one elsewhere is read as that one, and put to by its API: a body that forgets either is refused
mirror_is_put_elsewhere : places_of (codes "$JS.leaf.API") (codes "cfg") (mirror_by (codes "$JS.hub.API")) ≡ record {
  prefix = codes "$KV.src.";
  put_prefix = Some (codes "$JS.hub.API.$KV.src.");
  use_jetstream_prefix = false;
}
unfolding without_prefix
mirror_is_put_elsewhere = refl

-- an external that names no API changes what is put to alone
mirror_is_put_here : places_of (codes "$JS.API") (codes "cfg") (mirror_by []) ≡ record {
  prefix = codes "$KV.cfg.";
  put_prefix = Some (codes "$KV.src.");
  use_jetstream_prefix = false;
}
unfolding without_prefix
mirror_is_put_here = refl

-- all leading `KV_` go
all_marks_go : without_prefix (codes "KV_KV_KVsrc") ≡ codes "KVsrc"
unfolding without_prefix
all_marks_go = refl
