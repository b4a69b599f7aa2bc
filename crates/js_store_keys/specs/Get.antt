-- The request for the last message of a key.
use Rattle.std.specs.Prelude.{ℕ, ◌≡◌, true, false, Bool, if◌then◌else◌, List, [], ◌++◌, codes, None, Result, Ok, Err, refl}
use Rattle.json.specs.Print.{escape_byte}
use Rattle.serde_json.specs.Data.{object, string, member, no_members}
use Rattle.serde_json.specs.Written.{compact_text}
use Rattle.js_store_keys.specs.declared.get_request.GetRequest.{GetRequest}
use Rattle.js_store_keys.specs.declared.get_request.KeyReads.{KeyReads}
use Rattle.js_store_keys.specs.declared.key_places.KeyPlaces.{KeyPlaces}
use Rattle.js_store_keys.specs.declared.write_error.WriteError.{WriteError}
use Rattle.js_store_keys.specs.declared.write_error.WriteError.TheVariants.{InvalidKey, OutOfMemory}
use Rattle.js_store_keys.specs.Key.{is_key}
use Rattle.js_store_keys.specs.Writes.{config_bucket}

-- the subject of a key's messages
abbrev pub value_subject : KeyPlaces → List ℕ → List ℕ
value_subject places key = places.prefix ++ key

-- a direct get names the stream and the subject; else the stream alone is named
abbrev pub get_subject : KeyReads → List ℕ → List ℕ
get_subject reads subject =
    if reads.allow_direct then reads.api_prefix ++ (codes ".DIRECT.GET." ++ (reads.stream_name ++ (codes "." ++ subject)))
    else reads.api_prefix ++ (codes ".STREAM.MSG.GET." ++ reads.stream_name)

-- the body that asks for the last message of a subject
abbrev pub last_by_subject : List ℕ → List ℕ
last_by_subject subject = compact_text (object (member (codes "last_by_subj") (string subject) no_members))

-- a direct get has an empty body
abbrev pub get_body : KeyReads → List ℕ → List ℕ
get_body reads subject = if reads.allow_direct then [] else last_by_subject subject

-- the request for a key
abbrev pub get_request : KeyPlaces → KeyReads → List ℕ → GetRequest
get_request places reads key = record { subject = get_subject reads (value_subject places key); payload = get_body reads (value_subject places key) }

-- the request for a key, or the refusal of a text that is none; a key's request may want memory
abbrev pub Gets : KeyPlaces → KeyReads → List ℕ → Result GetRequest WriteError → Type 0
Gets places reads key (Ok request) = (is_key key ≡ true) × (request ≡ get_request places reads key)
Gets places reads key (Err InvalidKey) = is_key key ≡ false
Gets places reads key (Err OutOfMemory) = is_key key ≡ true

-- ---- worked requests

-- the stream of the bucket `config`, which allows direct gets or not
abbrev pub config_reads : Bool → KeyReads
config_reads allow_direct = record { api_prefix = codes "$JS.API"; stream_name = codes "KV_config"; allow_direct = allow_direct }

direct_get : get_request (config_bucket None None) (config_reads true) (codes "mode")
    ≡ record { subject = codes "$JS.API.DIRECT.GET.KV_config.$KV.config.mode"; payload = [] }
direct_get = refl

message_get : get_request (config_bucket None None) (config_reads false) (codes "mode")
    ≡ record { subject = codes "$JS.API.STREAM.MSG.GET.KV_config"; payload = codes "{\"last_by_subj\":\"$KV.config.mode\"}" }
unfolding escape_byte
message_get = refl
