-- The one message of each write.
use Rattle.std.specs.Prelude.{ℕ, ◌≡◌, true, false, List, [], ◌∷◌, ◌++◌, codes, Option, Some, None, Result, Ok, Err, refl}
use Rattle.std.specs.Fmt.{decimal}
use Rattle.js_message.specs.PublishMessage.{outbound}
use Rattle.js_message.specs.declared.publish_message.OutboundMessage.{OutboundMessage}
use Rattle.js_store_keys.specs.declared.key_places.KeyPlaces.{KeyPlaces}
use Rattle.js_store_keys.specs.Key.{is_key}
use Rattle.js_store_keys.specs.Operation.{header}
use Rattle.js_store_keys.specs.declared.write_error.WriteError.{WriteError}
use Rattle.js_store_keys.specs.declared.write_error.WriteError.TheVariants.{InvalidKey, OutOfMemory}

-- how an error is printed
abbrev pub write_error_text : WriteError → List ℕ
write_error_text InvalidKey = codes "invalid key"
write_error_text OutOfMemory = codes "out of memory"

-- a prefix of its own for what is put, where a bucket has one
abbrev pub prefix_or : Option (List ℕ) → List ℕ → List ℕ
prefix_or None prefix = prefix
prefix_or (Some own) prefix = own

-- what the subjects begin with that values of a bucket are put to, but for the prefix of the API
abbrev pub put_prefix : KeyPlaces → List ℕ
put_prefix places = prefix_or places.put_prefix places.prefix

-- the prefix of the API and a dot stand before a subject, where there is one
abbrev pub under_api : Option (List ℕ) → List ℕ → List ℕ
under_api None subject = subject
under_api (Some api) subject = api ++ (codes "." ++ subject)

-- the subject to which a key is put
abbrev pub put_subject : KeyPlaces → List ℕ → List ℕ
put_subject places key = under_api places.api_prefix (put_prefix places ++ key)

-- a value, with no header
abbrev pub put_message : KeyPlaces → List ℕ → List ℕ → OutboundMessage
put_message places key value = outbound (put_subject places key) value None

-- a value, for a key whose last entry has this revision
abbrev pub update_message : KeyPlaces → List ℕ → List ℕ → ℕ → OutboundMessage
update_message places key value revision =
    outbound (put_subject places key) value (Some (header (codes "Nats-Expected-Last-Subject-Sequence") (decimal revision) ∷ []))

-- a deletion: no body, and its header
abbrev pub delete_message : KeyPlaces → List ℕ → OutboundMessage
delete_message places key = outbound (put_subject places key) [] (Some (header (codes "KV-Operation") (codes "DEL") ∷ []))

-- a purge: no body, its header, and the one that rolls up its subject
abbrev pub purge_message : KeyPlaces → List ℕ → OutboundMessage
purge_message places key =
    outbound (put_subject places key) [] (Some (header (codes "KV-Operation") (codes "PURGE") ∷ header (codes "Nats-Rollup") (codes "sub") ∷ []))

-- the message of a key, or the refusal of a text that is none; a key's message may want memory
abbrev pub Writes : List ℕ → OutboundMessage → Result OutboundMessage WriteError → Type 0
Writes key message (Ok written) = (is_key key ≡ true) × (written ≡ message)
Writes key message (Err InvalidKey) = is_key key ≡ false
Writes key message (Err OutOfMemory) = is_key key ≡ true

-- ---- worked writes

-- a bucket under its own name
abbrev pub config_bucket : Option (List ℕ) → Option (List ℕ) → KeyPlaces
config_bucket put_prefix api_prefix = record { bucket = codes "config"; prefix = codes "$KV.config."; put_prefix = put_prefix; api_prefix = api_prefix; history = 5 }

-- the key stands behind the prefix, or behind the one that is put to, and another API before it
own_subject : put_subject (config_bucket None None) (codes "mode") ≡ codes "$KV.config.mode"
own_subject = refl

mirror_subject : put_subject (config_bucket (Some (codes "$JS.hub.API.$KV.src.")) None) (codes "mode") ≡ codes "$JS.hub.API.$KV.src.mode"
mirror_subject = refl

domain_subject : put_subject (config_bucket None (Some (codes "$JS.leaf.API"))) (codes "mode") ≡ codes "$JS.leaf.API.$KV.config.mode"
domain_subject = refl
