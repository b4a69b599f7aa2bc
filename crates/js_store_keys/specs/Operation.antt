-- What a message does to its key.
use Rattle.std.specs.Prelude.{ℕ, ◌≡◌, ◌||◌, Bool, true, false, if◌then◌else◌, List, [], ◌∷◌, codes, Option, Some, None, refl}
use Rattle.std.specs.Str.{bytes_eq}
use Rattle.js_base.specs.Headers.{first_value}
use Rattle.js_base.specs.declared.headers.Header.{Header}
use Rattle.js_store_keys.specs.declared.operation.Operation.{Operation}
use Rattle.js_store_keys.specs.declared.operation.Operation.TheVariants.{Put, Delete, Purge}

-- the operation that the header `KV-Operation` names
abbrev pub named : List ℕ → Operation
named name = if bytes_eq name (codes "DEL") then Delete else (if bytes_eq name (codes "PURGE") then Purge else Put)

-- what a marker of the server does: where its reason is the age or a purge, nothing earlier is left
abbrev pub marked : List ℕ → Operation
marked reason = if bytes_eq reason (codes "MaxAge") || bytes_eq reason (codes "Purge") then Purge else Delete

-- a message without a marker is a put
abbrev pub marked_by : Option (List ℕ) → Operation
marked_by None = Put
marked_by (Some reason) = marked reason

-- the named operation goes before a marker
abbrev pub named_or_marked : Option (List ℕ) → Option (List ℕ) → Operation
named_or_marked (Some name) reason = named name
named_or_marked None reason = marked_by reason

-- what a message with these headers does to its key
abbrev pub operation_in : List Header → Operation
operation_in headers = named_or_marked (first_value (codes "KV-Operation") headers) (first_value (codes "Nats-Marker-Reason") headers)

-- the same where a message may have none
abbrev pub operation_by : Option (List Header) → Operation
operation_by None = Put
operation_by (Some headers) = operation_in headers

-- whether an entry gives its key a value
abbrev pub is_put : Operation → Bool
is_put Put = true
is_put Delete = false
is_put Purge = false

-- ---- worked messages

-- one header
abbrev pub header : List ℕ → List ℕ → Header
header name value = record { name = name; value = value }

-- a deletion, a purge, and a marker of the server
deletes : operation_by (Some (header (codes "KV-Operation") (codes "DEL") ∷ [])) ≡ Delete
deletes = refl

purges : operation_by (Some (header (codes "KV-Operation") (codes "PURGE") ∷ header (codes "Nats-Rollup") (codes "sub") ∷ [])) ≡ Purge
purges = refl

marks : operation_by (Some (header (codes "Nats-Marker-Reason") (codes "MaxAge") ∷ [])) ≡ Purge
marks = refl

removes : operation_by (Some (header (codes "Nats-Marker-Reason") (codes "Remove") ∷ [])) ≡ Delete
removes = refl

-- other headers, or none, are those of a put
puts : operation_by (Some (header (codes "Nats-Msg-Id") (codes "7") ∷ [])) ≡ Put
puts = refl
