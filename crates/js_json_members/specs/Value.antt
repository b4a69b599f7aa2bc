-- From bytes to a value, and the keys of an object.
use Rattle.std.specs.Prelude.{ℕ, List, ◌&&◌, Bool, true, false, Option, Some, None, Result, Ok, Err}
use Rattle.std.specs.Prelude.{if◌then◌else◌}
use Rattle.std.specs.List.{list_any}
use Rattle.std.specs.Str.{is_utf8, bytes_eq}
use Rattle.serde_json.specs.Data.{Data, null, boolean, number, string, array, object, Members, no_members, member}
use Rattle.serde_json.specs.Read.{read}
use Rattle.js_json_members.specs.declared.key.Key.{Key}
use Rattle.js_json_members.specs.Key.{key_name}
use Rattle.js_json_members.specs.declared.error.ReadError.{ReadError}
use Rattle.js_json_members.specs.declared.error.ReadError.TheVariants.{NotJson}
use Rattle.js_json_members.specs.Member.{float_free}

-- a value that was read, unless a float stands in it
abbrev pub without_float : Option Data → Result Data ReadError
without_float None = Err NotJson
without_float (Some d) = float_free Ok d

-- the value that bytes are
unfoldable pub value_of : List ℕ → Result Data ReadError
value_of bytes = if is_utf8 bytes then without_float (read bytes) else Err NotJson

-- whether it is the name of one of the keys
abbrev pub is_among : List Key → List ℕ → Bool
is_among keys name = list_any (λ key. bytes_eq name (key_name key)) keys

-- whether all names are those of keys
abbrev pub members_only : List Key → Members → Bool
members_only keys no_members = true
members_only keys (member name d ms) = is_among keys name && members_only keys ms

-- an object that has no other keys
abbrev pub has_only : List Key → Data → Bool
has_only keys null = false
has_only keys (boolean b) = false
has_only keys (number n) = false
has_only keys (string s) = false
has_only keys (array ds) = false
has_only keys (object ms) = members_only keys ms
