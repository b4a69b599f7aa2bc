-- Objects that have no other keys than those which are named.
use Rattle.std.specs.Prelude.{List, ℕ, Result, Err, if◌then◌else◌}
use Rattle.serde_json.specs.Data.{Data}
use Rattle.js_json_members.specs.declared.key.Key.{Key}
use Rattle.js_json_members.specs.declared.error.ReadError.{ReadError}
use Rattle.js_json_members.specs.declared.error.ReadError.TheVariants.{NotJson, WrongKind}
use Rattle.js_json_members.specs.Member.{◌>>=◌, Reads}
use Rattle.js_json_members.specs.Value.{has_only, value_of}

-- a member that is an object with no keys but these
unfoldable pub only : {A : Type 0} → List Key → (Data → Result A ReadError) → Reads A
only keys fields key d = if has_only keys d then fields d else Err (WrongKind key)

-- a line's value that is an object with no keys but these
unfoldable pub value_as : {A : Type 0} → List Key → (Data → Result A ReadError) → Data → Result A ReadError
value_as keys fields d = if has_only keys d then fields d else Err NotJson

-- a line that is such a value
unfoldable pub line_as : {A : Type 0} → List Key → (Data → Result A ReadError) → List ℕ → Result A ReadError
line_as keys fields line = value_of line >>= value_as keys fields
