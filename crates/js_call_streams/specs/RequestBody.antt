-- What always has JSON.
use Rattle.std.specs.Prelude.{◌≡◌, Result, Ok}
use Rattle.serde_json.specs.Data.{Data}
use Rattle.js_json_members.specs.declared.error.ReadError.{ReadError}

-- it has JSON
abbrev pub HasJson : Result Data ReadError → Type 0
HasJson written = (d : Data) × (written ≡ Ok d)
