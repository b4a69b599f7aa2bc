-- How many requests an account made.
use Rattle.std.specs.Prelude.{List, [], ◌∷◌, Result, Ok}
use Rattle.serde_json.specs.Data.{Data, no_members}
use Rattle.js_json_members.specs.declared.key.Key.TheVariants as key
use Rattle.js_json_members.specs.declared.error.ReadError.{ReadError}
use Rattle.js_json_members.specs.Member.{◌>>=◌, required, defaulted, natural}
use Rattle.js_json_members.specs.Rows.{Row, row, with_rows, object_of, always, natural_data}
use Rattle.js_json.specs.declared.account.Requests.{Requests}

-- the counts from their members
unfoldable pub requests_fields : Data → Result Requests ReadError
requests_fields d = do
  total ← required natural key.Total d
  errors ← required natural key.Errors d
  level ← defaulted natural key.Level 0 d
  inflight ← defaulted natural key.Inflight 0 d
  Ok (record { total = total; errors = errors; level = level; inflight = inflight })

-- the members that are written
abbrev pub requests_rows : Requests → List Row
requests_rows c =
    row key.Total (λ k. always natural_data k c.total) ∷
    row key.Errors (λ k. always natural_data k c.errors) ∷
    row key.Level (λ k. always natural_data k c.level) ∷
    row key.Inflight (λ k. always natural_data k c.inflight) ∷ []

-- the object that is written
unfoldable pub requests_value : Requests → Result Data ReadError
requests_value c = object_of (with_rows (Ok no_members) (requests_rows c))
