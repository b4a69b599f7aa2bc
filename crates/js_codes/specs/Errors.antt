-- The error in an answer of the API.
use Rattle.std.specs.Prelude.{ℕ, List, [], ◌∷◌, Result, Ok}
use Rattle.serde_json.specs.Data.{Data, no_members}
use Rattle.js_base.specs.Error.{api_text}
use Rattle.js_base.specs.declared.error.Source.{Source}
use Rattle.js_base.specs.declared.error.Source.TheVariants.{Api}
use Rattle.js_json_members.specs.declared.key.Key.TheVariants as key
use Rattle.js_json_members.specs.declared.error.ReadError.{ReadError}
use Rattle.js_json_members.specs.Member.{◌>>=◌, required, optional, defaulted, text, natural}
use Rattle.js_json_members.specs.Rows.{Row, row, with_rows, object_of, always, or_null, text_data, natural_data}
use Rattle.js_codes.specs.declared.errors.Error.{Error}
use Rattle.js_codes.specs.ErrorCode.{error_code, no_code, error_code_data}

-- an error from its members
unfoldable pub error_fields : Data → Result Error ReadError
error_fields d = do
  code ← required natural key.Code d
  err_code ← defaulted error_code key.ErrCode no_code d
  description ← optional text key.Description d
  Ok (record { code = code; err_code = err_code; description = description })

-- the members that are written
abbrev pub error_rows : Error → List Row
error_rows c =
    row key.Code (λ k. always natural_data k c.code) ∷
    row key.ErrCode (λ k. always error_code_data k c.err_code) ∷
    row key.Description (λ k. or_null text_data k c.description) ∷ []

-- the object that is written
unfoldable pub error_value : Error → Result Data ReadError
error_value c = object_of (with_rows (Ok no_members) (error_rows c))

-- what it prints
abbrev pub error_text : Error → List ℕ
error_text e = api_text e.code e.err_code.0 e.description

-- the error as the source of a call's error
abbrev pub api_source : Error → Source
api_source error = Api error.code error.err_code.0 error.description
