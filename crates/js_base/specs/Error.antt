-- Errors of calls, and their texts.
use Rattle.std.specs.Prelude.{ℕ, Option, Some, None, List, ◌++◌, codes}
use Rattle.std.specs.Fmt.{decimal}
use Rattle.std.specs.Option.{option_copied}
use Rattle.js_base.specs.declared.error.ApiError.{ApiError}
use Rattle.js_base.specs.declared.error.Error.{Error}
use Rattle.js_base.specs.declared.error.Source.{Source}
use Rattle.js_base.specs.declared.error.Source.TheVariants.{Api}
use Rattle.js_base.specs.declared.error.Source.TheVariants as source

-- an error that has no source
abbrev pub plain : {K : Type 0} → K → Error K
plain kind = record { kind = kind; source = None }

-- an error with its source
abbrev pub caused : {K : Type 0} → K → Source → Error K
caused kind source = record { kind = kind; source = Some source }

-- what went wrong
abbrev pub kind_of : {K : Type 0} → Error K → K
kind_of error = error.kind

-- where it comes from
abbrev pub source_of : {K : Type 0} → Error K → Option Source
source_of error = error.source

-- the API's error where it is the source: the kind of refusal, which error it is, and its description
abbrev pub sent_by_api : Option Source → Option (ℕ × ℕ × Option (List ℕ))
sent_by_api None = None
sent_by_api (Some (source.Text text)) = None
sent_by_api (Some (Api code err_code description)) = Some (code, err_code, description)

-- what is seen of the API's error
abbrev pub parts_of : ApiError → ℕ × ℕ × Option (List ℕ)
parts_of error = (error.code, error.err_code, option_copied error.description)

-- the description, where the API gave one
abbrev pub described : Option (List ℕ) → List ℕ
described None = codes "unknown"
described (Some description) = description

-- how the API's error is printed
abbrev pub api_text : ℕ → ℕ → Option (List ℕ) → List ℕ
api_text code err_code description =
    described description ++ codes " (code " ++ decimal code ++ codes ", error code " ++ decimal err_code ++ codes ")"

-- the text of a source
abbrev pub source_text : Source → List ℕ
source_text (source.Text text) = text
source_text (Api code err_code description) = api_text code err_code description

-- the text of the kind, then `: ` and that of the source where there is one
abbrev pub printed : Option (List ℕ) → Option Source → Option (List ℕ)
printed None source = None
printed (Some kind) None = Some kind
printed (Some kind) (Some source) = Some (kind ++ (codes ": " ++ source_text source))
