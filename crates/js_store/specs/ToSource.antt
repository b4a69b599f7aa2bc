-- Where a refusal on a bucket comes from.
use Rattle.std.specs.Prelude.{ℕ, ◌≡◌, ⊤, Option, Some, None, List, ◌++◌, codes, refl}
use Rattle.js_base.specs.Error.{kind_of, source_of, source_text, plain, caused}
use Rattle.js_base.specs.declared.error.Error.{Error}
use Rattle.js_base.specs.declared.error.Source.{Source}
use Rattle.js_base.specs.declared.error.Source.TheVariants.{Api}
use Rattle.js_base.specs.declared.error.Source.TheVariants as source
use Rattle.js_codes.specs.Errors.{api_source}
use Rattle.js_codes.specs.declared.errors.Error.{Error as ApiError}
use Rattle.js_call_streams.specs.Error.{get_text, get_held, create_text, create_held}
use Rattle.js_call_streams.specs.declared.error.GetStreamErrorKind.{GetStreamErrorKind}
use Rattle.js_call_streams.specs.declared.error.GetStreamErrorKind.TheVariants as gets
use Rattle.js_call_streams.specs.declared.error.CreateStreamErrorKind.{CreateStreamErrorKind}
use Rattle.js_call_streams.specs.declared.error.CreateStreamErrorKind.TheVariants as creates
use Rattle.js_call_streams.specs.AccountError.{account_text, account_held}
use Rattle.js_call_streams.specs.declared.account_error.AccountErrorKind.{AccountErrorKind}

-- a source that the server sent
abbrev pub described_in : Source → Option Source
described_in (source.Text text) = None
described_in (Api code err_code description) = Some (Api code err_code description)

-- the server's error, which the kind holds or which is the source
abbrev pub sent_by : Option ApiError → Option Source → Option Source
sent_by (Some error) source = Some (api_source error)
sent_by None (Some source) = described_in source
sent_by None None = None

-- a kind's text, and the source's after it where there is one
abbrev pub text_with : List ℕ → Option Source → List ℕ
text_with kind None = kind
text_with kind (Some source) = kind ++ (codes ": " ++ source_text source)

-- what the server sent, or else a text
abbrev pub or_text : Option Source → List ℕ → Source
or_text None text = source.Text text
or_text (Some sent) text = sent

-- what an error tells, by the server's error that its kind may hold, and by the kind's text: the server's error, and else what is printed
abbrev pub told_by : {K : Type 0} → (K → Option ApiError) → (K → List ℕ) → Error K → Source
told_by held text error = or_text (sent_by (held (kind_of error)) (source_of error)) (text_with (text (kind_of error)) (source_of error))

-- where a refusal comes from that stands on a stream that was not got or not deleted
abbrev pub get_told : Error GetStreamErrorKind → Source
get_told error = told_by get_held get_text error

-- the same of one that was not made or not changed
abbrev pub create_told : Error CreateStreamErrorKind → Source
create_told error = told_by create_held create_text error

-- the same of an account that was not told
abbrev pub account_told : Error AccountErrorKind → Source
account_told error = told_by account_held account_text error

-- what an error tells of which this is printed; an error of which nothing is known to be printed may tell any text
abbrev pub TellsPrinted : Option Source → Option (List ℕ) → Source → Type 0
TellsPrinted sent None source = ⊤
TellsPrinted sent (Some text) source = source ≡ or_text sent text

-- the server's error is told by its numbers, held or as a source, and a timeout by its text
absent_stream_is_told : (description : Option (List ℕ)) → get_told (plain (gets.JetStream (record { code = 404; err_code = record { 0 = 10059 }; description = description }))) ≡ Api 404 10059 description
absent_stream_is_told description = refl

absent_bucket_is_told : (description : Option (List ℕ)) → create_told (caused creates.NotFound (Api 404 10059 description)) ≡ Api 404 10059 description
absent_bucket_is_told description = refl

timeout_is_told : get_told (caused gets.Request (source.Text (codes "timed out"))) ≡ source.Text (codes "request error: timed out")
timeout_is_told = refl
