-- Why an account was not told.
use Rattle.std.specs.Prelude.{ℕ, ◌≡◌, Option, Some, None, List, ◌++◌, codes, refl}
use Rattle.js_base.specs.Error.{caused}
use Rattle.js_base.specs.declared.error.Error.{Error}
use Rattle.js_base.specs.declared.error.Source.{Source}
use Rattle.js_base.specs.declared.error.Source.TheVariants.{Text}
use Rattle.js_codes.specs.declared.errors.Error.{Error as ApiError}
use Rattle.js_codes.specs.Errors.{error_text}
use Rattle.js_json_members.specs.declared.error.ReadError.TheVariants.{Missing}
use Rattle.js_json_members.specs.declared.key.Key.TheVariants as key
use Rattle.js_call.specs.declared.error.RequestErrorKind.{RequestErrorKind}
use Rattle.js_call.specs.declared.error.RequestErrorKind.TheVariants as request
use Rattle.js_call.specs.declared.failure.Failure.{Failure}
use Rattle.js_call.specs.declared.failure.Failure.TheVariants as failure
use Rattle.js_call.specs.Failure.{request_kind, failure_source}
use Rattle.js_call_streams.specs.declared.account_error.AccountErrorKind.{AccountErrorKind}
use Rattle.js_call_streams.specs.declared.account_error.AccountErrorKind.TheVariants.{TimedOut, JetStream, Other, JetStreamUnavailable}

-- how a refusal is printed
abbrev pub account_text : AccountErrorKind → List ℕ
account_text TimedOut = codes "timed out"
account_text (JetStream error) = codes "JetStream error: " ++ error_text error
account_text Other = codes "error"
account_text JetStreamUnavailable = codes "JetStream unavailable"

-- the API's error that a kind holds
abbrev pub account_held : AccountErrorKind → Option ApiError
account_held (JetStream error) = Some error
account_held kind = None

-- what a request without a reply that reads means
abbrev pub account_kind : RequestErrorKind → AccountErrorKind
account_kind request.NoResponders = JetStreamUnavailable
account_kind request.TimedOut = TimedOut
account_kind request.InvalidSubject = Other
account_kind request.Other = Other

-- a failure as the error of the call
abbrev pub account_failure : Failure → Source → Error AccountErrorKind
account_failure failed source = caused (account_kind (request_kind failed)) source

-- an absent JetStream is told apart from a timeout, and an old server's account by the key that it lacks
absent_jetstream_is_told : account_failure (failure.Request request.NoResponders) (failure_source (failure.Request request.NoResponders)) ≡ caused JetStreamUnavailable (Text (codes "requested JetStream resource does not exist"))
absent_jetstream_is_told = refl

old_server_is_told : account_failure (failure.Read (Missing key.ReservedMemory)) (failure_source (failure.Read (Missing key.ReservedMemory))) ≡ caused Other (Text (codes "reserved_memory: missing"))
old_server_is_told = refl
