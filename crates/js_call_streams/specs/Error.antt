-- Why a call on a stream was refused.
use Rattle.std.specs.Prelude.{ℕ, ◌≡◌, ◌==◌, Option, Some, None, List, ◌++◌, codes, if◌then◌else◌, refl}
use Rattle.js_base.specs.Error.{plain, caused}
use Rattle.js_base.specs.declared.error.Error.{Error}
use Rattle.js_base.specs.declared.error.Source.{Source}
use Rattle.js_base.specs.declared.error.Source.TheVariants.{Api, Text}
use Rattle.js_codes.specs.declared.errors.Error.{Error as ApiError}
use Rattle.js_codes.specs.Errors.{api_source, error_text}
use Rattle.js_call.specs.declared.error.RequestErrorKind.{RequestErrorKind}
use Rattle.js_call.specs.declared.error.RequestErrorKind.TheVariants as request
use Rattle.js_call.specs.declared.failure.Failure.{Failure}
use Rattle.js_call.specs.declared.failure.Failure.TheVariants as failure
use Rattle.js_call.specs.Failure.{request_kind, failure_source}
use Rattle.js_call_streams.specs.declared.error.GetStreamErrorKind.{GetStreamErrorKind}
use Rattle.js_call_streams.specs.declared.error.GetStreamErrorKind.TheVariants as gets
use Rattle.js_call_streams.specs.declared.error.CreateStreamErrorKind.{CreateStreamErrorKind}
use Rattle.js_call_streams.specs.declared.error.CreateStreamErrorKind.TheVariants as creates

-- how a refusal of getting or deleting is printed
abbrev pub get_text : GetStreamErrorKind → List ℕ
get_text gets.EmptyName = codes "empty name cannot be empty"
get_text gets.Request = codes "request error"
get_text gets.InvalidStreamName = codes "invalid stream name"
get_text (gets.JetStream error) = codes "jetstream error: " ++ error_text error
get_text gets.OutOfMemory = codes "out of memory"

-- how a refusal of making or changing is printed
abbrev pub create_text : CreateStreamErrorKind → List ℕ
create_text creates.EmptyStreamName = codes "stream name cannot be empty"
create_text creates.InvalidStreamName = codes "stream name cannot contain `.`, `_`"
create_text creates.DomainAndExternalSet = codes "domain and external are both set"
create_text creates.NotFound = codes "stream not found"
create_text (creates.JetStream error) = codes "jetstream error: " ++ error_text error
create_text creates.TimedOut = codes "jetstream request timed out"
create_text creates.JetStreamUnavailable = codes "jetstream unavailable"
create_text creates.ResponseParse = codes "failed to parse server response"
create_text creates.Response = codes "response error"

-- the API's error that a kind holds
abbrev pub get_held : GetStreamErrorKind → Option ApiError
get_held (gets.JetStream error) = Some error
get_held kind = None

abbrev pub create_held : CreateStreamErrorKind → Option ApiError
create_held (creates.JetStream error) = Some error
create_held kind = None

-- what a request without a reply means where a stream is made or changed
abbrev pub create_kind : RequestErrorKind → CreateStreamErrorKind
create_kind request.NoResponders = creates.JetStreamUnavailable
create_kind request.TimedOut = creates.TimedOut
create_kind request.InvalidSubject = creates.InvalidStreamName
create_kind request.Other = creates.Response

-- a failure as the error of a call that gets or deletes
abbrev pub get_failure : Source → Error GetStreamErrorKind
get_failure source = caused gets.Request source

-- a failure as the error of a call that makes or changes
abbrev pub create_failure : Failure → Source → Error CreateStreamErrorKind
create_failure failed source = caused (create_kind (request_kind failed)) source

-- what an error of the API means where a stream is made or changed: 10059 tells that the stream is not there
abbrev pub api_error : ApiError → Error CreateStreamErrorKind
api_error error = if error.err_code.0 == 10059 then caused creates.NotFound (api_source error) else plain (creates.JetStream error)

-- an absent stream is told with the server's words, and an absent JetStream apart from a timeout
absent_stream_is_told : (description : Option (List ℕ)) → api_error (record { code = 404; err_code = record { 0 = 10059 }; description = description }) ≡ caused creates.NotFound (Api 404 10059 description)
absent_stream_is_told description = refl

absent_jetstream_is_told : create_failure (failure.Request request.NoResponders) (failure_source (failure.Request request.NoResponders)) ≡ caused creates.JetStreamUnavailable (Text (codes "requested JetStream resource does not exist"))
absent_jetstream_is_told = refl
