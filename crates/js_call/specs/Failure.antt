-- Why a call has no answer of the API, and how an error tells it.
use Rattle.std.specs.Prelude.{ℕ, ◌≡◌, List, codes, refl}
use Rattle.js_base.specs.declared.error.Source.{Source}
use Rattle.js_base.specs.declared.error.Source.TheVariants.{Text}
use Rattle.js_json_members.specs.Error.{error_text}
use Rattle.js_json_members.specs.declared.error.ReadError.TheVariants.{NotJson}
use Rattle.js_call.specs.declared.error.RequestErrorKind.{RequestErrorKind}
use Rattle.js_call.specs.declared.error.RequestErrorKind.TheVariants as kind
use Rattle.js_call.specs.declared.failure.Failure.{Failure}
use Rattle.js_call.specs.declared.failure.Failure.TheVariants.{Request, Read}
use Rattle.js_call.specs.Texts.{request_text}

-- the text of the error that a failure holds: the request error's, or the read error's
abbrev pub failure_text : Failure → List ℕ
failure_text (Request kind) = request_text kind
failure_text (Read error) = error_text error

-- why the request has no reply that reads
abbrev pub request_kind : Failure → RequestErrorKind
request_kind (Request kind) = kind
request_kind (Read error) = kind.Other

-- where an error comes from that tells a failure: the failure's text
abbrev pub failure_source : Failure → Source
failure_source failure = Text (failure_text failure)

-- an absent JetStream and a timeout are told apart, and so is a reply that is no JSON
absent_is_told : failure_source (Request kind.NoResponders) ≡ Text (codes "requested JetStream resource does not exist")
absent_is_told = refl

timeout_is_told : failure_source (Request kind.TimedOut) ≡ Text (codes "timed out")
timeout_is_told = refl

unread_is_told : failure_source (Read NotJson) ≡ Text (codes "not JSON")
unread_is_told = refl
