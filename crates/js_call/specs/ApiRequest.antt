-- A request of the API whose reply is any JSON value.
use Rattle.std.specs.Prelude.{ℕ, ◌≡◌, true, None, List, Result, Ok, Err}
use Rattle.serde_json.specs.Data.{Data}
use Rattle.serde_json.specs.View.{view}
use Rattle.serde_json.specs.declared.value.Value.{Value}
use Rattle.js_base.specs.Error.{plain, caused}
use Rattle.js_base.specs.declared.error.Error.{Error}
use Rattle.js_base.specs.declared.error.Source.{Source}
use Rattle.js_json_members.specs.Member.{GivesAs}
use Rattle.js_json_members.specs.Value.{value_of}
use Rattle.js_call.specs.declared.error.RequestErrorKind.{RequestErrorKind}
use Rattle.js_call.specs.declared.error.RequestErrorKind.TheVariants.{Other}
use Rattle.js_call.specs.declared.failure.Failure.{Failure}
use Rattle.js_call.specs.declared.failure.Failure.TheVariants.{Request, Read}
use Rattle.js_call.specs.declared.api_request.AskingValue.{AskingValue}
use Rattle.js_call.specs.declared.call.Call.{Call}
use Rattle.js_call.specs.declared.raw_call.RawCall.{RawCall}
use Rattle.js_call.specs.declared.scope.ApiScope.{ApiScope}
use Rattle.js_call.specs.Call.{calling}
use Rattle.js_call.specs.Scope.{Calling}
use Rattle.js_call.specs.Table.{Table}

-- the error of the request itself; a reply that does not read is another error, with the read error's text
abbrev pub request_error : Failure → Source → Error RequestErrorKind
request_error (Request kind) source = plain kind
request_error (Read error) source = caused Other source

-- the reply is read as a value, and is the answer
abbrev pub value_row : Table AskingValue Value (Result Value (Error RequestErrorKind))
value_row = record {
  refused = λ s. None;
  reads = λ payload read. GivesAs view read (value_of payload);
  means = λ s value. Ok value;
  fails = λ s failure source. Err (request_error failure source);
}

-- a request under the prefix whose body is a value's text
pub record AskingFor (scope : ApiScope) (subject : List ℕ) (value : Data) (call : Call AskingValue) : Type 0 where
  pub asked : RawCall
  pub asks : Calling scope subject value true asked
  pub same : call ≡ calling (record {}) asked
