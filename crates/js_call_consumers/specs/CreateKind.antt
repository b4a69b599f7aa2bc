-- The calls that make or change a consumer: what each asks for, and what it is refused with.
use Rattle.std.specs.Prelude.{◌==◌, if◌then◌else◌}
use Rattle.js_base.specs.Error.{plain, caused}
use Rattle.js_base.specs.declared.error.Error.{Error}
use Rattle.js_base.specs.declared.error.Source.{Source}
use Rattle.js_codes.specs.Errors.{api_source}
use Rattle.js_codes.specs.declared.errors.Error as api
use Rattle.js_json.specs.declared.consumer.create_request.Action.{Action}
use Rattle.js_json.specs.declared.consumer.create_request.Action.TheVariants.{CreateOrUpdate, Create, Update}
use Rattle.js_call.specs.declared.error.RequestErrorKind.{RequestErrorKind}
use Rattle.js_call.specs.declared.error.RequestErrorKind.TheVariants as request
use Rattle.js_call.specs.declared.failure.Failure.{Failure}
use Rattle.js_call.specs.Failure.{request_kind}
use Rattle.js_call_consumers.specs.declared.error.ConsumerErrorKind.{ConsumerErrorKind}
use Rattle.js_call_consumers.specs.declared.error.ConsumerErrorKind.TheVariants as plainly
use Rattle.js_call_consumers.specs.declared.error.ConsumerCreateStrictErrorKind.{ConsumerCreateStrictErrorKind}
use Rattle.js_call_consumers.specs.declared.error.ConsumerCreateStrictErrorKind.TheVariants as strictly
use Rattle.js_call_consumers.specs.declared.error.ConsumerUpdateErrorKind.{ConsumerUpdateErrorKind}
use Rattle.js_call_consumers.specs.declared.error.ConsumerUpdateErrorKind.TheVariants as updates

-- what a call asks for, and what it is refused with
pub record Kinds (K : Type 0) : Type 0 where
  pub action : Action
  pub of_request : RequestErrorKind → K  -- where the request has no reply that reads
  pub of_api : api.Error → Error K  -- where the API answers an error
  pub other : K  -- where the consumer that was made is of another kind

-- a timeout is told, and every other cause is one
abbrev pub by_timeout : {K : Type 0} → K → K → RequestErrorKind → K
by_timeout timed_out other request.TimedOut = timed_out
by_timeout timed_out other request.NoResponders = other
by_timeout timed_out other request.InvalidSubject = other
by_timeout timed_out other request.Other = other

-- a request without a reply that reads, as the error of a call, and why as its source
abbrev pub failed : {K : Type 0} → (RequestErrorKind → K) → Failure → Source → Error K
failed of_request failure source = caused (of_request (request_kind failure)) source

-- the API's error as the error of a call, where the kind holds it
abbrev pub held : {K : Type 0} → (api.Error → K) → api.Error → Error K
held jetstream error = plain (jetstream error)

-- what a request without a reply means to the calls on consumers
abbrev pub consumer_failure : RequestErrorKind → ConsumerErrorKind
consumer_failure = by_timeout plainly.TimedOut plainly.Request

-- the call that makes a consumer, or changes the one that is there
abbrev pub consumer_kinds : Kinds ConsumerErrorKind
consumer_kinds = record {
  action = CreateOrUpdate;
  of_request = consumer_failure;
  of_api = held plainly.JetStream;
  other = plainly.Other;
}

-- the call that makes one where none is: 10148 tells that one is there, which is then the source
abbrev pub strict_kinds : Kinds ConsumerCreateStrictErrorKind
strict_kinds = record {
  action = Create;
  of_request = by_timeout strictly.TimedOut strictly.Request;
  of_api = λ error. if error.err_code.0 == 10148 then caused strictly.AlreadyExists (api_source error) else held strictly.JetStream error;
  other = strictly.Other;
}

-- the call that changes one: 10149 tells that none is there, which is then the source
abbrev pub update_kinds : Kinds ConsumerUpdateErrorKind
update_kinds = record {
  action = Update;
  of_request = by_timeout updates.TimedOut updates.Request;
  of_api = λ error. if error.err_code.0 == 10149 then caused updates.DoesNotExist (api_source error) else held updates.JetStream error;
  other = updates.Other;
}
