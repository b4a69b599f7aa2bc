-- Requests on the consumer that an info is of.
use Rattle.std.specs.Prelude.{ℕ, List}
use Rattle.js_json.specs.declared.consumer.info.Info.{Info}
use Rattle.js_call.specs.declared.raw_call.RawCall.{RawCall}
use Rattle.js_call.specs.declared.scope.ApiScope.{ApiScope}
use Rattle.js_call.specs.Scope.{asking}
use Rattle.js_base.specs.ApiSubject.{consumer_api_subject}

-- a request by the words of a call on the consumer of an info, which is not sent
abbrev pub asking_on : ApiScope → List ℕ → Info → List ℕ → RawCall
asking_on scope words info body = asking scope (consumer_api_subject words info.stream_name info.name) body
