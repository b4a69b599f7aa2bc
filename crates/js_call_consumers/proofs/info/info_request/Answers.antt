use Rattle.std.proofs.Common.{◌≡◌, ℕ, List, Result, subst}
use Rattle.std.specs.Prelude.{IfOk, codes}
use Rattle.js_base.specs.declared.memory.OutOfMemory.{OutOfMemory}
use Rattle.js_json.specs.declared.consumer.info.Info.{Info}
use Rattle.js_call.specs.declared.raw_call.RawCall.{RawCall}
use Rattle.js_call.specs.declared.scope.ApiScope.{ApiScope}
use Rattle.js_call.specs.Scope.{asking}
use Rattle.js_call_consumers.specs.Info.{info_request}
use Rattle.js_base.specs.ApiSubject.{consumer_api_subject}
use Rattle.js_call_consumers.proofs.info.info_request.Goals as goal

-- a request by the names that stand in an info
of_info : (asked : Result RawCall OutOfMemory) (scope : ApiScope) (info : Info) (stream name : List ℕ) → stream ≡ info.stream_name → name ≡ info.name → IfOk asked (λ call. call ≡ asking scope (consumer_api_subject (codes "CONSUMER.INFO") stream name) (codes "{}")) → IfOk asked (λ call. call ≡ info_request scope info)
of_info asked scope info stream name is_stream is_name asks =
    subst (λ x. IfOk asked (λ call. call ≡ asking scope (consumer_api_subject (codes "CONSUMER.INFO") x info.name) (codes "{}"))) is_stream
    (subst (λ x. IfOk asked (λ call. call ≡ asking scope (consumer_api_subject (codes "CONSUMER.INFO") stream x) (codes "{}"))) is_name asks)

pub returns : goal.returns
returns c = of_info c.consumer_request.result c.args.scope.now c.args.info.now c.as_str-stream.result.now c.as_str.result.now c.as_str-stream.ensures c.as_str.ensures c.consumer_request.ensures
