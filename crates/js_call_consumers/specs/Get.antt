-- Getting a consumer: a row of the table of calls.
use Rattle.std.specs.Prelude.{ℕ, option_map, List, codes, Result, Err}
use Rattle.js_base.specs.Error.{plain}
use Rattle.js_base.specs.declared.error.Error.{Error}
use Rattle.js_json_members.specs.Member.{float_free}
use Rattle.js_json.specs.Response.{response_of}
use Rattle.js_json.specs.declared.consumer.config.Config.{Config}
use Rattle.js_json.specs.declared.consumer.conversion.ConfigError.{ConfigError}
use Rattle.js_json.specs.declared.response.Response.{Response}
use Rattle.js_json.specs.declared.response.Response.TheVariants as response
use Rattle.js_call.specs.declared.call.Call.{Call}
use Rattle.js_call.specs.declared.scope.ApiScope.{ApiScope}
use Rattle.js_call.specs.Call.{calling}
use Rattle.js_call.specs.Scope.{asking}
use Rattle.js_call.specs.Table.{Table, reads_as, refused_by}
use Rattle.js_call_consumers.specs.declared.consumer.Consumer.{Consumer}
use Rattle.js_call_consumers.specs.declared.error.ConsumerErrorKind.{ConsumerErrorKind}
use Rattle.js_call_consumers.specs.declared.error.ConsumerErrorKind.TheVariants.{JetStream, InvalidConsumerType}
use Rattle.js_call_consumers.specs.declared.get.GettingConsumer.{GettingConsumer}
use Rattle.js_call_consumers.specs.declared.consumer_answer.ConsumerAnswer.{ConsumerAnswer}
use Rattle.js_call_consumers.specs.CreateKind.{consumer_failure, failed, held}
use Rattle.js_call_consumers.specs.Refusal.{get_refusal}
use Rattle.js_base.specs.ApiSubject.{consumer_api_subject}
use Rattle.js_call_consumers.specs.ConsumerAnswer.{told_fields, converted}

-- the consumer, or why it was not got
abbrev pub got : {C : Type 0} → GettingConsumer C → Response (ConsumerAnswer C) → Result (Consumer C) (Error ConsumerErrorKind)
got s (response.Ok told) = converted InvalidConsumerType s.scope told.info told.config
got s (response.Err error) = Err (held JetStream error)

-- the row of `get_consumer_from_stream`, for a kind of consumer
abbrev pub get_row : {C : Type 0} → (Config → Result C ConfigError) → Table (GettingConsumer C) (Response (ConsumerAnswer C)) (Result (Consumer C) (Error ConsumerErrorKind))
get_row of_config = record {
  refused = λ s. refused_by (option_map plain (get_refusal s.consumer s.stream));
  reads = reads_as (response_of (float_free (told_fields of_config)));
  means = got;
  fails = λ s failure source. Err (failed consumer_failure failure source);
}

-- the call, which is not sent
abbrev pub getting : {C : Type 0} → ApiScope → List ℕ → List ℕ → Call (GettingConsumer C)
getting scope consumer stream = calling
    (record { scope = scope; consumer = consumer; stream = stream; of = record {} })
    (asking scope (consumer_api_subject (codes "CONSUMER.INFO") stream consumer) (codes "{}"))
