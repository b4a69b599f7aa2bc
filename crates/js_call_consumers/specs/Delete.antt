-- Deleting a consumer: a row of the table of calls.
use Rattle.std.specs.Prelude.{ℕ, option_map, List, codes, Result, Ok, Err}
use Rattle.js_base.specs.Error.{plain}
use Rattle.js_base.specs.declared.error.Error.{Error}
use Rattle.js_json_members.specs.Member.{float_free}
use Rattle.js_json.specs.Response.{response_of}
use Rattle.js_json.specs.declared.response.Response.{Response}
use Rattle.js_json.specs.declared.response.Response.TheVariants as response
use Rattle.js_json_stream_bodies.specs.DeleteStatus.{delete_status_fields}
use Rattle.js_json_stream_bodies.specs.declared.stream.delete_status.DeleteStatus.{DeleteStatus}
use Rattle.js_call.specs.declared.call.Call.{Call}
use Rattle.js_call.specs.declared.scope.ApiScope.{ApiScope}
use Rattle.js_call.specs.Call.{calling}
use Rattle.js_call.specs.Scope.{asking}
use Rattle.js_call.specs.Table.{Table, reads_as, refused_by}
use Rattle.js_call_consumers.specs.declared.delete.DeletingConsumer.{DeletingConsumer}
use Rattle.js_call_consumers.specs.declared.error.ConsumerErrorKind.{ConsumerErrorKind}
use Rattle.js_call_consumers.specs.declared.error.ConsumerErrorKind.TheVariants.{JetStream}
use Rattle.js_call_consumers.specs.CreateKind.{consumer_failure, failed, held}
use Rattle.js_call_consumers.specs.Refusal.{delete_refusal}
use Rattle.js_base.specs.ApiSubject.{consumer_api_subject}

-- what was deleted, or the API's error
abbrev pub deleted : Response DeleteStatus → Result DeleteStatus (Error ConsumerErrorKind)
deleted (response.Ok status) = Ok status
deleted (response.Err error) = Err (held JetStream error)

-- the row of `delete_consumer_from_stream`
abbrev pub delete_row : Table DeletingConsumer (Response DeleteStatus) (Result DeleteStatus (Error ConsumerErrorKind))
delete_row = record {
  refused = λ s. refused_by (option_map plain (delete_refusal s.consumer s.stream));
  reads = reads_as (response_of (float_free delete_status_fields));
  means = λ s reply. deleted reply;
  fails = λ s failure source. Err (failed consumer_failure failure source);
}

-- the call, which is not sent
abbrev pub deleting : ApiScope → List ℕ → List ℕ → Call DeletingConsumer
deleting scope consumer stream = calling
    (record { consumer = consumer; stream = stream })
    (asking scope (consumer_api_subject (codes "CONSUMER.DELETE") stream consumer) (codes "{}"))
