-- Asking what the server knows of a consumer, which is kept: a row of the table of calls.
use Rattle.std.specs.Prelude.{None, codes, Result, Ok, Err}
use Rattle.js_base.specs.declared.error.Error.{Error}
use Rattle.js_json_members.specs.Member.{float_free}
use Rattle.js_json.specs.Response.{response_of}
use Rattle.js_json.specs.declared.consumer.info.Info.{Info}
use Rattle.js_json.specs.declared.response.Response.{Response}
use Rattle.js_json.specs.declared.response.Response.TheVariants as response
use Rattle.js_call.specs.declared.call.Call.{Call}
use Rattle.js_call.specs.declared.raw_call.RawCall.{RawCall}
use Rattle.js_call.specs.Call.{calling}
use Rattle.js_call.specs.Table.{Table, reads_as}
use Rattle.js_call_consumers.specs.declared.consumer.Consumer.{Consumer}
use Rattle.js_call_consumers.specs.declared.error.ConsumerInfoErrorKind.{ConsumerInfoErrorKind}
use Rattle.js_call_consumers.specs.Info.{info_failure, info_refusal}
use Rattle.js_call_consumers.specs.CreateKind.{failed}
use Rattle.js_call_consumers.specs.declared.info_pair.InfoCopies.{InfoCopies}
use Rattle.js_call_consumers.specs.declared.refresh.RefreshingConsumer.{RefreshingConsumer}
use Rattle.js_call_consumers.specs.KnownConsumer.{asking_on}
use Rattle.js_call_consumers.specs.Renewal.{copies_fields, renewed}

-- the consumer, and the info or why it was not got
abbrev pub refreshed : {T : Type 0} → Consumer T → Response InfoCopies → Consumer T × Result Info (Error ConsumerInfoErrorKind)
refreshed consumer (response.Ok copies) = renewed consumer (Ok copies)
refreshed consumer (response.Err error) = renewed consumer (Err (info_refusal error))

-- the row of `info`
abbrev pub refresh_row : {T : Type 0} → Table (RefreshingConsumer T) (Response InfoCopies) (Consumer T × Result Info (Error ConsumerInfoErrorKind))
refresh_row = record {
  refused = λ s. None;
  reads = reads_as (response_of (float_free copies_fields));
  means = λ s reply. refreshed s.consumer reply;
  fails = λ s failure source. renewed s.consumer (Err (failed info_failure failure source));
}

-- the request, which is not sent: it asks on `CONSUMER.INFO` with an empty object
abbrev pub refresh_request : {T : Type 0} → Consumer T → RawCall
refresh_request consumer = asking_on consumer.scope (codes "CONSUMER.INFO") consumer.info (codes "{}")

-- the call, which is not sent
abbrev pub refreshing : {T : Type 0} → Consumer T → Call (RefreshingConsumer T)
refreshing consumer = calling (record { consumer = consumer }) (refresh_request consumer)
