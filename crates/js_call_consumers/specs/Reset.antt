-- Resetting a consumer: a row of the table of calls.
use Rattle.std.specs.Prelude.{ℕ, ◌≡◌, refl, ◌++◌, List, Option, Some, None, unwrap_or, codes, Result, Ok, Err}
use Rattle.std.specs.Fmt.{decimal}
use Rattle.js_base.specs.declared.error.Error.{Error}
use Rattle.js_json_members.specs.Member.{float_free}
use Rattle.js_json.specs.Response.{response_of}
use Rattle.js_json.specs.declared.consumer.info.Info.{Info}
use Rattle.js_json.specs.declared.response.Response.{Response}
use Rattle.js_json.specs.declared.response.Response.TheVariants as response
use Rattle.js_call.specs.declared.call.Call.{Call}
use Rattle.js_call.specs.declared.raw_call.RawCall.{RawCall}
use Rattle.js_call.specs.Call.{calling}
use Rattle.js_call.specs.Table.{Table, reads_as}
use Rattle.js_call_consumers.specs.declared.consumer.Consumer.{Consumer}
use Rattle.js_call_consumers.specs.declared.error.ConsumerErrorKind.{ConsumerErrorKind}
use Rattle.js_call_consumers.specs.declared.error.ConsumerErrorKind.TheVariants.{JetStream}
use Rattle.js_call_consumers.specs.CreateKind.{consumer_failure, failed, held}
use Rattle.js_call_consumers.specs.declared.info_pair.InfoCopies.{InfoCopies}
use Rattle.js_call_consumers.specs.declared.reset.ResettingConsumer.{ResettingConsumer}
use Rattle.js_call_consumers.specs.KnownConsumer.{asking_on}
use Rattle.js_call_consumers.specs.Renewal.{copies_fields, renewed}

-- the body that names a sequence, as `{"seq":5}`; it is 0 where none is named
abbrev pub reset_body : Option ℕ → List ℕ
reset_body seq = codes "{\"seq\":" ++ (decimal (unwrap_or seq 0) ++ codes "}")

-- none is asked for as 0
none_is_zero : reset_body None ≡ reset_body (Some 0)
none_is_zero = refl

-- the consumer, and the info once it was reset or why it was not
abbrev pub was_reset : {T : Type 0} → Consumer T → Response InfoCopies → Consumer T × Result Info (Error ConsumerErrorKind)
was_reset consumer (response.Ok copies) = renewed consumer (Ok copies)
was_reset consumer (response.Err error) = renewed consumer (Err (held JetStream error))

-- the row of `reset`
abbrev pub reset_row : {T : Type 0} → Table (ResettingConsumer T) (Response InfoCopies) (Consumer T × Result Info (Error ConsumerErrorKind))
reset_row = record {
  refused = λ s. None;
  reads = reads_as (response_of (float_free copies_fields));
  means = λ s reply. was_reset s.consumer reply;
  fails = λ s failure source. renewed s.consumer (Err (failed consumer_failure failure source));
}

-- the request, which is not sent: it asks on `CONSUMER.RESET` with the sequence
abbrev pub reset_request : {T : Type 0} → Option ℕ → Consumer T → RawCall
reset_request seq consumer = asking_on consumer.scope (codes "CONSUMER.RESET") consumer.info (reset_body seq)

-- the call, which is not sent
abbrev pub resetting : {T : Type 0} → Option ℕ → Consumer T → Call (ResettingConsumer T)
resetting seq consumer = calling (record { consumer = consumer }) (reset_request seq consumer)
