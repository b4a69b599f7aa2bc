-- Asking what the server knows of a consumer: a row of the table of calls.
use Rattle.std.specs.Prelude.{◌==◌, None, codes, Result, Ok, Err, if◌then◌else◌}
use Rattle.js_base.specs.Error.{caused}
use Rattle.js_base.specs.declared.error.Error.{Error}
use Rattle.js_codes.specs.Errors.{api_source}
use Rattle.js_codes.specs.declared.errors.Error as api
use Rattle.js_json_members.specs.Member.{float_free}
use Rattle.js_json.specs.ConsumerInfo.{info_fields}
use Rattle.js_json.specs.Response.{response_of}
use Rattle.js_json.specs.declared.consumer.info.Info.{Info}
use Rattle.js_json.specs.declared.response.Response.{Response}
use Rattle.js_json.specs.declared.response.Response.TheVariants as response
use Rattle.js_call.specs.declared.call.Call.{Call}
use Rattle.js_call.specs.declared.error.RequestErrorKind.{RequestErrorKind}
use Rattle.js_call.specs.declared.error.RequestErrorKind.TheVariants as request
use Rattle.js_call.specs.declared.raw_call.RawCall.{RawCall}
use Rattle.js_call.specs.declared.scope.ApiScope.{ApiScope}
use Rattle.js_call.specs.Call.{calling}
use Rattle.js_call.specs.Scope.{asking}
use Rattle.js_call.specs.Table.{Table, reads_as}
use Rattle.js_call_consumers.specs.declared.error.ConsumerInfoErrorKind.{ConsumerInfoErrorKind}
use Rattle.js_call_consumers.specs.declared.error.ConsumerInfoErrorKind.TheVariants as infos
use Rattle.js_call_consumers.specs.declared.info.AskingInfo.{AskingInfo}
use Rattle.js_call_consumers.specs.CreateKind.{failed, held}
use Rattle.js_base.specs.ApiSubject.{consumer_api_subject}

-- an error of the API as the error of the call: no such consumer, no such stream, or a consumer that is offline, with it as the source
abbrev pub info_refusal : api.Error → Error ConsumerInfoErrorKind
info_refusal error =
    if error.err_code.0 == 10014 then caused infos.NotFound (api_source error)
    else (if error.err_code.0 == 10059 then caused infos.StreamNotFound (api_source error)
    else (if error.err_code.0 == 10119 then caused infos.Offline (api_source error) else held infos.JetStream error))

-- what a request without a reply means
abbrev pub info_failure : RequestErrorKind → ConsumerInfoErrorKind
info_failure request.TimedOut = infos.TimedOut
info_failure request.NoResponders = infos.NoResponders
info_failure request.InvalidSubject = infos.InvalidName
info_failure request.Other = infos.Request

-- the info, or why it was not got
abbrev pub info_in : Response Info → Result Info (Error ConsumerInfoErrorKind)
info_in (response.Ok info) = Ok info
info_in (response.Err error) = Err (info_refusal error)

-- the row of `get_info`
abbrev pub info_row : Table AskingInfo (Response Info) (Result Info (Error ConsumerInfoErrorKind))
info_row = record {
  refused = λ s. None;
  reads = reads_as (response_of (float_free info_fields));
  means = λ s reply. info_in reply;
  fails = λ s failure source. Err (failed info_failure failure source);
}

-- the request on the consumer of an info, which is not sent
abbrev pub info_request : ApiScope → Info → RawCall
info_request scope info = asking scope (consumer_api_subject (codes "CONSUMER.INFO") info.stream_name info.name) (codes "{}")

-- the call on the consumer of an info, which is not sent
abbrev pub asking_info : ApiScope → Info → Call AskingInfo
asking_info scope info = calling (record {}) (info_request scope info)
