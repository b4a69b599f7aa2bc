-- Changing streams: rows of the table of calls.
use Rattle.std.specs.Prelude.{◌≡◌, Option, Some, None, option_map, codes, Result, Ok, Err}
use Rattle.js_base.specs.Error.{plain, kind_of}
use Rattle.js_base.specs.declared.error.Error.{Error}
use Rattle.js_json_members.specs.Member.{float_free}
use Rattle.js_json.specs.Response.{response_of}
use Rattle.js_json.specs.declared.response.Response.{Response}
use Rattle.js_json.specs.declared.response.Response.TheVariants as response
use Rattle.js_json_stream_bodies.specs.StreamInfo.{info_fields}
use Rattle.js_json_stream_bodies.specs.declared.stream.config.Config.{Config}
use Rattle.js_json_stream_bodies.specs.declared.stream.info.Info.{Info}
use Rattle.js_call.specs.declared.call.Call.{Call}
use Rattle.js_call.specs.declared.raw_call.RawCall.{RawCall}
use Rattle.js_call.specs.declared.scope.ApiScope.{ApiScope}
use Rattle.js_call.specs.declared.call_sequence.Then.{Then}
use Rattle.js_call.specs.declared.call_sequence.Then.TheVariants.{First}
use Rattle.js_call.specs.Call.{calling}
use Rattle.js_call.specs.Table.{Table, reads_as, refused_by}
use Rattle.js_call_streams.specs.declared.error.CreateStreamErrorKind.{CreateStreamErrorKind}
use Rattle.js_call_streams.specs.declared.error.CreateStreamErrorKind.TheVariants.{NotFound}
use Rattle.js_call_streams.specs.declared.update.UpdatingStream.{UpdatingStream}
use Rattle.js_call_streams.specs.declared.create_or_update.CreatingInfo.{CreatingInfo}
use Rattle.js_call_streams.specs.declared.create_or_update.IfNotFound.{IfNotFound}
use Rattle.js_call_streams.specs.Create.{AsksToCreate, AsksWith}
use Rattle.js_call_streams.specs.Error.{create_failure, api_error}
use Rattle.js_call_streams.specs.SourceDomains.{two_places}
use Rattle.js_call_streams.specs.Refusal.{name_refusal, create_refusal}

-- what the server knows of the stream, or the API's error
abbrev pub updated : Response Info → Result Info (Error CreateStreamErrorKind)
updated (response.Ok info) = Ok info
updated (response.Err error) = Err (api_error error)

-- ---- update_stream

-- the row of `update_stream`
abbrev pub update_row : Table UpdatingStream (Response Info) (Result Info (Error CreateStreamErrorKind))
update_row = record {
  refused = λ s. refused_by (option_map plain (name_refusal s.name));
  reads = reads_as (response_of (float_free info_fields));
  means = λ s reply. updated reply;
  fails = λ s failure source. Err (create_failure failure source);
}

-- the call that asks this
abbrev pub updating : Config → RawCall → Call UpdatingStream
updating config asked = calling (record { name = config.name }) asked

-- the call, which is not sent: it asks with the configuration as it is
abbrev pub Updates : ApiScope → Config → Call UpdatingStream → Type 0
Updates scope config call =
    (asked : RawCall) × AsksWith scope (codes "STREAM.UPDATE") config asked × (call ≡ updating config asked)

-- ---- create_or_update_stream

-- the row of the second of its two calls
abbrev pub create_info_row : Table CreatingInfo (Response Info) (Result Info (Error CreateStreamErrorKind))
create_info_row = record {
  refused = λ s. refused_by (option_map plain (create_refusal (name_refusal s.name) s.two_places));
  reads = reads_as (response_of (float_free info_fields));
  means = λ s reply. updated reply;
  fails = λ s failure source. Err (create_failure failure source);
}

-- what the second call keeps of its arguments
abbrev pub creating_info : Config → CreatingInfo
creating_info config = record { name = config.name; two_places = two_places config }

-- the second call, which asks as `create_stream` does
abbrev pub CreatesInfo : ApiScope → Config → Call CreatingInfo → Type 0
CreatesInfo scope config call =
    (asked : RawCall) × AsksToCreate scope config asked × (call ≡ calling (creating_info config) asked)

-- the error, unless it says that the stream is not there
abbrev pub unless_not_found : CreateStreamErrorKind → Error CreateStreamErrorKind → Option (Result Info (Error CreateStreamErrorKind))
unless_not_found NotFound error = None
unless_not_found kind error = Some (Err error)

-- the answer, unless the stream is not there
abbrev pub unless_missing : Result Info (Error CreateStreamErrorKind) → Option (Result Info (Error CreateStreamErrorKind))
unless_missing (Ok info) = Some (Ok info)
unless_missing (Err error) = unless_not_found (kind_of error) error

-- a first call, and then the one that makes the stream, which is not sent
abbrev pub OrCreates : {A : Type 0} → A → ApiScope → Config → Then A (Call CreatingInfo) IfNotFound → Type 0
OrCreates first scope config calls =
    (create : Call CreatingInfo) × CreatesInfo scope config create × (calls ≡ First first create (record {}))

-- the calls, of which none is sent
abbrev pub UpdatesOrCreates : ApiScope → Config → Then (Call UpdatingStream) (Call CreatingInfo) IfNotFound → Type 0
UpdatesOrCreates scope config calls =
    (update : Call UpdatingStream) × (create : Call CreatingInfo) × Updates scope config update × CreatesInfo scope config create
    × (calls ≡ First update create (record {}))
