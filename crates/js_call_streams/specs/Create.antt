-- Making streams: rows of the table of calls.
use Rattle.std.specs.Prelude.{ℕ, ◌≡◌, ◌==◌, Option, Some, None, option_map, List, codes, if◌then◌else◌, Result, Ok, Err}
use Rattle.js_base.specs.Error.{plain}
use Rattle.js_base.specs.declared.error.Error.{Error}
use Rattle.js_json_members.specs.Member.{float_free}
use Rattle.js_json_members.specs.Rows.{text_of}
use Rattle.js_json.specs.Response.{response_of}
use Rattle.js_json.specs.declared.response.Response.{Response}
use Rattle.js_json.specs.declared.response.Response.TheVariants as response
use Rattle.js_json_stream_bodies.specs.StreamConfig.{config_value}
use Rattle.js_json_stream_bodies.specs.StreamInfo.{info_fields}
use Rattle.js_json_stream_bodies.specs.declared.stream.config.Config.{Config}
use Rattle.js_json_stream_bodies.specs.declared.stream.info.Info.{Info}
use Rattle.js_call.specs.declared.call.Call.{Call}
use Rattle.js_call.specs.declared.raw_call.RawCall.{RawCall}
use Rattle.js_call.specs.declared.scope.ApiScope.{ApiScope}
use Rattle.js_call.specs.declared.call_sequence.IfAbsent.{IfAbsent}
use Rattle.js_call.specs.declared.call_sequence.Then.{Then}
use Rattle.js_call.specs.declared.call_sequence.Then.TheVariants.{First}
use Rattle.js_call.specs.Call.{calling}
use Rattle.js_call.specs.Scope.{asking, under}
use Rattle.js_call.specs.Table.{Table, reads_as, refused_by}
use Rattle.js_call_streams.specs.declared.error.CreateStreamErrorKind.{CreateStreamErrorKind}
use Rattle.js_call_streams.specs.declared.handle.StreamHandle.{StreamHandle}
use Rattle.js_call_streams.specs.declared.create.CreatingStream.{CreatingStream}
use Rattle.js_call_streams.specs.declared.get_or_create.StreamLookup.{StreamLookup}
use Rattle.js_call_streams.specs.Error.{create_failure, api_error}
use Rattle.js_call_streams.specs.SourceDomains.{two_places, placed_in}
use Rattle.js_call_streams.specs.Refusal.{name_refusal, create_refusal}

-- the body is the text of the configuration
abbrev pub IsTextOf : Config → List ℕ → Type 0
IsTextOf config body = text_of (config_value config) ≡ Ok body

-- a request on words and the name of a configuration, whose body is its text
abbrev pub AsksWith : ApiScope → List ℕ → Config → RawCall → Type 0
AsksWith scope words config asked = (body : List ℕ) × IsTextOf config body × (asked ≡ asking scope (under words config.name) body)

-- ---- create_stream

-- the stream, or the API's error
abbrev pub created : CreatingStream → Response Info → Result (StreamHandle Info) (Error CreateStreamErrorKind)
created s (response.Ok info) = Ok (record { scope = s.scope; name = s.name; info = info; kept = None })
created s (response.Err error) = Err (api_error error)

-- the row of `create_stream`
abbrev pub create_row : Table CreatingStream (Response Info) (Result (StreamHandle Info) (Error CreateStreamErrorKind))
create_row = record {
  refused = λ s. refused_by (option_map plain (create_refusal (name_refusal s.name) s.two_places));
  reads = reads_as (response_of (float_free info_fields));
  means = created;
  fails = λ s failure source. Err (create_failure failure source);
}

-- what the call keeps of its arguments
abbrev pub creating_stream : ApiScope → Config → CreatingStream
creating_stream scope config = record { scope = scope; name = config.name; two_places = two_places config }

-- a request for a stream that is to be made: it asks with the configuration in which domains are externals
abbrev pub AsksToCreate : ApiScope → Config → RawCall → Type 0
AsksToCreate scope config asked = AsksWith scope (codes "STREAM.CREATE") (placed_in config) asked

-- the call, which is not sent
abbrev pub Creates : ApiScope → Config → Call CreatingStream → Type 0
Creates scope config call =
    (asked : RawCall) × AsksToCreate scope config asked × (call ≡ calling (creating_stream scope config) asked)

-- ---- get_or_create_stream

-- the stream, or nothing where the API says 404, or its error
abbrev pub found : StreamLookup → Response Info → Result (Option (StreamHandle Info)) (Error CreateStreamErrorKind)
found s (response.Ok info) = Ok (Some (record { scope = s.scope; name = s.name; info = info; kept = None }))
found s (response.Err error) = if error.code == 404 then Ok None else Err (api_error error)

-- the row of the first of its two calls
abbrev pub lookup_table : Table StreamLookup (Response Info) (Result (Option (StreamHandle Info)) (Error CreateStreamErrorKind))
lookup_table = record {
  refused = λ s. refused_by (option_map plain (name_refusal s.name));
  reads = reads_as (response_of (float_free info_fields));
  means = found;
  fails = λ s failure source. Err (create_failure failure source);
}

-- the first call, which is not sent
abbrev pub lookup : ApiScope → List ℕ → Call StreamLookup
lookup scope name = calling (record { scope = scope; name = name }) (asking scope (under (codes "STREAM.INFO") name) (codes "null"))

-- a first call, and then the one that makes the stream, which is not sent
abbrev pub OrCreates : {A : Type 0} → A → ApiScope → Config → Then A (Call CreatingStream) IfAbsent → Type 0
OrCreates first scope config calls =
    (create : Call CreatingStream) × Creates scope config create × (calls ≡ First first create (record {}))

-- the calls, of which none is sent
abbrev pub FindsOrCreates : ApiScope → Config → Then (Call StreamLookup) (Call CreatingStream) IfAbsent → Type 0
FindsOrCreates scope config calls =
    (create : Call CreatingStream) × Creates scope config create × (calls ≡ First (lookup scope config.name) create (record {}))
