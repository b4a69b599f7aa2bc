-- Getting and deleting streams: rows of the table of calls.
use Rattle.std.specs.Prelude.{ℕ, ◌≡◌, Option, Some, None, option_map, List, codes, Result, Ok, Err}
use Rattle.js_base.specs.Error.{plain}
use Rattle.js_base.specs.declared.error.Error.{Error}
use Rattle.js_json_members.specs.Member.{float_free}
use Rattle.js_json.specs.Response.{response_of}
use Rattle.js_json.specs.declared.response.Response.{Response}
use Rattle.js_json.specs.declared.response.Response.TheVariants as response
use Rattle.js_json_stream_bodies.specs.DeleteStatus.{delete_status_fields}
use Rattle.js_json_stream_bodies.specs.declared.stream.delete_status.DeleteStatus.{DeleteStatus}
use Rattle.js_json_stream_bodies.specs.declared.stream.info.Info.{Info}
use Rattle.js_call.specs.declared.call.Call.{Call}
use Rattle.js_call.specs.declared.scope.ApiScope.{ApiScope}
use Rattle.js_call.specs.Call.{calling}
use Rattle.js_call.specs.Scope.{asking, under}
use Rattle.js_call.specs.Table.{Table, reads_as, refused_by}
use Rattle.js_call_streams.specs.declared.error.GetStreamErrorKind.{GetStreamErrorKind}
use Rattle.js_call_streams.specs.declared.error.GetStreamErrorKind.TheVariants.{JetStream, OutOfMemory}
use Rattle.js_call_streams.specs.declared.handle.StreamHandle.{StreamHandle}
use Rattle.js_call_streams.specs.declared.get.GettingStream.{GettingStream}
use Rattle.js_call_streams.specs.declared.received_config.ReceivedInfo.{ReceivedInfo}
use Rattle.js_call_streams.specs.declared.delete.DeletingStream.{DeletingStream}
use Rattle.js_call_streams.specs.Error.{get_failure}
use Rattle.js_call_streams.specs.ReceivedConfig.{kept_info_fields}
use Rattle.js_call_streams.specs.Refusal.{get_refusal}

-- the stream, with its configuration as it was sent, or the API's error
abbrev pub got : GettingStream → Response ReceivedInfo → Result (StreamHandle Info) (Error GetStreamErrorKind)
got s (response.Ok read) = Ok (record { scope = s.scope; name = s.name; info = read.info; kept = Some read.config })
got s (response.Err error) = Err (plain (JetStream error))

-- the row of `get_stream`
abbrev pub get_row : Table GettingStream (Response ReceivedInfo) (Result (StreamHandle Info) (Error GetStreamErrorKind))
get_row = record {
  refused = λ s. refused_by (option_map plain (get_refusal s.name));
  reads = reads_as (response_of (float_free kept_info_fields));
  means = got;
  fails = λ s failure source. Err (get_failure source);
}

-- the call, which is not sent
abbrev pub getting : ApiScope → List ℕ → Call GettingStream
getting scope name = calling (record { scope = scope; name = name }) (asking scope (under (codes "STREAM.INFO") name) (codes "null"))

-- a handle of a stream of which nothing is known but its name
abbrev pub handle : ApiScope → List ℕ → StreamHandle (Unit {0})
handle scope name = record { scope = scope; name = name; info = tt; kept = None }

-- the handle, unless its name is refused or memory ran out
abbrev pub GivesHandleUnless : Option GetStreamErrorKind → Result (StreamHandle (Unit {0})) (Error GetStreamErrorKind) → ApiScope → List ℕ → Type 0
GivesHandleUnless (Some kind) result scope name = result ≡ Err (plain kind)
GivesHandleUnless None (Ok given) scope name = given ≡ handle scope name
GivesHandleUnless None (Err error) scope name = error ≡ plain OutOfMemory

-- what `get_stream_no_info` answers
abbrev pub GivesHandle : Result (StreamHandle (Unit {0})) (Error GetStreamErrorKind) → ApiScope → List ℕ → Type 0
GivesHandle result scope name = GivesHandleUnless (get_refusal name) result scope name

-- what was deleted, or the API's error
abbrev pub deleted : Response DeleteStatus → Result DeleteStatus (Error GetStreamErrorKind)
deleted (response.Ok status) = Ok status
deleted (response.Err error) = Err (plain (JetStream error))

-- the row of `delete_stream`
abbrev pub delete_row : Table DeletingStream (Response DeleteStatus) (Result DeleteStatus (Error GetStreamErrorKind))
delete_row = record {
  refused = λ s. refused_by (option_map plain (get_refusal s.name));
  reads = reads_as (response_of (float_free delete_status_fields));
  means = λ s reply. deleted reply;
  fails = λ s failure source. Err (get_failure source);
}

-- the call, which is not sent
abbrev pub deleting : ApiScope → List ℕ → Call DeletingStream
deleting scope name = calling (record { name = name }) (asking scope (under (codes "STREAM.DELETE") name) (codes "{}"))
