-- Buckets of objects: rows of the table of calls on buckets.
use Rattle.std.specs.Prelude.{ℕ, ◌≡◌, if◌then◌else◌, Option, Some, None, option_map, List, Result, Ok, Err}
use Rattle.js_base.specs.Error.{plain, caused}
use Rattle.js_base.specs.declared.error.Error.{Error}
use Rattle.js_store.specs.Name.{is_bucket_name}
use Rattle.js_store.specs.ObjectStore.{stream_name, stream_config}
use Rattle.js_store.specs.declared.object_store.Config.{Config}
use Rattle.js_json_stream_bodies.specs.declared.stream.delete_status.DeleteStatus.{DeleteStatus}
use Rattle.js_json_stream_bodies.specs.declared.stream.info.Info.{Info}
use Rattle.js_call.specs.declared.call.Call.{Call}
use Rattle.js_call.specs.declared.scope.ApiScope.{ApiScope}
use Rattle.js_call.specs.Table.{refused_by}
use Rattle.js_call_streams.specs.Create.{Creates}
use Rattle.js_call_streams.specs.GetAndDelete as streams
use Rattle.js_call_streams.specs.declared.create.CreatingStream.{CreatingStream}
use Rattle.js_call_streams.specs.declared.delete.DeletingStream.{DeletingStream}
use Rattle.js_call_streams.specs.declared.error.CreateStreamErrorKind.{CreateStreamErrorKind}
use Rattle.js_call_streams.specs.declared.error.GetStreamErrorKind.{GetStreamErrorKind}
use Rattle.js_call_streams.specs.declared.get.GettingStream.{GettingStream}
use Rattle.js_call_streams.specs.declared.handle.StreamHandle.{StreamHandle}
use Rattle.js_store.specs.declared.error.CreateKeyValueErrorKind.{CreateKeyValueErrorKind}
use Rattle.js_store.specs.declared.error.CreateKeyValueErrorKind.TheVariants.{InvalidStoreName, BucketCreate}
use Rattle.js_store.specs.declared.error.ObjectStoreErrorKind.{ObjectStoreErrorKind}
use Rattle.js_store.specs.declared.error.ObjectStoreErrorKind.TheVariants.{InvalidBucketName, GetStore}
use Rattle.js_store.specs.declared.object_calls.CreatingObjects.{CreatingObjects}
use Rattle.js_store.specs.declared.object_calls.DeletingObjects.{DeletingObjects}
use Rattle.js_store.specs.declared.object_calls.GettingObjects.{GettingObjects}
use Rattle.js_store.specs.declared.bucket_call.BucketCall.{BucketCall}
use Rattle.js_store.specs.declared.store.ObjectStore.{ObjectStore}
use Rattle.js_store.specs.BucketCall.{Row, asking}

-- the bucket of a name
abbrev pub objects_of : List ℕ → StreamHandle Info → ObjectStore
objects_of name stream = record { name = name; stream = stream }

-- ---- get_object_store

-- what a name is refused with
abbrev pub get_refusal : List ℕ → Option ObjectStoreErrorKind
get_refusal bucket = if is_bucket_name bucket then None else Some InvalidBucketName

-- the row of `get_object_store`
abbrev pub get_row : Row GettingObjects (StreamHandle Info) (Error GetStreamErrorKind) (Unit {0}) (Result ObjectStore (Error ObjectStoreErrorKind))
get_row = record {
  refused = λ s. refused_by (option_map plain (get_refusal s.bucket));
  needs = λ s handle. tt;
  accepts = λ s handle needs. Ok (objects_of s.bucket handle);
  refuses = λ s error source. Err (caused GetStore source);
}

-- the call, which is not sent: it gets the bucket's stream
abbrev pub getting : ApiScope → List ℕ → BucketCall (Call GettingStream) (StreamHandle Info) (Error GetStreamErrorKind) GettingObjects
getting scope bucket = asking (record { bucket = bucket }) (streams.getting scope (stream_name bucket))

-- ---- create_object_store

-- what a name is refused with
abbrev pub creates_refusal : List ℕ → Option CreateKeyValueErrorKind
creates_refusal bucket = if is_bucket_name bucket then None else Some InvalidStoreName

-- the row of `create_object_store`
abbrev pub create_row : Row CreatingObjects (StreamHandle Info) (Error CreateStreamErrorKind) (Unit {0}) (Result ObjectStore (Error CreateKeyValueErrorKind))
create_row = record {
  refused = λ s. refused_by (option_map plain (creates_refusal s.bucket));
  needs = λ s handle. tt;
  accepts = λ s handle needs. Ok (objects_of s.bucket handle);
  refuses = λ s error source. Err (caused BucketCreate source);
}

-- the call, which is not sent: it makes the stream that the bucket is
abbrev pub CreatesObjects : ApiScope → Config → BucketCall (Call CreatingStream) (StreamHandle Info) (Error CreateStreamErrorKind) CreatingObjects → Type 0
CreatesObjects scope config call =
    (create : Call CreatingStream) × Creates scope (stream_config config) create × (call ≡ asking (record { bucket = config.bucket }) create)

-- ---- delete_object_store

-- the row of `delete_object_store`, which tests no name of a bucket
abbrev pub delete_row : Row DeletingObjects DeleteStatus (Error GetStreamErrorKind) (Unit {0}) (Result (Unit {0}) (Error ObjectStoreErrorKind))
delete_row = record {
  refused = λ s. None;
  needs = λ s status. tt;
  accepts = λ s status needs. Ok tt;
  refuses = λ s error source. Err (caused GetStore source);
}

-- the call, which is not sent: it deletes the bucket's stream
abbrev pub deleting : ApiScope → List ℕ → BucketCall (Call DeletingStream) DeleteStatus (Error GetStreamErrorKind) DeletingObjects
deleting scope bucket = asking (record {}) (streams.deleting scope (stream_name bucket))
