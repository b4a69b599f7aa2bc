-- Getting and deleting a bucket of keys: rows of the table of calls on buckets.
use Rattle.std.specs.Prelude.{ℕ, pos, int_lt, if◌then◌else◌, Option, Some, None, option_map, List, Result, Ok, Err}
use Rattle.js_base.specs.Error.{plain, caused}
use Rattle.js_base.specs.declared.error.Error.{Error}
use Rattle.js_store.specs.Name.{is_bucket_name}
use Rattle.js_store.specs.SourceBuckets.{stream_name}
use Rattle.js_json_stream_bodies.specs.declared.stream.delete_status.DeleteStatus.{DeleteStatus}
use Rattle.js_json_stream_bodies.specs.declared.stream.info.Info.{Info}
use Rattle.js_call.specs.declared.call.Call.{Call}
use Rattle.js_call.specs.declared.scope.ApiScope.{ApiScope}
use Rattle.js_call.specs.Table.{refused_by}
use Rattle.js_call_streams.specs.GetAndDelete as streams
use Rattle.js_call_streams.specs.declared.delete.DeletingStream.{DeletingStream}
use Rattle.js_call_streams.specs.declared.error.GetStreamErrorKind.{GetStreamErrorKind}
use Rattle.js_call_streams.specs.declared.get.GettingStream.{GettingStream}
use Rattle.js_call_streams.specs.declared.handle.StreamHandle.{StreamHandle}
use Rattle.js_store.specs.declared.delete.DeletingBucket.{DeletingBucket}
use Rattle.js_store.specs.declared.error.KeyValueErrorKind.{KeyValueErrorKind}
use Rattle.js_store.specs.declared.error.KeyValueErrorKind.TheVariants.{InvalidStoreName, GetBucket, JetStream}
use Rattle.js_store.specs.declared.get.GettingBucket.{GettingBucket}
use Rattle.js_store.specs.declared.bucket_call.BucketCall.{BucketCall}
use Rattle.js_store.specs.declared.store.Store.{Store}
use Rattle.js_store.specs.declared.store.StoreNames.{StoreNames}
use Rattle.js_store.specs.BucketCall.{Row, asking}
use Rattle.js_store.specs.Places.{places_of}
use Rattle.js_store.specs.Store.{store_of}

-- what a name is refused with
abbrev pub name_refusal : List ℕ → Option KeyValueErrorKind
name_refusal bucket = if is_bucket_name bucket then None else Some InvalidStoreName

-- ---- get_key_value

-- the name of its stream, and where its values are, by the mirror that the stream is
abbrev pub got_names : List ℕ → StreamHandle Info → StoreNames
got_names bucket handle = record { stream_name = stream_name bucket; places = places_of handle.scope.prefix bucket handle.info.config.mirror }

-- the bucket, unless its stream keeps no value of a key
abbrev pub got : List ℕ → StreamHandle Info → StoreNames → Result Store (Error KeyValueErrorKind)
got bucket handle names =
    if int_lt handle.info.config.max_messages_per_subject (pos 1) then Err (plain InvalidStoreName) else Ok (store_of bucket names handle)

-- the row of `get_key_value`
abbrev pub get_row : Row GettingBucket (StreamHandle Info) (Error GetStreamErrorKind) StoreNames (Result Store (Error KeyValueErrorKind))
get_row = record {
  refused = λ s. refused_by (option_map plain (name_refusal s.bucket));
  needs = λ s handle. got_names s.bucket handle;
  accepts = λ s handle names. got s.bucket handle names;
  refuses = λ s error source. Err (caused GetBucket source);
}

-- the call, which is not sent: it gets the bucket's stream
abbrev pub getting : ApiScope → List ℕ → BucketCall (Call GettingStream) (StreamHandle Info) (Error GetStreamErrorKind) GettingBucket
getting scope bucket = asking (record { bucket = bucket }) (streams.getting scope (stream_name bucket))

-- ---- delete_key_value

-- the row of `delete_key_value`
abbrev pub delete_row : Row DeletingBucket DeleteStatus (Error GetStreamErrorKind) (Unit {0}) (Result DeleteStatus (Error KeyValueErrorKind))
delete_row = record {
  refused = λ s. refused_by (option_map plain (name_refusal s.bucket));
  needs = λ s status. tt;
  accepts = λ s status needs. Ok status;
  refuses = λ s error source. Err (caused JetStream source);
}

-- the call, which is not sent: it deletes the bucket's stream
abbrev pub deleting : ApiScope → List ℕ → BucketCall (Call DeletingStream) DeleteStatus (Error GetStreamErrorKind) DeletingBucket
deleting scope bucket = asking (record { bucket = bucket }) (streams.deleting scope (stream_name bucket))
