-- Making and changing a bucket of keys: rows of the table of calls on buckets.
use Rattle.std.specs.Prelude.{◌≡◌, None, Result, Ok, Err}
use Rattle.js_base.specs.Error.{caused, kind_of}
use Rattle.js_base.specs.declared.error.Error.{Error}
use Rattle.js_store.specs.Kv.{stream_config}
use Rattle.js_store.specs.declared.kv.Config.{Config}
use Rattle.js_json_stream_bodies.specs.declared.stream.info.Info.{Info}
use Rattle.js_call.specs.declared.call.Call.{Call}
use Rattle.js_call.specs.declared.scope.ApiScope.{ApiScope}
use Rattle.js_call.specs.declared.call_sequence.Then.{Then}
use Rattle.js_call_streams.specs.Create.{Creates}
use Rattle.js_call_streams.specs.declared.create.CreatingStream.{CreatingStream}
use Rattle.js_call_streams.specs.declared.error.CreateStreamErrorKind.{CreateStreamErrorKind}
use Rattle.js_call_streams.specs.declared.error.CreateStreamErrorKind.TheVariants as streams
use Rattle.js_call_streams.specs.declared.handle.StreamHandle.{StreamHandle}
use Rattle.js_store.specs.declared.create.CreatingBucket.{CreatingBucket}
use Rattle.js_store.specs.declared.error.CreateKeyValueErrorKind.{CreateKeyValueErrorKind}
use Rattle.js_store.specs.declared.error.CreateKeyValueErrorKind.TheVariants.{TimedOut, BucketCreate}
use Rattle.js_store.specs.declared.api_level.IfAllowed.{IfAllowed}
use Rattle.js_store.specs.declared.bucket_call.BucketCall.{BucketCall}
use Rattle.js_store.specs.declared.store.Store.{Store}
use Rattle.js_store.specs.declared.store.StoreNames.{StoreNames}
use Rattle.js_store.specs.ApiLevel.{LevelCall, LevelFirst}
use Rattle.js_store.specs.BucketCall.{Row, asking}
use Rattle.js_store.specs.Store.{answered_names, store_of}

-- what a stream that was not made means: a timeout is told
abbrev pub creates_kind : CreateStreamErrorKind → CreateKeyValueErrorKind
creates_kind streams.TimedOut = TimedOut
creates_kind kind = BucketCreate

-- the row of the second call of `create_key_value`
abbrev pub create_row : Row CreatingBucket (StreamHandle Info) (Error CreateStreamErrorKind) StoreNames (Result Store (Error CreateKeyValueErrorKind))
create_row = record {
  refused = λ s. None;
  needs = λ s handle. answered_names handle.scope.prefix s.bucket handle.info.config;
  accepts = λ s handle names. Ok (store_of s.bucket names handle);
  refuses = λ s error source. Err (caused (creates_kind (kind_of error)) source);
}

-- the second call
abbrev pub CreateCall : Type 0
CreateCall = BucketCall (Call CreatingStream) (StreamHandle Info) (Error CreateStreamErrorKind) CreatingBucket

-- the second call, which is not sent: it makes the stream that the bucket is
abbrev pub CreatesStream : ApiScope → Config → CreateCall → Type 0
CreatesStream scope config call =
    (create : Call CreatingStream) × Creates scope (stream_config config) create × (call ≡ asking (record { bucket = config.bucket }) create)

-- the calls, of which none is sent: the account is asked for, and then the stream is made
abbrev pub CreatesBucket : ApiScope → Config → Then LevelCall CreateCall IfAllowed → Type 0
CreatesBucket = LevelFirst CreatesStream
