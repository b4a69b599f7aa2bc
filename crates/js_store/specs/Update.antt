-- Changing a bucket of keys: rows of the table of calls on buckets.
use Rattle.std.specs.Prelude.{◌≡◌, None, Result, Ok, Err}
use Rattle.js_base.specs.Error.{caused, kind_of}
use Rattle.js_base.specs.declared.error.Error.{Error}
use Rattle.js_store.specs.Kv.{stream_config}
use Rattle.js_store.specs.SourceBuckets.{stream_name}
use Rattle.js_store.specs.declared.kv.Config.{Config}
use Rattle.js_json_stream_bodies.specs.declared.stream.info.Info.{Info}
use Rattle.js_call.specs.declared.call.Call.{Call}
use Rattle.js_call.specs.declared.scope.ApiScope.{ApiScope}
use Rattle.js_call.specs.declared.call_sequence.Then.{Then}
use Rattle.js_call_streams.specs.Update.{Updates, UpdatesOrCreates}
use Rattle.js_call_streams.specs.declared.create_or_update.CreatingInfo.{CreatingInfo}
use Rattle.js_call_streams.specs.declared.create_or_update.IfNotFound.{IfNotFound}
use Rattle.js_call_streams.specs.declared.error.CreateStreamErrorKind.{CreateStreamErrorKind}
use Rattle.js_call_streams.specs.declared.error.CreateStreamErrorKind.TheVariants as streams
use Rattle.js_call_streams.specs.declared.update.UpdatingStream.{UpdatingStream}
use Rattle.js_store.specs.declared.update.ChangedBucket.{ChangedBucket}
use Rattle.js_store.specs.declared.update.CreatingOrUpdatingBucket.{CreatingOrUpdatingBucket}
use Rattle.js_store.specs.declared.update.UpdatingBucket.{UpdatingBucket}
use Rattle.js_store.specs.declared.error.CreateKeyValueErrorKind.{CreateKeyValueErrorKind}
use Rattle.js_store.specs.declared.error.CreateKeyValueErrorKind.TheVariants as creates
use Rattle.js_store.specs.declared.error.UpdateKeyValueErrorKind.{UpdateKeyValueErrorKind}
use Rattle.js_store.specs.declared.error.UpdateKeyValueErrorKind.TheVariants.{NotFound, JetStream}
use Rattle.js_store.specs.declared.api_level.IfAllowed.{IfAllowed}
use Rattle.js_store.specs.declared.bucket_call.BucketCall.{BucketCall}
use Rattle.js_store.specs.declared.store.Store.{Store}
use Rattle.js_store.specs.declared.store.StoreNames.{StoreNames}
use Rattle.js_store.specs.ApiLevel.{LevelCall, LevelFirst}
use Rattle.js_store.specs.BucketCall.{Row, asking}
use Rattle.js_store.specs.Store.{answered_names, store_of}

-- the bucket that is changed, as its configuration names it
abbrev pub changed_bucket : ApiScope → Config → ChangedBucket
changed_bucket scope config = record { bucket = config.bucket; scope = scope; stream_name = stream_name config.bucket }

-- the name of its stream, and where its values are, by what the server answers
abbrev pub changed_names : ChangedBucket → Info → StoreNames
changed_names changed info = answered_names changed.scope.prefix changed.bucket info.config

-- the bucket, with what the server answers of its stream
abbrev pub changed_store : ChangedBucket → Info → StoreNames → Store
changed_store changed info names = store_of changed.bucket names (record { scope = changed.scope; name = changed.stream_name; info = info; kept = None })

-- ---- update_key_value

-- what a stream that was not changed means: one that is not there is told
abbrev pub changes_kind : CreateStreamErrorKind → UpdateKeyValueErrorKind
changes_kind streams.NotFound = NotFound
changes_kind kind = JetStream

-- the row of the second call of `update_key_value`
abbrev pub update_row : Row UpdatingBucket Info (Error CreateStreamErrorKind) StoreNames (Result Store (Error UpdateKeyValueErrorKind))
update_row = record {
  refused = λ s. None;
  needs = λ s info. changed_names s.changed info;
  accepts = λ s info names. Ok (changed_store s.changed info names);
  refuses = λ s error source. Err (caused (changes_kind (kind_of error)) source);
}

-- the second call
abbrev pub UpdateCall : Type 0
UpdateCall = BucketCall (Call UpdatingStream) Info (Error CreateStreamErrorKind) UpdatingBucket

-- the second call, which is not sent: it changes the stream that the bucket is
abbrev pub UpdatesStream : ApiScope → Config → UpdateCall → Type 0
UpdatesStream scope config call =
    (update : Call UpdatingStream) × Updates scope (stream_config config) update × (call ≡ asking (record { changed = changed_bucket scope config }) update)

-- the calls, of which none is sent: the account is asked for, and then the stream is changed
abbrev pub UpdatesBucket : ApiScope → Config → Then LevelCall UpdateCall IfAllowed → Type 0
UpdatesBucket = LevelFirst UpdatesStream

-- ---- create_or_update_key_value

-- the row of the second call of `create_or_update_key_value`
abbrev pub create_or_update_row : Row CreatingOrUpdatingBucket Info (Error CreateStreamErrorKind) StoreNames (Result Store (Error CreateKeyValueErrorKind))
create_or_update_row = record {
  refused = λ s. None;
  needs = λ s info. changed_names s.changed info;
  accepts = λ s info names. Ok (changed_store s.changed info names);
  refuses = λ s error source. Err (caused creates.JetStream source);
}

-- the calls on the stream, and the second call
abbrev pub CreateOrUpdateStreamCall : Type 0
CreateOrUpdateStreamCall = Then (Call UpdatingStream) (Call CreatingInfo) IfNotFound

abbrev pub CreateOrUpdateCall : Type 0
CreateOrUpdateCall = BucketCall CreateOrUpdateStreamCall Info (Error CreateStreamErrorKind) CreatingOrUpdatingBucket

-- the second call, which is not sent: it changes the stream that the bucket is, or makes it
abbrev pub CreatesOrUpdatesStream : ApiScope → Config → CreateOrUpdateCall → Type 0
CreatesOrUpdatesStream scope config call =
    (put : CreateOrUpdateStreamCall) × UpdatesOrCreates scope (stream_config config) put × (call ≡ asking (record { changed = changed_bucket scope config }) put)

-- the calls, of which none is sent: the account is asked for, and then the stream is changed, or made
abbrev pub CreatesOrUpdatesBucket : ApiScope → Config → Then LevelCall CreateOrUpdateCall IfAllowed → Type 0
CreatesOrUpdatesBucket = LevelFirst CreatesOrUpdatesStream
