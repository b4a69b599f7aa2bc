-- How the refusals of calls on buckets are printed.
use Rattle.std.specs.Prelude.{ℕ, List, codes}
use Rattle.js_store.specs.declared.error.KeyValueErrorKind.{KeyValueErrorKind}
use Rattle.js_store.specs.declared.error.KeyValueErrorKind.TheVariants as gets
use Rattle.js_store.specs.declared.error.CreateKeyValueErrorKind.{CreateKeyValueErrorKind}
use Rattle.js_store.specs.declared.error.CreateKeyValueErrorKind.TheVariants as creates
use Rattle.js_store.specs.declared.error.UpdateKeyValueErrorKind.{UpdateKeyValueErrorKind}
use Rattle.js_store.specs.declared.error.UpdateKeyValueErrorKind.TheVariants as updates
use Rattle.js_store.specs.declared.error.ObjectStoreErrorKind.{ObjectStoreErrorKind}
use Rattle.js_store.specs.declared.error.ObjectStoreErrorKind.TheVariants as objects

-- a bucket of keys was not got, or not deleted
abbrev pub key_value_text : KeyValueErrorKind → List ℕ
key_value_text gets.InvalidStoreName = codes "invalid Key Value Store name"
key_value_text gets.GetBucket = codes "failed to get the bucket"
key_value_text gets.JetStream = codes "JetStream error"

-- a bucket was not made
abbrev pub create_text : CreateKeyValueErrorKind → List ℕ
create_text creates.InvalidStoreName = codes "invalid Key Value Store name"
create_text creates.TooLongHistory = codes "too long history"
create_text creates.JetStream = codes "JetStream error"
create_text creates.BucketCreate = codes "bucket creation failed"
create_text creates.TimedOut = codes "timed out"
create_text creates.LimitMarkersNotSupported = codes "limit markers not supported"

-- a bucket of keys was not changed
abbrev pub update_text : UpdateKeyValueErrorKind → List ℕ
update_text updates.InvalidStoreName = codes "invalid Key Value Store name"
update_text updates.TooLongHistory = codes "too long history"
update_text updates.JetStream = codes "JetStream error"
update_text updates.BucketUpdate = codes "bucket creation failed"
update_text updates.TimedOut = codes "timed out"
update_text updates.LimitMarkersNotSupported = codes "limit markers not supported"
update_text updates.NotFound = codes "bucket does not exist"

-- a bucket of objects was not got, or not deleted
abbrev pub objects_text : ObjectStoreErrorKind → List ℕ
objects_text objects.InvalidBucketName = codes "invalid Object Store bucket name"
objects_text objects.GetStore = codes "failed to get Object Store"
