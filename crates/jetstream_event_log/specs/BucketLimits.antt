-- The limits of a stream, as its configuration says them, and which buckets keep the last of each key.
use Rattle.std.specs.Prelude.{ℕ, ℤ, ◌≡◌, ◌||◌, pos, negsuc, int_lt, Bool, true, false, not, List, codes, Some, None, refl}
use Rattle.js_json_stream_bodies.specs.StreamConfig.{new_config as new_stream}
use Rattle.js_json_stream_bodies.specs.declared.stream.config.Config.{Config as StreamConfig}
use Rattle.js_json_stream_bodies.specs.declared.stream.policies.DiscardPolicy.{DiscardPolicy}
use Rattle.js_json_stream_bodies.specs.declared.stream.policies.DiscardPolicy.TheVariants.{New, Old}
use Rattle.js_json_stream_bodies.specs.declared.stream.policies.RetentionPolicy.{RetentionPolicy}
use Rattle.js_json_stream_bodies.specs.declared.stream.policies.RetentionPolicy.TheVariants as retention
use Rattle.js_ordered_table.specs.declared.setup.OrderedSetup.{OrderedSetup}
use Rattle.js_ordered_table.specs.Gapless.{Server, IsGapless}
use Rattle.js_ordered_table.specs.Gapless as gapless
use Rattle.js_ordered_table.specs.Texts.{configured_start}
use Rattle.js_store.specs.Kv.{named, stream_config}
use Rattle.js_store.specs.declared.kv.Config.{Config}
use Rattle.js_store_keys.specs.declared.entry.Entry.{Entry}
use Rattle.js_store_table.specs.BucketLog.{AreOvertaken, IsBucketLog, TellYields, last_from}
use Rattle.js_store_table.specs.Removals.{Limits, KeepsLast, LastStays, RemovesWithin}
use Rattle.js_store_table.specs.TableRows.{KeyRows, IsTable}
use Rattle.jetstream_event_log.specs.KeyPlaces.{history_in}

-- ---- the limits of a stream

-- a stream may be full where its messages or its bytes have a limit: 0 and below set none
abbrev pub may_be_full : StreamConfig → Bool
may_be_full c = int_lt (pos 0) c.max_messages || int_lt (pos 0) c.max_bytes

-- a full stream refuses new messages, or drops its oldest ones
abbrev pub refuses_by : DiscardPolicy → Bool → Bool
refuses_by New full = true
refuses_by Old full = not full

-- a message stays once its consumers have acknowledged it
abbrev pub keeps_by : RetentionPolicy → Bool
keeps_by retention.Limits = true
keeps_by retention.Interest = false
keeps_by retention.WorkQueue = false

-- what a configuration says of the messages that its server removes
abbrev pub limits_of : StreamConfig → Limits
limits_of c = record {
  messages_per_subject = history_in c.max_messages_per_subject;
  max_age = c.max_age;
  allows_message_ttl = c.allow_message_ttl;
  refuses_when_full = refuses_by c.discard (may_be_full c);
  keeps_acknowledged = keeps_by c.retention;
  denies_delete = c.deny_delete;
}

-- an answer to whether these limits keep the last of each key
abbrev pub IsAnswer : Limits → Bool → Type 0
IsAnswer limits true = KeepsLast limits
IsAnswer limits false = KeepsLast limits → ⊥

-- ---- those of a bucket

-- the limits of the stream that a bucket is
abbrev pub bucket_limits : Config → Limits
bucket_limits config = limits_of (stream_config config)

-- no value of a bucket expires: it has no limit of age, and no markers, with which a value may say by itself how long it is kept
pub record NothingExpires (config : Config) : Type 0 where
  pub without_age : config.max_age ≡ 0
  pub without_markers : config.limit_markers ≡ None

-- where nothing expires, what the bucket's server removed within the bucket's limits was overtaken, by the bucket's history
abbrev pub BucketOvertakes : Config → List ℕ → List Entry → Type 0
BucketOvertakes config removed log =
    NothingExpires config → RemovesWithin (bucket_limits config) removed log → AreOvertaken (bucket_limits config).messages_per_subject removed log

-- and the last change of each key was not removed
abbrev pub BucketKeepsLast : Config → List ℕ → List Entry → Type 0
BucketKeepsLast config removed log = NothingExpires config → RemovesWithin (bucket_limits config) removed log → LastStays removed log

-- where the yields leave no gap too, the rows of the changes told are those of the bucket's log
abbrev pub BucketHasRows : Server → OrderedSetup → List gapless.Entry → Config → KeyRows → List Entry → Type 0
BucketHasRows s setup yields config rows told =
    (prefix : List ℕ) (start : ℕ) (log : List Entry) → NothingExpires config → IsGapless s setup yields → configured_start setup ≡ Some start
    → IsBucketLog s setup prefix start (last_from 0 told) log → TellYields yields log told → RemovesWithin (bucket_limits config) s.removed log
    → IsTable (bucket_limits config).messages_per_subject rows told → IsTable (bucket_limits config).messages_per_subject rows log

-- ---- worked configurations

-- the limits under which so many messages of a subject are kept, and nothing else goes
abbrev pub only_per_subject : ℕ → Limits
only_per_subject count = record {
  messages_per_subject = count;
  max_age = 0;
  allows_message_ttl = false;
  refuses_when_full = true;
  keeps_acknowledged = true;
  denies_delete = true;
}

-- the bucket `cfg` with a history of 5, which is full at 1000 bytes
abbrev pub five_kept : Config
five_kept = record (named (codes "cfg")) { history = pos 5; max_bytes = pos 1000 }

-- a full bucket refuses new values
keeps_five : bucket_limits five_kept ≡ only_per_subject 5
keeps_five = refl

-- a bucket that says nothing of its history keeps one value of each key
keeps_one : bucket_limits (named (codes "cfg")) ≡ only_per_subject 1
keeps_one = refl

-- a value goes after a second, whatever the history is
goes_after_a_second : (bucket_limits (record five_kept { max_age = 1_000_000_000 })).max_age ≡ 1_000_000_000
goes_after_a_second = refl

-- with markers a value may say by itself how long it is kept
may_go_by_itself : (bucket_limits (record five_kept { limit_markers = Some 1_000_000_000 })).allows_message_ttl ≡ true
may_go_by_itself = refl

-- a stream that drops its oldest messages, with these limits of messages and of bytes; such a stream is no bucket of ours
abbrev pub drops_oldest : ℤ → ℤ → StreamConfig
drops_oldest messages bytes = record new_stream { discard = Old; max_messages = messages; max_bytes = bytes }

-- it drops messages where it has a limit of either
full_streams_drop : ((limits_of (drops_oldest (pos 0) (pos 1000))).refuses_when_full ≡ false) × ((limits_of (drops_oldest (pos 9) (pos 0))).refuses_when_full ≡ false)
full_streams_drop = (refl, refl)

-- and none where it has no limit
none_is_dropped : (limits_of (drops_oldest (negsuc 0) (pos 0))).refuses_when_full ≡ true
none_is_dropped = refl
