-- What a server may remove from a bucket by the limits of the bucket's stream, and which limits leave the last of each key.
use Rattle.std.specs.Prelude.{ℕ, ◌≡◌, ◌<◌, ◌≤◌, ◌⊎◌, ⊤, Bool, true, false, List, [], ◌∷◌, length, Contains, Some}
use Rattle.js_store_keys.specs.declared.entry.Entry.{Entry}
use Rattle.js_ordered_table.specs.declared.setup.OrderedSetup.{OrderedSetup}
use Rattle.js_ordered_table.specs.Gapless.{Server, IsGapless}
use Rattle.js_ordered_table.specs.Gapless as gapless
use Rattle.js_ordered_table.specs.Texts.{configured_start}
use Rattle.js_store_table.specs.BucketLog.{AreOvertaken, HasPurge, IsBucketLog, TellYields, last_from}
use Rattle.js_store_table.specs.KeyHistory.{changes_of}
use Rattle.js_store_table.specs.TableRows.{KeyRows, IsTable}

-- what the configuration of a stream says of the messages that its server removes
pub record Limits : Type 0 where
  -- how many messages of a subject are kept, of which the oldest go first; 0 sets no limit
  pub messages_per_subject : ℕ
  -- how long a message is kept, in nanoseconds; 0 sets no limit
  pub max_age : ℕ
  -- whether a message may say by itself how long it is kept
  pub allows_message_ttl : Bool
  -- whether a full stream refuses new messages; otherwise its oldest messages go
  pub refuses_when_full : Bool
  -- whether messages stay that consumers have acknowledged
  pub keeps_acknowledged : Bool
  -- whether requests to delete a message are denied
  pub denies_delete : Bool

-- ---- why a message goes

-- its subject has its limit of later messages
abbrev pub IsAboveLimit : Limits → Entry → List Entry → Type 0
IsAboveLimit limits entry later = (0 < limits.messages_per_subject) × (limits.messages_per_subject ≤ length (changes_of entry.key later))

-- a later purge of its key has rolled up its subject
abbrev pub IsRolledUp : Entry → List Entry → Type 0
IsRolledUp entry later = HasPurge (changes_of entry.key later)

-- it was kept for as long as the stream keeps messages, or for as long as it said itself
abbrev pub MayExpire : Limits → Type 0
MayExpire limits = (0 < limits.max_age) ⊎ (limits.allows_message_ttl ≡ true)

-- the stream was full, the message was acknowledged, or a request deleted it
abbrev pub MayBeDropped : Limits → Type 0
MayBeDropped limits = (limits.refuses_when_full ≡ false) ⊎ (limits.keeps_acknowledged ≡ false) ⊎ (limits.denies_delete ≡ false)

-- the server may remove a message for one of these reasons, where these changes are later
abbrev pub MayRemove : Limits → Entry → List Entry → Type 0
MayRemove limits entry later = IsAboveLimit limits entry later ⊎ IsRolledUp entry later ⊎ MayExpire limits ⊎ MayBeDropped limits

-- each removed message of the log was one that the server may remove
abbrev pub RemovesWithin : Limits → List ℕ → List Entry → Type 0
RemovesWithin limits removed [] = ⊤
RemovesWithin limits removed (entry ∷ log) = (Contains removed entry.revision → MayRemove limits entry log) × RemovesWithin limits removed log

-- ---- what stays

-- no message goes but for its subject's limit or a purge: none expires, a full stream refuses, and nobody deletes one
pub record KeepsLast (limits : Limits) : Type 0 where
  pub without_age : limits.max_age ≡ 0
  pub without_ttl : limits.allows_message_ttl ≡ false
  pub refuses : limits.refuses_when_full ≡ true
  pub retains : limits.keeps_acknowledged ≡ true
  pub denies : limits.denies_delete ≡ true

-- the last change of each key is still there
abbrev pub LastStays : List ℕ → List Entry → Type 0
LastStays removed [] = ⊤
LastStays removed (entry ∷ log) = (changes_of entry.key log ≡ [] → Contains removed entry.revision → ⊥) × LastStays removed log

-- ---- the promise

-- what the server of such a bucket removed was overtaken, by the history that the bucket keeps
abbrev pub LimitsOvertake : Limits → List ℕ → List Entry → Type 0
LimitsOvertake limits removed log = KeepsLast limits → RemovesWithin limits removed log → AreOvertaken limits.messages_per_subject removed log

-- and the last change of each key was not removed
abbrev pub LimitsKeepLast : Limits → List ℕ → List Entry → Type 0
LimitsKeepLast limits removed log = KeepsLast limits → RemovesWithin limits removed log → LastStays removed log

-- where the yields leave no gap and such a bucket's server removed within its limits, the rows of the changes told are those of the log
abbrev pub HasBucketsRows : Server → OrderedSetup → List gapless.Entry → Limits → KeyRows → List Entry → Type 0
HasBucketsRows s setup yields limits rows told =
    (prefix : List ℕ) (start : ℕ) (log : List Entry) → IsGapless s setup yields → configured_start setup ≡ Some start
    → IsBucketLog s setup prefix start (last_from 0 told) log → TellYields yields log told → KeepsLast limits → RemovesWithin limits s.removed log
    → IsTable limits.messages_per_subject rows told → IsTable limits.messages_per_subject rows log
