-- The configuration of a stream.
use Rattle.std.specs.Prelude.{pos, List, [], ◌∷◌, ◌++◌, None, false, not, Result, Ok}
use Rattle.serde_json.specs.Data.{Data, no_members}
use Rattle.js_json_members.specs.declared.key.Key.TheVariants as key
use Rattle.js_json_members.specs.declared.error.ReadError.{ReadError}
use Rattle.js_json_members.specs.Member.{◌>>=◌, required, optional, defaulted, text, truth, natural, integer, list_of, named}
use Rattle.js_json_members.specs.Member.{nested}
use Rattle.js_json_members.specs.Rows.{Writes, Row, row, with_rows, object_of, always, unless, where_some}
use Rattle.js_json_members.specs.Rows.{text_data, natural_data, integer_data, truth_data, list_data}
use Rattle.js_json_members.specs.Rows.{is_empty, is_zero, is_zero_integer}
use Rattle.js_json_stream_bodies.specs.declared.stream.config.Config.{Config}
use Rattle.js_json_stream_bodies.specs.declared.stream.config.reader.Basics.{Basics}
use Rattle.js_json_stream_bodies.specs.declared.stream.config.reader.Limits.{Limits}
use Rattle.js_json_stream_bodies.specs.declared.stream.config.reader.Rights.{Rights}
use Rattle.js_json_stream_bodies.specs.declared.stream.config.reader.Origins.{Origins}
use Rattle.js_json_stream_bodies.specs.declared.stream.policies.DiscardPolicy.TheVariants as discard_policy
use Rattle.js_json_stream_bodies.specs.declared.stream.policies.RetentionPolicy.TheVariants as retention_policy
use Rattle.js_json_stream_bodies.specs.declared.stream.policies.StorageType.TheVariants as storage_type
use Rattle.js_json_stream_bodies.specs.Compression.{compression_named, compression_data}
use Rattle.js_json_stream_bodies.specs.DiscardPolicy.{discard_policy_named, discard_policy_data}
use Rattle.js_json_stream_bodies.specs.Placement.{placement_fields, placement_data}
use Rattle.js_json_stream_bodies.specs.Republish.{republish_fields, republish_data}
use Rattle.js_json_stream_bodies.specs.RetentionPolicy.{retention_policy_named, retention_policy_data}
use Rattle.js_json_stream_bodies.specs.Source.{source_fields, source_data}
use Rattle.js_json_stream_bodies.specs.StorageType.{storage_type_named, storage_type_data}

-- every field is 0, false, empty, none or its enum's default
abbrev pub new_config : Config
new_config = record {
  name = [];
  retention = retention_policy.Limits;
  storage = storage_type.File;
  discard = discard_policy.Old;
  description = None;
  subjects = [];
  max_messages = pos 0;
  max_messages_per_subject = pos 0;
  max_bytes = pos 0;
  max_message_size = pos 0;
  max_age = 0;
  num_replicas = 0;
  republish = None;
  allow_rollup = false;
  deny_delete = false;
  deny_purge = false;
  allow_direct = false;
  mirror_direct = false;
  mirror = None;
  sources = None;
  compression = None;
  placement = None;
  allow_message_ttl = false;
  subject_delete_marker_ttl = None;
}

-- ---- reading

-- what it is called, what it takes in, and how it is kept
unfoldable pub basics : Data → Result Basics ReadError
basics d = do
  name ← required text key.Name d
  retention ← defaulted (named retention_policy_named) key.Retention retention_policy.Limits d
  storage ← defaulted (named storage_type_named) key.Storage storage_type.File d
  discard ← defaulted (named discard_policy_named) key.Discard discard_policy.Old d
  description ← optional text key.Description d
  subjects ← defaulted (list_of text) key.Subjects [] d
  Ok (record {
    name = name;
    retention = retention;
    storage = storage;
    discard = discard;
    description = description;
    subjects = subjects;
  })

-- what bounds it
unfoldable pub limits : Data → Result Limits ReadError
limits d = do
  max_messages ← defaulted integer key.MaxMsgs (pos 0) d
  max_messages_per_subject ← defaulted integer key.MaxMsgsPerSubject (pos 0) d
  max_bytes ← defaulted integer key.MaxBytes (pos 0) d
  max_message_size ← defaulted integer key.MaxMsgSize (pos 0) d
  max_age ← defaulted natural key.MaxAge 0 d
  num_replicas ← defaulted natural key.NumReplicas 0 d
  Ok (record {
    max_messages = max_messages;
    max_messages_per_subject = max_messages_per_subject;
    max_bytes = max_bytes;
    max_message_size = max_message_size;
    max_age = max_age;
    num_replicas = num_replicas;
  })

-- what may be done with its messages
unfoldable pub rights : Data → Result Rights ReadError
rights d = do
  republish ← optional (nested republish_fields) key.Republish d
  allow_rollup ← defaulted truth key.AllowRollupHdrs false d
  deny_delete ← defaulted truth key.DenyDelete false d
  deny_purge ← defaulted truth key.DenyPurge false d
  allow_direct ← defaulted truth key.AllowDirect false d
  mirror_direct ← defaulted truth key.MirrorDirect false d
  Ok (record {
    republish = republish;
    allow_rollup = allow_rollup;
    deny_delete = deny_delete;
    deny_purge = deny_purge;
    allow_direct = allow_direct;
    mirror_direct = mirror_direct;
  })

-- what it copies, and where it is kept
unfoldable pub origins : Data → Result Origins ReadError
origins d = do
  mirror ← optional (nested source_fields) key.Mirror d
  sources ← optional (list_of (nested source_fields)) key.Sources d
  compression ← optional (named compression_named) key.Compression d
  placement ← optional (nested placement_fields) key.Placement d
  allow_message_ttl ← defaulted truth key.AllowMsgTtl false d
  subject_delete_marker_ttl ← optional natural key.SubjectDeleteMarkerTtl d
  Ok (record {
    mirror = mirror;
    sources = sources;
    compression = compression;
    placement = placement;
    allow_message_ttl = allow_message_ttl;
    subject_delete_marker_ttl = subject_delete_marker_ttl;
  })

-- a configuration from its members
unfoldable pub config_fields : Data → Result Config ReadError
config_fields d = do
  basics ← basics d
  limits ← limits d
  rights ← rights d
  origins ← origins d
  Ok (record {
    name = basics.name;
    retention = basics.retention;
    storage = basics.storage;
    discard = basics.discard;
    description = basics.description;
    subjects = basics.subjects;
    max_messages = limits.max_messages;
    max_messages_per_subject = limits.max_messages_per_subject;
    max_bytes = limits.max_bytes;
    max_message_size = limits.max_message_size;
    max_age = limits.max_age;
    num_replicas = limits.num_replicas;
    republish = rights.republish;
    allow_rollup = rights.allow_rollup;
    deny_delete = rights.deny_delete;
    deny_purge = rights.deny_purge;
    allow_direct = rights.allow_direct;
    mirror_direct = rights.mirror_direct;
    mirror = origins.mirror;
    sources = origins.sources;
    compression = origins.compression;
    placement = origins.placement;
    allow_message_ttl = origins.allow_message_ttl;
    subject_delete_marker_ttl = origins.subject_delete_marker_ttl;
  })

-- ---- writing

-- what it is called, what it takes in, and how it is kept
abbrev pub basics_rows : Config → List Row
basics_rows c =
    row key.Name (λ k. always text_data k c.name) ∷
    row key.Retention (λ k. always retention_policy_data k c.retention) ∷
    row key.Storage (λ k. always storage_type_data k c.storage) ∷
    row key.Discard (λ k. always discard_policy_data k c.discard) ∷
    row key.Description (λ k. where_some text_data k c.description) ∷
    row key.Subjects (λ k. unless is_empty (list_data text_data) k c.subjects) ∷ []

-- what bounds it
abbrev pub limits_rows : Config → List Row
limits_rows c =
    row key.MaxMsgs (λ k. unless is_zero_integer integer_data k c.max_messages) ∷
    row key.MaxMsgsPerSubject (λ k. unless is_zero_integer integer_data k c.max_messages_per_subject) ∷
    row key.MaxBytes (λ k. unless is_zero_integer integer_data k c.max_bytes) ∷
    row key.MaxMsgSize (λ k. unless is_zero_integer integer_data k c.max_message_size) ∷
    row key.MaxAge (λ k. unless is_zero natural_data k c.max_age) ∷
    row key.NumReplicas (λ k. unless is_zero natural_data k c.num_replicas) ∷ []

-- what may be done with its messages
abbrev pub rights_rows : Config → List Row
rights_rows c =
    row key.Republish (λ k. where_some republish_data k c.republish) ∷
    row key.AllowRollupHdrs (λ k. unless not truth_data k c.allow_rollup) ∷
    row key.DenyDelete (λ k. unless not truth_data k c.deny_delete) ∷
    row key.DenyPurge (λ k. unless not truth_data k c.deny_purge) ∷
    row key.AllowDirect (λ k. unless not truth_data k c.allow_direct) ∷
    row key.MirrorDirect (λ k. unless not truth_data k c.mirror_direct) ∷ []

-- what it copies, and where it is kept
abbrev pub origins_rows : Config → List Row
origins_rows c =
    row key.Mirror (λ k. where_some source_data k c.mirror) ∷
    row key.Sources (λ k. where_some (list_data source_data) k c.sources) ∷
    row key.Compression (λ k. where_some compression_data k c.compression) ∷
    row key.Placement (λ k. where_some placement_data k c.placement) ∷
    row key.AllowMsgTtl (λ k. unless not truth_data k c.allow_message_ttl) ∷
    row key.SubjectDeleteMarkerTtl (λ k. where_some natural_data k c.subject_delete_marker_ttl) ∷ []

-- all members that are written
abbrev pub config_rows : Config → List Row
config_rows c = basics_rows c ++ limits_rows c ++ rights_rows c ++ origins_rows c

-- the object that is written
unfoldable pub config_value : Config → Result Data ReadError
config_value c = object_of (with_rows (Ok no_members) (config_rows c))

-- the same, under a key
abbrev pub config_data : Writes Config
config_data k c = config_value c
