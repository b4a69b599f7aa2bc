-- A configuration is read as it was written.
use Rattle.std.proofs.Common.{◌≡◌, refl, sym, ◌∙◌, ap, subst, [], map, option_map, pos, Ok, is_ok, codes, false, true≢false}
use Rattle.std.proofs.Common.{not}
use Rattle.serde_json.specs.Data.{Data, object, Members, no_members}
use Rattle.serde_json.specs.Written.{has_float}
use Rattle.js_json_members.specs.declared.key.Key.TheVariants as key
use Rattle.js_json_members.specs.declared.error.ReadError.{ReadError}
use Rattle.js_json_members.specs.declared.error.ReadError.TheVariants.{Missing, WrongKind, OutOfRange, Float, NotJson}
use Rattle.js_json_members.specs.declared.error.ReadError.TheVariants.{OutOfMemory}
use Rattle.js_json_members.specs.Member.{Fails, text, truth, natural, integer, named, nested, list_of, float_free}
use Rattle.js_json_members.specs.Rows.{with_rows, object_of, text_data, natural_data, integer_data, truth_data, list_data, is_empty}
use Rattle.js_json_members.specs.Rows.{is_zero, is_zero_integer}
use Rattle.js_json_stream_bodies.specs.declared.stream.config.Config.{Config}
use Rattle.js_json_stream_bodies.specs.declared.stream.policies.DiscardPolicy.TheVariants as discard_policy
use Rattle.js_json_stream_bodies.specs.declared.stream.policies.RetentionPolicy.TheVariants as retention_policy
use Rattle.js_json_stream_bodies.specs.declared.stream.policies.StorageType.TheVariants as storage_type
use Rattle.js_json_stream_bodies.specs.RetentionPolicy.{retention_policy_named, retention_policy_data}
use Rattle.js_json_stream_bodies.specs.StorageType.{storage_type_named, storage_type_data}
use Rattle.js_json_stream_bodies.specs.DiscardPolicy.{discard_policy_named, discard_policy_data}
use Rattle.js_json_stream_bodies.specs.Compression.{compression_named, compression_data}
use Rattle.js_json_stream_bodies.specs.Republish.{republish_fields, republish_data}
use Rattle.js_json_stream_bodies.specs.Source.{source_fields, source_data}
use Rattle.js_json_stream_bodies.specs.Placement.{placement_fields, placement_data}
use Rattle.js_json_stream_bodies.specs.StreamConfig.{basics, limits, rights, origins, config_fields, config_rows, config_value}
use Rattle.js_json_stream_bodies.specs.RoundTrip.{without_domain, without_domains, HasNumbers}
use Rattle.js_json_stream_bodies.proofs.MemberRoundTrip.{◌&◌, ok_is, AreWritten, list_back, text_back, natural_back, integer_back, truth_back}
use Rattle.js_json_stream_bodies.proofs.MemberRoundTrip.{member_of_rows, rows_written, required_back, kept_back, defaulted_back, optional_back}
use Rattle.js_json_stream_bodies.proofs.MemberRoundTrip.{optional_same, always_written, unless_written, where_some_written, empty_is, zero_is}
use Rattle.js_json_stream_bodies.proofs.MemberRoundTrip.{zero_integer_is, false_is}
use Rattle.js_json_stream_bodies.proofs.Parts.{retention_back, storage_back, discard_back, compression_back, texts_back, republish_back}
use Rattle.js_json_stream_bodies.proofs.Parts.{source_back, placement_back}

basics_back : (c : Config) (ms : Members) → HasNumbers c → with_rows (Ok no_members) (config_rows c) ≡ Ok ms
    → basics (object ms) ≡ Ok (record {
      name = c.name;
      retention = c.retention;
      storage = c.storage;
      discard = c.discard;
      description = c.description;
      subjects = c.subjects;
    })
unfolding basics
basics_back c ms fit is =
    rw (
      required_back text_data text key.Name c.name c.name ms (text_back key.Name c.name) (member_of_rows (codes "name") (config_rows c) no_members ms is),
      kept_back retention_policy_data (named retention_policy_named) key.Retention c.retention c.retention retention_policy.Limits ms (retention_back key.Retention c.retention) (member_of_rows (codes "retention") (config_rows c) no_members ms is),
      kept_back storage_type_data (named storage_type_named) key.Storage c.storage c.storage storage_type.File ms (storage_back key.Storage c.storage) (member_of_rows (codes "storage") (config_rows c) no_members ms is),
      kept_back discard_policy_data (named discard_policy_named) key.Discard c.discard c.discard discard_policy.Old ms (discard_back key.Discard c.discard) (member_of_rows (codes "discard") (config_rows c) no_members ms is),
      optional_same text_data text key.Description c.description ms (text_back key.Description) (member_of_rows (codes "description") (config_rows c) no_members ms is),
      defaulted_back (list_data text_data) (list_of text) is_empty key.Subjects c.subjects c.subjects [] ms (texts_back key.Subjects c.subjects) (empty_is c.subjects) (member_of_rows (codes "subjects") (config_rows c) no_members ms is),
    ) refl

limits_back : (c : Config) (ms : Members) → HasNumbers c → with_rows (Ok no_members) (config_rows c) ≡ Ok ms
    → limits (object ms) ≡ Ok (record {
      max_messages = c.max_messages;
      max_messages_per_subject = c.max_messages_per_subject;
      max_bytes = c.max_bytes;
      max_message_size = c.max_message_size;
      max_age = c.max_age;
      num_replicas = c.num_replicas;
    })
unfolding limits
limits_back c ms fit is =
    rw (
      defaulted_back integer_data integer is_zero_integer key.MaxMsgs c.max_messages c.max_messages (pos 0) ms (integer_back key.MaxMsgs c.max_messages fit.0) (zero_integer_is c.max_messages) (member_of_rows (codes "max_msgs") (config_rows c) no_members ms is),
      defaulted_back integer_data integer is_zero_integer key.MaxMsgsPerSubject c.max_messages_per_subject c.max_messages_per_subject (pos 0) ms (integer_back key.MaxMsgsPerSubject c.max_messages_per_subject fit.1) (zero_integer_is c.max_messages_per_subject) (member_of_rows (codes "max_msgs_per_subject") (config_rows c) no_members ms is),
      defaulted_back integer_data integer is_zero_integer key.MaxBytes c.max_bytes c.max_bytes (pos 0) ms (integer_back key.MaxBytes c.max_bytes fit.2) (zero_integer_is c.max_bytes) (member_of_rows (codes "max_bytes") (config_rows c) no_members ms is),
      defaulted_back integer_data integer is_zero_integer key.MaxMsgSize c.max_message_size c.max_message_size (pos 0) ms (integer_back key.MaxMsgSize c.max_message_size fit.3) (zero_integer_is c.max_message_size) (member_of_rows (codes "max_msg_size") (config_rows c) no_members ms is),
      defaulted_back natural_data natural is_zero key.MaxAge c.max_age c.max_age 0 ms (natural_back key.MaxAge c.max_age) (zero_is c.max_age) (member_of_rows (codes "max_age") (config_rows c) no_members ms is),
      defaulted_back natural_data natural is_zero key.NumReplicas c.num_replicas c.num_replicas 0 ms (natural_back key.NumReplicas c.num_replicas) (zero_is c.num_replicas) (member_of_rows (codes "num_replicas") (config_rows c) no_members ms is),
    ) refl

rights_back : (c : Config) (ms : Members) → HasNumbers c → with_rows (Ok no_members) (config_rows c) ≡ Ok ms
    → rights (object ms) ≡ Ok (record {
      republish = c.republish;
      allow_rollup = c.allow_rollup;
      deny_delete = c.deny_delete;
      deny_purge = c.deny_purge;
      allow_direct = c.allow_direct;
      mirror_direct = c.mirror_direct;
    })
unfolding rights
rights_back c ms fit is =
    rw (
      optional_same republish_data (nested republish_fields) key.Republish c.republish ms (republish_back key.Republish) (member_of_rows (codes "republish") (config_rows c) no_members ms is),
      defaulted_back truth_data truth not key.AllowRollupHdrs c.allow_rollup c.allow_rollup false ms (truth_back key.AllowRollupHdrs c.allow_rollup) (false_is c.allow_rollup) (member_of_rows (codes "allow_rollup_hdrs") (config_rows c) no_members ms is),
      defaulted_back truth_data truth not key.DenyDelete c.deny_delete c.deny_delete false ms (truth_back key.DenyDelete c.deny_delete) (false_is c.deny_delete) (member_of_rows (codes "deny_delete") (config_rows c) no_members ms is),
      defaulted_back truth_data truth not key.DenyPurge c.deny_purge c.deny_purge false ms (truth_back key.DenyPurge c.deny_purge) (false_is c.deny_purge) (member_of_rows (codes "deny_purge") (config_rows c) no_members ms is),
      defaulted_back truth_data truth not key.AllowDirect c.allow_direct c.allow_direct false ms (truth_back key.AllowDirect c.allow_direct) (false_is c.allow_direct) (member_of_rows (codes "allow_direct") (config_rows c) no_members ms is),
      defaulted_back truth_data truth not key.MirrorDirect c.mirror_direct c.mirror_direct false ms (truth_back key.MirrorDirect c.mirror_direct) (false_is c.mirror_direct) (member_of_rows (codes "mirror_direct") (config_rows c) no_members ms is),
    ) refl

origins_back : (c : Config) (ms : Members) → HasNumbers c → with_rows (Ok no_members) (config_rows c) ≡ Ok ms
    → origins (object ms) ≡ Ok (record {
      mirror = option_map without_domain c.mirror;
      sources = option_map (map without_domain) c.sources;
      compression = c.compression;
      placement = c.placement;
      allow_message_ttl = c.allow_message_ttl;
      subject_delete_marker_ttl = c.subject_delete_marker_ttl;
    })
unfolding origins
origins_back c ms fit is =
    rw (
      optional_back source_data (nested source_fields) without_domain key.Mirror c.mirror ms (source_back key.Mirror) (member_of_rows (codes "mirror") (config_rows c) no_members ms is),
      optional_back (list_data source_data) (list_of (nested source_fields)) (map without_domain) key.Sources c.sources ms (list_back source_data (nested source_fields) without_domain key.Sources (source_back key.Sources)) (member_of_rows (codes "sources") (config_rows c) no_members ms is),
      optional_same compression_data (named compression_named) key.Compression c.compression ms (compression_back key.Compression) (member_of_rows (codes "compression") (config_rows c) no_members ms is),
      optional_same placement_data (nested placement_fields) key.Placement c.placement ms (placement_back key.Placement) (member_of_rows (codes "placement") (config_rows c) no_members ms is),
      defaulted_back truth_data truth not key.AllowMsgTtl c.allow_message_ttl c.allow_message_ttl false ms (truth_back key.AllowMsgTtl c.allow_message_ttl) (false_is c.allow_message_ttl) (member_of_rows (codes "allow_msg_ttl") (config_rows c) no_members ms is),
      optional_same natural_data natural key.SubjectDeleteMarkerTtl c.subject_delete_marker_ttl ms (natural_back key.SubjectDeleteMarkerTtl) (member_of_rows (codes "subject_delete_marker_ttl") (config_rows c) no_members ms is),
    ) refl

config_read : (c : Config) (ms : Members) → HasNumbers c → with_rows (Ok no_members) (config_rows c) ≡ Ok ms
    → config_fields (object ms) ≡ Ok (without_domains c)
unfolding config_fields
config_read c ms fit is =
    rw (basics_back c ms fit is, limits_back c ms fit is, rights_back c ms fit is, origins_back c ms fit is) refl

config_written : (c : Config) → HasNumbers c → AreWritten (config_rows c)
config_written c fit =
    (always_written text_data text _ _ _ (text_back key.Name c.name) &
    always_written retention_policy_data (named retention_policy_named) _ _ _ (retention_back key.Retention c.retention) &
    always_written storage_type_data (named storage_type_named) _ _ _ (storage_back key.Storage c.storage) &
    always_written discard_policy_data (named discard_policy_named) _ _ _ (discard_back key.Discard c.discard) &
    where_some_written text_data text (λ s. s) _ _ (text_back key.Description) &
    unless_written (list_data text_data) (list_of text) is_empty _ _ _ (texts_back key.Subjects c.subjects) &
    unless_written integer_data integer is_zero_integer _ _ _ (integer_back key.MaxMsgs c.max_messages fit.0) &
    unless_written integer_data integer is_zero_integer _ _ _ (integer_back key.MaxMsgsPerSubject c.max_messages_per_subject fit.1) &
    unless_written integer_data integer is_zero_integer _ _ _ (integer_back key.MaxBytes c.max_bytes fit.2) &
    unless_written integer_data integer is_zero_integer _ _ _ (integer_back key.MaxMsgSize c.max_message_size fit.3) &
    unless_written natural_data natural is_zero _ _ _ (natural_back key.MaxAge c.max_age) &
    unless_written natural_data natural is_zero _ _ _ (natural_back key.NumReplicas c.num_replicas) &
    where_some_written republish_data (nested republish_fields) (λ x. x) _ _ (republish_back key.Republish) &
    unless_written truth_data truth not _ _ _ (truth_back key.AllowRollupHdrs c.allow_rollup) &
    unless_written truth_data truth not _ _ _ (truth_back key.DenyDelete c.deny_delete) &
    unless_written truth_data truth not _ _ _ (truth_back key.DenyPurge c.deny_purge) &
    unless_written truth_data truth not _ _ _ (truth_back key.AllowDirect c.allow_direct) &
    unless_written truth_data truth not _ _ _ (truth_back key.MirrorDirect c.mirror_direct) &
    where_some_written source_data (nested source_fields) without_domain _ _ (source_back key.Mirror) &
    where_some_written (list_data source_data) (list_of (nested source_fields)) (map without_domain) _ _ (list_back source_data (nested source_fields) without_domain key.Sources (source_back key.Sources)) &
    where_some_written compression_data (named compression_named) (λ x. x) _ _ (compression_back key.Compression) &
    where_some_written placement_data (nested placement_fields) (λ x. x) _ _ (placement_back key.Placement) &
    unless_written truth_data truth not _ _ _ (truth_back key.AllowMsgTtl c.allow_message_ttl) &
    where_some_written natural_data natural (λ x. x) _ _ (natural_back key.SubjectDeleteMarkerTtl) & tt)

-- It is written as an object that is read as it was, without domains.
pub config_comes_back : (c : Config) → HasNumbers c
    → (ms : Members) × (config_value c ≡ Ok (object ms)) × (config_fields (object ms) ≡ Ok (without_domains c))
unfolding config_value object_of
config_comes_back c fit =
    let made = rows_written (config_rows c) no_members (config_written c fit) in
    (made.0, rw made.1 refl, config_read c made.0 fit made.1)

-- the same, of the value that is written
pub free_back : (c : Config) (d : Data) → HasNumbers c → config_value c ≡ Ok d → has_float d ≡ false
    → float_free config_fields d ≡ Ok (without_domains c)
unfolding float_free
free_back c d fit is free =
    let made = config_comes_back c fit in
    let same : object made.0 ≡ d = ok_is (object made.0) d (sym made.1 ∙ is) in
    rw free (subst (λ d. config_fields d ≡ Ok (without_domains c)) same made.2)

-- writing fails for want of memory alone
pub never_fails : {A : Type 0} (e : ReadError) (c : Config) (x : A) → HasNumbers c → Fails e (config_value c) → Fails e (Ok x)
never_fails OutOfMemory c x fit is = tt
never_fails (Missing key) c x fit is = absurd (true≢false (ap is_ok (sym (config_comes_back c fit).1 ∙ is)))
never_fails (WrongKind key) c x fit is = absurd (true≢false (ap is_ok (sym (config_comes_back c fit).1 ∙ is)))
never_fails (OutOfRange key) c x fit is = absurd (true≢false (ap is_ok (sym (config_comes_back c fit).1 ∙ is)))
never_fails Float c x fit is = absurd (true≢false (ap is_ok (sym (config_comes_back c fit).1 ∙ is)))
never_fails NotJson c x fit is = absurd (true≢false (ap is_ok (sym (config_comes_back c fit).1 ∙ is)))
