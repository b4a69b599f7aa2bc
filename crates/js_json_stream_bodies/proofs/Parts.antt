-- The parts of a configuration are read as they were written.
use Rattle.std.proofs.Common.{◌≡◌, refl, ℕ, List, [], map-id, Ok, codes}
use Rattle.serde_json.specs.Data.{object, string, Members, no_members}
use Rattle.js_json_members.specs.declared.key.Key.{Key}
use Rattle.js_json_members.specs.declared.key.Key.TheVariants as key
use Rattle.js_json_members.specs.Member.{text, natural, named, nested, list_of}
use Rattle.js_json_members.specs.Rows.{with_rows, text_data, natural_data, list_data, is_empty}
use Rattle.js_json_members.proofs.OnLiterals.{reading_on_literals, writing_on_literals}
use Rattle.js_json_stream_bodies.proofs.MemberRoundTrip.{◌&◌, ComesBack, list_back, text_back, natural_back, object_back, member_of_rows}
use Rattle.js_json_stream_bodies.proofs.MemberRoundTrip.{required_back, kept_back, defaulted_back, optional_same, always_written, unless_written}
use Rattle.js_json_stream_bodies.proofs.MemberRoundTrip.{where_some_written, empty_is}
use Rattle.js_json_stream_bodies.specs.declared.stream.source.External.{External}
use Rattle.js_json_stream_bodies.specs.declared.stream.source.Source.{Source}
use Rattle.js_json_stream_bodies.specs.declared.stream.republish.Republish.{Republish}
use Rattle.js_json_stream_bodies.specs.declared.stream.placement.Placement.{Placement}
use Rattle.js_json_stream_bodies.specs.declared.stream.policies.RetentionPolicy.{RetentionPolicy}
use Rattle.js_json_stream_bodies.specs.declared.stream.policies.RetentionPolicy.TheVariants as retention_policy
use Rattle.js_json_stream_bodies.specs.declared.stream.policies.StorageType.{StorageType}
use Rattle.js_json_stream_bodies.specs.declared.stream.policies.StorageType.TheVariants as storage_type
use Rattle.js_json_stream_bodies.specs.declared.stream.policies.DiscardPolicy.{DiscardPolicy}
use Rattle.js_json_stream_bodies.specs.declared.stream.policies.DiscardPolicy.TheVariants as discard_policy
use Rattle.js_json_stream_bodies.specs.declared.stream.policies.Compression.{Compression}
use Rattle.js_json_stream_bodies.specs.declared.stream.policies.Compression.TheVariants as compression
use Rattle.js_json_stream_bodies.specs.RetentionPolicy.{retention_policy_named, retention_policy_data}
use Rattle.js_json_stream_bodies.specs.StorageType.{storage_type_named, storage_type_data}
use Rattle.js_json_stream_bodies.specs.DiscardPolicy.{discard_policy_named, discard_policy_data}
use Rattle.js_json_stream_bodies.specs.Compression.{compression_named, compression_data}
use Rattle.js_json_stream_bodies.specs.Republish.{republish_fields, republish_members, republish_value, republish_data}
use Rattle.js_json_stream_bodies.specs.External.{external_fields, external_members, external_rows, external_value, external_data}
use Rattle.js_json_stream_bodies.specs.Source.{source_fields, source_rows, source_value, source_data}
use Rattle.js_json_stream_bodies.specs.Placement.{placement_fields, placement_members, placement_rows, placement_value, placement_data}
use Rattle.js_json_stream_bodies.specs.RoundTrip.{without_domain}

pub retention_back : (k : Key) (p : RetentionPolicy)
    → ComesBack retention_policy_data (named retention_policy_named) k p p
unfolding reading_on_literals retention_policy_named
retention_back k retention_policy.Limits = (string _, refl, refl, refl)
retention_back k retention_policy.Interest = (string _, refl, refl, refl)
retention_back k retention_policy.WorkQueue = (string _, refl, refl, refl)

pub storage_back : (k : Key) (p : StorageType) → ComesBack storage_type_data (named storage_type_named) k p p
unfolding reading_on_literals storage_type_named
storage_back k storage_type.File = (string _, refl, refl, refl)
storage_back k storage_type.Memory = (string _, refl, refl, refl)

pub discard_back : (k : Key) (p : DiscardPolicy) → ComesBack discard_policy_data (named discard_policy_named) k p p
unfolding reading_on_literals discard_policy_named
discard_back k discard_policy.Old = (string _, refl, refl, refl)
discard_back k discard_policy.New = (string _, refl, refl, refl)

pub compression_back : (k : Key) (p : Compression) → ComesBack compression_data (named compression_named) k p p
unfolding reading_on_literals compression_named
compression_back k compression.S2 = (string _, refl, refl, refl)
compression_back k compression.None = (string _, refl, refl, refl)

pub texts_back : (k : Key) (xs : List (List ℕ)) → ComesBack (list_data text_data) (list_of text) k xs xs
texts_back k xs = rw (map-id xs) at (list_back text_data text (λ x. x) k (text_back k) xs)

pub republish_back : (k : Key) (r : Republish) → ComesBack republish_data (nested republish_fields) k r r
unfolding reading_on_literals writing_on_literals republish_fields republish_members republish_value
republish_back k r = (object _, refl, refl, refl)

external_read : (e : External) (ms : Members) → with_rows (Ok no_members) (external_rows e) ≡ Ok ms
    → external_fields (object ms) ≡ Ok e
unfolding external_fields external_members nested
external_read e ms is =
    rw (
      kept_back text_data text key.Api e.api_prefix e.api_prefix [] ms (text_back key.Api e.api_prefix)
          (member_of_rows (codes "api") (external_rows e) no_members ms is),
      optional_same text_data text key.Deliver e.delivery_prefix ms (text_back key.Deliver)
          (member_of_rows (codes "deliver") (external_rows e) no_members ms is),
    ) refl

pub external_back : (k : Key) (e : External) → ComesBack external_data (nested external_fields) k e e
unfolding external_value
external_back k e =
    object_back external_rows external_fields k e e
    (always_written text_data text _ _ _ (text_back key.Api e.api_prefix) &
    where_some_written text_data text (λ s. s) _ _ (text_back key.Deliver) & tt)
    (external_read e)

source_read : (s : Source) (ms : Members) → with_rows (Ok no_members) (source_rows s) ≡ Ok ms
    → source_fields (object ms) ≡ Ok (without_domain s)
unfolding source_fields
source_read s ms is =
    rw (
      required_back text_data text key.Name s.name s.name ms (text_back key.Name s.name)
          (member_of_rows (codes "name") (source_rows s) no_members ms is),
      optional_same natural_data natural key.OptStartSeq s.start_sequence ms (natural_back key.OptStartSeq)
          (member_of_rows (codes "opt_start_seq") (source_rows s) no_members ms is),
      optional_same text_data text key.FilterSubject s.filter_subject ms (text_back key.FilterSubject)
          (member_of_rows (codes "filter_subject") (source_rows s) no_members ms is),
      optional_same external_data (nested external_fields) key.External s.external ms (external_back key.External)
          (member_of_rows (codes "external") (source_rows s) no_members ms is),
    ) refl

pub source_back : (k : Key) (s : Source) → ComesBack source_data (nested source_fields) k s (without_domain s)
unfolding source_value
source_back k s =
    object_back source_rows source_fields k s (without_domain s)
    (always_written text_data text _ _ _ (text_back key.Name s.name) &
    where_some_written natural_data natural (λ n. n) _ _ (natural_back key.OptStartSeq) &
    where_some_written text_data text (λ s. s) _ _ (text_back key.FilterSubject) &
    where_some_written external_data (nested external_fields) (λ e. e) _ _ (external_back key.External) & tt)
    (source_read s)

placement_read : (p : Placement) (ms : Members) → with_rows (Ok no_members) (placement_rows p) ≡ Ok ms
    → placement_fields (object ms) ≡ Ok p
unfolding placement_fields placement_members nested
placement_read p ms is =
    rw (
      optional_same text_data text key.Cluster p.cluster ms (text_back key.Cluster)
          (member_of_rows (codes "cluster") (placement_rows p) no_members ms is),
      defaulted_back (list_data text_data) (list_of text) is_empty key.Tags p.tags p.tags [] ms (texts_back key.Tags p.tags)
          (empty_is p.tags) (member_of_rows (codes "tags") (placement_rows p) no_members ms is),
    ) refl

pub placement_back : (k : Key) (p : Placement) → ComesBack placement_data (nested placement_fields) k p p
unfolding placement_value
placement_back k p =
    object_back placement_rows placement_fields k p p
    (where_some_written text_data text (λ s. s) _ _ (text_back key.Cluster) &
    unless_written (list_data text_data) (list_of text) is_empty _ _ _ (texts_back key.Tags p.tags) & tt)
    (placement_read p)
