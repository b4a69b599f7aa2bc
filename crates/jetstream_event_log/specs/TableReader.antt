-- What a table of a bucket reads.
use Rattle.std.specs.Prelude.{ℕ, ◌≡◌, List, ◌++◌, codes, None, Some, Result, refl}
use Rattle.std.specs.Result.{result_map_both}
use Rattle.js_json.specs.PullConfig.{new_ordered_pull_config}
use Rattle.js_json.specs.declared.consumer.deliver_policy.DeliverPolicy.TheVariants.{ByStartSequence}
use Rattle.js_json.specs.declared.pull.OrderedConfig.{OrderedConfig}
use Rattle.js_ordered_table.specs.Texts.{configured_start}
use Rattle.js_ordered_table.specs.declared.setup.OrderedSetup.TheVariants.{Pull}
use Rattle.js_readers.specs.declared.ordered.pull.Ordered.{Ordered}
use Rattle.js_store_keys.specs.Writes.{config_bucket}
use Rattle.js_store_keys.specs.declared.key_places.KeyPlaces.{KeyPlaces}
use Rattle.jetstream_event_log.specs.declared.table_reader.TableReader.{TableReader}

-- the subjects of all keys of a bucket, whose subjects begin so
abbrev pub filter_of : List ℕ → List ℕ
filter_of prefix = prefix ++ codes ">"

-- a consumer of all keys of a bucket, from this sequence on
abbrev pub config_of : KeyPlaces → ℕ → OrderedConfig
config_of places start = record new_ordered_pull_config { filter_subject = filter_of places.prefix; deliver_policy = ByStartSequence start }

-- the ordered reader of what was opened
abbrev pub opened_reader : {E : Type 0} → Result TableReader E → Result Ordered E
opened_reader opened = result_map_both (λ (o : TableReader). o.reader) (λ e. e) opened

-- worked: the consumer of a new table of the bucket `config` begins at the stream's first sequence, and reads the subjects of its keys
begins_at_first : configured_start (Pull (config_of (config_bucket None None) 1)) ≡ Some 1
begins_at_first = refl

reads_all_keys : (config_of (config_bucket None None) 1).filter_subject ≡ codes "$KV.config.>"
reads_all_keys = refl
