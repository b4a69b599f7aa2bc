-- Configurations that are made of a few words.
use Rattle.std.specs.Prelude.{ℕ, ℤ, List, [], ◌∷◌}
use Rattle.js_json.specs.PullConfig.{new_ordered_pull_config}
use Rattle.js_json.specs.declared.consumer.deliver_policy.DeliverPolicy.TheVariants.{ByStartSequence}
use Rattle.js_json.specs.declared.pull.OrderedConfig.{OrderedConfig}
use Rattle.js_json_stream_bodies.specs.StreamConfig.{new_config}
use Rattle.js_json_stream_bodies.specs.declared.stream.config.Config.{Config}
use Rattle.js_store.specs.Kv as kv
use Rattle.js_store.specs.declared.kv.Config.{Config as Bucket}

-- a name and a subject, and all else by default
abbrev pub named : List ℕ → List ℕ → Config
named name subject = record new_config { name = name; subjects = subject ∷ [] }

-- an ordered consumer that begins at a sequence, and all else by default
abbrev pub starting_at : ℕ → OrderedConfig
starting_at sequence = record new_ordered_pull_config { deliver_policy = ByStartSequence sequence }

-- a bucket with a name that keeps so many values of a key, and all else by default
abbrev pub bucket_named : List ℕ → ℤ → Bucket
bucket_named name history = record kv.new_config { bucket = name; history = history }
