-- What a pull request asks for, by the builder that makes it.
use Rattle.std.specs.Prelude.{ℕ, ℤ, pos, suc, ◌≡◌, refl, ◌*◌, ◌≤◌, Bool, true, false, Option, Some, None, unwrap_or}
use Rattle.js_base.specs.Clock.{second}
use Rattle.js_json.specs.declared.pull.batch.BatchConfig.{BatchConfig}
use Rattle.js_json.specs.declared.pull.Config as pull
use Rattle.js_call_consumers.specs.declared.consumer.Consumer.{Consumer}
use Rattle.js_pull.specs.Limits.{clamp_batch, clamp_expires, clamp_heartbeat, batch_of}
use Rattle.js_readers.specs.declared.pull.settings.Settings.{Settings}
use Rattle.js_readers.specs.declared.pull.settings.Defaults.{Defaults}
use Rattle.js_readers.specs.declared.pull.settings.BuilderKind.{BuilderKind}
use Rattle.js_readers.specs.declared.pull.settings.BuilderKind.TheVariants.{Streams, Fetches, Batches}

-- nothing is set
abbrev pub unset : Settings
unset = record {
  batch = None;
  expires = None;
  heartbeat = 0;
  max_bytes = 0;
  min_pending = None;
  min_ack_pending = None;
  group = None;
  priority = None;
}

-- The table: a row for each builder, for a consumer with these limits. What is not set is 200 messages; 30 seconds, no expiry or none to wait
-- for; whether the server answers at once; and whether a heartbeat is lowered.
abbrev pub defaults_of : BuilderKind → ℤ → ℕ → Defaults
defaults_of Streams max_batch max_expires = record {
  batch = clamp_batch 200 max_batch;
  expires = Some (clamp_expires (30 * second) max_expires);
  no_wait = false;
  lowers = true;
}
defaults_of Fetches max_batch max_expires = record { batch = 200; expires = None; no_wait = true; lowers = false }
defaults_of Batches max_batch max_expires = record { batch = 200; expires = Some 0; no_wait = false; lowers = false }

-- the row for a consumer, by the info that is known of it
abbrev pub defaults_for : BuilderKind → Consumer pull.Config → Defaults
defaults_for kind c = defaults_of kind c.info.config.max_batch c.info.config.max_expires

-- what was set goes before the default
abbrev pub set_or : Option ℕ → Option ℕ → Option ℕ
set_or None default = default
set_or (Some own) default = Some own

-- a heartbeat is at most half of a default expiry, where the row lowers it; under an expiry that was set it stands as it is
abbrev pub lowered : Bool → Option ℕ → Option ℕ → ℕ → ℕ
lowered true None (Some default) heartbeat = clamp_heartbeat heartbeat default
lowered lowers expires default heartbeat = heartbeat

abbrev pub heartbeat_of : Defaults → Option ℕ → ℕ → ℕ
heartbeat_of d expires heartbeat = lowered d.lowers expires d.expires heartbeat

-- what is asked for: what was set, and else the row's default
abbrev pub asked_for : Defaults → Settings → BatchConfig
asked_for d s = record {
  batch = unwrap_or s.batch d.batch;
  expires = set_or s.expires d.expires;
  no_wait = d.no_wait;
  max_bytes = s.max_bytes;
  idle_heartbeat = heartbeat_of d s.expires s.heartbeat;
  min_pending = s.min_pending;
  min_ack_pending = s.min_ack_pending;
  group = s.group;
  priority = s.priority;
}

-- a stream by the defaults, with a heartbeat of 15 seconds
abbrev pub messages_config : Consumer pull.Config → BatchConfig
messages_config c = asked_for (defaults_for Streams c) (record unset { heartbeat = 15 * second })

-- batches of one size, for each of which 60 seconds are waited
abbrev pub sequence_config : ℕ → BatchConfig
sequence_config batch = asked_for (defaults_of Batches (pos 0) 0) (record unset { batch = Some batch; expires = Some (60 * second) })

-- ---- examples

-- `messages` of a consumer of which 100 messages may be asked for
caps_the_batch : asked_for (defaults_of Streams (pos 100) 0) (record unset { heartbeat = 15 * second }) ≡ record (batch_of 100) { expires = Some (30 * second); idle_heartbeat = 15 * second }
caps_the_batch = refl

-- limits above the defaults change nothing, and no heartbeat is asked for that was not set
keeps_the_defaults : asked_for (defaults_of Streams (pos 300) (120 * second)) unset ≡ record (batch_of 200) { expires = Some (30 * second) }
keeps_the_defaults = refl

-- a heartbeat of 10 seconds, where 5 may be waited for
lowers_the_heartbeat : asked_for (defaults_of Streams (pos 0) (5 * second)) (record unset { heartbeat = 10 * second }) ≡ record (batch_of 200) { expires = Some (5 * second); idle_heartbeat = 2_500_000_000 }
lowers_the_heartbeat = refl

-- a heartbeat of 10 seconds under an expiry of 12 that was set
keeps_a_set_expiry : asked_for (defaults_of Streams (pos 0) (5 * second)) (record unset { heartbeat = 10 * second; expires = Some (12 * second) }) ≡ record (batch_of 200) { expires = Some (12 * second); idle_heartbeat = 10 * second }
keeps_a_set_expiry = refl

fetches_at_once : asked_for (defaults_of Fetches (pos 100) (5 * second)) unset ≡ record (batch_of 200) { no_wait = true }
fetches_at_once = refl

sequences_wait : sequence_config 2 ≡ record (batch_of 2) { expires = Some (60 * second) }
sequences_wait = refl

-- ---- what the defaults keep

-- a limit on the number of messages, where it is one
abbrev pub IsWithinBatch : ℕ → ℤ → Type 0
IsWithinBatch batch (pos (suc n)) = batch ≤ suc n
IsWithinBatch batch limit = Unit {0}

-- a limit on the expiry, where it is one
abbrev pub IsWithinExpiry : Option ℕ → ℕ → Type 0
IsWithinExpiry (Some expires) (suc n) = expires ≤ suc n
IsWithinExpiry expires limit = Unit {0}

-- at most half of the expiry, where there is one
abbrev pub IsWithinHalf : ℕ → Option ℕ → Type 0
IsWithinHalf heartbeat None = Unit {0}
IsWithinHalf heartbeat (Some expires) = 2 * heartbeat ≤ expires

pub record IsWithinLimits (max_batch : ℤ) (max_expires : ℕ) (s : Settings) : Type 0 where
  pub batch : s.batch ≡ None → IsWithinBatch (asked_for (defaults_of Streams max_batch max_expires) s).batch max_batch
  pub expires : s.expires ≡ None → IsWithinExpiry (asked_for (defaults_of Streams max_batch max_expires) s).expires max_expires
  pub heartbeat : s.expires ≡ None → IsWithinHalf (asked_for (defaults_of Streams max_batch max_expires) s).idle_heartbeat (asked_for (defaults_of Streams max_batch max_expires) s).expires

-- whatever is set of a stream, what is not stays within the consumer's limits, and the heartbeat within half of a default expiry
abbrev pub KeepsLimits : Type 0
KeepsLimits = (max_batch : ℤ) (max_expires : ℕ) (s : Settings) → IsWithinLimits max_batch max_expires s
