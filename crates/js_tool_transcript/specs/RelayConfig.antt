-- What the configuration and the info of a consumer that reads a mirror are read as.
use Rattle.std.specs.Prelude.{ℕ, pos, List, [], None, false}
use Rattle.jiff.specs.Types.{Timestamp}
use Rattle.js_json.specs.declared.consumer.config.Config.{Config}
use Rattle.js_json.specs.declared.consumer.info.Info.{Info}
use Rattle.js_json.specs.declared.consumer.info.SequenceInfo.{SequenceInfo}
use Rattle.js_json.specs.declared.consumer.deliver_policy.DeliverPolicy.TheVariants as policy
use Rattle.js_json.specs.ConsumerConfig.{new_config}

-- 2026-01-01T00:00:00Z
abbrev new_year : Timestamp
new_year = record { nanosecond = pos 1_767_225_600_000_000_000; in_range = (record { le = tt }, record { le = tt }) }

-- nothing was delivered
abbrev nowhere : SequenceInfo
nowhere = record { consumer_sequence = 0; stream_sequence = 0; last_active = None }

-- starts at a sequence and has these filters
abbrev pub relay_config : List ℕ → List (List ℕ) → ℕ → Config
relay_config filter filters start =
    record new_config { deliver_policy = policy.ByStartSequence start; filter_subject = filter; filter_subjects = filters }

abbrev pub relay_info : List ℕ → List ℕ → Config → Info
relay_info stream name config = record {
  stream_name = stream;
  name = name;
  created = new_year;
  config = config;
  delivered = nowhere;
  ack_floor = nowhere;
  num_ack_pending = 0;
  num_redelivered = 0;
  num_waiting = 0;
  num_pending = 0;
  cluster = None;
  push_bound = false;
  paused = false;
  pause_remaining = None;
  priority_groups = [];
}
