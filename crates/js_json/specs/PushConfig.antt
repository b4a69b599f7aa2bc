-- The default configurations of push consumers.
use Rattle.std.specs.Prelude.{pos, [], None, false}
use Rattle.js_json.specs.declared.consumer.deliver_policy.DeliverPolicy.TheVariants as deliver
use Rattle.js_json.specs.declared.consumer.policies.ReplayPolicy.TheVariants as replay
use Rattle.js_json.specs.declared.consumer.policies.AckPolicy.TheVariants as ack
use Rattle.js_json.specs.declared.push.Config.{Config}
use Rattle.js_json.specs.declared.push.OrderedConfig.{OrderedConfig}

-- every field is 0, false, empty, none or its enum's default
abbrev pub new_push_config : Config
new_push_config = record {
  deliver_subject = [];
  durable_name = None;
  name = None;
  description = None;
  deliver_group = None;
  deliver_policy = deliver.All;
  ack_policy = ack.Explicit;
  ack_wait = 0;
  max_deliver = pos 0;
  filter_subject = [];
  filter_subjects = [];
  replay_policy = replay.Instant;
  rate_limit = 0;
  sample_frequency = 0;
  max_waiting = pos 0;
  max_ack_pending = pos 0;
  headers_only = false;
  flow_control = false;
  idle_heartbeat = 0;
  inactive_threshold = 0;
  num_replicas = 0;
  memory_storage = false;
  metadata = [];
  backoff = [];
  pause_until = None;
}

-- the same, of an ordered push consumer
abbrev pub new_ordered_push_config : OrderedConfig
new_ordered_push_config = record {
  deliver_subject = [];
  name = None;
  description = None;
  filter_subject = [];
  filter_subjects = [];
  replay_policy = replay.Instant;
  rate_limit = 0;
  sample_frequency = 0;
  headers_only = false;
  deliver_policy = deliver.All;
  max_waiting = pos 0;
  metadata = [];
}
