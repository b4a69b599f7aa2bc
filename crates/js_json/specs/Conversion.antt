-- What each kind of consumer asks the server for, as a general configuration, and back.
use Rattle.std.specs.Prelude.{ℕ, List, codes, pos, Option, Some, None, true, Result, Ok, Err}
use Rattle.js_json.specs.declared.consumer.config.Config.{Config}
use Rattle.js_json.specs.declared.consumer.conversion.ConfigError.{ConfigError}
use Rattle.js_json.specs.declared.consumer.conversion.ConfigError.TheVariants.{HasDeliverSubject, NoDeliverSubject}
use Rattle.js_json.specs.declared.consumer.policies.AckPolicy.TheVariants as ack
use Rattle.js_json.specs.declared.pull.Config as pull
use Rattle.js_json.specs.declared.pull.OrderedConfig as ordered_pull
use Rattle.js_json.specs.declared.push.Config as push
use Rattle.js_json.specs.declared.push.OrderedConfig as ordered_push
use Rattle.js_json.specs.ConsumerConfig.{new_config}

-- what is printed of a configuration that is not of that kind
abbrev pub config_error_text : ConfigError → List ℕ
config_error_text HasDeliverSubject = codes "pull consumer cannot have delivery subject"
config_error_text NoDeliverSubject = codes "push consumer must have delivery subject"

-- a pull consumer has no deliver subject and what goes with one
abbrev pub pull_config : pull.Config → Config
pull_config c = record new_config {
  durable_name = c.durable_name;
  name = c.name;
  description = c.description;
  deliver_policy = c.deliver_policy;
  ack_policy = c.ack_policy;
  ack_wait = c.ack_wait;
  max_deliver = c.max_deliver;
  filter_subject = c.filter_subject;
  filter_subjects = c.filter_subjects;
  replay_policy = c.replay_policy;
  rate_limit = c.rate_limit;
  sample_frequency = c.sample_frequency;
  max_waiting = c.max_waiting;
  max_ack_pending = c.max_ack_pending;
  headers_only = c.headers_only;
  max_batch = c.max_batch;
  max_bytes = c.max_bytes;
  max_expires = c.max_expires;
  inactive_threshold = c.inactive_threshold;
  num_replicas = c.num_replicas;
  memory_storage = c.memory_storage;
  metadata = c.metadata;
  backoff = c.backoff;
  priority_policy = c.priority_policy;
  priority_groups = c.priority_groups;
  priority_timeout = c.priority_timeout;
  pause_until = c.pause_until;
}

-- a push consumer has no limits of pull requests and no priorities
abbrev pub push_config : push.Config → Config
push_config c = record new_config {
  deliver_subject = Some c.deliver_subject;
  durable_name = c.durable_name;
  name = c.name;
  description = c.description;
  deliver_group = c.deliver_group;
  deliver_policy = c.deliver_policy;
  ack_policy = c.ack_policy;
  ack_wait = c.ack_wait;
  max_deliver = c.max_deliver;
  filter_subject = c.filter_subject;
  filter_subjects = c.filter_subjects;
  replay_policy = c.replay_policy;
  rate_limit = c.rate_limit;
  sample_frequency = c.sample_frequency;
  max_waiting = c.max_waiting;
  max_ack_pending = c.max_ack_pending;
  headers_only = c.headers_only;
  flow_control = c.flow_control;
  idle_heartbeat = c.idle_heartbeat;
  inactive_threshold = c.inactive_threshold;
  num_replicas = c.num_replicas;
  memory_storage = c.memory_storage;
  metadata = c.metadata;
  backoff = c.backoff;
  pause_until = c.pause_until;
}

-- an ordered pull consumer acknowledges nothing, is sent nothing twice, and lives in memory for 30 seconds after its last reader
abbrev pub ordered_pull_config : ordered_pull.OrderedConfig → Config
ordered_pull_config o = record new_config {
  name = o.name;
  description = o.description;
  deliver_policy = o.deliver_policy;
  ack_policy = ack.None;
  max_deliver = pos 1;
  filter_subject = o.filter_subject;
  filter_subjects = o.filter_subjects;
  replay_policy = o.replay_policy;
  rate_limit = o.rate_limit;
  sample_frequency = o.sample_frequency;
  max_waiting = o.max_waiting;
  headers_only = o.headers_only;
  max_batch = o.max_batch;
  max_bytes = o.max_bytes;
  max_expires = o.max_expires;
  inactive_threshold = 30_000_000_000;
  num_replicas = 1;
  memory_storage = true;
  metadata = o.metadata;
}

-- and so an ordered push consumer, which has a subject, flow control and a heartbeat of 5 seconds besides
abbrev pub ordered_push_config : ordered_push.OrderedConfig → Config
ordered_push_config o = record new_config {
  deliver_subject = Some o.deliver_subject;
  name = o.name;
  description = o.description;
  deliver_policy = o.deliver_policy;
  ack_policy = ack.None;
  max_deliver = pos 1;
  filter_subject = o.filter_subject;
  filter_subjects = o.filter_subjects;
  replay_policy = o.replay_policy;
  rate_limit = o.rate_limit;
  sample_frequency = o.sample_frequency;
  max_waiting = o.max_waiting;
  headers_only = o.headers_only;
  flow_control = true;
  idle_heartbeat = 5_000_000_000;
  inactive_threshold = 30_000_000_000;
  num_replicas = 1;
  memory_storage = true;
  metadata = o.metadata;
}

-- ---- and back

-- a pull consumer has no deliver subject
abbrev pub unless_delivered : {A : Type 0} → Option (List ℕ) → A → Result A ConfigError
unless_delivered None x = Ok x
unless_delivered (Some subject) x = Err HasDeliverSubject

-- a push consumer has one
abbrev pub where_delivered : {A : Type 0} → Option (List ℕ) → (List ℕ → A) → Result A ConfigError
where_delivered None of_subject = Err NoDeliverSubject
where_delivered (Some subject) of_subject = Ok (of_subject subject)

-- the pull consumer of a general configuration
abbrev pub as_pull_config : Config → Result pull.Config ConfigError
as_pull_config c = unless_delivered c.deliver_subject (record {
  durable_name = c.durable_name;
  name = c.name;
  description = c.description;
  deliver_policy = c.deliver_policy;
  ack_policy = c.ack_policy;
  ack_wait = c.ack_wait;
  max_deliver = c.max_deliver;
  filter_subject = c.filter_subject;
  filter_subjects = c.filter_subjects;
  replay_policy = c.replay_policy;
  rate_limit = c.rate_limit;
  sample_frequency = c.sample_frequency;
  max_waiting = c.max_waiting;
  max_ack_pending = c.max_ack_pending;
  headers_only = c.headers_only;
  max_batch = c.max_batch;
  max_bytes = c.max_bytes;
  max_expires = c.max_expires;
  inactive_threshold = c.inactive_threshold;
  num_replicas = c.num_replicas;
  memory_storage = c.memory_storage;
  metadata = c.metadata;
  backoff = c.backoff;
  priority_policy = c.priority_policy;
  priority_groups = c.priority_groups;
  priority_timeout = c.priority_timeout;
  pause_until = c.pause_until;
})

-- the push consumer of one
abbrev pub as_push_config : Config → Result push.Config ConfigError
as_push_config c = where_delivered c.deliver_subject (λ subject. record {
  deliver_subject = subject;
  durable_name = c.durable_name;
  name = c.name;
  description = c.description;
  deliver_group = c.deliver_group;
  deliver_policy = c.deliver_policy;
  ack_policy = c.ack_policy;
  ack_wait = c.ack_wait;
  max_deliver = c.max_deliver;
  filter_subject = c.filter_subject;
  filter_subjects = c.filter_subjects;
  replay_policy = c.replay_policy;
  rate_limit = c.rate_limit;
  sample_frequency = c.sample_frequency;
  max_waiting = c.max_waiting;
  max_ack_pending = c.max_ack_pending;
  headers_only = c.headers_only;
  flow_control = c.flow_control;
  idle_heartbeat = c.idle_heartbeat;
  inactive_threshold = c.inactive_threshold;
  num_replicas = c.num_replicas;
  memory_storage = c.memory_storage;
  metadata = c.metadata;
  backoff = c.backoff;
  pause_until = c.pause_until;
})

-- it refuses nothing, and passes over what an ordered pull consumer does not have
abbrev pub as_ordered_pull_config : Config → Result ordered_pull.OrderedConfig ConfigError
as_ordered_pull_config c = Ok (record {
  name = c.name;
  description = c.description;
  filter_subject = c.filter_subject;
  filter_subjects = c.filter_subjects;
  replay_policy = c.replay_policy;
  rate_limit = c.rate_limit;
  sample_frequency = c.sample_frequency;
  headers_only = c.headers_only;
  deliver_policy = c.deliver_policy;
  max_waiting = c.max_waiting;
  metadata = c.metadata;
  max_batch = c.max_batch;
  max_bytes = c.max_bytes;
  max_expires = c.max_expires;
})

-- the ordered push consumer of one, which passes over what that does not have
abbrev pub as_ordered_push_config : Config → Result ordered_push.OrderedConfig ConfigError
as_ordered_push_config c = where_delivered c.deliver_subject (λ subject. record {
  deliver_subject = subject;
  name = c.name;
  description = c.description;
  filter_subject = c.filter_subject;
  filter_subjects = c.filter_subjects;
  replay_policy = c.replay_policy;
  rate_limit = c.rate_limit;
  sample_frequency = c.sample_frequency;
  headers_only = c.headers_only;
  deliver_policy = c.deliver_policy;
  max_waiting = c.max_waiting;
  metadata = c.metadata;
})
