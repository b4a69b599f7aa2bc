-- Names, subjects, bodies and timeouts.
use Rattle.std.specs.Prelude.{ℕ, zero, suc, ◌*◌, ◌==◌, false, List, [], ◌∷◌, ◌++◌, Option, Some, None, codes, decimal, unwrap_or, if◌then◌else◌}
use Rattle.js_base.specs.Clock.{second}
use Rattle.js_json.specs.declared.consumer.config.Config.{Config}
use Rattle.js_json.specs.declared.consumer.info.Info.{Info}
use Rattle.js_json.specs.declared.consumer.create_request.Action.TheVariants as action
use Rattle.js_json.specs.declared.consumer.create_request.CreateRequest.{CreateRequest}
use Rattle.js_json.specs.Conversion.{ordered_pull_config, ordered_push_config}
use Rattle.js_json.specs.CreateRequest.{create_request_value}
use Rattle.js_json.specs.declared.consumer.deliver_policy.DeliverPolicy.{DeliverPolicy}
use Rattle.js_json.specs.declared.consumer.deliver_policy.DeliverPolicy.TheVariants as policy
use Rattle.js_pull.specs.Limits.{ordered_batch_config, body_of}
use Rattle.js_pull.specs.declared.reader.PullSource.{PullSource}
use Rattle.js_pull.specs.Reader.{dot}
use Rattle.js_base.specs.ApiSubject.{under, consumer_api_subject, named_subject}
use Rattle.js_ordered_table.specs.declared.setup.Settings.{Settings}
use Rattle.js_ordered_table.specs.declared.consumer.Recreation.{Recreation}
use Rattle.js_ordered_table.specs.declared.consumer.Opened.{Opened}
use Rattle.js_ordered_table.specs.declared.consumer.ReplayInput.{ReplayInput}
use Rattle.js_ordered_table.specs.declared.setup.OrderedSetup.{OrderedSetup}
use Rattle.js_ordered_table.specs.declared.setup.OrderedSetup.TheVariants.{Pull, Push}
use Rattle.js_ordered_table.specs.declared.run.Start as starts
use Rattle.js_ordered_table.specs.declared.run.Start.TheVariants as start

-- ---- settings

-- the first of two that is there
abbrev pub or_else : Option ℕ → Option ℕ → Option ℕ
or_else None other = other
or_else (Some n) other = Some n

-- the context's, else the connection's
abbrev pub timeout : Settings → Option ℕ
timeout s = or_else s.context_timeout s.request_timeout

-- of the requests of a recreation
abbrev pub recreation_timeout : Settings → ℕ
recreation_timeout s = unwrap_or (timeout s) (10 * second)

-- of a later reader's info requests; the first one's has no bound of its own
abbrev pub info_timeout : ℕ → Settings → Option ℕ
info_timeout zero s = timeout s
info_timeout (suc recreation_count) s = Some (recreation_timeout s)

-- ---- setups

-- what a setup asks the server for
abbrev pub config_of : OrderedSetup → Config
config_of (Pull c) = ordered_pull_config c
config_of (Push c) = ordered_push_config c

-- an empty filter is none
abbrev pub and_filter : List ℕ → List (List ℕ) → List (List ℕ)
and_filter [] filters = filters
and_filter (c ∷ cs) filters = (c ∷ cs) ∷ filters

-- the subjects that a setup filters by
abbrev pub filters : OrderedSetup → List (List ℕ)
filters setup = and_filter (config_of setup).filter_subject (config_of setup).filter_subjects

-- a policy that starts at a sequence above 0
abbrev pub start_of_policy : DeliverPolicy → Option ℕ
start_of_policy (policy.ByStartSequence sequence) = if sequence == 0 then None else Some sequence
start_of_policy _ = None

-- the sequence from which a setup starts, where it names one
abbrev pub configured_start : OrderedSetup → Option ℕ
configured_start setup = start_of_policy (config_of setup).deliver_policy

-- ---- names and subjects

-- of the consumer that a recreation makes
abbrev pub consumer_name : ReplayInput → ℕ → List ℕ
consumer_name g recreation_count = g.first.name ++ codes "_" ++ decimal recreation_count

-- of the inbox with a number
abbrev pub inbox_subject : ReplayInput → ℕ → List ℕ
inbox_subject g inbox = g.settings.inbox_prefix ++ dot ++ decimal inbox

-- of the request that deletes the old consumer
abbrev pub delete_subject : ReplayInput → Recreation → List ℕ
delete_subject g r = under g.settings.api_prefix (consumer_api_subject (codes "CONSUMER.DELETE") g.first.stream_name r.old_name)

-- of the request that makes the new one
abbrev pub create_subject : ReplayInput → Recreation → List ℕ
create_subject g r =
    under g.settings.api_prefix (named_subject (under (codes "CONSUMER.CREATE") g.first.stream_name) r.new_name (config_of g.setup).filter_subject)

-- ---- bodies

-- a start as a configuration says it
abbrev pub policy_of : starts.Start → DeliverPolicy
policy_of start.All = policy.All
policy_of (start.From sequence) = policy.ByStartSequence sequence

-- where push is delivered to
abbrev pub opened_subject : Option Opened → Option (List ℕ)
opened_subject None = None
opened_subject (Some opened) = Some opened.subject

-- what is asked for: the setup's configuration with the new name, the start and push's inbox
abbrev pub asked_config : ReplayInput → Recreation → Config
asked_config g r = record (config_of g.setup) {
  name = Some r.new_name;
  deliver_policy = policy_of r.start;
  deliver_subject = opened_subject r.opened;
}

-- what a create request asks for
abbrev pub create_request : ReplayInput → Recreation → CreateRequest
create_request g r = record { action = action.CreateOrUpdate; config = asked_config g r; stream_name = g.first.stream_name }

-- the body of a create request
abbrev pub create_body : ReplayInput → Recreation → List ℕ
create_body g r = body_of (create_request_value (create_request g r))

-- ---- readers

-- whom the reader of a consumer with this info asks
abbrev pub pull_source : ReplayInput → ℕ → ℕ → List ℕ → Info → PullSource
pull_source g recreation_count inbox subject info = record {
  api = g.settings.api_prefix;
  stream = info.stream_name;
  name = info.name;
  inbox = inbox;
  subject = subject;
  info_timeout = info_timeout recreation_count g.settings;
  config = ordered_batch_config info;
  pinned = false;
  resilience = g.settings.resilience;
}
