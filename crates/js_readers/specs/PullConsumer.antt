-- What the readers of a pull consumer take from it.
use Rattle.std.specs.Prelude.{ℕ, ◌*◌, Bool, true, false, Option, Some, None, unwrap_or, codes}
use Rattle.js_base.specs.Clock.{second}
use Rattle.js_json.specs.declared.consumer.policies.PriorityPolicy.{PriorityPolicy}
use Rattle.js_json.specs.declared.consumer.policies.PriorityPolicy.TheVariants as policy
use Rattle.js_json.specs.declared.pull.batch.BatchConfig.{BatchConfig}
use Rattle.js_json.specs.declared.pull.Config as pull
use Rattle.js_call_consumers.specs.declared.consumer.Consumer.{Consumer}
use Rattle.js_pull.specs.Limits.{pull_body}
use Rattle.js_pull.specs.Reader.{api_subject}
use Rattle.js_readers.specs.declared.pull.request.PullRequest.{PullRequest}

-- one of several clients is pinned
abbrev pub is_pinned : PriorityPolicy → Bool
is_pinned policy.PinnedClient = true
is_pinned policy.Overflow = false
is_pinned policy.None = false
is_pinned policy.Prioritized = false

-- how long a double ack of a message waits: the scope's timeout, or else five seconds
abbrev pub message_timeout : Option ℕ → ℕ
message_timeout timeout = unwrap_or timeout (5 * second)

-- how long the answer to an info request is waited for: the scope's timeout, or else the connection's
abbrev pub info_timeout : Option ℕ → Option ℕ → Option ℕ
info_timeout (Some own) connection = Some own
info_timeout None connection = connection

-- the request to a consumer for so much
abbrev pub pull_request : Consumer pull.Config → BatchConfig → PullRequest
pull_request c config = record {
  subject = api_subject c.scope.prefix (codes "CONSUMER.MSG.NEXT") c.info.stream_name c.info.name;
  payload = pull_body None config;
}
