-- Requests and answers that are known.
use Rattle.std.specs.Prelude.{⊤}
use Rattle.std.specs.Str.{is_utf8, chars}
use Rattle.js_json_members.proofs.OnLiterals.{reading_on_literals, writing_on_literals}
use Rattle.js_codes.specs.ErrorCode.{error_code}
use Rattle.js_codes.specs.Errors.{error_fields}
use Rattle.js_json.specs.AckPolicy.{ack_policy_named}
use Rattle.js_json.specs.Batch.{batch_config_value, pull_request_value}
use Rattle.js_json.specs.ConsumerConfig.{names, delivery, flow, limits, priorities, config_fields, config_value}
use Rattle.js_json.specs.ConsumerInfo.{identity, progress, states, info_fields}
use Rattle.js_json.specs.CreateRequest.{create_request_value}
use Rattle.js_json.specs.DeliverPolicy.{plain_policy_named, deliver_policy_of}
use Rattle.js_json.specs.PriorityPolicy.{priority_policy_named}
use Rattle.js_json.specs.ReplayPolicy.{replay_policy_named}
use Rattle.js_json.specs.Response.{error_in, response_of}
use Rattle.js_json.specs.SequenceInfo.{sequence_info_fields}

-- what an answer unfolds to compute the body of a known request
unfoldable pub requests_on_literals : ⊤
unfolding writing_on_literals config_value create_request_value batch_config_value pull_request_value
requests_on_literals = tt

-- and to read a known answer as the info of a consumer
unfoldable pub infos_on_literals : ⊤
unfolding reading_on_literals is_utf8 chars error_code error_fields plain_policy_named deliver_policy_of ack_policy_named
    replay_policy_named priority_policy_named names delivery flow limits priorities config_fields sequence_info_fields
    identity progress states info_fields error_in response_of
infos_on_literals = tt
