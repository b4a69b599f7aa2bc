-- What a pull request asks for, as the consumer's info caps it.
use Rattle.std.specs.Prelude.{ℕ, ℤ, pos, zero, suc, negsuc, ◌/◌, ◌*◌, false, min, List, [], Option, Some, None, Result, Ok, Err}
use Rattle.serde_json.specs.Data.{Data}
use Rattle.js_base.specs.Clock.{second}
use Rattle.js_json.specs.declared.pull.batch.BatchConfig.{BatchConfig}
use Rattle.js_json.specs.declared.consumer.info.Info.{Info}
use Rattle.js_json_members.specs.declared.error.ReadError.{ReadError}
use Rattle.js_json_members.specs.Rows.{text_of}
use Rattle.js_json.specs.Batch.{pull_request_value}

-- a cap of 0 or below is none
abbrev pub clamp_batch : ℕ → ℤ → ℕ
clamp_batch batch (pos zero) = batch
clamp_batch batch (pos (suc n)) = min batch (suc n)
clamp_batch batch (negsuc n) = batch

-- a cap of 0 is none
abbrev pub clamp_expires : ℕ → ℕ → ℕ
clamp_expires expires zero = expires
clamp_expires expires (suc n) = min expires (suc n)

-- a heartbeat is at most half of the expiry
abbrev pub clamp_heartbeat : ℕ → ℕ → ℕ
clamp_heartbeat heartbeat expires = min heartbeat (expires / 2)

-- a batch with all else at its default
abbrev pub batch_of : ℕ → BatchConfig
batch_of batch = record {
  batch = batch;
  max_bytes = 0;
  min_pending = None;
  min_ack_pending = None;
  group = None;
  priority = None;
  expires = None;
  no_wait = false;
  idle_heartbeat = 0;
}

-- what an ordered consumer asks for
abbrev pub ordered_batch_config : Info → BatchConfig
ordered_batch_config info =
    let expires = clamp_expires (30 * second) info.config.max_expires in
    record (batch_of (clamp_batch 500 info.config.max_batch)) {
      expires = Some expires;
      idle_heartbeat = clamp_heartbeat (15 * second) expires;
    }

-- ---- bodies

-- a text, or nothing where it can't be written
abbrev pub text_or_nothing : Result (List ℕ) ReadError → List ℕ
text_or_nothing (Ok text) = text
text_or_nothing (Err error) = []

-- the body of a request, from its value
abbrev pub body_of : Result Data ReadError → List ℕ
body_of value = text_or_nothing (text_of value)

-- the body of a pull request, with the pin of a pinned client where there is one
abbrev pub pull_body : Option (List ℕ) → BatchConfig → List ℕ
pull_body pin config = body_of (pull_request_value pin config)
