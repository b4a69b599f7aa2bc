-- Worked rows of a stream with its own configuration, each computed.
use Rattle.std.specs.Prelude.{◌≡◌, refl, ℕ, pos, negsuc, true, false, List, [], ◌∷◌, Some, None, codes, ⊤}
use Rattle.js_json_members.proofs.OnLiterals.{writing_on_literals}
use Rattle.js_base.specs.declared.message.Message.{Message}
use Rattle.js_base.specs.declared.message.State.TheVariants.{Connected}
use Rattle.js_json.specs.declared.pull.batch.BatchConfig.{BatchConfig}
use Rattle.js_json.specs.Batch.{pull_request_value, batch_config_value}
use Rattle.js_link.specs.declared.sent.Sent.{Sent}
use Rattle.js_link.specs.declared.sent.Sent.TheVariants as goes
use Rattle.js_pull.specs.Limits.{batch_of, clamp_batch, clamp_heartbeat, pull_body}
use Rattle.js_pull.specs.declared.reader.PullSource.{PullSource}
use Rattle.js_pull.specs.Reader.{new_reader}
use Rattle.js_pull.specs.Resilience.{none}
use Rattle.js_pull.specs.Reader.{opening}
use Rattle.js_pull.specs.Poll.{Position, Stride, walk}
use Rattle.js_pull.specs.declared.reader.ReaderOutput.TheVariants as tells
use Rattle.js_pull.specs.declared.reader.MessagesErrorKind.TheVariants as error

-- what a worked row unfolds to be computed
unfoldable pub streams_on_literals : ⊤
unfolding writing_on_literals pull_request_value
streams_on_literals = tt

abbrev pub source : BatchConfig → PullSource
source config = record {
  api = codes "$JS.API";
  stream = codes "events";
  name = codes "c1";
  inbox = 0;
  subject = codes "_INBOX.t.0";
  info_timeout = None;
  config = config;
  pinned = false;
  resilience = none;
}

abbrev stream : PullSource → Position
stream source = record { reader = new_reader source; todo = opening; connection = Connected }

-- a row that is passed with the link up, and meets nothing
abbrev at : ℕ → Stride
at t = record {
  passing = record { now = t; up = true; request = 1; inbox = 1; subject = codes "_INBOX.t.1" };
  change = None;
  answer = None;
  arrival = None;
}

-- a row that meets a message
abbrev met : ℕ → Message → Stride
met t message = record (at t) { arrival = Some message }

abbrev plain : Message
plain = record { subject = []; reply = None; payload = []; headers = None; status = None; description = None; length = 0 }

abbrev asks : List ℕ → Sent
asks body = goes.Publish (codes "$JS.API.CONSUMER.MSG.NEXT.events.c1") (Some (codes "_INBOX.t.0")) None body

abbrev exceeded : Message
exceeded = record plain { status = Some (record { 0 = 409 }); description = Some (codes "Exceeded MaxRequestBatch of 10") }

abbrev b50 : List ℕ
b50 = codes "{\"batch\":50,\"group\":null,\"max_bytes\":0,\"min_ack_pending\":null,\"min_pending\":null,\"priority\":null}"

-- an error that ends the stream: one request was sent, and later events are empty
row_limit : (walk (at 0 ∷ at 0 ∷ at 0 ∷ at 1 ∷ at 1 ∷ met 1 exceeded ∷ at 2 ∷ at 3 ∷ []) (stream (source (batch_of 50)))).told ≡ tells.Tells error.RequestLimitExceeded ∷ []
unfolding streams_on_literals
row_limit = refl

row_limit_sent : (walk (at 0 ∷ at 0 ∷ at 0 ∷ at 1 ∷ at 1 ∷ met 1 exceeded ∷ at 2 ∷ at 3 ∷ []) (stream (source (batch_of 50)))).sent ≡ asks b50 ∷ []
unfolding streams_on_literals
row_limit_sent = refl

-- `messages()`, and `stream()` without a heartbeat
row_messages : pull_body None (record (batch_of 100) { expires = Some 30_000_000_000; idle_heartbeat = 15_000_000_000 })
    ≡ codes "{\"batch\":100,\"expires\":30000000000,\"group\":null,\"idle_heartbeat\":15000000000,\"max_bytes\":0,\"min_ack_pending\":null,\"min_pending\":null,\"priority\":null}"
unfolding streams_on_literals
row_messages = refl

row_fetch : pull_body None (record (batch_of 200) { no_wait = true; group = Some (codes "g"); min_pending = Some 3; min_ack_pending = Some 4; priority = Some 1 })
    ≡ codes "{\"batch\":200,\"group\":\"g\",\"max_bytes\":0,\"min_ack_pending\":4,\"min_pending\":3,\"no_wait\":true,\"priority\":1}"
unfolding streams_on_literals
row_fetch = refl

-- an expiry of 0 has no timer: one request is sent
row_no_expiry : (walk (at 0 ∷ at 0 ∷ at 0 ∷ at 5_000_000_000 ∷ at 5_000_000_000 ∷ at 5_000_000_000 ∷ at 5_000_000_000 ∷ []) (stream (source (record (batch_of 50) { expires = Some 0 })))).sent
    ≡ asks (codes "{\"batch\":50,\"expires\":0,\"group\":null,\"max_bytes\":0,\"min_ack_pending\":null,\"min_pending\":null,\"priority\":null}") ∷ []
unfolding streams_on_literals
row_no_expiry = refl

-- the bytes reach half of their limit before the messages do
abbrev limited : BatchConfig
limited = record (batch_of 10) { max_bytes = 100 }

abbrev b10 : List ℕ
b10 = codes "{\"batch\":10,\"group\":null,\"max_bytes\":100,\"min_ack_pending\":null,\"min_pending\":null,\"priority\":null}"

row_bytes : (walk (at 0 ∷ at 0 ∷ at 0 ∷ at 1 ∷ at 1 ∷ met 1 (record plain { length = 50 }) ∷ at 1 ∷ at 1 ∷ []) (stream (source limited))).sent ≡ asks b10 ∷ asks b10 ∷ []
unfolding streams_on_literals
row_bytes = refl

row_few_bytes : (walk (at 0 ∷ at 0 ∷ at 0 ∷ at 1 ∷ at 1 ∷ met 1 (record plain { length = 49 }) ∷ at 1 ∷ at 1 ∷ []) (stream (source limited))).sent ≡ asks b10 ∷ []
unfolding streams_on_literals
row_few_bytes = refl

-- without a pin a pull request is the batch alone
no_pin : (c : BatchConfig) → pull_request_value None c ≡ batch_config_value c
unfolding writing_on_literals pull_request_value batch_config_value
no_pin c = refl

-- a pin is sent from the message that names it on, and forgotten at status 423
abbrev pinned : PullSource
pinned = record (source (batch_of 1)) { pinned = true }

abbrev names_pin : Message
names_pin = record plain { headers = Some (record { name = codes "Nats-Pin-Id"; value = codes "x7" } ∷ []) }

abbrev b1 : List ℕ
b1 = codes "{\"batch\":1,\"group\":null,\"max_bytes\":0,\"min_ack_pending\":null,\"min_pending\":null,\"priority\":null}"

abbrev b1_pinned : List ℕ
b1_pinned = codes "{\"batch\":1,\"group\":null,\"id\":\"x7\",\"max_bytes\":0,\"min_ack_pending\":null,\"min_pending\":null,\"priority\":null}"

row_pin : (walk (at 0 ∷ at 0 ∷ at 0 ∷ at 1 ∷ at 1 ∷ met 1 names_pin ∷ at 1 ∷ at 1 ∷ at 2 ∷ at 2 ∷ met 2 (record plain { status = Some (record { 0 = 423 }) }) ∷ at 2 ∷ at 2 ∷ []) (stream pinned)).sent
    ≡ asks b1 ∷ asks b1_pinned ∷ asks b1 ∷ []
unfolding streams_on_literals
row_pin = refl

-- caps
row_caps : clamp_batch 200 (pos 100) ≡ 100
row_caps = refl

row_no_cap : clamp_batch 200 (negsuc 0) ≡ 200
row_no_cap = refl

row_heartbeat : clamp_heartbeat 10_000_000_000 5_000_000_000 ≡ 2_500_000_000
row_heartbeat = refl
