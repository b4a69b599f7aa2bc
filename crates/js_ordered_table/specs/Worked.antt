-- Worked runs: two setups, what happens to them, and the servers that serve them.
use Rattle.std.specs.Prelude.{◌≡◌, ℕ, zero, suc, ◌+◌, pos, Bool, false, List, [], ◌∷◌, ◌++◌, map, length, Some, None, codes, decimal}
use Rattle.std.specs.Global.{Global}
use Rattle.jiff.specs.Types.{Timestamp}
use Rattle.js_base.specs.declared.message.Message.{Message}
use Rattle.js_base.specs.declared.message.State.{State}
use Rattle.js_json.specs.declared.consumer.config.Config.{Config}
use Rattle.js_json.specs.declared.consumer.info.Info.{Info}
use Rattle.js_json.specs.declared.consumer.info.SequenceInfo.{SequenceInfo}
use Rattle.js_json.specs.declared.consumer.policies.ReplayPolicy.TheVariants as replay
use Rattle.js_json.specs.declared.consumer.deliver_policy.DeliverPolicy.{DeliverPolicy}
use Rattle.js_json.specs.declared.pull.OrderedConfig as pulls
use Rattle.js_json.specs.declared.push.OrderedConfig as pushes
use Rattle.js_json.specs.Conversion.{ordered_pull_config, ordered_push_config}
use Rattle.js_json.specs.declared.consumer.deliver_policy.DeliverPolicy.TheVariants as policy
use Rattle.js_pull.specs.Resilience.{none}
use Rattle.js_ordered_table.specs.declared.setup.Settings.{Settings}
use Rattle.js_ordered_table.specs.declared.consumer.ReplayInput.{ReplayInput}
use Rattle.js_ordered_table.specs.declared.setup.OrderedSetup.{OrderedSetup}
use Rattle.js_ordered_table.specs.declared.setup.OrderedSetup.TheVariants.{Pull, Push}
use Rattle.js_ordered_table.specs.declared.event.Event.{Event}
use Rattle.js_ordered_table.specs.declared.event.EventKind.TheVariants as what
use Rattle.js_ordered_table.specs.declared.run.Run.{Run}
use Rattle.js_ordered_table.specs.declared.run.Output.{Output}
use Rattle.js_ordered_table.specs.declared.run.Output.TheVariants as out
use Rattle.js_ordered_table.specs.Texts.{inbox_subject}
use Rattle.js_ordered_table.specs.Fold.{fold}
use Rattle.js_ordered_table.specs.Gapless.{Logged, Server, IsHonest, IsGapless, sequences, yields, all_outputs}

-- all at their defaults
abbrev pub settings : Settings
settings = record { api_prefix = codes "$JS.API"; inbox_prefix = codes "_INBOX.t"; context_timeout = None; request_timeout = Some 10_000_000_000; retries = 4_294_967_295; resilience = none }

-- the configurations of ordered consumers, with all else at its default
abbrev pub pull_config : DeliverPolicy → pulls.OrderedConfig
pull_config deliver = record {
  name = None;
  description = None;
  filter_subject = [];
  filter_subjects = [];
  replay_policy = replay.Instant;
  rate_limit = 0;
  sample_frequency = 0;
  headers_only = false;
  deliver_policy = deliver;
  max_waiting = pos 0;
  metadata = [];
  max_batch = pos 0;
  max_bytes = pos 0;
  max_expires = 0;
}

-- the same for push, which is delivered to `d.in`
abbrev pub push_config : pushes.OrderedConfig
push_config = record {
  deliver_subject = codes "d.in";
  name = None;
  description = None;
  filter_subject = [];
  filter_subjects = [];
  replay_policy = replay.Instant;
  rate_limit = 0;
  sample_frequency = 0;
  headers_only = false;
  deliver_policy = policy.All;
  max_waiting = pos 0;
  metadata = [];
}

-- 2026-01-01T00:00:00Z
abbrev new_year : Timestamp
new_year = record { nanosecond = pos 1_767_225_600_000_000_000; in_range = (record { le = tt }, record { le = tt }) }

-- nothing was delivered
abbrev nowhere : SequenceInfo
nowhere = record { consumer_sequence = 0; stream_sequence = 0; last_active = None }

-- what the server tells of a consumer with this name and configuration
abbrev pub info_with : List ℕ → Config → Info
info_with name config = record {
  stream_name = codes "events";
  name = name;
  created = new_year;
  config = config;
  delivered = nowhere;
  ack_floor = nowhere;
  num_ack_pending = 0;
  num_redelivered = 0;
  num_waiting = 0;
  num_pending = 0;
  cluster = None;
  push_bound = false;
  paused = false;
  pause_remaining = None;
  priority_groups = [];
}

-- what the server tells of the pull consumer `c1`
abbrev pub pull_info : Info
pull_info = info_with (codes "c1") (ordered_pull_config (pull_config policy.All))

-- the pull setup, of all messages
abbrev pub by_pull : ReplayInput
by_pull = record { settings = settings; setup = Pull (pull_config policy.All); first = pull_info }

-- the push setup, of all messages
abbrev pub by_push : ReplayInput
by_push = record { settings = settings; setup = Push push_config; first = info_with (codes "c1") (ordered_push_config push_config) }

-- the pull setup that starts at a sequence
abbrev pub pull_from : ℕ → ReplayInput
pull_from sequence = record by_pull { setup = Pull (pull_config (policy.ByStartSequence sequence)) }

-- a message with nothing but this payload
abbrev pub plain : List ℕ → Message
plain payload = record { subject = []; reply = None; payload = payload; headers = None; status = None; description = None; length = 0 }

-- a message in its box, which lies on some heap, is the message
abbrev pub boxed : Global → Message → Message
boxed heap message = message

-- a message with number n, sequence s and this payload
abbrev pub numbered : ℕ → ℕ → List ℕ → Message
numbered n s payload = record (plain payload) {
  reply = Some (codes "$JS.ACK.events.c1.1." ++ decimal s ++ codes "." ++ decimal n ++ codes ".1790230470084404000.0");
}

-- its arrival at t on inbox i
abbrev pub arrives : Global → ℕ → ℕ → ℕ → ℕ → List ℕ → Event
arrives heap t i n s payload = record { at = t; what = what.Arrival i (boxed heap (numbered n s payload)) }

-- the same with a subject
abbrev pub arrives_on : Global → List ℕ → ℕ → ℕ → ℕ → ℕ → List ℕ → Event
arrives_on heap subject t i n s payload = record { at = t; what = what.Arrival i (boxed heap (record (numbered n s payload) { subject = subject })) }

-- a status, with a description
abbrev pub with_status : Global → ℕ → ℕ → ℕ → List ℕ → Event
with_status heap t i status description = record { at = t; what = what.Arrival i (boxed heap (record (plain []) { status = Some (record { 0 = status }); description = Some description })) }

-- the answer to a request at t
abbrev pub answers : Global → ℕ → ℕ → List ℕ → Event
answers heap t request payload = record { at = t; what = what.Answer request (Some (boxed heap (plain payload))) }

-- time passes up to t
abbrev pub tick : ℕ → Event
tick t = record { at = t; what = what.Tick }

-- from t on sends go through, or they fail
abbrev pub link : ℕ → Bool → Event
link t up = record { at = t; what = what.Link up }

-- from t on the connection is in this state
abbrev pub connection : ℕ → State → Event
connection t state = record { at = t; what = what.Connection state }

-- the body of a pull request that nothing caps
abbrev pub whole_body : List ℕ
whole_body = codes "{\"batch\":500,\"expires\":30000000000,\"group\":null,\"idle_heartbeat\":15000000000,\"max_bytes\":0,\"min_ack_pending\":null,\"min_pending\":null,\"priority\":null}"

-- the answer to a deletion
abbrev pub ok : List ℕ
ok = codes "{\"success\":true}"

-- the answer to the create of a pull consumer with this name
abbrev pub info_text : List ℕ → List ℕ
info_text name = codes "{\"stream_name\":\"events\",\"name\":\"" ++ name ++ codes "\",\"created\":\"2026-01-01T00:00:00Z\",\"config\":{\"deliver_policy\":\"all\"},\"delivered\":{\"consumer_seq\":0,\"stream_seq\":0},\"ack_floor\":{\"consumer_seq\":0,\"stream_seq\":0},\"num_ack_pending\":0,\"num_redelivered\":0,\"num_waiting\":0,\"num_pending\":0}"

-- and of a push consumer
abbrev pub push_text : List ℕ → List ℕ
push_text name = codes "{\"stream_name\":\"events\",\"name\":\"" ++ name ++ codes "\",\"created\":\"2026-01-01T00:00:00Z\",\"config\":{\"deliver_policy\":\"all\",\"deliver_subject\":\"d.in\"},\"delivered\":{\"consumer_seq\":0,\"stream_seq\":0},\"ack_floor\":{\"consumer_seq\":0,\"stream_seq\":0},\"num_ack_pending\":0,\"num_redelivered\":0,\"num_waiting\":0,\"num_pending\":0}"

-- ---- what the rows put out

-- a run with these outputs
abbrev pub run_of : List Output → List (List Output) → Bool → Run
run_of opening steps ended = record {
  opening = record { outputs = opening };
  steps = map (λ outputs. record { outputs = outputs }) steps;
  ended = ended;
}

-- a pull request for a consumer, answered on inbox i
abbrev pub asks : List ℕ → ℕ → Output
asks name i = out.Publish (codes "$JS.API.CONSUMER.MSG.NEXT.events." ++ name) (Some (inbox_subject by_pull i)) whole_body

-- the request that deletes a consumer
abbrev pub deletes : ℕ → List ℕ → Output
deletes number name = out.Request number (codes "$JS.API.CONSUMER.DELETE.events." ++ name) (codes "{}")

-- ---- servers of worked runs

-- so many numbers, from one on
abbrev pub count_from : ℕ → ℕ → List ℕ
count_from start zero = []
count_from start (suc n) = start ∷ count_from (start + 1) n

-- a log of these payloads, without subjects
abbrev pub log_of : List (List ℕ) → List Logged
log_of [] = []
log_of (payload ∷ payloads) = record { subject = []; payload = payload } ∷ log_of payloads

-- a log, the start of inbox 0 with its number of entries, and those of the later inboxes
abbrev pub server : List (List ℕ) → ℕ → ℕ → Server
server payloads first later = record { log = log_of payloads; removed = []; starts = starts; lists = lists }
  where
    starts : ℕ → ℕ
    starts zero = 1
    starts (suc inbox) = first

    lists : ℕ → List ℕ
    lists zero = count_from 1 (length payloads)
    lists (suc inbox) = count_from first later

-- two messages in order
abbrev pub in_order : Global → List Event
in_order heap = arrives heap 1 0 1 1 (codes "a") ∷ arrives heap 2 0 2 2 (codes "b") ∷ []

-- its server
abbrev pub server_in_order : Server
server_in_order = server (codes "a" ∷ codes "b" ∷ []) 1 2

-- two messages, a gap, and the recreation that follows it
abbrev pub gap : Global → List Event
gap heap = arrives heap 1 0 1 1 (codes "a") ∷ arrives heap 2 0 2 2 (codes "b") ∷ arrives heap 3 0 4 4 (codes "d") ∷ answers heap 4 1 ok ∷ answers heap 5 2 (info_text (codes "c1_1")) ∷ []

-- its server, which sends 3 and 4 again
abbrev pub server_gap : Server
server_gap = server (codes "a" ∷ codes "b" ∷ codes "c" ∷ codes "d" ∷ []) 3 2

-- push, with an arrival that comes before its create is answered
abbrev pub held : Global → List Event
held heap = arrives heap 1 0 1 1 (codes "a") ∷ arrives heap 2 0 3 3 (codes "c") ∷ answers heap 3 1 ok ∷ arrives heap 4 1 1 2 (codes "b") ∷ answers heap 5 2 (push_text (codes "c1_1")) ∷ []

-- its server, which sends 2 and 3 again
abbrev pub server_held : Server
server_held = server (codes "a" ∷ codes "b" ∷ codes "c" ∷ []) 2 2

-- after the gap, sequence 3 is gone, and 4 is the first that is sent again
abbrev pub removed : Global → List Event
removed heap = arrives heap 1 0 1 1 (codes "a") ∷ arrives heap 2 0 2 2 (codes "b") ∷ arrives heap 3 0 4 4 (codes "d") ∷ answers heap 4 1 ok ∷ answers heap 5 2 (info_text (codes "c1_1")) ∷ arrives heap 6 1 1 4 (codes "d") ∷ []

-- what is left from 3 on
abbrev pub left : List ℕ
left = 4 ∷ []

-- its server, which has removed 3
abbrev pub server_removed : Server
server_removed = record server_gap { removed = 3 ∷ []; lists = lists }
  where
    lists : ℕ → List ℕ
    lists zero = count_from 1 4
    lists (suc inbox) = left

-- a pull setup that filters, and starts at sequence 2
abbrev pub filtered_setup : OrderedSetup
filtered_setup = Pull (record (pull_config (policy.ByStartSequence 2)) { filter_subject = codes "orders.*" })

-- a consumer of that setup
abbrev pub by_filter : ReplayInput
by_filter = record by_pull { setup = filtered_setup }

-- it is sent what its filter matches, from its start on
abbrev pub filtered : Global → List Event
filtered heap = arrives_on heap (codes "orders.b") 1 0 1 3 (codes "b") ∷ arrives_on heap (codes "orders.c") 2 0 2 5 (codes "c") ∷ []

-- the sequences of its inbox
abbrev pub chosen : List ℕ
chosen = 3 ∷ 5 ∷ []

-- its server, of whose five messages the filter matches three
abbrev pub server_filtered : Server
server_filtered = record {
  log = record { subject = codes "orders.a"; payload = codes "a" }
      ∷ record { subject = codes "stock.x"; payload = codes "x" }
      ∷ record { subject = codes "orders.b"; payload = codes "b" }
      ∷ record { subject = codes "stock.y"; payload = codes "y" }
      ∷ record { subject = codes "orders.c"; payload = codes "c" }
      ∷ [];
  removed = [];
  starts = λ inbox. 2;
  lists = λ inbox. chosen;
}

-- the server is honest in the run of these events, which yields these sequences and leaves no gap
pub record LeavesNoGap (s : Server) (g : ReplayInput) (es : Global → List Event) (yielded : List ℕ) : Type 0 where
  pub honest : (heap : Global) → IsHonest s g.setup (es heap) (fold g 0 (es heap))
  pub yields_these : (heap : Global) → sequences (yields (all_outputs (fold g 0 (es heap)))) ≡ yielded
  pub gapless : (heap : Global) → IsGapless s g.setup (yields (all_outputs (fold g 0 (es heap))))
