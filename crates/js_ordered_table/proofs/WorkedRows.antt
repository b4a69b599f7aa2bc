-- Worked rows, each computed.
use Rattle.std.specs.Prelude.{pos, ◌≡◌, refl, ℕ, true, false, List, [], ◌∷◌, ◌++◌, Some, None, codes}
use Rattle.std.specs.Global.{Global}
use Rattle.js_ordered_table.specs.Fold.{fold}
use Rattle.js_ordered_table.specs.Refusal.{refuse}
use Rattle.js_ordered_table.specs.declared.run.ReplayError.TheVariants as error
use Rattle.js_ordered_table.specs.declared.run.Field.TheVariants as field
use Rattle.js_base.specs.declared.message.State.TheVariants.{Connected, Disconnected}
use Rattle.js_ordered_table.specs.declared.consumer.ReplayInput.{ReplayInput}
use Rattle.js_ordered_table.specs.declared.event.Event.{Event}
use Rattle.js_ordered_table.specs.declared.event.EventKind.TheVariants as what
use Rattle.js_ordered_table.proofs.OnLiterals.{replays_on_literals}
use Rattle.js_ordered_table.specs.Worked.{pull_info, settings, plain, boxed, by_pull, pull_from, by_push, arrives, arrives_on, answers, tick, link, connection, with_status, ok, info_text, push_text, run_of, asks, deletes}
use Rattle.js_ordered_table.specs.declared.run.Start.TheVariants as start
use Rattle.js_ordered_table.specs.declared.run.ItemKind.TheVariants as item
use Rattle.js_ordered_table.specs.declared.run.Output.{Output}
use Rattle.js_ordered_table.specs.declared.run.Output.TheVariants as out

row_opening : fold by_pull 0 [] ≡ run_of (asks (codes "c1") 0 ∷ []) [] false
unfolding replays_on_literals
row_opening = refl

row_in_order : (heap : Global) → fold by_pull 0 (arrives heap 1 0 1 1 (codes "a") ∷ arrives heap 2 0 2 2 (codes "b") ∷ [])
    ≡ run_of (asks (codes "c1") 0 ∷ []) ((out.Yield 1 1 [] (codes "a") ∷ []) ∷ (out.Yield 2 2 [] (codes "b") ∷ []) ∷ []) false
unfolding replays_on_literals
row_in_order heap = refl

-- the text of a create request
abbrev create : ℕ → List ℕ → List ℕ → Output
create number name start = out.Request number (codes "$JS.API.CONSUMER.CREATE.events." ++ name)
    (codes "{\"action\":\"\",\"config\":{\"ack_policy\":\"none\"," ++ start ++ codes ",\"replay_policy\":\"instant\"},\"stream_name\":\"events\"}")

row_gap : (heap : Global) → fold by_pull 0 (arrives heap 1 0 1 1 (codes "a") ∷ arrives heap 2 0 2 2 (codes "b") ∷ arrives heap 3 0 4 4 (codes "d") ∷ answers heap 4 1 ok ∷ answers heap 5 2 (info_text (codes "c1_1")) ∷ [])
    ≡ run_of (asks (codes "c1") 0 ∷ []) ((out.Yield 1 1 [] (codes "a") ∷ []) ∷ (out.Yield 2 2 [] (codes "b") ∷ [])
    ∷ (out.Recreate 1 (start.From 3) ∷ deletes 1 (codes "c1") ∷ [])
    ∷ (create 2 (codes "c1_1") (codes "\"deliver_policy\":\"by_start_sequence\",\"inactive_threshold\":30000000000,\"max_deliver\":1,\"mem_storage\":true,\"name\":\"c1_1\",\"num_replicas\":1,\"opt_start_seq\":3") ∷ [])
    ∷ (out.Subscribe 1 (codes "_INBOX.t.1") ∷ asks (codes "c1_1") 1 ∷ []) ∷ []) false
unfolding replays_on_literals
row_gap heap = refl

row_sequence_zero : (heap : Global) → fold by_pull 0 (arrives heap 1 0 1 0 (codes "a") ∷ arrives heap 2 0 3 9 (codes "b") ∷ [])
    ≡ run_of (asks (codes "c1") 0 ∷ []) ((out.Yield 0 1 [] (codes "a") ∷ []) ∷ (out.Recreate 1 start.All ∷ deletes 1 (codes "c1") ∷ []) ∷ []) false
unfolding replays_on_literals
row_sequence_zero heap = refl

row_silent_pull : fold by_pull 0 (tick 30_000_000_000 ∷ tick 35_000_000_000 ∷ tick 60_000_000_000 ∷ [])
    ≡ run_of (asks (codes "c1") 0 ∷ []) ([] ∷ (asks (codes "c1") 0 ∷ []) ∷ (out.Recreate 1 start.All ∷ deletes 1 (codes "c1") ∷ []) ∷ []) false
unfolding replays_on_literals
row_silent_pull = refl

abbrev pull_within_a_second : ReplayInput
pull_within_a_second = record by_pull { settings = record settings { context_timeout = Some 1_000_000_000 } }

row_unanswered : (heap : Global) → fold pull_within_a_second 0 (arrives heap 0 0 2 2 (codes "b") ∷ tick 1_000_000_000 ∷ tick 2_000_000_000 ∷ tick 2_500_000_000 ∷ [])
    ≡ run_of (asks (codes "c1") 0 ∷ []) ((out.Recreate 1 start.All ∷ deletes 1 (codes "c1") ∷ [])
    ∷ (create 2 (codes "c1_1") (codes "\"deliver_policy\":\"all\",\"inactive_threshold\":30000000000,\"max_deliver\":1,\"mem_storage\":true,\"name\":\"c1_1\",\"num_replicas\":1") ∷ [])
    ∷ [] ∷ (deletes 3 (codes "c1") ∷ []) ∷ []) false
unfolding replays_on_literals
row_unanswered heap = refl

row_silent_push : fold by_push 0 (tick 10_000_000_000 ∷ [])
    ≡ run_of [] ((out.Item item.MissingHeartbeat ∷ out.Recreate 1 start.All ∷ deletes 1 (codes "c1") ∷ []) ∷ []) false
unfolding replays_on_literals
row_silent_push = refl

row_held : (heap : Global) → fold by_push 0 (arrives heap 1 0 1 1 (codes "a") ∷ arrives heap 2 0 3 3 (codes "c") ∷ answers heap 3 1 ok ∷ arrives heap 4 1 1 2 (codes "b") ∷ answers heap 5 2 (push_text (codes "c1_1")) ∷ [])
    ≡ run_of [] ((out.Yield 1 1 [] (codes "a") ∷ []) ∷ (out.Recreate 1 (start.From 2) ∷ deletes 1 (codes "c1") ∷ [])
    ∷ (out.Subscribe 1 (codes "_INBOX.t.1")
    ∷ create 2 (codes "c1_1") (codes "\"deliver_policy\":\"by_start_sequence\",\"deliver_subject\":\"_INBOX.t.1\",\"flow_control\":true,\"idle_heartbeat\":5000000000,\"inactive_threshold\":30000000000,\"max_deliver\":1,\"mem_storage\":true,\"name\":\"c1_1\",\"num_replicas\":1,\"opt_start_seq\":2") ∷ [])
    ∷ [] ∷ (out.Yield 2 1 [] (codes "b") ∷ []) ∷ []) false
unfolding replays_on_literals
row_held heap = refl

row_push_reconnects : (heap : Global) → fold by_push 0 (connection 1 Disconnected ∷ answers heap 2 1 ok ∷ connection 3 Connected ∷ answers heap 4 2 (push_text (codes "c1_1")) ∷ [])
    ≡ run_of [] ((out.Recreate 1 start.All ∷ deletes 1 (codes "c1") ∷ [])
    ∷ (out.Subscribe 1 (codes "_INBOX.t.1")
    ∷ create 2 (codes "c1_1") (codes "\"deliver_policy\":\"all\",\"deliver_subject\":\"_INBOX.t.1\",\"flow_control\":true,\"idle_heartbeat\":5000000000,\"inactive_threshold\":30000000000,\"max_deliver\":1,\"mem_storage\":true,\"name\":\"c1_1\",\"num_replicas\":1") ∷ [])
    ∷ [] ∷ [] ∷ []) false
unfolding replays_on_literals
row_push_reconnects heap = refl

abbrev flow_control : Global → Event
flow_control heap = record {
  at = 2;
  what = what.Arrival 0 (boxed heap (record (plain []) {
    status = Some (record { 0 = 100 });
    reply = Some (codes "$JS.FC.x");
    headers = Some (record { name = codes "Nats-Last-Consumer"; value = codes "2" } ∷ []);
  }));
}

row_flow_control : (heap : Global) → fold by_push 0 (arrives heap 1 0 1 1 (codes "a") ∷ flow_control heap ∷ [])
    ≡ run_of [] ((out.Yield 1 1 [] (codes "a") ∷ [])
    ∷ (out.Publish (codes "$JS.FC.x") None [] ∷ out.Recreate 1 (start.From 2) ∷ deletes 1 (codes "c1") ∷ []) ∷ []) false
unfolding replays_on_literals
row_flow_control heap = refl

abbrev too_many : List ℕ
too_many = codes "Exceeded MaxRequestBatch of 100"

row_limit_again : (heap : Global) → fold by_pull 0 (with_status heap 1 0 409 too_many ∷ answers heap 2 1 ok ∷ answers heap 3 2 (info_text (codes "c1_1")) ∷ with_status heap 4 1 409 too_many ∷ [])
    ≡ run_of (asks (codes "c1") 0 ∷ []) ((out.Recreate 1 start.All ∷ deletes 1 (codes "c1") ∷ [])
    ∷ (create 2 (codes "c1_1") (codes "\"deliver_policy\":\"all\",\"inactive_threshold\":30000000000,\"max_deliver\":1,\"mem_storage\":true,\"name\":\"c1_1\",\"num_replicas\":1") ∷ [])
    ∷ (out.Subscribe 1 (codes "_INBOX.t.1") ∷ asks (codes "c1_1") 1 ∷ [])
    ∷ (out.Item item.RequestLimitExceeded ∷ []) ∷ []) true
unfolding replays_on_literals
row_limit_again heap = refl

abbrev pull_without_retries : ReplayInput
pull_without_retries = record by_pull { settings = record settings { retries = 0 } }

row_no_link : (heap : Global) → fold pull_without_retries 0 (link 1 false ∷ arrives heap 2 0 2 2 (codes "b") ∷ tick 3 ∷ [])
    ≡ run_of (asks (codes "c1") 0 ∷ []) ([] ∷ (out.Recreate 1 start.All ∷ out.Item item.Recreate ∷ []) ∷ (out.Recreate 2 start.All ∷ out.Item item.Recreate ∷ []) ∷ []) false
unfolding replays_on_literals
row_no_link heap = refl

row_pull_reconnects : (heap : Global) → fold by_pull 0 (connection 1 Disconnected ∷ connection 2 Connected ∷ answers heap 3 1 (info_text (codes "c1")) ∷ [])
    ≡ run_of (asks (codes "c1") 0 ∷ []) ([] ∷ (out.Request 1 (codes "$JS.API.CONSUMER.INFO.events.c1") (codes "{}") ∷ []) ∷ (asks (codes "c1") 0 ∷ []) ∷ []) false
unfolding replays_on_literals
row_pull_reconnects heap = refl

-- the sixth failure of an info, and the request that follows it, put out an item each
row_six_failures : fold by_pull 0 (connection 0 Disconnected ∷ link 0 false ∷ connection 0 Connected ∷ tick 500_000_000 ∷ tick 1_500_000_000 ∷ tick 3_000_000_000 ∷ tick 5_000_000_000 ∷ tick 15_000_000_000 ∷ [])
    ≡ run_of (asks (codes "c1") 0 ∷ []) ([] ∷ [] ∷ [] ∷ [] ∷ [] ∷ [] ∷ [] ∷ (out.Item item.Pull ∷ out.Item item.Pull ∷ []) ∷ []) false
unfolding replays_on_literals
row_six_failures = refl

abbrev capped_body : List ℕ
capped_body = codes "{\"batch\":7,\"expires\":5000000000,\"group\":null,\"idle_heartbeat\":2500000000,\"max_bytes\":0,\"min_ack_pending\":null,\"min_pending\":null,\"priority\":null}"

abbrev next_capped : Output
next_capped = out.Publish (codes "$JS.API.CONSUMER.MSG.NEXT.events.c1") (Some (codes "_INBOX.t.0")) capped_body

abbrev pull_capped : ReplayInput
pull_capped = record by_pull { first = record pull_info { config = record pull_info.config { max_batch = pos 7; max_expires = 5_000_000_000 } } }

row_capped : (heap : Global) → fold pull_capped 0 (arrives heap 1 0 1 1 [] ∷ arrives heap 2 0 2 2 [] ∷ arrives heap 3 0 3 3 [] ∷ arrives heap 4 0 4 4 [] ∷ [])
    ≡ run_of (next_capped ∷ []) ((out.Yield 1 1 [] [] ∷ []) ∷ (out.Yield 2 2 [] [] ∷ []) ∷ (out.Yield 3 3 [] [] ∷ []) ∷ (out.Yield 4 4 [] [] ∷ next_capped ∷ []) ∷ []) false
unfolding replays_on_literals
row_capped heap = refl

-- a held arrival, then the timeout
abbrev push_without_retries : ReplayInput
push_without_retries = record by_push { settings = record settings { context_timeout = Some 1; retries = 0 } }

row_held_at_timeout : (heap : Global) → fold push_without_retries 0 (arrives heap 1 0 2 2 (codes "b") ∷ answers heap 2 1 ok ∷ arrives heap 3 1 1 1 (codes "a") ∷ [])
    ≡ run_of [] ((out.Recreate 1 start.All ∷ deletes 1 (codes "c1") ∷ [])
    ∷ (out.Subscribe 1 (codes "_INBOX.t.1")
    ∷ create 2 (codes "c1_1") (codes "\"deliver_policy\":\"all\",\"deliver_subject\":\"_INBOX.t.1\",\"flow_control\":true,\"idle_heartbeat\":5000000000,\"inactive_threshold\":30000000000,\"max_deliver\":1,\"mem_storage\":true,\"name\":\"c1_1\",\"num_replicas\":1") ∷ [])
    ∷ (out.Item item.Recreate ∷ []) ∷ []) false
unfolding replays_on_literals
row_held_at_timeout heap = refl

row_sequence_end : (heap : Global) → refuse by_pull 0 (arrives heap 1 0 1 18_446_744_073_709_551_615 (codes "a") ∷ arrives heap 2 0 3 9 (codes "b") ∷ []) ≡ Some (error.SequenceEnd 1)
unfolding replays_on_literals
row_sequence_end heap = refl

row_early_event : refuse by_pull 0 (tick 5 ∷ tick 4 ∷ []) ≡ Some (error.BadEvent 1)
unfolding replays_on_literals
row_early_event = refl

row_bad_prefix : refuse (record by_pull { settings = record settings { api_prefix = [] } }) 0 [] ≡ Some (error.BadSettings field.ApiPrefix)
unfolding replays_on_literals
row_bad_prefix = refl

row_no_subject : refuse (record by_push { first = pull_info }) 0 [] ≡ Some error.NoDeliverSubject
unfolding replays_on_literals
row_no_subject = refl

row_accepted : (heap : Global) → refuse by_pull 0 (arrives heap 1 0 1 1 (codes "a") ∷ arrives heap 2 0 2 2 (codes "b") ∷ []) ≡ None
unfolding replays_on_literals
row_accepted heap = refl

-- ---- a configured start, and a yield's subject

row_configured : (heap : Global) → fold (pull_from 5) 0 (arrives heap 1 0 2 6 (codes "b") ∷ answers heap 2 1 ok ∷ [])
    ≡ run_of (asks (codes "c1") 0 ∷ []) ((out.Recreate 1 (start.From 5) ∷ deletes 1 (codes "c1") ∷ [])
    ∷ (create 2 (codes "c1_1") (codes "\"deliver_policy\":\"by_start_sequence\",\"inactive_threshold\":30000000000,\"max_deliver\":1,\"mem_storage\":true,\"name\":\"c1_1\",\"num_replicas\":1,\"opt_start_seq\":5") ∷ []) ∷ []) false
unfolding replays_on_literals
row_configured heap = refl

row_configured_zero : (heap : Global) → fold (pull_from 0) 0 (arrives heap 1 0 2 6 (codes "b") ∷ [])
    ≡ run_of (asks (codes "c1") 0 ∷ []) ((out.Recreate 1 start.All ∷ deletes 1 (codes "c1") ∷ []) ∷ []) false
unfolding replays_on_literals
row_configured_zero heap = refl

row_subject : (heap : Global) → fold by_pull 0 (arrives_on heap (codes "a.x") 1 0 1 1 (codes "a") ∷ arrives heap 2 0 2 2 (codes "b") ∷ [])
    ≡ run_of (asks (codes "c1") 0 ∷ []) ((out.Yield 1 1 (codes "a.x") (codes "a") ∷ []) ∷ (out.Yield 2 2 [] (codes "b") ∷ []) ∷ []) false
unfolding replays_on_literals
row_subject heap = refl

-- after a yield the configured start is left behind
row_configured_yield : (heap : Global) → fold (pull_from 5) 0 (arrives heap 1 0 1 6 (codes "a") ∷ arrives heap 2 0 3 8 (codes "c") ∷ [])
    ≡ run_of (asks (codes "c1") 0 ∷ []) ((out.Yield 6 1 [] (codes "a") ∷ []) ∷ (out.Recreate 1 (start.From 7) ∷ deletes 1 (codes "c1") ∷ []) ∷ []) false
unfolding replays_on_literals
row_configured_yield heap = refl

-- ---- what arrives against the rules

row_bad_status : (heap : Global) → fold by_pull 0 (with_status heap 1 0 65_535 [] ∷ []) ≡ run_of (asks (codes "c1") 0 ∷ []) ((out.Item item.Other ∷ []) ∷ []) false
unfolding replays_on_literals
row_bad_status heap = refl

abbrev pending_told : Global → List ℕ → List ℕ → Event
pending_told heap name value = record {
  at = 1;
  what = what.Arrival 0 (boxed heap (record (plain []) { status = Some (record { 0 = 408 }); headers = Some (record { name = name; value = value } ∷ []) }));
}

row_pending_messages : (heap : Global) → fold by_pull 0 (pending_told heap (codes "Nats-Pending-Messages") (codes "300") ∷ [])
    ≡ run_of (asks (codes "c1") 0 ∷ []) ((asks (codes "c1") 0 ∷ []) ∷ []) false
unfolding replays_on_literals
row_pending_messages heap = refl

row_pending_bytes : (heap : Global) → fold by_pull 0 (pending_told heap (codes "Nats-Pending-Bytes") (codes "x") ∷ [])
    ≡ run_of (asks (codes "c1") 0 ∷ []) ((out.Item item.Other ∷ []) ∷ []) false
unfolding replays_on_literals
row_pending_bytes heap = refl

row_deleted : (heap : Global) → fold by_pull 0 (with_status heap 1 0 423 (codes "Consumer Deleted") ∷ [])
    ≡ run_of (asks (codes "c1") 0 ∷ []) ((out.Recreate 1 start.All ∷ deletes 1 (codes "c1") ∷ []) ∷ []) false
unfolding replays_on_literals
row_deleted heap = refl

-- a gap, and then an arrival on the old inbox, which puts out nothing
abbrev gap_events : Global → List Event
gap_events heap = arrives heap 1 0 1 1 (codes "a") ∷ arrives heap 2 0 2 2 (codes "b") ∷ arrives heap 3 0 4 4 (codes "d") ∷ answers heap 4 1 ok ∷ answers heap 5 2 (info_text (codes "c1_1")) ∷ []

abbrev gap_steps : List (List Output)
gap_steps = (out.Yield 1 1 [] (codes "a") ∷ []) ∷ (out.Yield 2 2 [] (codes "b") ∷ [])
    ∷ (out.Recreate 1 (start.From 3) ∷ deletes 1 (codes "c1") ∷ [])
    ∷ (create 2 (codes "c1_1") (codes "\"deliver_policy\":\"by_start_sequence\",\"inactive_threshold\":30000000000,\"max_deliver\":1,\"mem_storage\":true,\"name\":\"c1_1\",\"num_replicas\":1,\"opt_start_seq\":3") ∷ [])
    ∷ (out.Subscribe 1 (codes "_INBOX.t.1") ∷ asks (codes "c1_1") 1 ∷ []) ∷ []

row_old_inbox : (heap : Global) → fold by_pull 0 (gap_events heap ++ arrives heap 6 0 3 3 (codes "c") ∷ [])
    ≡ run_of (asks (codes "c1") 0 ∷ []) (gap_steps ++ [] ∷ []) false
unfolding replays_on_literals
row_old_inbox heap = refl

-- sequence 3 is not sent again
row_removed : (heap : Global) → fold by_pull 0 (gap_events heap ++ arrives heap 6 1 1 4 (codes "d") ∷ [])
    ≡ run_of (asks (codes "c1") 0 ∷ []) (gap_steps ++ (out.Yield 4 1 [] (codes "d") ∷ []) ∷ []) false
unfolding replays_on_literals
row_removed heap = refl

abbrev gap_events_before : Global → List Event
gap_events_before heap = arrives heap 1 0 1 1 (codes "a") ∷ arrives heap 2 0 2 2 (codes "b") ∷ arrives heap 3 0 4 4 (codes "d") ∷ answers heap 4 1 ok ∷ []

abbrev gap_steps_before : List (List Output)
gap_steps_before = (out.Yield 1 1 [] (codes "a") ∷ []) ∷ (out.Yield 2 2 [] (codes "b") ∷ [])
    ∷ (out.Recreate 1 (start.From 3) ∷ deletes 1 (codes "c1") ∷ [])
    ∷ (create 2 (codes "c1_1") (codes "\"deliver_policy\":\"by_start_sequence\",\"inactive_threshold\":30000000000,\"max_deliver\":1,\"mem_storage\":true,\"name\":\"c1_1\",\"num_replicas\":1,\"opt_start_seq\":3") ∷ []) ∷ []

-- an error, and what is no JSON, fail the try
row_error : (heap : Global) → fold by_pull 0 (gap_events_before heap ++ answers heap 5 2 (codes "{\"error\":{\"code\":404}}") ∷ [])
    ≡ run_of (asks (codes "c1") 0 ∷ []) (gap_steps_before ++ [] ∷ []) false
unfolding replays_on_literals
row_error heap = refl

row_cut : (heap : Global) → fold by_pull 0 (gap_events_before heap ++ answers heap 5 2 (codes "[") ∷ [])
    ≡ run_of (asks (codes "c1") 0 ∷ []) (gap_steps_before ++ [] ∷ []) false
unfolding replays_on_literals
row_cut heap = refl

-- an answer to no request
row_stray : (heap : Global) → fold by_pull 0 (answers heap 1 18_446_744_073_709_551_615 ok ∷ []) ≡ run_of (asks (codes "c1") 0 ∷ []) ([] ∷ []) false
unfolding replays_on_literals
row_stray heap = refl

-- a timeout of 0 is looked at from the next event on
abbrev pull_at_once : ReplayInput
pull_at_once = record by_pull { settings = record settings { context_timeout = Some 0 } }

row_at_once : (heap : Global) → fold pull_at_once 0 (arrives heap 1 0 2 2 (codes "b") ∷ tick 1 ∷ tick 1 ∷ [])
    ≡ run_of (asks (codes "c1") 0 ∷ []) ((out.Recreate 1 start.All ∷ deletes 1 (codes "c1") ∷ [])
    ∷ (create 2 (codes "c1_1") (codes "\"deliver_policy\":\"all\",\"inactive_threshold\":30000000000,\"max_deliver\":1,\"mem_storage\":true,\"name\":\"c1_1\",\"num_replicas\":1") ∷ [])
    ∷ [] ∷ []) false
unfolding replays_on_literals
row_at_once heap = refl

-- a heartbeat of 0 is left out
abbrev pull_brief : ReplayInput
pull_brief = record by_pull { first = record pull_info { config = record pull_info.config { max_expires = 1 } } }

abbrev next_brief : Output
next_brief = out.Publish (codes "$JS.API.CONSUMER.MSG.NEXT.events.c1") (Some (codes "_INBOX.t.0"))
    (codes "{\"batch\":500,\"expires\":1,\"group\":null,\"max_bytes\":0,\"min_ack_pending\":null,\"min_pending\":null,\"priority\":null}")

row_brief : fold pull_brief 0 (tick 5_000_000_001 ∷ []) ≡ run_of (next_brief ∷ []) ((next_brief ∷ []) ∷ []) false
unfolding replays_on_literals
row_brief = refl

-- a beat with a bad number is not answered
abbrev bad_beat : Global → Event
bad_beat heap = record {
  at = 1;
  what = what.Arrival 0 (boxed heap (record (plain []) {
    status = Some (record { 0 = 100 });
    reply = Some (codes "$JS.FC.x");
    headers = Some (record { name = codes "Nats-Last-Consumer"; value = codes "-1" } ∷ []);
  }));
}

row_bad_beat : (heap : Global) → fold by_push 0 (bad_beat heap ∷ []) ≡ run_of [] ((out.Item item.Other ∷ []) ∷ []) false
unfolding replays_on_literals
row_bad_beat heap = refl

-- the watcher's end ends push
row_watcher : fold by_push 0 (record { at = 1; what = what.WatcherEnded } ∷ []) ≡ run_of [] ((out.Item item.Other ∷ []) ∷ []) true
unfolding replays_on_literals
row_watcher = refl

-- a number that repeats shows a gap
row_repeat : (heap : Global) → fold by_push 0 (arrives heap 1 0 1 1 (codes "a") ∷ arrives heap 2 0 1 1 (codes "a") ∷ [])
    ≡ run_of [] ((out.Yield 1 1 [] (codes "a") ∷ []) ∷ (out.Recreate 1 (start.From 2) ∷ deletes 1 (codes "c1") ∷ []) ∷ []) false
unfolding replays_on_literals
row_repeat heap = refl
