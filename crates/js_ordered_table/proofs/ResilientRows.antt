-- Worked rows of the options by which a consumer never hangs, each computed, and that without them a row is as it is without any option.
use Rattle.std.proofs.Common.{◌≡◌, refl, ℕ, Bool, true, false, List, [], ◌∷◌, ◌++◌, Some, None, ap, ◌∙◌}
use Rattle.std.specs.Prelude.{codes, decimal, Option}
use Rattle.std.specs.Global.{Global}
use Rattle.js_base.specs.declared.message.Message.{Message}
use Rattle.js_base.specs.declared.message.State.TheVariants.{Connected, Disconnected}
use Rattle.js_link.specs.RowInput.{RowInput}
use Rattle.js_pull.specs.Resilience.{none, all}
use Rattle.js_pull.specs.declared.resilience.Resilience.{Resilience}
use Rattle.js_pull.specs.declared.replies.InfoReply.{InfoReply}
use Rattle.js_pull.specs.Reader.{info_in}
use Rattle.js_ordered_table.specs.Arrivals.{beat_answer, beat_rows, hear_kind}
use Rattle.js_ordered_table.specs.Consumer.{Passed, silent_row}
use Rattle.js_ordered_table.specs.Fold.{fold}
use Rattle.js_ordered_table.specs.Recreation.{answered, answered_row, missing_after, missing_outputs}
use Rattle.js_ordered_table.specs.Worked.{plain, boxed, by_pull, by_push, arrives, answers, tick, connection, ok, run_of, asks, deletes}
use Rattle.js_ordered_table.specs.declared.consumer.Consumer.{Consumer}
use Rattle.js_ordered_table.specs.declared.consumer.ReplayInput.{ReplayInput}
use Rattle.js_ordered_table.specs.declared.event.Event.{Event}
use Rattle.js_ordered_table.specs.declared.event.EventKind.TheVariants as what
use Rattle.js_ordered_table.specs.declared.kind.PushKind.TheVariants.{Beat}
use Rattle.js_ordered_table.specs.declared.run.ItemKind.TheVariants as item
use Rattle.js_ordered_table.specs.declared.run.Output.{Output}
use Rattle.js_ordered_table.specs.declared.run.Output.TheVariants as out
use Rattle.js_ordered_table.specs.declared.run.Start.TheVariants as start
use Rattle.js_ordered_table.proofs.OnLiterals.{replays_on_literals}

-- ---- without the options

-- a beat is answered at its reply subject alone
pub answers_as_ever : (p : RowInput) (message : Message) (last : Option ℕ) (c : Consumer)
    → hear_kind none.answers_stalled p message (Beat last) c ≡ record { consumer = c; outputs = beat_answer p.up message.reply; next = beat_rows last c.core.consumer_sequence }
answers_as_ever p message last c = refl

-- an answer to a create tells nothing
pub answered_as_ever : (g : ReplayInput) (says : InfoReply) (c : Consumer) → g.settings.resilience ≡ none → answered_row g says c ≡ silent_row c (answered g.setup (info_in says) ∷ [])
answered_as_ever g says c off = ap passing off ∙ ap (λ (outputs : List Output). record { consumer = c; outputs = outputs; next = answered g.setup (info_in says) ∷ [] }) (untold c.stream_missing)
  where
    passing : Resilience → Passed
    passing o = record {
      consumer = record c { stream_missing = missing_after o.tells_missing_stream says c.stream_missing };
      outputs = missing_outputs (missing_after o.tells_missing_stream says c.stream_missing) c.stream_missing;
      next = answered g.setup (info_in says) ∷ [];
    }

    untold : (b : Bool) → missing_outputs b b ≡ []
    untold true = refl
    untold false = refl

-- ---- push: a consumer that has stalled

abbrev resilient : ReplayInput → ReplayInput
resilient g = record g { settings = record g.settings { resilience = all } }

-- a heartbeat of a consumer that waits for an answer at `$JS.FC.y`
abbrev stalled : Global → Option (List ℕ) → Event
stalled heap reply = record {
  at = 1;
  what = what.Arrival 0 (boxed heap (record (plain []) {
    reply = reply;
    status = Some (record { 0 = 100 });
    headers = Some (record { name = codes "Nats-Consumer-Stalled"; value = codes "$JS.FC.y" } ∷ []);
  }));
}

abbrev answer_at : List ℕ → Output
answer_at subject = out.Publish subject None []

-- it is answered there. Refused: nothing is sent, or it is sent twice
row_stalled : (heap : Global) → fold (resilient by_push) 0 (stalled heap None ∷ []) ≡ run_of [] ((answer_at (codes "$JS.FC.y") ∷ []) ∷ []) false
unfolding replays_on_literals
row_stalled heap = refl

-- its own reply subject comes first. Refused: both are answered
row_stalled_reply : (heap : Global) → fold (resilient by_push) 0 (stalled heap (Some (codes "$JS.FC.x")) ∷ []) ≡ run_of [] ((answer_at (codes "$JS.FC.x") ∷ []) ∷ []) false
unfolding replays_on_literals
row_stalled_reply heap = refl

-- without the option nothing is sent
row_stalled_off : (heap : Global) → fold by_push 0 (stalled heap None ∷ []) ≡ run_of [] ([] ∷ []) false
unfolding replays_on_literals
row_stalled_off heap = refl

-- ---- pull: a consumer that is gone

abbrev asks_info : ℕ → Output
asks_info number = out.Request number (codes "$JS.API.CONSUMER.INFO.events.c1") (codes "{}")

-- an error of the API, with its code
abbrev refusal : ℕ → List ℕ
refusal code = codes "{\"error\":{\"code\":404,\"err_code\":" ++ decimal code ++ codes ",\"description\":\"not found\"}}"

-- an info that says so is followed by a recreation at once. Refused: the next try waits
row_gone : (heap : Global) → fold (resilient by_pull) 0 (connection 1 Disconnected ∷ connection 2 Connected ∷ answers heap 3 1 (refusal 10014) ∷ [])
    ≡ run_of (asks (codes "c1") 0 ∷ []) ([] ∷ (asks_info 1 ∷ []) ∷ (out.Recreate 1 start.All ∷ deletes 2 (codes "c1") ∷ []) ∷ []) false
unfolding replays_on_literals
row_gone heap = refl

-- without the option it waits
row_gone_off : (heap : Global) → fold by_pull 0 (connection 1 Disconnected ∷ connection 2 Connected ∷ answers heap 3 1 (refusal 10014) ∷ tick 500_000_003 ∷ [])
    ≡ run_of (asks (codes "c1") 0 ∷ []) ([] ∷ (asks_info 1 ∷ []) ∷ [] ∷ (asks_info 2 ∷ []) ∷ []) false
unfolding replays_on_literals
row_gone_off heap = refl

-- the info is asked for at the first heartbeat that is missing, and the second is followed by a recreation. Refused: the first asks for nothing, or restarts
row_silent : fold (resilient by_pull) 0 (tick 30_000_000_000 ∷ tick 60_000_000_000 ∷ [])
    ≡ run_of (asks (codes "c1") 0 ∷ []) ((asks_info 1 ∷ []) ∷ (out.Recreate 1 start.All ∷ deletes 2 (codes "c1") ∷ []) ∷ []) false
unfolding replays_on_literals
row_silent = refl

-- ---- a stream that is gone

-- the text of a create request for all messages
abbrev create : ℕ → Output
create number = out.Request number (codes "$JS.API.CONSUMER.CREATE.events.c1_1")
    (codes "{\"action\":\"\",\"config\":{\"ack_policy\":\"none\",\"deliver_policy\":\"all\",\"inactive_threshold\":30000000000,\"max_deliver\":1,\"mem_storage\":true,\"name\":\"c1_1\",\"num_replicas\":1,\"replay_policy\":\"instant\"},\"stream_name\":\"events\"}")

-- a gap, and a first create that is answered so
abbrev lost : Global → ℕ → List Event
lost heap code = arrives heap 0 0 2 2 (codes "b") ∷ answers heap 1 1 ok ∷ answers heap 2 2 (refusal code) ∷ []

-- the next try, whose create is answered so
abbrev tried_again : Global → ℕ → List Event
tried_again heap code = tick 500_000_002 ∷ answers heap 500_000_003 3 ok ∷ answers heap 500_000_004 4 (refusal code) ∷ []

-- it is told once, and the tries go on. Refused: it is told at each try, or never
row_missing : (heap : Global) → fold (resilient by_pull) 0 (lost heap 10059 ++ tried_again heap 10059)
    ≡ run_of (asks (codes "c1") 0 ∷ []) ((out.Recreate 1 start.All ∷ deletes 1 (codes "c1") ∷ []) ∷ (create 2 ∷ []) ∷ (out.Item item.StreamNotFound ∷ []) ∷ (deletes 3 (codes "c1") ∷ []) ∷ (create 4 ∷ []) ∷ [] ∷ []) false
unfolding replays_on_literals
row_missing heap = refl

-- without the option nothing is told
row_missing_off : (heap : Global) → fold by_pull 0 (lost heap 10059) ≡ run_of (asks (codes "c1") 0 ∷ []) ((out.Recreate 1 start.All ∷ deletes 1 (codes "c1") ∷ []) ∷ (create 2 ∷ []) ∷ [] ∷ []) false
unfolding replays_on_literals
row_missing_off heap = refl
