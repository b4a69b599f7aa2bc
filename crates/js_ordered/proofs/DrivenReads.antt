-- The rows of a pull reader in a replay.
use Rattle.std.proofs.Common.{◌≡◌, ℕ, ◌+◌, Bool, true, false, List, [], ◌∷◌, ◌++◌, map, Option, Some, None, refl, sym, ap, ◌∙◌, subst, count_by}
use Rattle.std.specs.Prelude.{◌≢◌, codes}
use Rattle.js_base.specs.declared.message.Message.{Message}
use Rattle.js_link.specs.RowInput.{RowInput}
use Rattle.js_ordered_table.specs.declared.transitions.task.Heard.{Heard}
use Rattle.js_ordered_table.specs.declared.transitions.task.NextTasks.{NextTasks}
use Rattle.js_ordered_table.specs.declared.transitions.task.NextTasks.TheVariants as next
use Rattle.js_ordered_table.specs.declared.transitions.task.Task.TheVariants as task
use Rattle.js_ordered.specs.Drive.{Finishes, Passes, numbered}
use Rattle.js_ordered.specs.Give.{Sends}
use Rattle.js_ordered_table.specs.Tasks.{IsHeardFrom, StepsTo, heard_outputs, heard_row, next_rows, reader_rows, requested, requesting, told_outputs}
use Rattle.js_link.specs.declared.sent.Sent.{Sent}
use Rattle.js_pull.specs.declared.rows.Due.TheVariants as due
use Rattle.js_pull.specs.declared.rows.Notice.{Notice}
use Rattle.js_pull.specs.declared.rows.Notice.TheVariants as notice
use Rattle.js_pull.specs.declared.kind.Kind.{Kind}
use Rattle.js_pull.specs.declared.kind.Kind.TheVariants as pulls
use Rattle.js_pull.specs.declared.reader.Reason.{Reason}
use Rattle.js_pull.specs.declared.reader.Row.TheVariants as read
use Rattle.js_pull.specs.declared.reader.ReaderOutput.TheVariants as telling
use Rattle.js_pull.specs.Kind.{pull_kind}
use Rattle.js_pull.specs.Limits.{pull_body}
use Rattle.js_ordered_table.specs.declared.run.Output.TheVariants as out
use Rattle.js_pull.specs.declared.passed_row.PassedRow.{PassedRow as Read}
use Rattle.js_pull.specs.Rows.{ReadsTo, brought}
use Rattle.js_pull.specs.Rows.{told_shown}
use Rattle.js_pull.specs.declared.reader.Reader.{Reader}
use Rattle.js_pull.specs.declared.reader.Row.{Row as PullRow}
use Rattle.js_pull.specs.Reader as pull
use Rattle.js_ordered_table.specs.declared.consumer.Consumer.{Consumer}
use Rattle.js_ordered_table.specs.declared.consumer.ReplayInput.{ReplayInput}
use Rattle.js_ordered_table.specs.declared.consumer.Phase.TheVariants.{Pulls}
use Rattle.js_ordered_table.specs.declared.row.Row.TheVariants as row
use Rattle.js_ordered_table.specs.declared.run.Output.{Output}
use Rattle.js_ordered_table.specs.declared.replay_state.ReplayState.{ReplayState}
use Rattle.js_ordered_table.specs.Fold.{is_request, passing}
use Rattle.js_ordered_table.specs.Passes.{at, heard}
use Rattle.js_ordered_table.specs.Arrivals.{read_row, told, with_sent}
use Rattle.js_ordered_table.specs.Recreation.{message_on}
use Rattle.js_ordered_table.specs.Consumer.{Matter, Passed, output_of, at_phase}
use Rattle.js_ordered_table.proofs.ReaderSteps.{hear_sends, reads_row}
use Rattle.js_ordered_table.proofs.PassedRows.{from_stream}
use Rattle.js_ordered.proofs.DrivenRows.{with_request, unnumbered, no_made, told_unnumbered, heard_unnumbered, leads_at, leads_quietly, request_is}

-- ---- rows of a pull reader

-- a row that was passed, with what the consumer makes of it
pub leads_read : (g : ReplayInput) (now : ℕ) (m : Matter) (one : PullRow) (r s : Reader) (w u : ReplayState) (p : RowInput) (message : Option Message) (step : Read) (passed : pull.Passed) (sent : List Sent) (outputs earlier later : List Output) (d : Consumer) (rest : NextTasks)
    → passing g now w ≡ p → pull.row p m.answer (message_on r.source.inbox m.arrival) one r ≡ passed → ReadsTo (brought m.answer) message passed s step → passed.sent ≡ sent
    → StepsTo m (with_sent [] (reader_rows m step.next) (told (told_shown step.told message) (at_phase (Pulls s) w.consumer))) outputs d rest
    → later ≡ earlier ++ (map output_of sent ++ outputs) → u ≡ record (numbered (map output_of sent ++ outputs) w) { consumer = d }
    → Passes g now m (row.Read one ∷ []) (at (Pulls r) w) earlier (next_rows m rest) u later
leads_read g now m one r s w u p message step passed sent outputs earlier later d rest is row_is reads sends steps put to =
    leads_at g now m (row.Read one) (Pulls r) w u p (map output_of sent ++ outputs) earlier later d rest is
    (subst (λ (x : pull.Passed). StepsTo m (read_row x (at_phase (Pulls r) w.consumer)) (map output_of sent ++ outputs) d rest) (sym row_is)
    (reads_row m message passed sent s step (at_phase (Pulls r) w.consumer) d outputs rest reads sends steps)) put to

-- a row that sends nothing and hears no message
pub leads_finish : (g : ReplayInput) (now : ℕ) (m : Matter) (one : PullRow) (r s : Reader) (w u : ReplayState) (p : RowInput) (step : Read) (passed : pull.Passed) (earlier later : List Output) (rest : NextTasks)
    → passing g now w ≡ p → pull.row p m.answer (message_on r.source.inbox m.arrival) one r ≡ passed → ReadsTo (brought m.answer) None passed s step → passed.sent ≡ []
    → Finishes m (at (Pulls s) w) u step earlier later rest
    → Passes g now m (row.Read one ∷ []) (at (Pulls r) w) earlier (next_rows m rest) u later
leads_finish g now m one r s w u p step passed earlier later rest is row_is reads sends finishes =
    leads_read g now m one r s w u p None step passed [] (told_outputs finishes.told) earlier later finishes.consumer rest is row_is reads sends finishes.steps finishes.outputs
    (finishes.state ∙ told_unnumbered w finishes.consumer finishes.told)

pub sent_is : (g : ReplayInput) (now : ℕ) (w : ReplayState) (up : Bool) → w.link_up ≡ up → passing g now w ≡ record (passing g now w) { up = up }
sent_is g now w up is = ap (λ (b : Bool). with_request (passing g now w) b (w.requests_sent + 1)) is

-- a pull request went out
pub leads_asked : (g : ReplayInput) (now : ℕ) (m : Matter) (reason : Reason) (r s : Reader) (w u : ReplayState) (output : Output) (earlier later : List Output) → w.link_up ≡ true
    → s ≡ (pull.ask (record (passing g now w) { up = true }) reason r).reader → output ≡ out.Publish (pull.pull_subject r.source) (Some r.source.subject) (pull_body r.pin r.source.config)
    → later ≡ earlier ++ output ∷ [] → u ≡ record w { consumer = at_phase (Pulls s) w.consumer }
    → Passes g now m (row.Read (read.Ask reason) ∷ []) (at (Pulls r) w) earlier [] u later
leads_asked g now m reason r s w u output earlier later up reader is put to =
    let sends : List Output = out.Publish (pull.pull_subject r.source) (Some r.source.subject) (pull_body r.pin r.source.config) ∷ [] in
    leads_at g now m (row.Read (read.Ask reason)) (Pulls r) w u (record (passing g now w) { up = true }) sends earlier later (at_phase (Pulls s) w.consumer) next.Nothing
    (sent_is g now w true up) (record { consumer = ap (λ (x : Reader). at_phase (Pulls x) w.consumer) reader; outputs = refl; next = refl })
    (put ∙ ap (λ (o : Output). earlier ++ o ∷ []) is) (to ∙ unnumbered w (at_phase (Pulls s) w.consumer) sends refl refl)

-- the info was asked for, or could not be
inquired : (m : Matter) (now : ℕ) (p : RowInput) (number : Option ℕ) (failures : ℕ) (r s : Reader) (c : Consumer) (rest : NextTasks) → s ≡ (pull.inquire (requesting now number p) failures r).reader
    → next_rows m rest ≡ map row.Read (pull.inquire (requesting now number p) failures r).next
    → StepsTo m (read_row (pull.inquire (requesting now number p) failures r) c) (requested (pull.info_subject r.source) (codes "{}") number) (at_phase (Pulls s) c) rest
inquired m now p None failures r s c rest reader rows = record { consumer = ap (λ (x : Reader). at_phase (Pulls x) c) reader; outputs = refl; next = rows }
inquired m now p (Some number) failures r s c rest reader rows = record { consumer = ap (λ (x : Reader). at_phase (Pulls x) c) reader; outputs = refl; next = rows }

pub leads_inquired : (g : ReplayInput) (now : ℕ) (m : Matter) (failures : ℕ) (r s : Reader) (w u : ReplayState) (number : Option ℕ) (requests_sent' : ℕ) (earlier later : List Output) (step : Read) (rest : NextTasks)
    → Sends w.link_up w.requests_sent requests_sent' (pull.info_subject r.source) (codes "{}") earlier later number
    → ReadsTo (brought m.answer) None (pull.inquire (requesting now number (passing g now w)) failures r) s step → next_rows m rest ≡ reader_rows m step.next
    → u ≡ record w { consumer = at_phase (Pulls s) w.consumer; requests_sent = requests_sent' }
    → Passes g now m (row.Read (read.Inquire failures) ∷ []) (at (Pulls r) w) earlier (next_rows m rest) u later
leads_inquired g now m failures r s w u number requests_sent' earlier later step rest sends reads rows to =
    let subject : List ℕ = pull.info_subject r.source in
    leads_at g now m (row.Read (read.Inquire failures)) (Pulls r) w u (requesting now number (passing g now w)) (requested subject (codes "{}") number) earlier later (at_phase (Pulls s) w.consumer) rest
    (request_is g now w number sends.number)
    (inquired m now (passing g now w) number failures r s (at_phase (Pulls r) w.consumer) rest reads.reader (rows ∙ ap (map row.Read) reads.next))
    sends.outputs
    (to ∙ ap (λ (n : ℕ). record w { consumer = at_phase (Pulls s) w.consumer; requests_sent = n }) sends.requests_sent
    ∙ ap (λ (n : ℕ). record w { consumer = at_phase (Pulls s) w.consumer; requests_sent = w.requests_sent + count_by is_request (requested subject (codes "{}") number); inboxes_opened = n }) (no_made subject (codes "{}") number w.inboxes_opened))

-- a message of the stream was heard
pub leads_heard : (g : ReplayInput) (now : ℕ) (m : Matter) (message : Message) (heard_is : Heard) (r s : Reader) (w u : ReplayState) (earlier later : List Output) (d : Consumer) (rest : NextTasks)
    → message_on r.source.inbox m.arrival ≡ Some message → pull_kind message ≡ pulls.Delivered → IsHeardFrom w.consumer.core.consumer_sequence message heard_is → s ≡ pull.lowered 1 message.length (heard now message r)
    → StepsTo m (with_sent [] (row.Read read.Threshold ∷ []) (heard_row false (passing g now w) message heard_is (record (at_phase (Pulls s) w.consumer) { missed = false }))) (heard_outputs false w.link_up message heard_is) d rest
    → later ≡ earlier ++ heard_outputs false w.link_up message heard_is → u ≡ record w { consumer = d }
    → Passes g now m (row.Read read.CheckArrival ∷ []) (at (Pulls r) w) earlier (next_rows m rest) u later
leads_heard g now m message heard_is r s w u earlier later d rest arrives kind is reader steps put to =
    let p : RowInput = passing g now w in
    let c : Consumer = at_phase (Pulls r) w.consumer in
    let after : Consumer = record (at_phase (Pulls (pull.lowered 1 message.length (heard now message r))) w.consumer) { missed = false } in
    leads_at g now m (row.Read read.CheckArrival) (Pulls r) w u p (heard_outputs false w.link_up message heard_is) earlier later d rest refl
    (subst (λ (o : Option Message). StepsTo m (read_row (pull.check_arrival p o r) c) (heard_outputs false w.link_up message heard_is) d rest) (sym arrives)
    (subst (λ (k : Kind). StepsTo m (read_row (pull.hear message k (heard now message r)) c) (heard_outputs false w.link_up message heard_is) d rest) (sym kind)
    (subst (λ (passed : Passed). StepsTo m (with_sent [] (row.Read read.Threshold ∷ []) passed) (heard_outputs false w.link_up message heard_is) d rest) (sym (from_stream false p message heard_is after is))
    (subst (λ (x : Reader). StepsTo m (with_sent [] (row.Read read.Threshold ∷ []) (heard_row false p message heard_is (record (at_phase (Pulls x) w.consumer) { missed = false }))) (heard_outputs false w.link_up message heard_is) d rest) reader steps))))
    put (to ∙ heard_unnumbered w d false w.link_up message heard_is)

-- what is told of another arrival needs no message
tells_alone : (message : Message) (k : Kind) (r : Reader) (reply : Option Message) (s : Reader) (step : Read) → k ≢ pulls.Delivered → ReadsTo reply (Some message) (pull.hear message k r) s step → ReadsTo reply None (pull.hear message k r) s step
tells_alone message k r reply s step other reads = record { reader = reads.reader; told = by_notice step.told reads.told; next = reads.next }
  where
    no_hands : (k : Kind) → k ≢ pulls.Delivered → telling.Hands message ≡ (pull.hear message k r).told → ⊥
    no_hands pulls.Delivered other is = other refl
    no_hands pulls.IdleHeartbeat other is = cc
    no_hands pulls.Deleted other is = cc
    no_hands pulls.PushBased other is = cc
    no_hands pulls.Limit other is = cc
    no_hands pulls.Gone other is = cc
    no_hands pulls.Bad other is = cc
    no_hands (pulls.Ledger messages bytes) other is = cc

    by_notice : (n : Notice) → told_shown n (Some message) ≡ (pull.hear message k r).told → told_shown n None ≡ (pull.hear message k r).told
    by_notice notice.Nothing is = is
    by_notice notice.Hands is = absurd (no_hands k other is)
    by_notice (notice.Tells kind) is = is

pub leads_status : (g : ReplayInput) (now : ℕ) (m : Matter) (message : Message) (r h s : Reader) (w u : ReplayState) (step : Read) (earlier later : List Output) (rest : NextTasks)
    → message_on r.source.inbox m.arrival ≡ Some message → pull_kind message ≢ pulls.Delivered → h ≡ heard now message r
    → ReadsTo (brought m.answer) (Some message) (pull.hear message (pull_kind message) h) s step
    → Finishes m (at (Pulls s) w) u step earlier later rest
    → Passes g now m (row.Read read.CheckArrival ∷ []) (at (Pulls r) w) earlier (next_rows m rest) u later
leads_status g now m message r h s w u step earlier later rest arrives other hears reads finishes =
    let p : RowInput = passing g now w in
    leads_finish g now m read.CheckArrival r s w u p step (pull.hear message (pull_kind message) h) earlier later rest refl
    (ap (λ (o : Option Message). pull.check_arrival p o r) arrives ∙ ap (λ (x : Reader). pull.hear message (pull_kind message) x) (sym hears))
    (tells_alone message (pull_kind message) h (brought m.answer) s step other reads) (hear_sends message (pull_kind message) h) finishes

-- nothing arrived
pub leads_silent : (g : ReplayInput) (now : ℕ) (m : Matter) (r : Reader) (w : ReplayState) (outputs : List Output) → None ≡ message_on r.source.inbox m.arrival
    → Passes g now m (row.Read read.CheckArrival ∷ []) (at (Pulls r) w) outputs (row.Read read.CheckSilence ∷ []) (at (Pulls r) w) outputs
leads_silent g now m r w outputs none =
    let p : RowInput = passing g now w in
    let c : Consumer = at_phase (Pulls r) w.consumer in
    leads_quietly g now m (row.Read read.CheckArrival) (Pulls r) w (at (Pulls r) w) outputs c (next.One (task.Read due.CheckSilence))
    (subst (λ (o : Option Message). StepsTo m (read_row (pull.check_arrival p o r) c) [] c (next.One (task.Read due.CheckSilence))) none (record { consumer = refl; outputs = refl; next = refl })) refl

-- the heartbeat is armed
pub leads_armed : (g : ReplayInput) (now : ℕ) (m : Matter) (r s : Reader) (w u : ReplayState) (outputs : List Output) → s ≡ pull.with_silence now r → u ≡ at (Pulls s) w
    → Passes g now m (row.Read read.Arm ∷ []) (at (Pulls r) w) outputs [] u outputs
leads_armed g now m r s w u outputs reader to =
    leads_quietly g now m (row.Read read.Arm) (Pulls r) w u outputs (at_phase (Pulls s) w.consumer) next.Nothing
    (record { consumer = ap (λ (x : Reader). at_phase (Pulls x) w.consumer) reader; outputs = refl; next = refl }) to
