-- A row of a pull reader that was passed, where a case is not computed.
use Rattle.std.proofs.Common.{◌≡◌, ℕ, Bool, true, false, List, [], ◌∷◌, ◌++◌, Option, Some, None, refl, ap, subst}
use Rattle.std.specs.Prelude.{◌&&◌, ◌+◌, nat_lt, not, map, if◌then◌else◌}
use Rattle.js_base.specs.declared.clock.Timer.{Timer}
use Rattle.js_base.specs.Clock.{is_any_due}
use Rattle.js_base.specs.declared.message.Message.{Message}
use Rattle.js_link.specs.declared.wish.Met.{Met}
use Rattle.js_link.specs.declared.wish.Met.TheVariants.{Empty, Took, Got, Gone}
use Rattle.js_link.specs.RowInput.{RowInput}
use Rattle.js_pull.specs.declared.passed_row.PassedRow.{PassedRow as Read}
use Rattle.js_pull.specs.Rows.{ReadsTo, brought, row_list, told_shown}
use Rattle.js_pull.specs.Rows.{StepsTo as PullStepsTo, requesting as pull_requesting}
use Rattle.js_pull.specs.declared.reader.InfoRequest.{InfoRequest}
use Rattle.js_pull.specs.declared.reader.InfoRequest.TheVariants.{NoInfoRequest, Asked, Resting}
use Rattle.js_pull.specs.declared.kind.Kind.{Kind}
use Rattle.js_pull.specs.declared.kind.Kind.TheVariants.{Delivered, IdleHeartbeat, Deleted, PushBased, Limit, Gone, Bad, Ledger}
use Rattle.js_pull.specs.declared.reader.Reader.{Reader}
use Rattle.js_pull.specs.declared.reader.Reason.TheVariants.{Low}
use Rattle.js_pull.specs.declared.reader.Row.{Row}
use Rattle.js_pull.specs.declared.reader.Row.TheVariants as read
use Rattle.js_pull.specs.declared.replies.InfoReply.{InfoReply}
use Rattle.js_pull.specs.declared.replies.InfoReply.TheVariants as says
use Rattle.js_pull.specs.Reader as pull
use Rattle.js_pull.specs.Reader.{Answer, reply_to}
use Rattle.js_link.specs.declared.sent.Sent.{Sent}
use Rattle.js_ordered_table.specs.declared.transitions.task.NextTasks.{NextTasks}
use Rattle.js_ordered_table.specs.Tasks.{StepsTo, reader_rows, requesting}
use Rattle.js_pull.specs.declared.reader.ReaderOutput.{ReaderOutput}
use Rattle.js_ordered_table.specs.declared.consumer.Consumer.{Consumer}
use Rattle.js_ordered_table.specs.declared.consumer.Phase.TheVariants.{Pulls}
use Rattle.js_ordered_table.specs.declared.row.Row.{Row as TableRow}
use Rattle.js_ordered_table.specs.declared.row.Row.TheVariants as row
use Rattle.js_ordered_table.specs.declared.run.Output.{Output}
use Rattle.js_ordered_table.specs.Arrivals.{read_row, told, with_sent}
use Rattle.js_ordered_table.specs.Consumer.{Matter, Passed as TablePassed, at_phase, output_of}

-- ---- the threshold

threshold_is : (r : Reader) (low asking : Bool)
    → (let after : pull.Passed = (if low then pull.silent_row (record r { waiting = true }) (if asking then [] else read.Ask Low ∷ []) else pull.silent_row r []) in after ≡ pull.silent_row after.reader after.next)
threshold_is r true asking = refl
threshold_is r false asking = refl

threshold_quiet : (r : Reader) → pull.threshold r ≡ pull.silent_row (pull.threshold r).reader (pull.threshold r).next
threshold_quiet r = threshold_is r (pull.is_low r && not r.waiting) (pull.is_asking r.inquiry)

-- ---- a row of js_pull

-- what holds of a row whatever was met holds whatever it reads
pub steps_read : (passed : pull.Passed) (step : Read) (s : Reader) → ((met : Met) → PullStepsTo passed met step s) → (reply message : Option Message) → ReadsTo reply message passed s step
steps_read passed step s steps reply message = record { reader = (steps Empty).reader; told = told_at message; next = next_at reply }
  where
    told_at : (message : Option Message) → told_shown step.told message ≡ passed.told
    told_at None = (steps Empty).told
    told_at (Some message) = (steps (Took message)).told

    next_at : (reply : Option Message) → row_list reply step.next ≡ passed.next
    next_at None = (steps Gone).next
    next_at (Some reply) = (steps (Got reply)).next

-- an info request that went out, or was refused
pub inquired : (now : ℕ) (request : Option ℕ) (failures : ℕ) (r s : Reader) (step : Read) → ((met : Met) → PullStepsTo (pull.inquire (pull_requesting now request) failures r) met step s)
    → (p : RowInput) (reply message : Option Message) → ReadsTo reply message (pull.inquire (requesting now request p) failures r) s step
inquired now None failures r s step steps p reply message = steps_read (pull.silent_row r (read.FailInfoRequest failures ∷ [])) step s steps reply message
inquired now (Some request) failures r s step steps p reply message =
    let read : ReadsTo reply message (pull.inquire (pull_requesting now (Some request)) failures r) s step = steps_read (pull.inquire (pull_requesting now (Some request)) failures r) step s steps reply message in
    record { reader = read.reader; told = read.told; next = read.next }

-- ---- what the consumer makes of what its reader tells

-- what the reader sent goes out first
with_prefix : (m : Matter) (sent : List Output) (rows : List TableRow) (passed : TablePassed) (outputs : List Output) (d : Consumer) (rest : NextTasks) → StepsTo m (with_sent [] rows passed) outputs d rest
    → StepsTo m (with_sent sent rows passed) (sent ++ outputs) d rest
with_prefix m sent rows passed outputs d rest steps = record { consumer = steps.consumer; outputs = ap (λ (o : List Output). sent ++ o) steps.outputs; next = steps.next }

-- a reader's row, with what the consumer makes of it
pub reads_row : (m : Matter) (message : Option Message) (passed : pull.Passed) (sent : List Sent) (r : Reader) (step : Read) (c d : Consumer) (outputs : List Output) (rest : NextTasks)
    → ReadsTo (brought m.answer) message passed r step → passed.sent ≡ sent
    → StepsTo m (with_sent [] (reader_rows m step.next) (told (told_shown step.told message) (at_phase (Pulls r) c))) outputs d rest
    → StepsTo m (read_row passed c) (map output_of sent ++ outputs) d rest
reads_row m message passed sent r step c d outputs rest reads is steps =
    let rows : StepsTo m (with_sent [] (map row.Read passed.next) (told (told_shown step.told message) (at_phase (Pulls r) c))) outputs d rest =
    subst (λ (rows : List Row). StepsTo m (with_sent [] (map row.Read rows) (told (told_shown step.told message) (at_phase (Pulls r) c))) outputs d rest) reads.next steps in
    let tells : StepsTo m (with_sent [] (map row.Read passed.next) (told passed.told (at_phase (Pulls r) c))) outputs d rest =
    subst (λ (t : ReaderOutput). StepsTo m (with_sent [] (map row.Read passed.next) (told t (at_phase (Pulls r) c))) outputs d rest) reads.told rows in
    let reader : StepsTo m (with_sent [] (map row.Read passed.next) (told passed.told (at_phase (Pulls passed.reader) c))) outputs d rest =
    subst (λ (x : Reader). StepsTo m (with_sent [] (map row.Read passed.next) (told passed.told (at_phase (Pulls x) c))) outputs d rest) reads.reader tells in
    subst (λ (x : List Sent). StepsTo m (read_row passed c) (map output_of x ++ outputs) d rest) is
    (with_prefix m (map output_of passed.sent) (map row.Read passed.next) (told passed.told (at_phase (Pulls passed.reader) c)) outputs d rest reader)

-- ---- what a row does not send

pub threshold_sends : (r : Reader) → (pull.threshold r).sent ≡ []
threshold_sends r = ap (λ (p : pull.Passed). p.sent) (threshold_quiet r)

if_sends : (b : Bool) (one other : pull.Passed) → one.sent ≡ [] → other.sent ≡ [] → (if b then one else other).sent ≡ []
if_sends true one other none neither = none
if_sends false one other none neither = neither

pub fail_sends : (p : RowInput) (failures : ℕ) (r : Reader) → (pull.fail_inquiry p failures r).sent ≡ []
fail_sends p failures r = if_sends (nat_lt (failures + 1) 6) _ _ refl refl

pub silence_sends : (p : RowInput) (r : Reader) → (pull.check_silence p r).sent ≡ []
silence_sends p r = if_sends (is_any_due r.heartbeat_timer p.now) _ _ refl refl

asked_sends : (p : RowInput) (timeout : Option Timer) (failures : ℕ) (reply : Option (Option Message)) (r : Reader) → (pull.check_asked p timeout failures reply r).sent ≡ []
asked_sends p timeout failures None r = refl
asked_sends p timeout failures (Some reply) r = refl

pub inquiry_sends : (p : RowInput) (answer : Option Answer) (inquiry : InfoRequest) (r : Reader) → (pull.check_inquiry p answer inquiry r).sent ≡ []
inquiry_sends p answer NoInfoRequest r = refl
inquiry_sends p answer (Asked request timeout failures) r = asked_sends p timeout failures (reply_to request answer) r
inquiry_sends p answer (Resting wait failures) r = refl

pub answered_sends : (failures : ℕ) (says : InfoReply) (r : Reader) → (pull.answered failures says r).sent ≡ []
answered_sends failures (says.Info info) r = refl
answered_sends failures (says.Error code) r = if_sends (r.source.resilience.recreates_when_gone && pull.is_gone code) _ _ refl refl
answered_sends failures says.Nothing r = refl

pub hear_sends : (message : Message) (k : Kind) (r : Reader) → (pull.hear message k r).sent ≡ []
hear_sends message Delivered r = refl
hear_sends message IdleHeartbeat r = refl
hear_sends message Deleted r = refl
hear_sends message PushBased r = refl
hear_sends message Limit r = refl
hear_sends message Gone r = refl
hear_sends message Bad r = refl
hear_sends message (Ledger messages bytes) r = refl
