-- A row where it does not belong does nothing.
use Rattle.std.proofs.Common.{◌≡◌, ℕ, List, [], ◌∷◌, Option, Some, None, refl, sym, ap, ◌∙◌, subst}
use Rattle.std.specs.Prelude.{⊤, Result}
use Rattle.js_base.specs.declared.message.Message.{Message}
use Rattle.js_json.specs.declared.consumer.info.Info.{Info}
use Rattle.js_link.specs.RowInput.{RowInput}
use Rattle.js_ordered_table.specs.declared.transitions.task.NextTasks.{NextTasks}
use Rattle.js_ordered_table.specs.declared.transitions.task.Task.{Task}
use Rattle.js_ordered_table.specs.declared.transitions.task.Task.TheVariants as task
use Rattle.js_ordered.specs.Drive.{IsTry, Passes, PassesTo, matter_now}
use Rattle.js_ordered_table.specs.Tasks.{answered_rows, rows_of}
use Rattle.js_pull.specs.declared.reader.Reader.{Reader}
use Rattle.js_pull.specs.declared.reader.Row.{Row as PullRow}
use Rattle.js_pull.specs.Reader.{reply_to}
use Rattle.js_ordered_table.specs.declared.consumer.Consumer.{Consumer}
use Rattle.js_ordered_table.specs.declared.consumer.ReplayInput.{ReplayInput}
use Rattle.js_ordered_table.specs.declared.consumer.Phase.{Phase}
use Rattle.js_ordered_table.specs.declared.consumer.Phase.TheVariants.{Pulls, Pushes, Recreates, Idle, Ended, Exhausted}
use Rattle.js_ordered_table.specs.declared.consumer.Recreation.{Recreation}
use Rattle.js_ordered_table.specs.declared.row.Row.{Row}
use Rattle.js_ordered_table.specs.declared.row.Row.TheVariants as row
use Rattle.js_ordered_table.specs.declared.run.Output.{Output}
use Rattle.js_ordered.specs.declared.event_context.EventContext.{EventContext}
use Rattle.js_ordered_table.specs.declared.replay_state.ReplayState.{ReplayState}
use Rattle.js_ordered_table.specs.Fold.{passing}
use Rattle.js_ordered_table.specs.Passes.{at}
use Rattle.js_ordered_table.specs.Consumer.{Matter, silent_row}
use Rattle.js_ordered_table.specs.Table.{row_at}
use Rattle.js_ordered.proofs.DrivenRows.{idle_row, nothing_passed}

-- ---- a row where it does not belong

-- no recreation is open
abbrev pub IsClosed : Phase → Type 0
IsClosed (Recreates r) = ⊥
IsClosed phase = ⊤

try_nowhere : (g : ReplayInput) (p : RowInput) (m : Matter) (phase : Phase) (c : Consumer) → IsClosed phase → row_at g p m row.Try phase c ≡ silent_row c []
try_nowhere g p m (Pulls reader) c closed = refl
try_nowhere g p m (Pushes inbox heartbeat_timer) c closed = refl
try_nowhere g p m Idle c closed = refl
try_nowhere g p m Ended c closed = refl
try_nowhere g p m Exhausted c closed = refl
try_nowhere g p m (Recreates r) c closed = absurd closed

create_nowhere : (g : ReplayInput) (p : RowInput) (m : Matter) (phase : Phase) (c : Consumer) → IsClosed phase → row_at g p m row.Create phase c ≡ silent_row c []
create_nowhere g p m (Pulls reader) c closed = refl
create_nowhere g p m (Pushes inbox heartbeat_timer) c closed = refl
create_nowhere g p m Idle c closed = refl
create_nowhere g p m Ended c closed = refl
create_nowhere g p m Exhausted c closed = refl
create_nowhere g p m (Recreates r) c closed = absurd closed

ask_nowhere : (g : ReplayInput) (p : RowInput) (m : Matter) (phase : Phase) (c : Consumer) → IsClosed phase → row_at g p m row.Ask phase c ≡ silent_row c []
ask_nowhere g p m (Pulls reader) c closed = refl
ask_nowhere g p m (Pushes inbox heartbeat_timer) c closed = refl
ask_nowhere g p m Idle c closed = refl
ask_nowhere g p m Ended c closed = refl
ask_nowhere g p m Exhausted c closed = refl
ask_nowhere g p m (Recreates r) c closed = absurd closed

await_nowhere : (g : ReplayInput) (p : RowInput) (m : Matter) (phase : Phase) (c : Consumer) → IsClosed phase → row_at g p m row.Await phase c ≡ silent_row c []
await_nowhere g p m (Pulls reader) c closed = refl
await_nowhere g p m (Pushes inbox heartbeat_timer) c closed = refl
await_nowhere g p m Idle c closed = refl
await_nowhere g p m Ended c closed = refl
await_nowhere g p m Exhausted c closed = refl
await_nowhere g p m (Recreates r) c closed = absurd closed

fail_nowhere : (g : ReplayInput) (p : RowInput) (m : Matter) (phase : Phase) (c : Consumer) → IsClosed phase → row_at g p m row.Fail phase c ≡ silent_row c []
fail_nowhere g p m (Pulls reader) c closed = refl
fail_nowhere g p m (Pushes inbox heartbeat_timer) c closed = refl
fail_nowhere g p m Idle c closed = refl
fail_nowhere g p m Ended c closed = refl
fail_nowhere g p m Exhausted c closed = refl
fail_nowhere g p m (Recreates r) c closed = absurd closed

answered_nowhere : (g : ReplayInput) (p : RowInput) (m : Matter) (reply : Option Message) (phase : Phase) (c : Consumer) → IsClosed phase → row_at g p m (row.Answered reply) phase c ≡ silent_row c []
answered_nowhere g p m reply (Pulls reader) c closed = refl
answered_nowhere g p m reply (Pushes inbox heartbeat_timer) c closed = refl
answered_nowhere g p m reply Idle c closed = refl
answered_nowhere g p m reply Ended c closed = refl
answered_nowhere g p m reply Exhausted c closed = refl
answered_nowhere g p m reply (Recreates r) c closed = absurd closed

succeed_nowhere : (g : ReplayInput) (p : RowInput) (m : Matter) (info : Info) (phase : Phase) (c : Consumer) → IsClosed phase → row_at g p m (row.Succeed info) phase c ≡ silent_row c []
succeed_nowhere g p m info (Pulls reader) c closed = refl
succeed_nowhere g p m info (Pushes inbox heartbeat_timer) c closed = refl
succeed_nowhere g p m info Idle c closed = refl
succeed_nowhere g p m info Ended c closed = refl
succeed_nowhere g p m info Exhausted c closed = refl
succeed_nowhere g p m info (Recreates r) c closed = absurd closed

replied_nowhere : (g : ReplayInput) (now : ℕ) (m : Matter) (reply : Option (Option Message)) (w u : ReplayState) (outputs : List Output) (phase : Phase) → IsClosed phase → w.consumer.phase ≡ phase → u ≡ at phase w
    → Passes g now m (answered_rows reply) w outputs [] u outputs
replied_nowhere g now m None w u outputs phase closed is to =
    let same : u ≡ w = to ∙ ap (λ (q : Phase). at q w) (sym is) in
    subst (λ (v : ReplayState). Passes g now m [] w outputs [] v outputs) (sym same) (nothing_passed g now m w outputs)
replied_nowhere g now m (Some reply) w u outputs phase closed is to =
    idle_row g now m (row.Answered reply) w u outputs phase is to (answered_nowhere g (passing g now w) m reply phase w.consumer closed)

-- a row of a recreation does nothing where none is open
tries_nowhere : (g : ReplayInput) (now : ℕ) (m : Matter) (one : Task) (w u : ReplayState) (outputs : List Output) (phase : Phase) → IsTry one → IsClosed phase → w.consumer.phase ≡ phase → u ≡ at phase w
    → Passes g now m (rows_of m one) w outputs [] u outputs
tries_nowhere g now m task.Try w u outputs phase one closed is to = idle_row g now m row.Try w u outputs phase is to (try_nowhere g (passing g now w) m phase w.consumer closed)
tries_nowhere g now m task.Create w u outputs phase one closed is to = idle_row g now m row.Create w u outputs phase is to (create_nowhere g (passing g now w) m phase w.consumer closed)
tries_nowhere g now m task.Ask w u outputs phase one closed is to = idle_row g now m row.Ask w u outputs phase is to (ask_nowhere g (passing g now w) m phase w.consumer closed)
tries_nowhere g now m task.Await w u outputs phase one closed is to = idle_row g now m row.Await w u outputs phase is to (await_nowhere g (passing g now w) m phase w.consumer closed)
tries_nowhere g now m task.Fail w u outputs phase one closed is to = idle_row g now m row.Fail w u outputs phase is to (fail_nowhere g (passing g now w) m phase w.consumer closed)
tries_nowhere g now m (task.Answered request) w u outputs phase one closed is to = replied_nowhere g now m (reply_to request m.answer) w u outputs phase closed is to
tries_nowhere g now m (task.Succeed info) w u outputs phase one closed is to =
    idle_row g now m (row.Succeed info) w u outputs phase is to (succeed_nowhere g (passing g now w) m info phase w.consumer closed)
tries_nowhere g now m task.Event w u outputs phase one closed is to = absurd one
tries_nowhere g now m task.Start w u outputs phase one closed is to = absurd one
tries_nowhere g now m task.Hold w u outputs phase one closed is to = absurd one
tries_nowhere g now m task.CheckArrival w u outputs phase one closed is to = absurd one
tries_nowhere g now m (task.Hear inbox) w u outputs phase one closed is to = absurd one
tries_nowhere g now m (task.HearHeld held) w u outputs phase one closed is to = absurd one
tries_nowhere g now m task.CheckSilence w u outputs phase one closed is to = absurd one
tries_nowhere g now m task.Arm w u outputs phase one closed is to = absurd one
tries_nowhere g now m (task.Read due) w u outputs phase one closed is to = absurd one

closed_elsewhere : (phase : Phase) → ((r : Recreation) → phase ≡ Recreates r → ⊥) → IsClosed phase
closed_elsewhere (Pulls reader) other = tt
closed_elsewhere (Pushes inbox heartbeat_timer) other = tt
closed_elsewhere (Recreates r) other = absurd (other r refl)
closed_elsewhere Idle other = tt
closed_elsewhere Ended other = tt
closed_elsewhere Exhausted other = tt

-- and so in any other phase
pub tries_elsewhere : (g : ReplayInput) (now : ℕ) (m : Matter) (one : Task) (w u : ReplayState) (outputs : List Output) (phase : Phase) → IsTry one → ((r : Recreation) → phase ≡ Recreates r → ⊥) → w.consumer.phase ≡ phase → u ≡ at phase w
    → Passes g now m (rows_of m one) w outputs [] u outputs
tries_elsewhere g now m one w u outputs phase tried other is to = tries_nowhere g now m one w u outputs phase tried (closed_elsewhere phase other) is to

-- and where one is open it was passed there
pub tries_here : {E : Type 0} (context : EventContext) (one : Task) (r : Recreation) (w u : ReplayState) (before after : List Output) (result : Result NextTasks E) → w.consumer.phase ≡ Recreates r
    → PassesTo context (rows_of (matter_now context) one) (at (Recreates r) w) u before after result → PassesTo context (rows_of (matter_now context) one) w u before after result
tries_here context one r w u before after result is passes =
    subst (λ (q : Phase). PassesTo context (rows_of (matter_now context) one) (at q w) u before after result) (sym is) passes

-- ---- a reader's row

reads_none : (g : ReplayInput) (p : RowInput) (m : Matter) (one : PullRow) (phase : Phase) (c : Consumer) → ((r : Reader) → phase ≡ Pulls r → ⊥) → row_at g p m (row.Read one) phase c ≡ silent_row c []
reads_none g p m one (Pulls reader) c other = absurd (other reader refl)
reads_none g p m one (Pushes inbox heartbeat_timer) c other = refl
reads_none g p m one (Recreates r) c other = refl
reads_none g p m one Idle c other = refl
reads_none g p m one Ended c other = refl
reads_none g p m one Exhausted c other = refl

-- where none reads
pub reads_nowhere : (g : ReplayInput) (now : ℕ) (m : Matter) (one : PullRow) (w : ReplayState) (outputs : List Output) → ((r : Reader) → w.consumer.phase ≡ Pulls r → ⊥)
    → Passes g now m (row.Read one ∷ []) w outputs [] w outputs
reads_nowhere g now m one w outputs other =
    idle_row g now m (row.Read one) w w outputs w.consumer.phase refl refl (reads_none g (passing g now w) m one w.consumer.phase w.consumer other)

-- and where one reads
pub reads_here : (g : ReplayInput) (now : ℕ) (m : Matter) (one : PullRow) (r : Reader) (w u : ReplayState) (earlier later : List Output) (rest : List Row) → w.consumer.phase ≡ Pulls r
    → Passes g now m (row.Read one ∷ []) (at (Pulls r) w) earlier rest u later → Passes g now m (row.Read one ∷ []) w earlier rest u later
reads_here g now m one r w u earlier later rest is leads =
    subst (λ (q : Phase). Passes g now m (row.Read one ∷ []) (at q w) earlier rest u later) (sym is) leads
