-- A row where it does not belong does nothing.
use Rattle.std.proofs.Common.{◌≡◌, ℕ, Bool, true, false, [], ◌∷◌, Option, Some, None, refl, sym, ap, ◌∙◌, subst}
use Rattle.std.specs.Prelude.{Ok, ⊤, if◌then◌else◌}
use Rattle.js_base.specs.declared.clock.Timer.{Timer}
use Rattle.js_base.specs.declared.message.Message.{Message}
use Rattle.js_json.specs.declared.consumer.info.Info.{Info}
use Rattle.js_link.specs.LinkView.{LinkView}
use Rattle.js_link.specs.Wish.{row_input}
use Rattle.js_link.specs.declared.wish.Wish.{Wish}
use Rattle.js_link.specs.declared.wish.Wish.TheVariants.{Nothing}
use Rattle.js_link.specs.declared.wish.Met.TheVariants.{Unasked}
use Rattle.js_ordered_table.specs.declared.transitions.task.NextTasks.TheVariants as next
use Rattle.js_ordered_table.specs.declared.transitions.task.Task.{Task}
use Rattle.js_ordered_table.specs.declared.transitions.task.Task.TheVariants as task
use Rattle.js_ordered_table.specs.Tasks.{answered_rows, rows_of}
use Rattle.js_ordered_stream.specs.declared.remaining_rows.Seen.{Seen}
use Rattle.js_ordered_stream.specs.declared.remaining_rows.Seen.TheVariants as sight
use Rattle.js_ordered_stream.specs.declared.rows.RowItem.TheVariants as hands
use Rattle.js_ordered_stream.specs.declared.rows.Stepped.{Stepped}
use Rattle.js_ordered_stream.specs.Rows.{IfLook, IsTry, PassesRow, PassesRows, answer_in, is_left, met_row, read_in, seen_after, seen_by}
use Rattle.js_pull.specs.Reader.{reply_to}
use Rattle.js_pull.specs.declared.reader.Reader.{Reader}
use Rattle.js_pull.specs.declared.reader.Row.{Row as PullRow}
use Rattle.js_ordered_table.specs.declared.consumer.Consumer.{Consumer}
use Rattle.js_ordered_table.specs.declared.consumer.ReplayInput.{ReplayInput}
use Rattle.js_ordered_table.specs.declared.consumer.Phase.{Phase}
use Rattle.js_ordered_table.specs.declared.consumer.Phase.TheVariants.{Pulls, Pushes, Recreates, Idle, Ended, Exhausted}
use Rattle.js_ordered_table.specs.declared.consumer.Recreation.{Recreation}
use Rattle.js_ordered_table.specs.declared.row.Arrival.{Arrival}
use Rattle.js_ordered_table.specs.declared.row.Row.{Row}
use Rattle.js_ordered_table.specs.declared.row.Row.TheVariants as row
use Rattle.js_ordered_table.specs.Arrivals.{beat_subject, push_kind}
use Rattle.js_ordered_table.specs.Consumer.{Passed, at_phase, silent_row}
use Rattle.js_ordered_table.specs.Fold.{is_over}
use Rattle.js_ordered_table.specs.Passes.{listens_to}
use Rattle.js_ordered_table.specs.Poll.{poll_wish_at}
use Rattle.js_ordered_table.specs.Table.{row_at}
use Rattle.js_ordered_table.specs.Walk.{handed}
use Rattle.js_ordered_table.specs.Wishes.{beat_wish, matter_of}
use Rattle.js_ordered_table.proofs.PassedRows.{hears_nowhere}
use Rattle.js_ordered_stream.proofs.KeptSeen.{blind_alone}
use Rattle.js_ordered_stream.proofs.PassedRows.{meets_as, row_passes}

-- nothing comes of a row
abbrev pub passed_over : Stepped
passed_over = record { handed = hands.Nothing; looked = false; next = next.Nothing }

-- it asks nothing at this phase, and does nothing
abbrev DoesNothing : ReplayInput → ℕ → Row → Phase → Consumer → Type 0
DoesNothing g now one phase c =
    (poll_wish_at g one phase ≡ Nothing) × (row_at g (row_input now Unasked) (matter_of Nothing Unasked) one phase c ≡ silent_row c [])

if_look : (one : Row) (P : Type 0) → P → IfLook one P
if_look row.CheckArrival P holds = holds
if_look one P holds = tt

idle_row : (g : ReplayInput) (now : ℕ) (one : Row) (c : Consumer) (done : Stepped) (v : LinkView) → DoesNothing g now one c.phase c → seen_by one Unasked ≡ None → done ≡ passed_over
    → PassesRow g now one c c v v sight.Nothing (Ok done)
idle_row g now one c done v (asks, does) sees to =
    row_passes g now one c c Unasked (silent_row c []) [] hands.Nothing next.Nothing done v v
    (meets_as Nothing (poll_wish_at g one c.phase) Unasked v v (sym asks) refl)
    (record { message = refl; is_open = refl }) sees
    (ap (λ (w : Wish). row_at g (row_input now Unasked) (matter_of w Unasked) one c.phase c) asks ∙ does)
    (record { consumer = refl; outputs = refl; next = refl }) refl (if_look one (true ≡ true) refl) to

false_true : false ≡ true → ⊥
false_true e = cc

-- ---- no turn of an ended consumer begins

over_idle : (g : ReplayInput) (now : ℕ) (phase : Phase) (c : Consumer) → is_over phase ≡ true → DoesNothing g now row.Event phase c
over_idle g now (Pulls reader) c over = absurd (false_true over)
over_idle g now (Pushes inbox timer) c over = absurd (false_true over)
over_idle g now (Recreates r) c over = absurd (false_true over)
over_idle g now Idle c over = absurd (false_true over)
over_idle g now Ended c over = (refl, refl)
over_idle g now Exhausted c over = (refl, refl)

pub over_passes : (g : ReplayInput) (now : ℕ) (c : Consumer) (done : Stepped) (v : LinkView) → is_over c.phase ≡ true → done ≡ passed_over → PassesRow g now row.Event c c v v sight.Nothing (Ok done)
over_passes g now c done v over to = idle_row g now row.Event c done v (over_idle g now c.phase c over) refl to

-- ---- a reader's row, where none reads

reads_none : (g : ReplayInput) (now : ℕ) (one : PullRow) (phase : Phase) (c : Consumer) → ((r : Reader) → phase ≡ Pulls r → ⊥) → DoesNothing g now (row.Read one) phase c
reads_none g now one (Pulls reader) c other = absurd (other reader refl)
reads_none g now one (Pushes inbox timer) c other = (refl, refl)
reads_none g now one (Recreates r) c other = (refl, refl)
reads_none g now one Idle c other = (refl, refl)
reads_none g now one Ended c other = (refl, refl)
reads_none g now one Exhausted c other = (refl, refl)

pub reads_nowhere : (g : ReplayInput) (now : ℕ) (one : PullRow) (c : Consumer) (done : Stepped) (v : LinkView) → ((r : Reader) → c.phase ≡ Pulls r → ⊥) → done ≡ passed_over
    → PassesRow g now (row.Read one) c c v v sight.Nothing (Ok done)
reads_nowhere g now one c done v other to = idle_row g now (row.Read one) c done v (reads_none g now one c.phase c other) refl to

-- ---- push's rows, where it does not listen

-- push does not listen
abbrev IsDeaf : Phase → Type 0
IsDeaf phase = (inbox : ℕ) (timer : Timer) → phase ≡ Pushes inbox timer → ⊥

looks_none : (g : ReplayInput) (now : ℕ) (phase : Phase) (c : Consumer) → IsDeaf phase → DoesNothing g now row.CheckArrival phase c
looks_none g now (Pulls reader) c deaf = (refl, refl)
looks_none g now (Pushes inbox timer) c deaf = absurd (deaf inbox timer refl)
looks_none g now (Recreates r) c deaf = (refl, refl)
looks_none g now Idle c deaf = (refl, refl)
looks_none g now Ended c deaf = (refl, refl)
looks_none g now Exhausted c deaf = (refl, refl)

silence_none : (g : ReplayInput) (now : ℕ) (phase : Phase) (c : Consumer) → IsDeaf phase → DoesNothing g now row.CheckSilence phase c
silence_none g now (Pulls reader) c deaf = (refl, refl)
silence_none g now (Pushes inbox timer) c deaf = absurd (deaf inbox timer refl)
silence_none g now (Recreates r) c deaf = (refl, refl)
silence_none g now Idle c deaf = (refl, refl)
silence_none g now Ended c deaf = (refl, refl)
silence_none g now Exhausted c deaf = (refl, refl)

arms_none : (g : ReplayInput) (now : ℕ) (phase : Phase) (c : Consumer) → IsDeaf phase → DoesNothing g now row.Arm phase c
arms_none g now (Pulls reader) c deaf = (refl, refl)
arms_none g now (Pushes inbox timer) c deaf = absurd (deaf inbox timer refl)
arms_none g now (Recreates r) c deaf = (refl, refl)
arms_none g now Idle c deaf = (refl, refl)
arms_none g now Ended c deaf = (refl, refl)
arms_none g now Exhausted c deaf = (refl, refl)

pub looks_nowhere : (g : ReplayInput) (now : ℕ) (c : Consumer) (done : Stepped) (v : LinkView) → ((inbox : ℕ) (timer : Timer) → c.phase ≡ Pushes inbox timer → ⊥) → done ≡ passed_over
    → PassesRow g now row.CheckArrival c c v v sight.Nothing (Ok done)
looks_nowhere g now c done v deaf to = idle_row g now row.CheckArrival c done v (looks_none g now c.phase c deaf) refl to

pub silence_nowhere : (g : ReplayInput) (now : ℕ) (c : Consumer) (done : Stepped) (v : LinkView) → ((inbox : ℕ) (timer : Timer) → c.phase ≡ Pushes inbox timer → ⊥) → done ≡ passed_over
    → PassesRow g now row.CheckSilence c c v v sight.Nothing (Ok done)
silence_nowhere g now c done v deaf to = idle_row g now row.CheckSilence c done v (silence_none g now c.phase c deaf) refl to

pub arms_nowhere : (g : ReplayInput) (now : ℕ) (c : Consumer) (done : Stepped) (v : LinkView) → ((inbox : ℕ) (timer : Timer) → c.phase ≡ Pushes inbox timer → ⊥) → done ≡ passed_over
    → PassesRow g now row.Arm c c v v sight.Nothing (Ok done)
arms_nowhere g now c done v deaf to = idle_row g now row.Arm c done v (arms_none g now c.phase c deaf) refl to

unheard_wish : (g : ReplayInput) (arrival : Arrival) (phase : Phase) → listens_to arrival.inbox phase ≡ false → poll_wish_at g (row.Hear arrival) phase ≡ Nothing
unheard_wish g arrival (Pushes current timer) deaf = ap (λ (b : Bool). if b then beat_wish (push_kind arrival.message) (beat_subject g.settings.resilience.answers_stalled arrival.message) else Nothing) deaf
unheard_wish g arrival (Pulls reader) deaf = refl
unheard_wish g arrival (Recreates r) deaf = refl
unheard_wish g arrival Idle deaf = refl
unheard_wish g arrival Ended deaf = refl
unheard_wish g arrival Exhausted deaf = refl

-- an arrival on another inbox
pub unheard_passes : (g : ReplayInput) (now : ℕ) (arrival : Arrival) (c : Consumer) (v : LinkView) → listens_to arrival.inbox c.phase ≡ false
    → PassesRow g now (row.Hear arrival) c c v v (sight.Message None arrival.message) (Ok (record { handed = hands.Nothing; looked = true; next = next.Nothing }))
unheard_passes g now arrival c v deaf =
    let w : Wish = poll_wish_at g (row.Hear arrival) c.phase in
    let asks : w ≡ Nothing = unheard_wish g arrival c.phase deaf in
    let same : met_row g now (row.Hear arrival) Unasked c ≡ silent_row c [] = hears_nowhere g (row_input now Unasked) (matter_of w Unasked) arrival.inbox arrival.message c.phase c deaf in (
      Unasked,
      meets_as Nothing w Unasked v v (sym asks) refl,
      refl,
      record {
        consumer = sym (ap (λ (x : Passed). x.consumer) same);
        shown = ap (λ (x : Passed). handed x.outputs) same;
        next = sym (ap (λ (x : Passed). x.next) same);
        looked = refl;
        seen = refl;
        message = refl;
        errors = tt;
        held = tt;
      },
    )

-- ---- a recreation's rows, where none is open

-- no recreation is open
abbrev IsClosed : Phase → Type 0
IsClosed (Recreates r) = ⊥
IsClosed phase = ⊤

closed_elsewhere : (phase : Phase) → ((r : Recreation) → phase ≡ Recreates r → ⊥) → IsClosed phase
closed_elsewhere (Pulls reader) other = tt
closed_elsewhere (Pushes inbox timer) other = tt
closed_elsewhere (Recreates r) other = absurd (other r refl)
closed_elsewhere Idle other = tt
closed_elsewhere Ended other = tt
closed_elsewhere Exhausted other = tt

try_none : (g : ReplayInput) (now : ℕ) (phase : Phase) (c : Consumer) → IsClosed phase → DoesNothing g now row.Try phase c
try_none g now (Pulls reader) c closed = (refl, refl)
try_none g now (Pushes inbox timer) c closed = (refl, refl)
try_none g now (Recreates r) c closed = absurd closed
try_none g now Idle c closed = (refl, refl)
try_none g now Ended c closed = (refl, refl)
try_none g now Exhausted c closed = (refl, refl)

create_none : (g : ReplayInput) (now : ℕ) (phase : Phase) (c : Consumer) → IsClosed phase → DoesNothing g now row.Create phase c
create_none g now (Pulls reader) c closed = (refl, refl)
create_none g now (Pushes inbox timer) c closed = (refl, refl)
create_none g now (Recreates r) c closed = absurd closed
create_none g now Idle c closed = (refl, refl)
create_none g now Ended c closed = (refl, refl)
create_none g now Exhausted c closed = (refl, refl)

ask_none : (g : ReplayInput) (now : ℕ) (phase : Phase) (c : Consumer) → IsClosed phase → DoesNothing g now row.Ask phase c
ask_none g now (Pulls reader) c closed = (refl, refl)
ask_none g now (Pushes inbox timer) c closed = (refl, refl)
ask_none g now (Recreates r) c closed = absurd closed
ask_none g now Idle c closed = (refl, refl)
ask_none g now Ended c closed = (refl, refl)
ask_none g now Exhausted c closed = (refl, refl)

await_none : (g : ReplayInput) (now : ℕ) (phase : Phase) (c : Consumer) → IsClosed phase → DoesNothing g now row.Await phase c
await_none g now (Pulls reader) c closed = (refl, refl)
await_none g now (Pushes inbox timer) c closed = (refl, refl)
await_none g now (Recreates r) c closed = absurd closed
await_none g now Idle c closed = (refl, refl)
await_none g now Ended c closed = (refl, refl)
await_none g now Exhausted c closed = (refl, refl)

fail_none : (g : ReplayInput) (now : ℕ) (phase : Phase) (c : Consumer) → IsClosed phase → DoesNothing g now row.Fail phase c
fail_none g now (Pulls reader) c closed = (refl, refl)
fail_none g now (Pushes inbox timer) c closed = (refl, refl)
fail_none g now (Recreates r) c closed = absurd closed
fail_none g now Idle c closed = (refl, refl)
fail_none g now Ended c closed = (refl, refl)
fail_none g now Exhausted c closed = (refl, refl)

answered_none : (g : ReplayInput) (now : ℕ) (reply : Option Message) (phase : Phase) (c : Consumer) → IsClosed phase → DoesNothing g now (row.Answered reply) phase c
answered_none g now reply (Pulls reader) c closed = (refl, refl)
answered_none g now reply (Pushes inbox timer) c closed = (refl, refl)
answered_none g now reply (Recreates r) c closed = absurd closed
answered_none g now reply Idle c closed = (refl, refl)
answered_none g now reply Ended c closed = (refl, refl)
answered_none g now reply Exhausted c closed = (refl, refl)

succeed_none : (g : ReplayInput) (now : ℕ) (info : Info) (phase : Phase) (c : Consumer) → IsClosed phase → DoesNothing g now (row.Succeed info) phase c
succeed_none g now info (Pulls reader) c closed = (refl, refl)
succeed_none g now info (Pushes inbox timer) c closed = (refl, refl)
succeed_none g now info (Recreates r) c closed = absurd closed
succeed_none g now info Idle c closed = (refl, refl)
succeed_none g now info Ended c closed = (refl, refl)
succeed_none g now info Exhausted c closed = (refl, refl)

idle_alone : (g : ReplayInput) (now : ℕ) (one : Row) (seen : Seen) (c : Consumer) (done : Stepped) (v : LinkView) → DoesNothing g now one c.phase c → seen_by one Unasked ≡ None → done ≡ passed_over
    → PassesRows g now (one ∷ []) c c v v (seen_after (Ok done) seen) (Ok done)
idle_alone g now one seen c done v idle sees to = blind_alone g now one c c v v seen (Ok done) (idle_row g now one c done v idle sees to)

replies_nowhere : (g : ReplayInput) (now : ℕ) (reply : Option (Option Message)) (seen : Seen) (c : Consumer) (done : Stepped) (v : LinkView) → is_left (answered_rows reply) ≡ true → IsClosed c.phase → done ≡ passed_over
    → PassesRows g now (answered_rows reply) c c v v (seen_after (Ok done) seen) (Ok done)
replies_nowhere g now None seen c done v left closed to = absurd (false_true left)
replies_nowhere g now (Some reply) seen c done v left closed to = idle_alone g now (row.Answered reply) seen c done v (answered_none g now reply c.phase c closed) refl to

tries_closed : (g : ReplayInput) (now : ℕ) (one : Task) (seen : Seen) (c : Consumer) (done : Stepped) (v : LinkView) → IsTry one → is_left (rows_of (read_in seen) one) ≡ true → IsClosed c.phase → done ≡ passed_over
    → PassesRows g now (rows_of (read_in seen) one) c c v v (seen_after (Ok done) seen) (Ok done)
tries_closed g now task.Try seen c done v tried left closed to = idle_alone g now row.Try seen c done v (try_none g now c.phase c closed) refl to
tries_closed g now task.Create seen c done v tried left closed to = idle_alone g now row.Create seen c done v (create_none g now c.phase c closed) refl to
tries_closed g now task.Ask seen c done v tried left closed to = idle_alone g now row.Ask seen c done v (ask_none g now c.phase c closed) refl to
tries_closed g now task.Await seen c done v tried left closed to = idle_alone g now row.Await seen c done v (await_none g now c.phase c closed) refl to
tries_closed g now task.Fail seen c done v tried left closed to = idle_alone g now row.Fail seen c done v (fail_none g now c.phase c closed) refl to
tries_closed g now (task.Answered request) seen c done v tried left closed to = replies_nowhere g now (reply_to request (answer_in seen)) seen c done v left closed to
tries_closed g now (task.Succeed info) seen c done v tried left closed to = idle_alone g now (row.Succeed info) seen c done v (succeed_none g now info c.phase c closed) refl to
tries_closed g now task.Event seen c done v tried left closed to = absurd tried
tries_closed g now task.Start seen c done v tried left closed to = absurd tried
tries_closed g now task.Hold seen c done v tried left closed to = absurd tried
tries_closed g now task.CheckArrival seen c done v tried left closed to = absurd tried
tries_closed g now (task.Hear inbox) seen c done v tried left closed to = absurd tried
tries_closed g now (task.HearHeld held) seen c done v tried left closed to = absurd tried
tries_closed g now task.CheckSilence seen c done v tried left closed to = absurd tried
tries_closed g now task.Arm seen c done v tried left closed to = absurd tried
tries_closed g now (task.Read due) seen c done v tried left closed to = absurd tried

pub tries_nowhere : (g : ReplayInput) (now : ℕ) (one : Task) (seen : Seen) (c d : Consumer) (phase : Phase) (done : Stepped) (v : LinkView) → IsTry one → is_left (rows_of (read_in seen) one) ≡ true
    → ((r : Recreation) → phase ≡ Recreates r → ⊥) → phase ≡ c.phase → d ≡ at_phase phase c → done ≡ passed_over
    → PassesRows g now (rows_of (read_in seen) one) c d v v (seen_after (Ok done) seen) (Ok done)
tries_nowhere g now one seen c d phase done v tried left other was to is =
    subst (λ (x : Consumer). PassesRows g now (rows_of (read_in seen) one) c x v v (seen_after (Ok done) seen) (Ok done)) (sym (to ∙ ap (λ (q : Phase). at_phase q c) was))
    (tries_closed g now one seen c done v tried left (subst IsClosed was (closed_elsewhere phase other)) is)
