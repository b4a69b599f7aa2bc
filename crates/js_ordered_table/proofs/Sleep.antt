-- An ordered consumer at rest that is left alone does nothing before one of its timers is due.
use Rattle.std.proofs.Common.{◌≡◌, ◌⊎◌, ℕ, Bool, true, false, List, [], ◌∷◌, ◌++◌, map, Option, Some, None, refl, sym, ◌∙◌, ap, subst, inl, inr, append-nil}
use Rattle.std.specs.Prelude.{⊤, is_some, if◌then◌else◌}
use Rattle.js_base.specs.Clock.{is_due}
use Rattle.js_base.specs.declared.clock.Timer.{Timer}
use Rattle.js_base.specs.declared.message.Message.{Message}
use Rattle.js_link.specs.LinkView.{LinkView}
use Rattle.js_link.specs.Wish.{IsClosing, watch_met}
use Rattle.js_link.specs.declared.wish.Wish.TheVariants.{Watches}
use Rattle.js_link.specs.declared.wish.Met.{Met}
use Rattle.js_link.specs.declared.wish.Met.TheVariants.{Stands, WatchOver}
use Rattle.js_link.specs.Meets.{Meets}
use Rattle.js_link.specs.RowInput.{RowInput}
use Rattle.js_link.specs.declared.link.Watch.{Watch}
use Rattle.js_message.specs.AckSubject.{Place, readable_as}
use Rattle.js_pull.specs.declared.reader.Reader.{Reader}
use Rattle.js_pull.specs.declared.reader.InfoRequest.{InfoRequest}
use Rattle.js_pull.specs.declared.reader.InfoRequest.TheVariants as info
use Rattle.js_pull.specs.declared.reader.Row.{Row as PullRow}
use Rattle.js_pull.specs.declared.reader.Row.TheVariants as read
use Rattle.js_pull.specs.Reader as pull
use Rattle.js_pull.proofs.Idle as idle
use Rattle.js_pull.proofs.Idle.{early_parts, moment_is, nothing_same, no_reply, none_arrives, begun_idle, expiry_idle, inquiry_idle, arrival_idle, silence_idle}
use Rattle.js_ordered_table.specs.declared.consumer.Consumer.{Consumer}
use Rattle.js_ordered_table.specs.declared.consumer.Opened.{Opened}
use Rattle.js_ordered_table.specs.declared.consumer.Phase.{Phase}
use Rattle.js_ordered_table.specs.declared.consumer.Phase.TheVariants.{Pulls, Pushes, Recreates, Idle, Ended, Exhausted}
use Rattle.js_ordered_table.specs.declared.consumer.Recreation.{Recreation}
use Rattle.js_ordered_table.specs.declared.consumer.ReplayInput.{ReplayInput}
use Rattle.js_ordered_table.specs.declared.consumer.Stage.{Stage}
use Rattle.js_ordered_table.specs.declared.consumer.Stage.TheVariants as stage
use Rattle.js_ordered_table.specs.declared.row.Arrival.{Arrival}
use Rattle.js_ordered_table.specs.declared.row.Row.{Row}
use Rattle.js_ordered_table.specs.declared.row.Row.TheVariants as row
use Rattle.js_ordered_table.specs.declared.run.ItemKind.TheVariants as item
use Rattle.js_ordered_table.specs.declared.run.Output.TheVariants as out
use Rattle.js_ordered_table.specs.declared.setup.OrderedSetup.{OrderedSetup}
use Rattle.js_ordered_table.specs.declared.setup.OrderedSetup.TheVariants.{Pull, Push}
use Rattle.js_ordered_table.specs.Fold.{is_over}
use Rattle.js_ordered_table.specs.Invariant.{IsPull}
use Rattle.js_ordered_table.specs.Arrivals.{read_row, silence_row}
use Rattle.js_ordered_table.specs.Recreation.{created, held_in, message_on, recreation_rows, stage_rows}
use Rattle.js_ordered_table.specs.Consumer.{Change, Matter, Passed, at_phase, silent_row}
use Rattle.js_ordered_table.specs.Table.{changed, event_change, go_on, pass, push_rows, watcher_ended}
use Rattle.js_ordered_table.specs.Poll.{Answer, Yields, Tells, HandsEnd, Waits, Ends, Lacks, IsPoll, IsMet, closed_at, handed_by, poll_wish, yielded}
use Rattle.js_ordered_table.specs.Walk.{Position, Stride, IsStride, first_row, later_rows, handed, step, walk}
use Rattle.js_ordered_table.specs.Timers.{IsLeftAlone, IsStageUnanswered, IsUnread, Sleeps, StandsStill, stage_due}
use Rattle.js_ordered_table.specs.Wishes.{awaited, change_of}
use Rattle.js_ordered_table.proofs.Walk.{arrives_here, handed_both, walk_append}

-- where a turn stands that does nothing
data Spot : Type 0 where
  Rest : Spot
  Reads : idle.Stage → Spot  -- a pull reader, within its event
  Looks Listens : Spot  -- push, before its inbox, and before its heartbeat
  Awaits Awaits_holding Holds : Spot  -- an open recreation

abbrev rows_at : Spot → List Row
rows_at Rest = []
rows_at (Reads one) = map row.Read (idle.rows_at one)
rows_at Looks = row.CheckArrival ∷ []
rows_at Listens = row.CheckSilence ∷ []
rows_at Awaits = row.Await ∷ []
rows_at Awaits_holding = row.Await ∷ row.Hold ∷ []
rows_at Holds = row.Hold ∷ []

abbrev IsAt : Spot → Phase → Type 0
IsAt Rest phase = ⊤
IsAt (Reads one) (Pulls r) = idle.IsAt one r
IsAt Looks (Pushes inbox heartbeat_timer) = ⊤
IsAt Listens (Pushes inbox heartbeat_timer) = ⊤
IsAt Awaits (Recreates r) = ⊤
IsAt Awaits_holding (Recreates r) = ⊤
IsAt Holds (Recreates r) = ⊤
IsAt spot phase = ⊥

abbrev place : Consumer → List Row → Position
place c rows = record { consumer = c; todo = rows }

-- a row leads to the next of them, and does nothing
record Stays (g : ReplayInput) (c : Consumer) (rows : List Row) (s : Stride) (v u : LinkView) : Type 0 where
  next : Spot
  at : IsAt next c.phase
  leads : (step g s (place c rows)).position ≡ place c (rows_at next)
  silent : handed (step g s (place c rows)).outputs ≡ []
  same : u ≡ v

stays_by : (g : ReplayInput) (c : Consumer) (rows : List Row) (s : Stride) (v u : LinkView) (next : Spot) (more : List Row) → IsAt next c.phase
    → pass g s.passing s.matter (first_row rows) c ≡ silent_row c more → more ++ later_rows rows ≡ rows_at next → u ≡ v → Stays g c rows s v u
stays_by g c rows s v u next more at e f same = record {
  next = next;
  at = at;
  leads = ap (λ (p : Passed). place p.consumer (p.next ++ later_rows rows)) e ∙ ap (place c) f;
  silent = ap (λ (p : Passed). handed p.outputs) e;
  same = same;
}

-- ---- a turn begins

-- the connection stands as it was
no_change : (g : ReplayInput) (p : RowInput) (m : Matter) (c : Consumer) (met : Met) (v u : LinkView) → StandsStill g.setup c.connection (watch_met v.watch) → Meets Watches met v u → m.change ≡ change_of met
    → (event_change g p m m.change c ≡ go_on g p m c.phase c) × (u ≡ v)
no_change g p m c (Stands state) v u still meets is = (
  ap (λ (k : Change). event_change g p m k c) is
      ∙ ap (λ (b : Bool). if b then go_on g p m c.phase c else changed g p m c.connection state c.phase c) (subst (λ (w : Watch). StandsStill g.setup c.connection (watch_met w)) meets.1 still),
  meets.0,
)
no_change g p m c WatchOver v u still meets is = (
  ap (λ (k : Change). event_change g p m k c) is ∙ by_setup g.setup (subst (λ (w : Watch). StandsStill g.setup c.connection (watch_met w)) meets.1 still),
  meets.0,
)
  where
    by_setup : (setup : OrderedSetup) → IsPull setup → watcher_ended g p m setup c ≡ go_on g p m c.phase c
    by_setup (Pull setup) is = refl
    by_setup (Push setup) is = absurd is
no_change g p m c met v u still meets is = absurd meets

-- ---- a pull reader

-- a reader's row that does nothing, as a row of the consumer
reads_quietly : (r : Reader) (c : Consumer) (passed : pull.Passed) (rows : List PullRow) → passed ≡ pull.silent_row r rows → read_row passed (at_phase (Pulls r) c) ≡ silent_row (at_phase (Pulls r) c) (map row.Read rows)
reads_quietly r c passed rows e = ap (λ (p : pull.Passed). read_row p (at_phase (Pulls r) c)) e

reader_begins : (g : ReplayInput) (now : ℕ) (r : Reader) (c : Consumer) (v u : LinkView) → IsLeftAlone g now (place (at_phase (Pulls r) c) []) v → (s : Stride) (met : Met)
    → IsStride now Watches met s → Meets Watches met v u → Stays g (at_phase (Pulls r) c) [] s v u
reader_begins g now r c v u alone s met is meets =
    let stands = no_change g s.passing s.matter (at_phase (Pulls r) c) met v u alone.connection meets (ap (λ (m : Matter). m.change) is.matter) in
    let begun = begun_idle s.passing r (pull.is_asking r.inquiry) refl alone.unread.0 in
    stays_by g (at_phase (Pulls r) c) [] s v u (Reads begun.0) (map row.Read (idle.rows_at begun.0)) begun.1
    (stands.0 ∙ reads_quietly r c (pull.begin_row s.passing None r) (idle.rows_at begun.0) begun.2) (append-nil (map row.Read (idle.rows_at begun.0))) stands.1

-- a row of a reader that is left alone
reader_step : (g : ReplayInput) (now : ℕ) (r : Reader) (c : Consumer) (v u : LinkView) → IsLeftAlone g now (place (at_phase (Pulls r) c) []) v → (spot : Spot) → IsAt spot (Pulls r) → (s : Stride) (met : Met)
    → IsStride now (poll_wish g (place (at_phase (Pulls r) c) (rows_at spot))) met s → Meets (poll_wish g (place (at_phase (Pulls r) c) (rows_at spot))) met v u → Stays g (at_phase (Pulls r) c) (rows_at spot) s v u
reader_step g now r c v u alone Rest at s met is meets = reader_begins g now r c v u alone s met is meets
reader_step g now r c v u alone (Reads idle.Rest) at s met is meets = reader_begins g now r c v u alone s met is meets
reader_step g now r c v u alone (Reads idle.Expiry) at s met is meets =
    let early = early_parts now r alone.unread.0 alone.early in
    stays_by g (at_phase (Pulls r) c) (rows_at (Reads idle.Expiry)) s v u (Reads idle.Arrival) [] tt
    (reads_quietly r c (pull.row s.passing s.matter.answer (message_on r.source.inbox s.matter.arrival) read.CheckExpiry r) [] (expiry_idle now s.passing r (moment_is now s.passing met is.passing) at early.0)) refl
    (nothing_same met v u meets)
reader_step g now r c v u alone (Reads idle.Info) at s met is meets =
    let early = early_parts now r alone.unread.0 alone.early in
    let idles = inquiry_idle now s.passing s.matter.answer r.inquiry r met v u (moment_is now s.passing met is.passing) (ap (λ (m : Matter). m.answer) is.matter) meets alone.unread.3 early.0 in
    stays_by g (at_phase (Pulls r) c) (rows_at (Reads idle.Info)) s v u (Reads idle.Arrival) [] tt (reads_quietly r c (pull.check_inquiry s.passing s.matter.answer r.inquiry r) [] idles.0) refl idles.1
reader_step g now r c v u alone (Reads idle.Arrival) at s met is meets =
    let idles = arrival_idle s.passing (message_on r.source.inbox s.matter.arrival) r met v u
    (ap (λ (m : Matter). message_on r.source.inbox m.arrival) is.matter ∙ arrives_here r.source.inbox met) meets alone.unread.1 alone.unread.2 in
    stays_by g (at_phase (Pulls r) c) (rows_at (Reads idle.Arrival)) s v u (Reads idle.Silence) (row.Read read.CheckSilence ∷ []) tt
    (reads_quietly r c (pull.check_arrival s.passing (message_on r.source.inbox s.matter.arrival) r) (read.CheckSilence ∷ []) idles.0) refl idles.1
reader_step g now r c v u alone (Reads idle.Silence) at s met is meets =
    let early = early_parts now r alone.unread.0 alone.early in
    stays_by g (at_phase (Pulls r) c) (rows_at (Reads idle.Silence)) s v u Rest [] tt
    (reads_quietly r c (pull.check_silence s.passing r) [] (silence_idle now s.passing r (moment_is now s.passing met is.passing) early.1)) refl (nothing_same met v u meets)
reader_step g now r c v u alone spot at s met is meets = absurd at

-- ---- push

silent_early : (p : RowInput) (heartbeat_timer : Timer) (c : Consumer) → is_due heartbeat_timer p.now ≡ false → silence_row p heartbeat_timer c ≡ silent_row c []
silent_early p heartbeat_timer c early =
    let missed : Passed = record { consumer = c; outputs = out.Item item.MissingHeartbeat ∷ []; next = row.Start ∷ [] } in
    ap (λ (b : Bool). if b then missed else silent_row c []) early

-- a row of push that is left alone
push_step : (g : ReplayInput) (now inbox : ℕ) (heartbeat_timer : Timer) (c : Consumer) (v u : LinkView) → IsLeftAlone g now (place (at_phase (Pushes inbox heartbeat_timer) c) []) v → (spot : Spot)
    → IsAt spot (Pushes inbox heartbeat_timer) → (s : Stride) (met : Met) → IsStride now (poll_wish g (place (at_phase (Pushes inbox heartbeat_timer) c) (rows_at spot))) met s
    → Meets (poll_wish g (place (at_phase (Pushes inbox heartbeat_timer) c) (rows_at spot))) met v u → Stays g (at_phase (Pushes inbox heartbeat_timer) c) (rows_at spot) s v u
push_step g now inbox heartbeat_timer c v u alone Rest at s met is meets =
    let stands = no_change g s.passing s.matter (at_phase (Pushes inbox heartbeat_timer) c) met v u alone.connection meets (ap (λ (m : Matter). m.change) is.matter) in
    stays_by g (at_phase (Pushes inbox heartbeat_timer) c) [] s v u Looks (row.CheckArrival ∷ []) tt stands.0 refl stands.1
push_step g now inbox heartbeat_timer c v u alone Looks at s met is meets =
    let none = none_arrives inbox (message_on inbox s.matter.arrival) met v u (ap (λ (m : Matter). message_on inbox m.arrival) is.matter ∙ arrives_here inbox met) meets alone.unread.0 alone.unread.1 in
    stays_by g (at_phase (Pushes inbox heartbeat_timer) c) (rows_at Looks) s v u Listens (row.CheckSilence ∷ []) tt
    (ap (λ (o : Option Message). silent_row (at_phase (Pushes inbox heartbeat_timer) c) (push_rows inbox o)) none.0) refl none.1
push_step g now inbox heartbeat_timer c v u alone Listens at s met is meets =
    stays_by g (at_phase (Pushes inbox heartbeat_timer) c) (rows_at Listens) s v u Rest [] tt
    (silent_early s.passing heartbeat_timer (at_phase (Pushes inbox heartbeat_timer) c) (ap (is_due heartbeat_timer) (moment_is now s.passing met is.passing) ∙ alone.early)) refl (nothing_same met v u meets)
push_step g now inbox heartbeat_timer c v u alone spot at s met is meets = absurd at

-- ---- an open recreation

begun_at : (r : Recreation) (opened : Option Opened) → (spot : Spot) × IsAt spot (Recreates r) × (recreation_rows opened ≡ rows_at spot)
begun_at r None = (Awaits, tt, refl)
begun_at r (Some opened) = (Awaits_holding, tt, refl)

stage_idle : (g : ReplayInput) (now : ℕ) (p : RowInput) (m : Matter) (at : Stage) (met : Met) (v u : LinkView) → p.now ≡ now → m.answer ≡ pull.answer_of (awaited at) met → Meets (awaited at) met v u
    → IsStageUnanswered at v → stage_due now at ≡ false → (stage_rows g p m at ≡ []) × (u ≡ v)
stage_idle g now p m stage.Between met v u moment is meets waits early = (refl, nothing_same met v u meets)
stage_idle g now p m (stage.Waiting wait) met v u moment is meets waits early =
    (ap (λ (b : Bool). if b then row.Try ∷ [] else []) (ap (is_due wait) moment ∙ early), nothing_same met v u meets)
stage_idle g now p m (stage.Deleting request timeout) met v u moment is meets waits early =
    let none = no_reply request met v u meets waits in (
      ap (λ (a : Option pull.Answer). if is_some (pull.reply_to request a) then row.Create ∷ [] else (if is_due timeout p.now then row.Create ∷ [] else [])) (is ∙ none.0)
          ∙ ap (λ (b : Bool). if b then row.Create ∷ [] else []) (ap (is_due timeout) moment ∙ early),
      none.1,
    )
stage_idle g now p m (stage.Creating request timeout) met v u moment is meets waits early =
    let none = no_reply request met v u meets waits in (
      ap (λ (a : Option pull.Answer). created g p timeout (pull.reply_to request a)) (is ∙ none.0)
          ∙ ap (λ (b : Bool). if b then row.Fail ∷ [] else []) (ap (is_due timeout) moment ∙ early),
      none.1,
    )

held_same : (opened : Option Opened) → held_in None opened ≡ opened
held_same None = refl
held_same (Some opened) = refl

-- nothing was held
hold_idle : (r : Recreation) (c : Consumer) (arrival : Option Arrival) → arrival ≡ None
    → silent_row (at_phase (Recreates (record r { opened = held_in arrival r.opened })) c) [] ≡ silent_row (at_phase (Recreates r) c) []
hold_idle r c arrival none =
    ap (λ (o : Option Opened). silent_row (at_phase (Recreates (record r { opened = o })) c) []) (ap (λ (a : Option Arrival). held_in a r.opened) none ∙ held_same r.opened)

-- a row of a recreation that is left alone
recreation_step : (g : ReplayInput) (now : ℕ) (r : Recreation) (c : Consumer) (v u : LinkView) → IsLeftAlone g now (place (at_phase (Recreates r) c) []) v → (spot : Spot) → IsAt spot (Recreates r) → (s : Stride) (met : Met)
    → IsStride now (poll_wish g (place (at_phase (Recreates r) c) (rows_at spot))) met s → Meets (poll_wish g (place (at_phase (Recreates r) c) (rows_at spot))) met v u
    → Stays g (at_phase (Recreates r) c) (rows_at spot) s v u
recreation_step g now r c v u alone Rest at s met is meets =
    let stands = no_change g s.passing s.matter (at_phase (Recreates r) c) met v u alone.connection meets (ap (λ (m : Matter). m.change) is.matter) in
    let begun = begun_at r r.opened in
    stays_by g (at_phase (Recreates r) c) [] s v u begun.0 (rows_at begun.0) begun.1
    (stands.0 ∙ ap (λ (rows : List Row). silent_row (at_phase (Recreates r) c) rows) begun.2) (append-nil (rows_at begun.0)) stands.1
recreation_step g now r c v u alone Awaits at s met is meets =
    let idles = stage_idle g now s.passing s.matter r.stage met v u (moment_is now s.passing met is.passing) (ap (λ (m : Matter). m.answer) is.matter) meets alone.unread alone.early in
    stays_by g (at_phase (Recreates r) c) (rows_at Awaits) s v u Rest [] tt (ap (λ (rows : List Row). silent_row (at_phase (Recreates r) c) rows) idles.0) refl idles.1
recreation_step g now r c v u alone Awaits_holding at s met is meets =
    let idles = stage_idle g now s.passing s.matter r.stage met v u (moment_is now s.passing met is.passing) (ap (λ (m : Matter). m.answer) is.matter) meets alone.unread alone.early in
    stays_by g (at_phase (Recreates r) c) (rows_at Awaits_holding) s v u Holds [] tt (ap (λ (rows : List Row). silent_row (at_phase (Recreates r) c) rows) idles.0) refl idles.1
recreation_step g now r c v u alone Holds at s met is meets =
    stays_by g (at_phase (Recreates r) c) (rows_at Holds) s v u Rest [] tt (hold_idle r (at_phase (Recreates r) c) s.matter.arrival (ap (λ (m : Matter). m.arrival) is.matter)) refl (nothing_same met v u meets)
recreation_step g now r c v u alone spot at s met is meets = absurd at

-- ---- row after row

-- a row of a consumer that is left alone
idle_step : (g : ReplayInput) (now : ℕ) (phase : Phase) (c : Consumer) (v u : LinkView) → IsLeftAlone g now (place (at_phase phase c) []) v → (spot : Spot) → IsAt spot phase → (s : Stride) (met : Met)
    → IsStride now (poll_wish g (place (at_phase phase c) (rows_at spot))) met s → Meets (poll_wish g (place (at_phase phase c) (rows_at spot))) met v u → Stays g (at_phase phase c) (rows_at spot) s v u
idle_step g now (Pulls r) c v u alone spot at s met is meets = reader_step g now r c v u alone spot at s met is meets
idle_step g now (Pushes inbox heartbeat_timer) c v u alone spot at s met is meets = push_step g now inbox heartbeat_timer c v u alone spot at s met is meets
idle_step g now (Recreates r) c v u alone spot at s met is meets = recreation_step g now r c v u alone spot at s met is meets
idle_step g now Idle c v u alone spot at s met is meets = absurd alone.unread
idle_step g now Ended c v u alone spot at s met is meets = absurd alone.unread
idle_step g now Exhausted c v u alone spot at s met is meets = absurd alone.unread

record IdleWalk (g : ReplayInput) (c : Consumer) (strides : List Stride) (at : Position) (v u : LinkView) : Type 0 where
  spot : Spot
  stands : IsAt spot c.phase
  leads : (walk g strides at).position ≡ place c (rows_at spot)
  silent : handed (walk g strides at).outputs ≡ []
  same : u ≡ v

idle_walk : (g : ReplayInput) (now : ℕ) (phase : Phase) (c : Consumer) (strides : List Stride) (v u : LinkView) → IsLeftAlone g now (place (at_phase phase c) []) v → (spot : Spot) → IsAt spot phase
    → IsMet g now Meets strides (place (at_phase phase c) (rows_at spot)) v u → IdleWalk g (at_phase phase c) strides (place (at_phase phase c) (rows_at spot)) v u
idle_walk g now phase c [] v u alone spot at met = record { spot = spot; stands = at; leads = refl; silent = refl; same = met }
idle_walk g now phase c (s ∷ strides) v u alone spot at (met, between, is, is_open, meets, rest) =
    let here : Position = place (at_phase phase c) (rows_at spot) in
    let one = idle_step g now phase c v between alone spot at s met is meets in
    let left : IsMet g now Meets strides (place (at_phase phase c) (rows_at one.next)) between u = subst (λ (p : Position). IsMet g now Meets strides p between u) one.leads rest in
    let more = idle_walk g now phase c strides between u (subst (λ (w : LinkView). IsLeftAlone g now (place (at_phase phase c) []) w) (sym one.same) alone) one.next one.at left in
    record {
      spot = more.spot;
      stands = more.stands;
      leads = ap (λ (p : Position). (walk g strides p).position) one.leads ∙ more.leads;
      silent = handed_both (step g s here).outputs (walk g strides (step g s here).position).outputs one.silent (ap (λ (p : Position). handed (walk g strides p).outputs) one.leads ∙ more.silent);
      same = more.same ∙ one.same;
    }

-- ---- a poll

open_shut : true ≡ false → ⊥
open_shut e = cc

never_awaited : (at : Stage) (v u : LinkView) → IsClosing Meets (awaited at) true v u → ⊥
never_awaited stage.Between v u closes = closes
never_awaited (stage.Deleting request timeout) v u closes = closes
never_awaited (stage.Creating request timeout) v u closes = closes
never_awaited (stage.Waiting wait) v u closes = closes

never_closed : (g : ReplayInput) (now : ℕ) (phase : Phase) (c : Consumer) (spot : Spot) (v u : LinkView) → IsLeftAlone g now (place (at_phase phase c) []) v → IsAt spot phase
    → IsClosing Meets (poll_wish g (place (at_phase phase c) (rows_at spot))) true v u → ⊥
never_closed g now (Pulls r) c Rest v u alone at closes = closes
never_closed g now (Pulls r) c (Reads idle.Rest) v u alone at closes = closes
never_closed g now (Pulls r) c (Reads idle.Expiry) v u alone at closes = closes
never_closed g now (Pulls r) c (Reads idle.Info) v u alone at closes = by_inquiry r.inquiry closes
  where
    by_inquiry : (inquiry : InfoRequest) → IsClosing Meets (pull.awaited inquiry) true v u → ⊥
    by_inquiry info.NoInfoRequest m = m
    by_inquiry (info.Asked request timeout failures) m = m
    by_inquiry (info.Resting wait failures) m = m
never_closed g now (Pulls r) c (Reads idle.Arrival) v u alone at closes = open_shut (sym alone.unread.1 ∙ closes.1)
never_closed g now (Pulls r) c (Reads idle.Silence) v u alone at closes = closes
never_closed g now (Pulls r) c spot v u alone at closes = absurd at
never_closed g now (Pushes inbox heartbeat_timer) c Rest v u alone at closes = closes
never_closed g now (Pushes inbox heartbeat_timer) c Looks v u alone at closes = open_shut (sym alone.unread.0 ∙ closes.1)
never_closed g now (Pushes inbox heartbeat_timer) c Listens v u alone at closes = closes
never_closed g now (Pushes inbox heartbeat_timer) c spot v u alone at closes = absurd at
never_closed g now (Recreates r) c Rest v u alone at closes = closes
never_closed g now (Recreates r) c Awaits v u alone at closes = never_awaited r.stage v u closes
never_closed g now (Recreates r) c Awaits_holding v u alone at closes = never_awaited r.stage v u closes
never_closed g now (Recreates r) c Holds v u alone at closes = closes
never_closed g now (Recreates r) c spot v u alone at closes = absurd at
never_closed g now Idle c spot v u alone at closes = absurd alone.unread
never_closed g now Ended c spot v u alone at closes = absurd alone.unread
never_closed g now Exhausted c spot v u alone at closes = absurd alone.unread

-- a poll that found nothing closed ends where its rows lead
record Left (closed : Bool) (at new : Position) (between after : LinkView) : Type 0 where
  is_open : closed ≡ false
  leads : new ≡ at
  same : after ≡ between

left_at : (g : ReplayInput) (now : ℕ) (phase : Phase) (c : Consumer) (spot : Spot) (closed : Bool) (at new : Position) (v u : LinkView) → IsLeftAlone g now (place (at_phase phase c) []) v → IsAt spot phase
    → at ≡ place (at_phase phase c) (rows_at spot) → new ≡ closed_at closed at → IsClosing Meets (poll_wish g at) closed v u → Left closed at new v u
left_at g now phase c spot false at new v u alone stands is leads closes = record { is_open = refl; leads = leads; same = closes }
left_at g now phase c spot true at new v u alone stands is leads closes =
    absurd (never_closed g now phase c spot v u alone stands (subst (λ (p : Position). IsClosing Meets (poll_wish g p) true v u) is closes))

one_yielded : (place : Option Place) (message : Message) → [] ≡ yielded place message ∷ [] → ⊥
one_yielded place message e = cc

-- nothing was handed out, and it had not ended
answers_by : (answer : Answer) → [] ≡ handed_by answer → (answer ≡ Ends → ⊥) → (answer ≡ HandsEnd → ⊥) → (answer ≡ Waits) ⊎ (answer ≡ Lacks)
answers_by (Yields message) hands ended spent = absurd (one_yielded (readable_as message.reply) message hands)
answers_by (Tells kind) hands ended spent = absurd (let h = hands in cc)
answers_by HandsEnd hands ended spent = absurd (spent refl)
answers_by Waits hands ended spent = inl refl
answers_by Ends hands ended spent = absurd (ended refl)
answers_by Lacks hands ended spent = inr refl

-- it goes on
goes_on : (phase : Phase) (v : LinkView) → IsUnread phase v → (is_over phase ≡ false) × (phase ≡ Exhausted → ⊥)
goes_on (Pulls r) v unread = (refl, λ e. never r e)
  where
    never : (r : Reader) → Pulls r ≡ Exhausted → ⊥
    never r e = cc
goes_on (Pushes inbox heartbeat_timer) v unread = (refl, λ e. never inbox heartbeat_timer e)
  where
    never : (inbox : ℕ) (heartbeat_timer : Timer) → Pushes inbox heartbeat_timer ≡ Exhausted → ⊥
    never inbox heartbeat_timer e = cc
goes_on (Recreates r) v unread = (refl, λ e. never r e)
  where
    never : (r : Recreation) → Recreates r ≡ Exhausted → ⊥
    never r e = cc
goes_on Idle v unread = absurd unread
goes_on Ended v unread = absurd unread
goes_on Exhausted v unread = absurd unread

not_ended : (closed over : Bool) → closed ≡ false → over ≡ false → (closed ≡ true) ⊎ (over ≡ true) → ⊥
not_ended closed over is_open going (inl e) = open_shut (sym e ∙ is_open)
not_ended closed over is_open going (inr e) = open_shut (sym e ∙ going)

sleeps_at : (g : ReplayInput) (now : ℕ) (phase : Phase) (c : Consumer) (new : Position) (v u : LinkView) (answer : Answer) → IsPoll g Meets now (place (at_phase phase c) []) new v u answer
    → IsLeftAlone g now (place (at_phase phase c) []) v → Sleeps (place (at_phase phase c) []) new v u answer
sleeps_at g now phase c new v u answer poll alone =
    let old : Position = place (at_phase phase c) [] in
    let idles = idle_walk g now phase c poll.strides v poll.between alone Rest tt poll.met in
    let alone_then : IsLeftAlone g now old poll.between = subst (λ (w : LinkView). IsLeftAlone g now old w) (sym idles.same) alone in
    let left = left_at g now phase c idles.spot poll.closed (walk g poll.strides old).position new poll.between u alone_then idles.stands idles.leads poll.leads poll.closing in
    let new_at : new ≡ place (at_phase phase c) (rows_at idles.spot) = left.leads ∙ idles.leads in
    let on = goes_on phase v alone.unread in
    record {
      answers = answers_by answer (sym idles.silent ∙ poll.out) (λ e. not_ended poll.closed (is_over phase) left.is_open on.0 (poll.ended.0 e))
          (λ e. on.1 (sym (ap (λ (p : Position). p.consumer.phase) new_at) ∙ (poll.exhausted e).1));
      same = left.same ∙ idles.same;
      stays = λ e.
          let quiet = poll.waits e in
          let rested : rows_at idles.spot ≡ [] =
          sym (ap (λ (p : Position). p.todo) idles.leads) ∙ ap (λ (xs : List Stride). (walk g xs old).position.todo) quiet.2
          ∙ ap (λ (p : Position). p.todo) (walk_append g quiet.0 quiet.1 old) ∙ quiet.3.2 in
          new_at ∙ ap (λ (xs : List Row). place (at_phase phase c) xs) rested;
    }

pub poll_sleeps : (g : ReplayInput) (now : ℕ) (old new : Position) (v u : LinkView) (answer : Answer) → IsPoll g Meets now old new v u answer → IsLeftAlone g now old v → Sleeps old new v u answer
poll_sleeps g now old new v u answer poll alone =
    let is : old ≡ place old.consumer [] = ap (λ (xs : List Row). place old.consumer xs) alone.rests in
    subst (λ (p : Position). Sleeps p new v u answer) (sym is)
    (sleeps_at g now old.consumer.phase old.consumer new v u answer (subst (λ (p : Position). IsPoll g Meets now p new v u answer) is poll) (subst (λ (p : Position). IsLeftAlone g now p v) is alone))
