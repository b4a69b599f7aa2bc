-- Each row keeps what is known of its consumer, and what it yields joins.
use Rattle.std.proofs.Common.{◌≡◌, ℕ, ◌+◌, ◌-◌, ◌^◌, ◌<◌, min, Bool, true, false, List, [], ◌∷◌, ◌++◌, map, Option, Some, None, refl, sym, ◌∙◌, ap, subst, arith}
use Rattle.std.specs.Prelude.{⊤, IfSome, nat_lt, not, ◌&&◌, ◌||◌, is_some, ◌==◌}
use Rattle.std.specs.List.{AllByRecursion}
use Rattle.std.proofs.lemmas.Bool.{eqb-true}
use Rattle.js_base.specs.declared.message.Message.{Message}
use Rattle.js_base.specs.declared.clock.Timer.{Timer}
use Rattle.js_base.specs.Clock.{is_due, is_any_due}
use Rattle.js_base.specs.declared.message.State.{State}
use Rattle.js_base.specs.declared.message.State.TheVariants.{Pending, Connected, Disconnected}
use Rattle.js_json.specs.declared.consumer.info.Info.{Info}
use Rattle.js_message.specs.AckSubject.{Place, readable_as}
use Rattle.js_link.specs.RowInput.{RowInput}
use Rattle.js_link.specs.declared.sent.Sent.{Sent}
use Rattle.js_link.specs.declared.sent.Sent.TheVariants as goes
use Rattle.js_pull.specs.Kind.{pull_kind}
use Rattle.js_pull.specs.declared.kind.Kind.{Kind}
use Rattle.js_pull.specs.declared.kind.Kind.TheVariants as kind
use Rattle.js_pull.specs.Reader as pull
use Rattle.js_pull.specs.declared.reader.Row.TheVariants as read
use Rattle.js_pull.specs.declared.reader.InfoRequest.TheVariants as inquiries
use Rattle.js_pull.specs.declared.reader.ReaderOutput.TheVariants as tells
use Rattle.js_pull.specs.declared.reader.Reader.{Reader as PullReader}
use Rattle.js_pull.specs.declared.reader.Row.{Row as PullRow}
use Rattle.js_pull.specs.declared.reader.ReaderOutput.{ReaderOutput as PullTold}
use Rattle.js_pull.specs.declared.reader.InfoRequest.{InfoRequest}
use Rattle.js_pull.specs.declared.reader.PullSource.{PullSource}
use Rattle.js_pull.specs.declared.reader.MessagesErrorKind.TheVariants as error
use Rattle.js_ordered_table.specs.declared.consumer.Consumer.{Consumer}
use Rattle.js_ordered_table.specs.declared.ordered_core.OrderedCore.{OrderedCore}
use Rattle.js_ordered_table.specs.Consumer.{Matter, Change, Unchanged, Becomes, WatcherEnds, Passed, at_phase, output_of}
use Rattle.js_ordered_table.specs.declared.row.Arrival.{Arrival}
use Rattle.js_ordered_table.specs.declared.row.Row.{Row}
use Rattle.js_ordered_table.specs.declared.row.Row.TheVariants.{Event, Start, Try, Create, Ask, Await, Answered, Hold, Succeed, Fail, CheckArrival, Hear, CheckSilence, Arm, Read}
use Rattle.js_ordered_table.specs.declared.consumer.Recreation.{Recreation}
use Rattle.js_ordered_table.specs.declared.consumer.Opened.{Opened}
use Rattle.js_ordered_table.specs.declared.consumer.ReplayInput.{ReplayInput}
use Rattle.js_ordered_table.specs.declared.consumer.Stage.{Stage}
use Rattle.js_ordered_table.specs.declared.consumer.Phase.{Phase}
use Rattle.js_ordered_table.specs.declared.consumer.Stage.TheVariants.{Between, Deleting, Creating, Waiting}
use Rattle.js_ordered_table.specs.declared.consumer.Phase.TheVariants.{Pulls, Pushes, Recreates, Idle, Ended, Exhausted}
use Rattle.js_ordered_table.specs.OrderedCore.{after_yield, start_after}
use Rattle.js_ordered_table.specs.Texts.{configured_start}
use Rattle.js_ordered_table.specs.Recreation.{start_row, try_row, create_row, ask_row, succeed_row, succeed_pull, succeed_push, fail_row, message_on, hold, held_in, hold_row, stage_rows, recreation_rows, created, answered, has_subject, missing_after}
use Rattle.js_pull.specs.declared.replies.InfoReply.{InfoReply}
use Rattle.js_pull.specs.declared.replies.InfoReply.TheVariants as says
use Rattle.js_ordered_table.specs.Arrivals.{message_row, told, with_sent, push_kind, beat_answer, beat_rows, beat_subject, hear_kind, hear_row, silence_row, armed}
use Rattle.js_ordered_table.specs.declared.kind.PushKind.{PushKind}
use Rattle.js_ordered_table.specs.declared.kind.PushKind.TheVariants.{Delivered, OtherStatus, Bad, Beat}
use Rattle.js_ordered_table.specs.Table.{push_rows, go_on, is_connected, changed, watcher_ended, event_change, event_row, reader_row, row_at, pass}
use Rattle.js_pull.specs.Poll.{same_state}
use Rattle.js_ordered_table.specs.declared.setup.OrderedSetup.{OrderedSetup}
use Rattle.js_ordered_table.specs.declared.setup.OrderedSetup.TheVariants.{Pull, Push}
use Rattle.js_ordered_table.specs.declared.run.Output.{Output}
use Rattle.js_ordered_table.specs.declared.run.Start as starts
use Rattle.js_ordered_table.specs.Gapless.{entry_of, start_sequence, IsWhole, Server, IsDelivery, IsMessage, IsHonestArrival, FollowsStarts}
use Rattle.js_ordered_table.specs.Invariant.{Extends, IsKeptOn, IsKeptOpened, IsKeptIn, IsKeptAt, IsKept, IsHonestRow, IsHonestMatter, OpensAsAsked, IsPull, IsPush}
use Rattle.js_ordered_table.proofs.Rewritten.{if_both, if_each, if_with, all_append, all_in_place}
use Rattle.js_ordered_table.proofs.NextEntry.{joins_next, kept_next}

-- what a passed row keeps: the fact, honest rows, and yields that join the last one before
pub record Keeps (setup : OrderedSetup) (s : Server) (last : ℕ) (passed : Passed) : Type 0 where
  pub kept : IsKept setup s passed.consumer
  pub rows : AllByRecursion (IsHonestRow setup s) passed.next
  pub extends : Extends setup s last passed.outputs passed.consumer.core.stream_sequence

-- the same after a core: what is known at the phase, and the start that the core has
record KeepsRow (setup : OrderedSetup) (s : Server) (core : OrderedCore) (passed : Passed) : Type 0 where
  kept : IsKeptAt setup s passed.consumer passed.consumer.phase
  start : passed.consumer.core.start ≡ core.start
  rows : AllByRecursion (IsHonestRow setup s) passed.next
  extends : Extends setup s core.stream_sequence passed.outputs passed.consumer.core.stream_sequence

-- ---- recreations

start_keeps : (g : ReplayInput) (s : Server) (c : Consumer) → c.core.start ≡ configured_start g.setup → KeepsRow g.setup s c.core (start_row g c)
start_keeps g s c configured = if_each (KeepsRow g.setup s c.core) (c.core.stream_sequence == pull.u64_max) _ _
    (λ _. record { kept = tt; rows = tt; start = refl; extends = refl })
    (λ _. record { kept = record { start = ap (λ (start : Option ℕ). start_after start c.core.stream_sequence) configured; fresh = refl; later = risen c.core.recreation_count; opened = tt }; rows = (tt, tt); start = refl; extends = refl })
  where
    risen : (n : ℕ) → 0 < min (n + 1) (2 ^ 64 - 1)
    risen n = omega arith

try_keeps : (g : ReplayInput) (s : Server) (p : RowInput) (r : Recreation) (c : Consumer) → IsKeptIn g.setup s c.core.consumer_sequence c.core.stream_sequence c.core.recreation_count r
    → KeepsRow g.setup s c.core (try_row g p r (at_phase (Recreates r) c))
try_keeps g s p r c k = if_each (KeepsRow g.setup s c.core) p.up _ _
    (λ _. record { kept = record { start = k.start; fresh = k.fresh; later = k.later; opened = k.opened }; rows = tt; start = refl; extends = refl })
    (λ _. record { kept = k; rows = (tt, tt); start = refl; extends = refl })

create_keeps : (g : ReplayInput) (setup : OrderedSetup) (s : Server) (p : RowInput) (r : Recreation) (c : Consumer) → IsKeptIn g.setup s c.core.consumer_sequence c.core.stream_sequence c.core.recreation_count r
    → FollowsStarts s.starts (start_sequence r.start) (create_row setup p r (at_phase (Recreates r) c)).outputs
    → KeepsRow g.setup s c.core (create_row setup p r (at_phase (Recreates r) c))
create_keeps g (Pull setup) s p r c k opens = record { kept = k; rows = (tt, tt); start = refl; extends = refl }
create_keeps g (Push setup) s p r c k opens =
    if_both (λ (passed : Passed). FollowsStarts s.starts (start_sequence r.start) passed.outputs → KeepsRow g.setup s c.core passed) p.up _ _
    (λ starts. record {
      kept = record { start = k.start; fresh = k.fresh; later = k.later; opened = record { starts = starts.0; held = tt } };
      rows = (tt, tt);
      start = refl;
      extends = refl;
    })
    (λ starts. record { kept = k; rows = (tt, tt); start = refl; extends = refl })
    opens

ask_keeps : (g : ReplayInput) (s : Server) (p : RowInput) (r : Recreation) (c : Consumer) → IsKeptIn g.setup s c.core.consumer_sequence c.core.stream_sequence c.core.recreation_count r
    → KeepsRow g.setup s c.core (ask_row g p r (at_phase (Recreates r) c))
ask_keeps g s p r c k = if_each (KeepsRow g.setup s c.core) p.up _ _
    (λ _. record { kept = record { start = k.start; fresh = k.fresh; later = k.later; opened = k.opened }; rows = tt; start = refl; extends = refl })
    (λ _. record { kept = k; rows = (tt, tt); start = refl; extends = refl })

fail_keeps : (g : ReplayInput) (s : Server) (p : RowInput) (r : Recreation) (c : Consumer) → IsKeptIn g.setup s c.core.consumer_sequence c.core.stream_sequence c.core.recreation_count r
    → KeepsRow g.setup s c.core (fail_row g p r (at_phase (Recreates r) c))
fail_keeps g s p r c k = if_each (KeepsRow g.setup s c.core) (nat_lt g.settings.retries (r.failures + 1)) _ _
    (λ _. record { kept = tt; rows = tt; start = refl; extends = refl })
    (λ _. record { kept = record { start = k.start; fresh = k.fresh; later = k.later; opened = tt }; rows = tt; start = refl; extends = refl })

-- a new inbox that starts past the last yield
fresh_inbox : (setup : OrderedSetup) (s : Server) (c : Consumer) (r : Recreation) (inbox : ℕ) → IsKeptIn setup s c.core.consumer_sequence c.core.stream_sequence c.core.recreation_count r
    → s.starts inbox ≡ start_sequence r.start → IsKeptOn setup s c.core.consumer_sequence c.core.stream_sequence c.core.recreation_count inbox
fresh_inbox setup s c r inbox k starts =
    let fresh : c.core.consumer_sequence ≡ 0 = k.fresh in
    let later : 0 < c.core.recreation_count = k.later in
    record {
      reached = λ some. absurd (omega (arith, fresh, some));
      first = λ _ zero_serial. absurd (omega (arith, later, zero_serial));
      later = λ _ _. starts ∙ ap start_sequence k.start;
    }

succeed_pull_keeps : (g : ReplayInput) (s : Server) (p : RowInput) (info : Info) (r : Recreation) (c : Consumer) → IsPull g.setup → IsKeptIn g.setup s c.core.consumer_sequence c.core.stream_sequence c.core.recreation_count r
    → FollowsStarts s.starts (start_sequence r.start) (succeed_pull g p info (at_phase (Recreates r) c)).outputs
    → KeepsRow g.setup s c.core (succeed_pull g p info (at_phase (Recreates r) c))
succeed_pull_keeps g s p info r c mode k =
    if_both (λ (passed : Passed). FollowsStarts s.starts (start_sequence r.start) passed.outputs → KeepsRow g.setup s c.core passed) p.up _ _
    (λ starts. record { kept = (mode, fresh_inbox g.setup s c r p.inbox k starts.0); rows = (tt, (tt, tt)); start = refl; extends = refl })
    (λ starts. record { kept = k; rows = (tt, tt); start = refl; extends = refl })

held_rows : (setup : OrderedSetup) (s : Server) (inbox : ℕ) (held : List Message)
    → AllByRecursion (λ (message : Message). IsHonestArrival setup s (record { inbox = inbox; message = message })) held
    → AllByRecursion (IsHonestRow setup s) (map (λ (message : Message). Hear (record { inbox = inbox; message = message })) held ++ Arm ∷ [])
held_rows setup s inbox [] honest = (tt, tt)
held_rows setup s inbox (message ∷ held) honest = (honest.0, held_rows setup s inbox held honest.1)

succeed_push_keeps : (g : ReplayInput) (s : Server) (p : RowInput) (opened : Option Opened) (r : Recreation) (c : Consumer) → IsPush g.setup → IsKeptIn g.setup s c.core.consumer_sequence c.core.stream_sequence c.core.recreation_count r
    → IfSome opened (IsKeptOpened g.setup s r.start)
    → KeepsRow g.setup s c.core (succeed_push p opened (at_phase (Recreates r) c))
succeed_push_keeps g s p None r c mode k ko = record { kept = k; rows = tt; start = refl; extends = refl }
succeed_push_keeps g s p (Some opened) r c mode k ko = record {
  kept = (mode, fresh_inbox g.setup s c r opened.inbox k ko.starts);
  rows = held_rows g.setup s opened.inbox opened.held ko.held;
  start = refl;
  extends = refl;
}

succeed_keeps : (g : ReplayInput) (setup : OrderedSetup) → g.setup ≡ setup → (s : Server) (p : RowInput) (info : Info) (r : Recreation) (c : Consumer) → IsKeptIn g.setup s c.core.consumer_sequence c.core.stream_sequence c.core.recreation_count r
    → FollowsStarts s.starts (start_sequence r.start) (succeed_row setup g p info r (at_phase (Recreates r) c)).outputs
    → KeepsRow g.setup s c.core (succeed_row setup g p info r (at_phase (Recreates r) c))
succeed_keeps g (Pull setup) same s p info r c k opens = succeed_pull_keeps g s p info r c (subst IsPull (sym same) tt) k opens
succeed_keeps g (Push setup) same s p info r c k opens = succeed_push_keeps g s p r.opened r c (subst IsPush (sym same) tt) k k.opened

-- ---- what is held

on_inbox : (setup : OrderedSetup) (s : Server) (inbox : ℕ) (arrival : Option Arrival) → IfSome arrival (IsHonestArrival setup s)
    → IfSome (message_on inbox arrival) (λ message. IsHonestArrival setup s (record { inbox = inbox; message = message }))
on_inbox setup s inbox None honest = tt
on_inbox setup s inbox (Some arrival) honest =
    if_with (λ (o : Option Message). IfSome o (λ message. IsHonestArrival setup s (record { inbox = inbox; message = message }))) (inbox == arrival.inbox) _ _
    (λ same. subst (λ (i : ℕ). IsHonestArrival setup s (record { inbox = i; message = arrival.message })) (sym (eqb-true inbox arrival.inbox same)) honest)
    tt

hold_keeps : (setup : OrderedSetup) (s : Server) (start : starts.Start) (message : Option Message) (opened : Opened) → IsKeptOpened setup s start opened
    → IfSome message (λ m. IsHonestArrival setup s (record { inbox = opened.inbox; message = m }))
    → IsKeptOpened setup s start (hold message opened)
hold_keeps setup s start None opened k honest = k
hold_keeps setup s start (Some message) opened k honest = record {
  starts = k.starts;
  held = all_append (λ (m : Message). IsHonestArrival setup s (record { inbox = opened.inbox; message = m })) opened.held (message ∷ []) k.held (honest, tt);
}

held_keeps : (setup : OrderedSetup) (s : Server) (start : starts.Start) (arrival : Option Arrival) (opened : Option Opened) → IfSome opened (IsKeptOpened setup s start)
    → IfSome arrival (IsHonestArrival setup s) → IfSome (held_in arrival opened) (IsKeptOpened setup s start)
held_keeps setup s start arrival None k honest = tt
held_keeps setup s start arrival (Some opened) k honest =
    hold_keeps setup s start (message_on opened.inbox arrival) opened k (on_inbox setup s opened.inbox arrival honest)

-- ---- the rows of a stage hold no arrival

answered_row : (setup : OrderedSetup) (s : Server) (mode : OrderedSetup) (info : Option Info) → IsHonestRow setup s (answered mode info)
answered_row setup s mode None = tt
answered_row setup s mode (Some info) = if_each (IsHonestRow setup s) (has_subject mode info) (Succeed info) Fail (λ _. tt) (λ _. tt)

created_rows : (g : ReplayInput) (s : Server) (p : RowInput) (timeout : Timer) (reply : Option (Option Message)) → AllByRecursion (IsHonestRow g.setup s) (created g p timeout reply)
created_rows g s p timeout (Some reply) = (tt, tt)
created_rows g s p timeout None = if_each (AllByRecursion (IsHonestRow g.setup s)) (is_due timeout p.now) _ _ (λ _. (tt, tt)) (λ _. tt)

rows_of_stage : (g : ReplayInput) (s : Server) (p : RowInput) (m : Matter) (stage : Stage) → AllByRecursion (IsHonestRow g.setup s) (stage_rows g p m stage)
rows_of_stage g s p m Between = tt
rows_of_stage g s p m (Deleting request timeout) =
    if_each (AllByRecursion (IsHonestRow g.setup s)) (is_some (pull.reply_to request m.answer)) _ _ (λ _. (tt, tt)) (λ _. if_each (AllByRecursion (IsHonestRow g.setup s)) (is_due timeout p.now) _ _ (λ _. (tt, tt)) (λ _. tt))
rows_of_stage g s p m (Creating request timeout) = created_rows g s p timeout (pull.reply_to request m.answer)
rows_of_stage g s p m (Waiting wait) = if_each (AllByRecursion (IsHonestRow g.setup s)) (is_due wait p.now) _ _ (λ _. (tt, tt)) (λ _. tt)

hold_row_keeps : (g : ReplayInput) (s : Server) (m : Matter) (r : Recreation) (c : Consumer) → IsKeptIn g.setup s c.core.consumer_sequence c.core.stream_sequence c.core.recreation_count r
    → IsHonestMatter g.setup s m → KeepsRow g.setup s c.core (hold_row m r (at_phase (Recreates r) c))
hold_row_keeps g s m r c k honest = record {
  kept = record { start = k.start; fresh = k.fresh; later = k.later; opened = held_keeps g.setup s r.start m.arrival r.opened k.opened honest };
  rows = tt;
  start = refl;
  extends = refl;
}

recreation_honest : (setup : OrderedSetup) (s : Server) (opened : Option Opened) → AllByRecursion (IsHonestRow setup s) (recreation_rows opened)
recreation_honest setup s None = (tt, tt)
recreation_honest setup s (Some opened) = (tt, (tt, tt))

-- ---- a message

abbrev DeliveredAs : OrderedSetup → Server → ℕ → Option Place → Message → Type 0
DeliveredAs setup s inbox o message = (place : Place) → o ≡ Some place → IsDelivery s inbox place.number (entry_of place message)

-- at a phase whose current inbox is this one
message_keeps : (setup : OrderedSetup) (s : Server) (inbox : ℕ) (phase : Phase)
    → ((c : Consumer) → IsKeptOn setup s c.core.consumer_sequence c.core.stream_sequence c.core.recreation_count inbox → IsKeptAt setup s c phase)
    → IsWhole setup s.log s.removed (s.starts inbox) (s.lists inbox)
    → (c : Consumer) → IsKeptOn setup s c.core.consumer_sequence c.core.stream_sequence c.core.recreation_count inbox
    → (o : Option Place) (message : Message) → DeliveredAs setup s inbox o message
    → KeepsRow setup s c.core (message_row o message (at_phase phase c))
message_keeps setup s inbox phase at whole c k None message delivered = record { kept = at (at_phase phase c) k; rows = tt; start = refl; extends = refl }
message_keeps setup s inbox phase at whole c k (Some place) message delivered =
    if_with (KeepsRow setup s c.core) (place.number == c.core.consumer_sequence + 1) _ _
    (λ same. record {
      kept = at (record (at_phase phase c) { core = after_yield place.sequence place.number c.core; limited = false })
          (kept_next setup s c.core.consumer_sequence c.core.stream_sequence c.core.recreation_count inbox place.number (entry_of place message) (delivered place refl) (eqb-true place.number (c.core.consumer_sequence + 1) same));
      start = refl;
      rows = tt;
      extends = (joins_next setup s c.core.consumer_sequence c.core.stream_sequence c.core.recreation_count inbox place.number (entry_of place message) whole k (delivered place refl) (eqb-true place.number (c.core.consumer_sequence + 1) same), refl);
    })
    (record { kept = at (at_phase phase c) k; rows = (tt, tt); start = refl; extends = refl })

-- ---- the pull reader

-- what a reader's row leaves: the same source, and a message only where one arrived
abbrev pub HandsOnly : Option Message → PullTold → Type 0
HandsOnly arrival (tells.Hands message) = (arrival ≡ Some message) × (pull_kind message ≡ kind.Delivered)
HandsOnly arrival _ = ⊤

pub record IsRead (reader : PullReader) (arrival : Option Message) (passed : pull.Passed) : Type 0 where
  pub source : passed.reader.source ≡ reader.source
  pub hands : HandsOnly arrival passed.told

hear_read : (reader : PullReader) (message : Message) (k : Kind) (r : PullReader) → r.source ≡ reader.source → pull_kind message ≡ k
    → IsRead reader (Some message) (pull.hear message k r)
hear_read reader message kind.Delivered r same is = record { source = same; hands = (refl, is) }
hear_read reader message kind.IdleHeartbeat r same is = record { source = same; hands = tt }
hear_read reader message kind.Deleted r same is = record { source = same; hands = tt }
hear_read reader message kind.PushBased r same is = record { source = same; hands = tt }
hear_read reader message kind.Limit r same is = record { source = same; hands = tt }
hear_read reader message kind.Gone r same is = record { source = same; hands = tt }
hear_read reader message kind.Bad r same is = record { source = same; hands = tt }
hear_read reader message (kind.Ledger messages bytes) r same is = record { source = same; hands = tt }

arrival_read : (p : RowInput) (arrival : Option Message) (r : PullReader) → IsRead r arrival (pull.check_arrival p arrival r)
arrival_read p None r = record { source = refl; hands = tt }
arrival_read p (Some message) r = hear_read r message (pull_kind message) (pull.with_pin message (pull.with_silence p.now r)) refl refl

answered_read : (arrival : Option Message) (failures : ℕ) (says : InfoReply) (r : PullReader) → IsRead r arrival (pull.answered failures says r)
answered_read arrival failures (says.Info info) r = record { source = refl; hands = tt }
answered_read arrival failures (says.Error code) r =
    if_each (IsRead r arrival) (r.source.resilience.recreates_when_gone && pull.is_gone code) _ _ (λ _. record { source = refl; hands = tt }) (λ _. record { source = refl; hands = tt })
answered_read arrival failures says.Nothing r = record { source = refl; hands = tt }

asked_read : (p : RowInput) (arrival : Option Message) (timeout : Option Timer) (failures : ℕ) (reply : Option (Option Message)) (r : PullReader) → IsRead r arrival (pull.check_asked p timeout failures reply r)
asked_read p arrival timeout failures None r = record { source = refl; hands = tt }
asked_read p arrival timeout failures (Some reply) r = record { source = refl; hands = tt }

inquiry_read : (p : RowInput) (arrival : Option Message) (answer : Option pull.Answer) (inquiry : InfoRequest) (r : PullReader) → IsRead r arrival (pull.check_inquiry p answer inquiry r)
inquiry_read p arrival answer inquiries.NoInfoRequest r = record { source = refl; hands = tt }
inquiry_read p arrival answer (inquiries.Asked request timeout failures) r = asked_read p arrival timeout failures (pull.reply_to request answer) r
inquiry_read p arrival answer (inquiries.Resting wait failures) r = record { source = refl; hands = tt }

begin_change_read : (p : RowInput) (arrival : Option Message) (change : Option State) (r : PullReader) → IsRead r arrival (pull.begin_change p change r)
begin_change_read p arrival None r = record { source = refl; hands = tt }
begin_change_read p arrival (Some Connected) r = record { source = refl; hands = tt }
begin_change_read p arrival (Some Pending) r = record { source = refl; hands = tt }
begin_change_read p arrival (Some Disconnected) r = record { source = refl; hands = tt }

begin_read : (p : RowInput) (arrival : Option Message) (change : Option State) (r : PullReader) → IsRead r arrival (pull.begin_row p change r)
begin_read p arrival change r = if_each (IsRead r arrival) r.ended _ _ (λ _. record { source = refl; hands = tt })
    (λ _. if_each (IsRead r arrival) (pull.is_asking r.inquiry) _ _ (λ _. record { source = refl; hands = tt }) (λ _. begin_change_read p arrival change r))

threshold_read : (arrival : Option Message) (r : PullReader) → IsRead r arrival (pull.threshold r)
threshold_read arrival r =
    if_each (IsRead r arrival) (pull.is_low r && not r.waiting) _ _ (λ _. record { source = refl; hands = tt }) (λ _. record { source = refl; hands = tt })

pub row_read : (p : RowInput) (answer : Option pull.Answer) (arrival : Option Message) (row : PullRow) (r : PullReader) → IsRead r arrival (pull.row p answer arrival row r)
row_read p answer arrival (read.Ask reason) r = if_each (IsRead r arrival) p.up _ _ (λ _. record { source = refl; hands = tt }) (λ _. record { source = refl; hands = tt })
row_read p answer arrival (read.Begin change) r = begin_read p arrival change r
row_read p answer arrival read.Threshold r = threshold_read arrival r
row_read p answer arrival read.Arm r = record { source = refl; hands = tt }
row_read p answer arrival (read.Inquire failures) r = if_each (IsRead r arrival) p.up _ _ (λ _. record { source = refl; hands = tt }) (λ _. record { source = refl; hands = tt })
row_read p answer arrival (read.FailInfoRequest failures) r =
    if_each (IsRead r arrival) (nat_lt (failures + 1) 6) _ _ (λ _. record { source = refl; hands = tt }) (λ _. record { source = refl; hands = tt })
row_read p answer arrival read.CheckInfoRequest r = inquiry_read p arrival answer r.inquiry r
row_read p answer arrival (read.Answered reply failures) r = answered_read arrival failures (pull.info_reply reply) r
row_read p answer arrival read.CheckExpiry r = record { source = refl; hands = tt }
row_read p answer arrival read.CheckArrival r = arrival_read p arrival r
row_read p answer arrival read.CheckSilence r =
    if_each (IsRead r arrival) (is_any_due r.heartbeat_timer p.now) _ _ (λ _. record { source = refl; hands = tt }) (λ _. record { source = refl; hands = tt })

-- what was sent is no yield, and the reader's rows hold no arrival
sent_extends : (setup : OrderedSetup) (s : Server) (before after : ℕ) (sent : List Sent) (outputs : List Output) → Extends setup s before outputs after
    → Extends setup s before (map output_of sent ++ outputs) after
sent_extends setup s before after [] outputs e = e
sent_extends setup s before after (goes.Request number subject headers payload ∷ sent) outputs e = sent_extends setup s before after sent outputs e
sent_extends setup s before after (goes.Publish subject reply headers payload ∷ sent) outputs e = sent_extends setup s before after sent outputs e
sent_extends setup s before after (goes.Subscribe inbox subject group ∷ sent) outputs e = sent_extends setup s before after sent outputs e

pub reader_rows : (setup : OrderedSetup) (s : Server) (rows : List PullRow) → AllByRecursion (IsHonestRow setup s) (map Read rows)
reader_rows setup s [] = tt
reader_rows setup s (row ∷ rows) = (tt, reader_rows setup s rows)

with_sent_keeps : (setup : OrderedSetup) (s : Server) (core : OrderedCore) (sent : List Sent) (rows : List PullRow) (passed : Passed) → KeepsRow setup s core passed
    → KeepsRow setup s core (with_sent (map output_of sent) (map Read rows) passed)
with_sent_keeps setup s core sent rows passed keeps = record {
  kept = keeps.kept;
  start = keeps.start;
  rows = all_in_place (IsHonestRow setup s) passed.next (map Read rows) keeps.rows (reader_rows setup s rows);
  extends = sent_extends setup s core.stream_sequence passed.consumer.core.stream_sequence sent passed.outputs keeps.extends;
}

told_keeps : (g : ReplayInput) (s : Server) (setup : OrderedSetup) (reader : PullReader) (c : Consumer) (arrival : Option Message) (t : PullTold)
    → IsWhole setup s.log s.removed (s.starts reader.source.inbox) (s.lists reader.source.inbox)
    → IsPull setup → IsKeptOn setup s c.core.consumer_sequence c.core.stream_sequence c.core.recreation_count reader.source.inbox
    → HandsOnly arrival t
    → ((message : Message) → arrival ≡ Some message → pull_kind message ≡ kind.Delivered → DeliveredAs setup s reader.source.inbox (readable_as message.reply) message)
    → KeepsRow setup s c.core (told t (at_phase (Pulls reader) c))
told_keeps g s setup reader c arrival tells.Nothing whole mode k hands delivered = record { kept = (mode, k); rows = tt; start = refl; extends = refl }
told_keeps g s setup reader c arrival (tells.Hands message) whole mode k hands delivered =
    message_keeps setup s reader.source.inbox (Pulls reader) (λ c' kept. (mode, kept)) whole (record c { missed = false }) k
    (readable_as message.reply) message (delivered message hands.0 hands.1)
told_keeps g s setup reader c arrival (tells.Tells error.ConsumerDeleted) whole mode k hands delivered = record { kept = (mode, k); rows = (tt, tt); start = refl; extends = refl }
told_keeps g s setup reader c arrival (tells.Tells error.NoResponders) whole mode k hands delivered = record { kept = (mode, k); rows = (tt, tt); start = refl; extends = refl }
told_keeps g s setup reader c arrival (tells.Tells error.PushBasedConsumer) whole mode k hands delivered = record { kept = tt; rows = tt; start = refl; extends = refl }
told_keeps g s setup reader c arrival (tells.Tells error.RequestLimitExceeded) whole mode k hands delivered =
    if_each (KeepsRow setup s c.core) c.limited _ _ (λ _. record { kept = tt; rows = tt; start = refl; extends = refl }) (λ _. record { kept = (mode, k); rows = (tt, tt); start = refl; extends = refl })
told_keeps g s setup reader c arrival (tells.Tells error.MissingHeartbeat) whole mode k hands delivered =
    if_each (KeepsRow setup s c.core) c.missed _ _ (λ _. record { kept = (mode, k); rows = (tt, tt); start = refl; extends = refl }) (λ _. record { kept = (mode, k); rows = tt; start = refl; extends = refl })
told_keeps g s setup reader c arrival (tells.Tells error.Pull) whole mode k hands delivered = record { kept = (mode, k); rows = tt; start = refl; extends = refl }
told_keeps g s setup reader c arrival (tells.Tells error.Other) whole mode k hands delivered = record { kept = (mode, k); rows = tt; start = refl; extends = refl }

-- ---- push

silence_keeps : (setup : OrderedSetup) (s : Server) (p : RowInput) (heartbeat_timer : Timer) (inbox : ℕ) (c : Consumer) → IsPush setup → IsKeptOn setup s c.core.consumer_sequence c.core.stream_sequence c.core.recreation_count inbox
    → KeepsRow setup s c.core (silence_row p heartbeat_timer (at_phase (Pushes inbox heartbeat_timer) c))
silence_keeps setup s p heartbeat_timer inbox c mode k =
    if_each (KeepsRow setup s c.core) (is_due heartbeat_timer p.now) _ _ (λ _. record { kept = (mode, k); rows = (tt, tt); start = refl; extends = refl }) (λ _. record { kept = (mode, k); rows = tt; start = refl; extends = refl })

beat_extends : (setup : OrderedSetup) (s : Server) (last : ℕ) (up : Bool) (reply : Option (List ℕ)) → Extends setup s last (beat_answer up reply) last
beat_extends setup s last up None = refl
beat_extends setup s last true (Some reply) = refl
beat_extends setup s last false (Some reply) = refl

beat_rows_honest : (setup : OrderedSetup) (s : Server) (beat : Option ℕ) (consumer_sequence : ℕ) → AllByRecursion (IsHonestRow setup s) (beat_rows beat consumer_sequence)
beat_rows_honest setup s None consumer_sequence = tt
beat_rows_honest setup s (Some n) consumer_sequence = if_each (AllByRecursion (IsHonestRow setup s)) (n == consumer_sequence) _ _ (λ _. tt) (λ _. (tt, tt))

hear_kind_keeps : (stalled : Bool) (setup : OrderedSetup) (s : Server) (p : RowInput) (inbox : ℕ) (heartbeat_timer : Timer) (c : Consumer) (message : Message) (k : PushKind)
    → IsWhole setup s.log s.removed (s.starts inbox) (s.lists inbox)
    → IsPush setup → IsKeptOn setup s c.core.consumer_sequence c.core.stream_sequence c.core.recreation_count inbox
    → (k ≡ Delivered → DeliveredAs setup s inbox (readable_as message.reply) message)
    → KeepsRow setup s c.core (hear_kind stalled p message k (at_phase (Pushes inbox heartbeat_timer) c))
hear_kind_keeps stalled setup s p inbox heartbeat_timer c message Delivered whole mode k delivered =
    message_keeps setup s inbox (Pushes inbox heartbeat_timer) (λ c' kept. (mode, kept)) whole c k (readable_as message.reply) message (delivered refl)
hear_kind_keeps stalled setup s p inbox heartbeat_timer c message OtherStatus whole mode k delivered = record { kept = (mode, k); rows = tt; start = refl; extends = refl }
hear_kind_keeps stalled setup s p inbox heartbeat_timer c message Bad whole mode k delivered = record { kept = (mode, k); rows = tt; start = refl; extends = refl }
hear_kind_keeps stalled setup s p inbox heartbeat_timer c message (Beat n) whole mode k delivered =
    record { kept = (mode, k); rows = beat_rows_honest setup s n c.core.consumer_sequence; start = refl; extends = beat_extends setup s c.core.stream_sequence p.up (beat_subject stalled message) }

-- ---- a mode's messages

pull_message : (setup : OrderedSetup) (message : Message) → IsPull setup → pull_kind message ≡ kind.Delivered → IsMessage setup message
pull_message (Pull setup) message mode is = is
pull_message (Push setup) message mode is = absurd mode

push_message : (setup : OrderedSetup) (message : Message) → IsPush setup → push_kind message ≡ Delivered → IsMessage setup message
push_message (Pull setup) message mode is = absurd mode
push_message (Push setup) message mode is = is

-- ---- reading

reader_keeps : (g : ReplayInput) (s : Server) (p : RowInput) (m : Matter) (row : PullRow) (reader : PullReader) (c : Consumer)
    → ((inbox : ℕ) → IsWhole g.setup s.log s.removed (s.starts inbox) (s.lists inbox))
    → IsPull g.setup → IsKeptOn g.setup s c.core.consumer_sequence c.core.stream_sequence c.core.recreation_count reader.source.inbox → IsHonestMatter g.setup s m
    → KeepsRow g.setup s c.core (reader_row p m row reader c)
reader_keeps g s p m row reader c whole mode k honest =
    let arrival : Option Message = message_on reader.source.inbox m.arrival in
    let passed : pull.Passed = pull.row p m.answer arrival row reader in
    let read : IsRead reader arrival passed = row_read p m.answer arrival row reader in
    let same : reader.source.inbox ≡ passed.reader.source.inbox = sym (ap (λ (source : PullSource). source.inbox) read.source) in
    with_sent_keeps g.setup s c.core passed.sent passed.next (told passed.told (at_phase (Pulls passed.reader) c))
    (told_keeps g s g.setup passed.reader c arrival passed.told (whole passed.reader.source.inbox) mode
    (subst (λ (i : ℕ). IsKeptOn g.setup s c.core.consumer_sequence c.core.stream_sequence c.core.recreation_count i) same k) read.hands
    (λ message is kind_is place place_is.
    subst (λ (i : ℕ). IsDelivery s i place.number (entry_of place message)) same
    (delivery arrival (on_inbox g.setup s reader.source.inbox m.arrival honest) message is kind_is place place_is)))
  where
    delivery : (arrival : Option Message) → IfSome arrival (λ message. IsHonestArrival g.setup s (record { inbox = reader.source.inbox; message = message }))
        → (message : Message) → arrival ≡ Some message → pull_kind message ≡ kind.Delivered
        → (place : Place) → readable_as message.reply ≡ Some place → IsDelivery s reader.source.inbox place.number (entry_of place message)
    delivery arrival h message is kind_is place place_is =
        let h' : IsHonestArrival g.setup s (record { inbox = reader.source.inbox; message = message }) =
        subst (λ (o : Option Message). IfSome o (λ message. IsHonestArrival g.setup s (record { inbox = reader.source.inbox; message = message }))) is h in
        h' place (pull_message g.setup message mode kind_is) place_is

hear_keeps : (g : ReplayInput) (s : Server) (p : RowInput) (arrival : Arrival) (inbox : ℕ) (heartbeat_timer : Timer) (c : Consumer)
    → ((inbox : ℕ) → IsWhole g.setup s.log s.removed (s.starts inbox) (s.lists inbox))
    → IsPush g.setup → IsKeptOn g.setup s c.core.consumer_sequence c.core.stream_sequence c.core.recreation_count inbox → IsHonestArrival g.setup s arrival
    → KeepsRow g.setup s c.core (hear_row g.settings.resilience.answers_stalled p arrival inbox (at_phase (Pushes inbox heartbeat_timer) c))
hear_keeps g s p arrival inbox heartbeat_timer c whole mode k honest =
    if_with (KeepsRow g.setup s c.core) (arrival.inbox == inbox) _ _
    (λ same. hear_kind_keeps g.settings.resilience.answers_stalled g.setup s p inbox (armed p.now) c arrival.message (push_kind arrival.message) (whole inbox) mode k
    (λ kind_is place place_is.
    subst (λ (i : ℕ). IsDelivery s i place.number (entry_of place arrival.message)) (eqb-true arrival.inbox inbox same)
    (honest place (push_message g.setup arrival.message mode kind_is) place_is)))
    (record { kept = (mode, k); rows = tt; start = refl; extends = refl })

-- ---- an event's first row

push_rows_honest : (setup : OrderedSetup) (s : Server) (inbox : ℕ) (o : Option Message) → IfSome o (λ message. IsHonestArrival setup s (record { inbox = inbox; message = message }))
    → AllByRecursion (IsHonestRow setup s) (push_rows inbox o)
push_rows_honest setup s inbox None honest = (tt, tt)
push_rows_honest setup s inbox (Some message) honest = (honest, tt)

go_on_keeps : (g : ReplayInput) (s : Server) (whole : (inbox : ℕ) → IsWhole g.setup s.log s.removed (s.starts inbox) (s.lists inbox)) (p : RowInput) (m : Matter) (phase : Phase) (c : Consumer) → IsKeptAt g.setup s c phase → IsHonestMatter g.setup s m
    → KeepsRow g.setup s c.core (go_on g p m phase (at_phase phase c))
go_on_keeps g s whole p m Idle c k honest = record { kept = tt; rows = (tt, tt); start = refl; extends = refl }
go_on_keeps g s whole p m (Recreates r) c k honest = record { kept = k; rows = recreation_honest g.setup s r.opened; start = refl; extends = refl }
go_on_keeps g s whole p m (Pulls reader) c k honest = reader_keeps g s p m (read.Begin None) reader c whole k.0 k.1 honest
go_on_keeps g s whole p m (Pushes inbox heartbeat_timer) c k honest = record { kept = k; rows = (tt, tt); start = refl; extends = refl }
go_on_keeps g s whole p m Ended c k honest = record { kept = tt; rows = tt; start = refl; extends = refl }
go_on_keeps g s whole p m Exhausted c k honest = record { kept = tt; rows = tt; start = refl; extends = refl }

changed_keeps : (g : ReplayInput) (s : Server) (whole : (inbox : ℕ) → IsWhole g.setup s.log s.removed (s.starts inbox) (s.lists inbox)) (p : RowInput) (m : Matter) (old new : State) (phase : Phase) (c : Consumer) → IsKeptAt g.setup s c phase → IsHonestMatter g.setup s m
    → KeepsRow g.setup s c.core (changed g p m old new phase (at_phase phase c))
changed_keeps g s whole p m old new (Pulls reader) c k honest = reader_keeps g s p m (read.Begin (Some new)) reader (record c { connection = new }) whole k.0 k.1 honest
changed_keeps g s whole p m old new (Pushes inbox heartbeat_timer) c k honest =
    if_both (KeepsRow g.setup s c.core) (is_connected old || is_connected new) _ _
    (record { kept = k; rows = (tt, tt); start = refl; extends = refl }) (go_on_keeps g s whole p m (Pushes inbox heartbeat_timer) (record c { connection = new }) k honest)
changed_keeps g s whole p m old new (Recreates r) c k honest =
    go_on_keeps g s whole p m (Recreates r) (record c { connection = new }) k honest
changed_keeps g s whole p m old new Idle c k honest =
    go_on_keeps g s whole p m Idle (record c { connection = new }) k honest
changed_keeps g s whole p m old new Ended c k honest =
    go_on_keeps g s whole p m Ended (record c { connection = new }) k honest
changed_keeps g s whole p m old new Exhausted c k honest =
    go_on_keeps g s whole p m Exhausted (record c { connection = new }) k honest

watcher_keeps : (g : ReplayInput) (s : Server) (whole : (inbox : ℕ) → IsWhole g.setup s.log s.removed (s.starts inbox) (s.lists inbox)) (p : RowInput) (m : Matter) (setup : OrderedSetup) (phase : Phase) (c : Consumer) → IsKeptAt g.setup s c phase → IsHonestMatter g.setup s m
    → KeepsRow g.setup s c.core (watcher_ended g p m setup (at_phase phase c))
watcher_keeps g s whole p m (Pull setup) phase c k honest = go_on_keeps g s whole p m phase c k honest
watcher_keeps g s whole p m (Push setup) phase c k honest = record { kept = tt; rows = tt; start = refl; extends = refl }

change_keeps : (g : ReplayInput) (s : Server) (whole : (inbox : ℕ) → IsWhole g.setup s.log s.removed (s.starts inbox) (s.lists inbox)) (p : RowInput) (m : Matter) (change : Change) (phase : Phase) (c : Consumer) → IsKeptAt g.setup s c phase → IsHonestMatter g.setup s m
    → KeepsRow g.setup s c.core (event_change g p m change (at_phase phase c))
change_keeps g s whole p m Unchanged phase c k honest = go_on_keeps g s whole p m phase c k honest
change_keeps g s whole p m (Becomes state) phase c k honest =
    if_both (KeepsRow g.setup s c.core) (same_state c.connection state) _ _ (go_on_keeps g s whole p m phase c k honest) (changed_keeps g s whole p m c.connection state phase c k honest)
change_keeps g s whole p m WatcherEnds phase c k honest = watcher_keeps g s whole p m g.setup phase c k honest

event_keeps : (g : ReplayInput) (s : Server) (whole : (inbox : ℕ) → IsWhole g.setup s.log s.removed (s.starts inbox) (s.lists inbox)) (p : RowInput) (m : Matter) (phase : Phase) (c : Consumer) → IsKeptAt g.setup s c phase → IsHonestMatter g.setup s m
    → KeepsRow g.setup s c.core (event_row g p m phase (at_phase phase c))
event_keeps g s whole p m Ended c k honest = record { kept = tt; rows = tt; start = refl; extends = refl }
event_keeps g s whole p m Exhausted c k honest = record { kept = tt; rows = tt; start = refl; extends = refl }
event_keeps g s whole p m (Pulls reader) c k honest = change_keeps g s whole p m m.change (Pulls reader) c k honest
event_keeps g s whole p m (Pushes inbox heartbeat_timer) c k honest = change_keeps g s whole p m m.change (Pushes inbox heartbeat_timer) c k honest
event_keeps g s whole p m (Recreates r) c k honest = change_keeps g s whole p m m.change (Recreates r) c k honest
event_keeps g s whole p m Idle c k honest = change_keeps g s whole p m m.change Idle c k honest

-- ---- every row

row_keeps : (g : ReplayInput) (s : Server) → ((inbox : ℕ) → IsWhole g.setup s.log s.removed (s.starts inbox) (s.lists inbox))
    → (p : RowInput) (m : Matter) (row : Row) (phase : Phase) (c : Consumer)
    → c.core.start ≡ configured_start g.setup → IsKeptAt g.setup s c phase → IsHonestMatter g.setup s m → IsHonestRow g.setup s row
    → OpensAsAsked s phase (row_at g p m row phase (at_phase phase c)).outputs
    → KeepsRow g.setup s c.core (row_at g p m row phase (at_phase phase c))
row_keeps g s whole p m Event phase c configured k matter honest opens = event_keeps g s whole p m phase c k matter
row_keeps g s whole p m Start phase c configured k matter honest opens = start_keeps g s (at_phase phase c) configured
row_keeps g s whole p m Try (Recreates r) c configured k matter honest opens = try_keeps g s p r c k
row_keeps g s whole p m Create (Recreates r) c configured k matter honest opens = create_keeps g g.setup s p r c k opens
row_keeps g s whole p m Ask (Recreates r) c configured k matter honest opens = ask_keeps g s p r c k
row_keeps g s whole p m Await (Recreates r) c configured k matter honest opens = record { kept = k; rows = rows_of_stage g s p m r.stage; start = refl; extends = refl }
row_keeps g s whole p m (Answered reply) (Recreates r) c configured k matter honest opens = record {
  kept = k;
  rows = (answered_row g.setup s g.setup (pull.info_in (pull.info_reply reply)), tt);
  start = refl;
  extends = if_each (λ (outputs : List Output). Extends g.setup s c.core.stream_sequence outputs c.core.stream_sequence)
      (missing_after g.settings.resilience.tells_missing_stream (pull.info_reply reply) c.stream_missing && not c.stream_missing) _ _ (λ _. refl) (λ _. refl);
}
row_keeps g s whole p m Hold (Recreates r) c configured k matter honest opens = hold_row_keeps g s m r c k matter
row_keeps g s whole p m (Succeed info) (Recreates r) c configured k matter honest opens = succeed_keeps g g.setup refl s p info r c k opens
row_keeps g s whole p m Fail (Recreates r) c configured k matter honest opens = fail_keeps g s p r c k
row_keeps g s whole p m CheckArrival (Pushes inbox heartbeat_timer) c configured k matter honest opens = record { kept = k; rows = push_rows_honest g.setup s inbox (message_on inbox m.arrival) (on_inbox g.setup s inbox m.arrival matter); start = refl; extends = refl }
row_keeps g s whole p m (Hear arrival) (Pushes inbox heartbeat_timer) c configured k matter honest opens = hear_keeps g s p arrival inbox heartbeat_timer c whole k.0 k.1 honest
row_keeps g s whole p m CheckSilence (Pushes inbox heartbeat_timer) c configured k matter honest opens = silence_keeps g.setup s p heartbeat_timer inbox c k.0 k.1
row_keeps g s whole p m Arm (Pushes inbox heartbeat_timer) c configured k matter honest opens = record { kept = k; rows = tt; start = refl; extends = refl }
row_keeps g s whole p m (Read row) (Pulls reader) c configured k matter honest opens = reader_keeps g s p m row reader c whole k.0 k.1 matter
row_keeps g s whole p m _ phase c configured k matter honest opens = record { kept = k; rows = tt; start = refl; extends = refl }

-- a row that is passed keeps what is known of its consumer
pub pass_keeps : (g : ReplayInput) (s : Server) → ((inbox : ℕ) → IsWhole g.setup s.log s.removed (s.starts inbox) (s.lists inbox))
    → (p : RowInput) (m : Matter) (row : Row) (c : Consumer)
    → IsKept g.setup s c → IsHonestMatter g.setup s m → IsHonestRow g.setup s row
    → OpensAsAsked s c.phase (pass g p m row c).outputs
    → Keeps g.setup s c.core.stream_sequence (pass g p m row c)
pass_keeps g s whole p m row c (k, configured) matter honest opens =
    let one : KeepsRow g.setup s c.core (pass g p m row c) = row_keeps g s whole p m row c.phase c configured k matter honest opens in
    record { kept = (one.kept, one.start ∙ configured); rows = one.rows; extends = one.extends }
