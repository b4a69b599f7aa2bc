-- Where no arrival names the last of all sequences, a consumer always has a sequence to go on from.
use Rattle.std.proofs.Common.{◌≡◌, ℕ, ◌+◌, false, List, [], ◌∷◌, ◌++◌, map, Option, Some, None, subst, Bool}
use Rattle.std.specs.Prelude.{⊤, IfSome, nat_lt, is_some, ◌||◌, ◌==◌}
use Rattle.std.specs.List.{AllByRecursion}
use Rattle.std.proofs.lemmas.Bool.{eqb-true}
use Rattle.js_base.specs.declared.message.Message.{Message}
use Rattle.js_base.specs.declared.clock.Timer.{Timer}
use Rattle.js_base.specs.Clock.{is_due}
use Rattle.js_base.specs.declared.message.State.{State}
use Rattle.js_json.specs.declared.consumer.info.Info.{Info}
use Rattle.js_message.specs.AckSubject.{Place, readable_as}
use Rattle.js_link.specs.RowInput.{RowInput}
use Rattle.js_pull.specs.declared.reader.Reader.{Reader as PullReader}
use Rattle.js_pull.specs.Reader as pull
use Rattle.js_pull.specs.declared.reader.Row.{Row as PullRow}
use Rattle.js_pull.specs.declared.reader.Row.TheVariants as read
use Rattle.js_pull.specs.declared.reader.ReaderOutput.{ReaderOutput as PullTold}
use Rattle.js_pull.specs.declared.reader.ReaderOutput.TheVariants as tells
use Rattle.js_pull.specs.declared.reader.MessagesErrorKind.TheVariants as error
use Rattle.js_ordered_table.specs.declared.consumer.Consumer.{Consumer}
use Rattle.js_ordered_table.specs.Consumer.{Matter, Change, Unchanged, Becomes, WatcherEnds, Passed, at_phase}
use Rattle.js_ordered_table.specs.declared.consumer.Recreation.{Recreation}
use Rattle.js_ordered_table.specs.declared.consumer.Opened.{Opened}
use Rattle.js_ordered_table.specs.declared.row.Arrival.{Arrival}
use Rattle.js_ordered_table.specs.declared.row.Row.{Row}
use Rattle.js_ordered_table.specs.declared.row.Row.TheVariants.{Event, Start, Try, Create, Ask, Await, Answered, Hold, Succeed, Fail, CheckArrival, Hear, CheckSilence, Arm, Read}
use Rattle.js_ordered_table.specs.declared.consumer.ReplayInput.{ReplayInput}
use Rattle.js_ordered_table.specs.declared.consumer.Stage.{Stage}
use Rattle.js_ordered_table.specs.declared.consumer.Stage.TheVariants.{Between, Deleting, Creating, Waiting}
use Rattle.js_ordered_table.specs.declared.consumer.Phase.{Phase}
use Rattle.js_ordered_table.specs.declared.consumer.Phase.TheVariants.{Pulls, Pushes, Recreates, Idle, Ended, Exhausted}
use Rattle.js_ordered_table.specs.Recreation.{start_row, try_row, create_row, ask_row, succeed_row, succeed_push, fail_row, message_on, hold, held_in, stage_rows, recreation_rows, created, answered, has_subject}
use Rattle.js_ordered_table.specs.Arrivals.{message_row, told, push_kind, beat_rows, hear_kind, hear_row, armed}
use Rattle.js_ordered_table.specs.declared.kind.PushKind.{PushKind}
use Rattle.js_ordered_table.specs.declared.kind.PushKind.TheVariants.{Delivered, OtherStatus, Bad, Beat}
use Rattle.js_ordered_table.specs.Table.{push_rows, go_on, is_connected, changed, watcher_ended, event_change, event_row, reader_row, row_at, pass}
use Rattle.js_pull.specs.Poll.{same_state}
use Rattle.js_ordered_table.specs.Replay.{IsBelowEnd}
use Rattle.js_ordered_table.specs.declared.setup.OrderedSetup.{OrderedSetup}
use Rattle.js_ordered_table.specs.declared.setup.OrderedSetup.TheVariants.{Pull, Push}
use Rattle.js_ordered_table.proofs.RowInvariant.{HandsOnly, IsRead, row_read}
use Rattle.js_ordered_table.proofs.Rewritten.{if_both, if_each, if_with, all_append, all_in_place}

abbrev HoldsBelow : Opened → Type 0
HoldsBelow opened = AllByRecursion IsBelowEnd opened.held

-- a phase that can go on
abbrev pub IsOpenPhase : Phase → Type 0
IsOpenPhase Exhausted = ⊥
IsOpenPhase (Recreates r) = IfSome r.opened HoldsBelow
IsOpenPhase _ = ⊤

pub record IsOpen (c : Consumer) : Type 0 where
  pub last : c.core.stream_sequence ≡ pull.u64_max → ⊥
  pub phase : IsOpenPhase c.phase

abbrev pub IsOpenRow : Row → Type 0
IsOpenRow (Hear arrival) = IsBelowEnd arrival.message
IsOpenRow _ = ⊤

abbrev AreOpen : List Row → Type 0
AreOpen rows = AllByRecursion IsOpenRow rows

abbrev pub IsOpenMatter : Matter → Type 0
IsOpenMatter m = IfSome m.arrival (λ arrival. IsBelowEnd arrival.message)

pub record Opens (passed : Passed) : Type 0 where
  pub consumer : IsOpen passed.consumer
  pub rows : AreOpen passed.next

abbrev Last : Consumer → Type 0
Last c = c.core.stream_sequence ≡ pull.u64_max → ⊥

-- ---- recreations

start_opens : (g : ReplayInput) (c : Consumer) → Last c → Opens (start_row g c)
start_opens g c k = if_with Opens (c.core.stream_sequence == pull.u64_max) _ _
    (λ end. absurd (k (eqb-true c.core.stream_sequence pull.u64_max end)))
    (record { consumer = record { last = k; phase = tt }; rows = (tt, tt) })

try_opens : (g : ReplayInput) (p : RowInput) (r : Recreation) (c : Consumer) → Last c → IsOpenPhase (Recreates r) → Opens (try_row g p r (at_phase (Recreates r) c))
try_opens g p r c k ko = if_each Opens p.up _ _ (λ _. record { consumer = record { last = k; phase = ko }; rows = tt }) (λ _. record { consumer = record { last = k; phase = ko }; rows = (tt, tt) })

create_opens : (setup : OrderedSetup) (p : RowInput) (r : Recreation) (c : Consumer) → Last c → IsOpenPhase (Recreates r) → Opens (create_row setup p r (at_phase (Recreates r) c))
create_opens (Pull setup) p r c k ko = record { consumer = record { last = k; phase = ko }; rows = (tt, tt) }
create_opens (Push setup) p r c k ko = if_each Opens p.up _ _ (λ _. record { consumer = record { last = k; phase = tt }; rows = (tt, tt) }) (λ _. record { consumer = record { last = k; phase = ko }; rows = (tt, tt) })

ask_opens : (g : ReplayInput) (p : RowInput) (r : Recreation) (c : Consumer) → Last c → IsOpenPhase (Recreates r) → Opens (ask_row g p r (at_phase (Recreates r) c))
ask_opens g p r c k ko = if_each Opens p.up _ _ (λ _. record { consumer = record { last = k; phase = ko }; rows = tt }) (λ _. record { consumer = record { last = k; phase = ko }; rows = (tt, tt) })

fail_opens : (g : ReplayInput) (p : RowInput) (r : Recreation) (c : Consumer) → Last c → Opens (fail_row g p r c)
fail_opens g p r c k = if_each Opens (nat_lt g.settings.retries (r.failures + 1)) _ _ (λ _. record { consumer = record { last = k; phase = tt }; rows = tt }) (λ _. record { consumer = record { last = k; phase = tt }; rows = tt })

held_open : (inbox : ℕ) (held : List Message) → AllByRecursion IsBelowEnd held → AreOpen (map (λ (message : Message). Hear (record { inbox = inbox; message = message })) held ++ Arm ∷ [])
held_open inbox [] h = (tt, tt)
held_open inbox (message ∷ held) h = (h.0, held_open inbox held h.1)

push_opens : (p : RowInput) (opened : Option Opened) (r : Recreation) (c : Consumer) → Last c → IsOpenPhase (Recreates r) → IfSome opened HoldsBelow → Opens (succeed_push p opened (at_phase (Recreates r) c))
push_opens p None r c k ko h = record { consumer = record { last = k; phase = ko }; rows = tt }
push_opens p (Some opened) r c k ko h = record { consumer = record { last = k; phase = tt }; rows = held_open opened.inbox opened.held h }

succeed_opens : (setup : OrderedSetup) (g : ReplayInput) (p : RowInput) (info : Info) (r : Recreation) (c : Consumer) → Last c → IsOpenPhase (Recreates r) → Opens (succeed_row setup g p info r (at_phase (Recreates r) c))
succeed_opens (Pull setup) g p info r c k ko = if_each Opens p.up _ _ (λ _. record { consumer = record { last = k; phase = tt }; rows = (tt, (tt, tt)) }) (λ _. record { consumer = record { last = k; phase = ko }; rows = (tt, tt) })
succeed_opens (Push setup) g p info r c k ko = push_opens p r.opened r c k ko ko

on_inbox : (inbox : ℕ) (arrival : Option Arrival) → IfSome arrival (λ arrival. IsBelowEnd arrival.message) → IfSome (message_on inbox arrival) IsBelowEnd
on_inbox inbox None h = tt
on_inbox inbox (Some arrival) h = if_each (λ (o : Option Message). IfSome o IsBelowEnd) (inbox == arrival.inbox) _ _ (λ _. h) (λ _. tt)

hold_open : (message : Option Message) (opened : Opened) → HoldsBelow opened → IfSome message IsBelowEnd → HoldsBelow (hold message opened)
hold_open None opened k h = k
hold_open (Some message) opened k h = all_append IsBelowEnd opened.held (message ∷ []) k (h, tt)

held_in_open : (arrival : Option Arrival) (opened : Option Opened) → IfSome opened HoldsBelow → IfSome arrival (λ arrival. IsBelowEnd arrival.message) → IfSome (held_in arrival opened) HoldsBelow
held_in_open arrival None k h = tt
held_in_open arrival (Some opened) k h = hold_open (message_on opened.inbox arrival) opened k (on_inbox opened.inbox arrival h)

answered_open : (mode : OrderedSetup) (info : Option Info) → IsOpenRow (answered mode info)
answered_open mode None = tt
answered_open mode (Some info) = if_each IsOpenRow (has_subject mode info) (Succeed info) Fail (λ _. tt) (λ _. tt)

created_open : (g : ReplayInput) (p : RowInput) (timeout : Timer) (reply : Option (Option Message)) → AreOpen (created g p timeout reply)
created_open g p timeout (Some reply) = (tt, tt)
created_open g p timeout None = if_each AreOpen (is_due timeout p.now) _ _ (λ _. (tt, tt)) (λ _. tt)

stage_open : (g : ReplayInput) (p : RowInput) (m : Matter) (stage : Stage) → AreOpen (stage_rows g p m stage)
stage_open g p m Between = tt
stage_open g p m (Deleting request timeout) =
    if_each AreOpen (is_some (pull.reply_to request m.answer)) _ _ (λ _. (tt, tt)) (λ _. if_each AreOpen (is_due timeout p.now) _ _ (λ _. (tt, tt)) (λ _. tt))
stage_open g p m (Creating request timeout) = created_open g p timeout (pull.reply_to request m.answer)
stage_open g p m (Waiting wait) = if_each AreOpen (is_due wait p.now) _ _ (λ _. (tt, tt)) (λ _. tt)

recreation_open : (opened : Option Opened) → AreOpen (recreation_rows opened)
recreation_open None = (tt, tt)
recreation_open (Some opened) = (tt, (tt, tt))

-- ---- messages

-- at a phase that is no recreation
message_opens : (phase : Phase) → IsOpenPhase phase → (c : Consumer) → Last c → (o : Option Place) (message : Message) → IfSome o (λ place. place.sequence ≡ pull.u64_max → ⊥) → Opens (message_row o message (at_phase phase c))
message_opens phase kp c k None message h = record { consumer = record { last = k; phase = kp }; rows = tt }
message_opens phase kp c k (Some place) message h = if_each Opens (place.number == c.core.consumer_sequence + 1) _ _
    (λ _. record { consumer = record { last = h; phase = kp }; rows = tt }) (λ _. record { consumer = record { last = k; phase = kp }; rows = (tt, tt) })

told_opens : (reader : PullReader) (c : Consumer) → Last c → (arrival : Option Message) → IfSome arrival IsBelowEnd → (t : PullTold) → HandsOnly arrival t → Opens (told t (at_phase (Pulls reader) c))
told_opens reader c k arrival h tells.Nothing hands = record { consumer = record { last = k; phase = tt }; rows = tt }
told_opens reader c k arrival h (tells.Hands message) hands =
    message_opens (Pulls reader) tt (record c { missed = false }) k (readable_as message.reply) message (subst (λ (o : Option Message). IfSome o IsBelowEnd) hands.0 h)
told_opens reader c k arrival h (tells.Tells error.ConsumerDeleted) hands = record { consumer = record { last = k; phase = tt }; rows = (tt, tt) }
told_opens reader c k arrival h (tells.Tells error.NoResponders) hands = record { consumer = record { last = k; phase = tt }; rows = (tt, tt) }
told_opens reader c k arrival h (tells.Tells error.PushBasedConsumer) hands = record { consumer = record { last = k; phase = tt }; rows = tt }
told_opens reader c k arrival h (tells.Tells error.RequestLimitExceeded) hands =
    if_each Opens c.limited _ _ (λ _. record { consumer = record { last = k; phase = tt }; rows = tt }) (λ _. record { consumer = record { last = k; phase = tt }; rows = (tt, tt) })
told_opens reader c k arrival h (tells.Tells error.MissingHeartbeat) hands =
    if_each Opens c.missed _ _ (λ _. record { consumer = record { last = k; phase = tt }; rows = (tt, tt) }) (λ _. record { consumer = record { last = k; phase = tt }; rows = tt })
told_opens reader c k arrival h (tells.Tells error.Pull) hands = record { consumer = record { last = k; phase = tt }; rows = tt }
told_opens reader c k arrival h (tells.Tells error.Other) hands = record { consumer = record { last = k; phase = tt }; rows = tt }

reads_open : (rows : List PullRow) → AreOpen (map Read rows)
reads_open [] = tt
reads_open (row ∷ rows) = (tt, reads_open rows)

reader_opens : (p : RowInput) (m : Matter) (row : PullRow) (reader : PullReader) (c : Consumer) → Last c → IsOpenMatter m → Opens (reader_row p m row reader c)
reader_opens p m row reader c k h =
    let arrival : Option Message = message_on reader.source.inbox m.arrival in
    let passed : pull.Passed = pull.row p m.answer arrival row reader in
    let read : IsRead reader arrival passed = row_read p m.answer arrival row reader in
    let one : Opens (told passed.told (at_phase (Pulls passed.reader) c)) = told_opens passed.reader c k arrival (on_inbox reader.source.inbox m.arrival h) passed.told read.hands in
    record { consumer = one.consumer; rows = all_in_place IsOpenRow (told passed.told (at_phase (Pulls passed.reader) c)).next (map Read passed.next) one.rows (reads_open passed.next) }

beat_open : (beat : Option ℕ) (consumer_sequence : ℕ) → AreOpen (beat_rows beat consumer_sequence)
beat_open None consumer_sequence = tt
beat_open (Some n) consumer_sequence = if_each AreOpen (n == consumer_sequence) _ _ (λ _. tt) (λ _. (tt, tt))

hear_kind_opens : (stalled : Bool) (p : RowInput) (inbox : ℕ) (heartbeat_timer : Timer) (c : Consumer) → Last c → (message : Message) → IsBelowEnd message → (kind : PushKind) → Opens (hear_kind stalled p message kind (at_phase (Pushes inbox heartbeat_timer) c))
hear_kind_opens stalled p inbox heartbeat_timer c k message h Delivered = message_opens (Pushes inbox heartbeat_timer) tt c k (readable_as message.reply) message h
hear_kind_opens stalled p inbox heartbeat_timer c k message h OtherStatus = record { consumer = record { last = k; phase = tt }; rows = tt }
hear_kind_opens stalled p inbox heartbeat_timer c k message h Bad = record { consumer = record { last = k; phase = tt }; rows = tt }
hear_kind_opens stalled p inbox heartbeat_timer c k message h (Beat n) = record { consumer = record { last = k; phase = tt }; rows = beat_open n c.core.consumer_sequence }

hear_opens : (stalled : Bool) (p : RowInput) (arrival : Arrival) (inbox : ℕ) (heartbeat_timer : Timer) (c : Consumer) → Last c → IsBelowEnd arrival.message → Opens (hear_row stalled p arrival inbox (at_phase (Pushes inbox heartbeat_timer) c))
hear_opens stalled p arrival inbox heartbeat_timer c k h = if_each Opens (arrival.inbox == inbox) _ _
    (λ _. hear_kind_opens stalled p inbox (armed p.now) c k arrival.message h (push_kind arrival.message)) (λ _. record { consumer = record { last = k; phase = tt }; rows = tt })

-- ---- an event's first row

push_rows_open : (inbox : ℕ) (o : Option Message) → IfSome o IsBelowEnd → AreOpen (push_rows inbox o)
push_rows_open inbox None h = (tt, tt)
push_rows_open inbox (Some message) h = (h, tt)

go_on_opens : (g : ReplayInput) (p : RowInput) (m : Matter) (phase : Phase) (c : Consumer) → Last c → IsOpenPhase phase → IsOpenMatter m → Opens (go_on g p m phase (at_phase phase c))
go_on_opens g p m Idle c k kp h = record { consumer = record { last = k; phase = tt }; rows = (tt, tt) }
go_on_opens g p m (Recreates r) c k kp h = record { consumer = record { last = k; phase = kp }; rows = recreation_open r.opened }
go_on_opens g p m (Pulls reader) c k kp h = reader_opens p m (read.Begin None) reader c k h
go_on_opens g p m (Pushes inbox heartbeat_timer) c k kp h = record { consumer = record { last = k; phase = tt }; rows = (tt, tt) }
go_on_opens g p m Ended c k kp h = record { consumer = record { last = k; phase = tt }; rows = tt }
go_on_opens g p m Exhausted c k kp h = absurd kp

changed_opens : (g : ReplayInput) (p : RowInput) (m : Matter) (old new : State) (phase : Phase) (c : Consumer) → Last c → IsOpenPhase phase → IsOpenMatter m → Opens (changed g p m old new phase (at_phase phase c))
changed_opens g p m old new (Pulls reader) c k kp h = reader_opens p m (read.Begin (Some new)) reader (record c { connection = new }) k h
changed_opens g p m old new (Pushes inbox heartbeat_timer) c k kp h =
    if_both Opens (is_connected old || is_connected new) _ _ (record { consumer = record { last = k; phase = tt }; rows = (tt, tt) }) (go_on_opens g p m (Pushes inbox heartbeat_timer) (record c { connection = new }) k kp h)
changed_opens g p m old new (Recreates r) c k kp h = go_on_opens g p m (Recreates r) (record c { connection = new }) k kp h
changed_opens g p m old new Idle c k kp h = go_on_opens g p m Idle (record c { connection = new }) k kp h
changed_opens g p m old new Ended c k kp h = go_on_opens g p m Ended (record c { connection = new }) k kp h
changed_opens g p m old new Exhausted c k kp h = absurd kp

watcher_opens : (g : ReplayInput) (p : RowInput) (m : Matter) (setup : OrderedSetup) (phase : Phase) (c : Consumer) → Last c → IsOpenPhase phase → IsOpenMatter m → Opens (watcher_ended g p m setup (at_phase phase c))
watcher_opens g p m (Pull setup) phase c k kp h = go_on_opens g p m phase c k kp h
watcher_opens g p m (Push setup) phase c k kp h = record { consumer = record { last = k; phase = tt }; rows = tt }

change_opens : (g : ReplayInput) (p : RowInput) (m : Matter) (change : Change) (phase : Phase) (c : Consumer) → Last c → IsOpenPhase phase → IsOpenMatter m → Opens (event_change g p m change (at_phase phase c))
change_opens g p m Unchanged phase c k kp h = go_on_opens g p m phase c k kp h
change_opens g p m (Becomes state) phase c k kp h = if_both Opens (same_state c.connection state) _ _ (go_on_opens g p m phase c k kp h) (changed_opens g p m c.connection state phase c k kp h)
change_opens g p m WatcherEnds phase c k kp h = watcher_opens g p m g.setup phase c k kp h

event_opens : (g : ReplayInput) (p : RowInput) (m : Matter) (phase : Phase) (c : Consumer) → Last c → IsOpenPhase phase → IsOpenMatter m → Opens (event_row g p m phase (at_phase phase c))
event_opens g p m Ended c k kp h = record { consumer = record { last = k; phase = tt }; rows = tt }
event_opens g p m Exhausted c k kp h = absurd kp
event_opens g p m (Pulls reader) c k kp h = change_opens g p m m.change (Pulls reader) c k kp h
event_opens g p m (Pushes inbox heartbeat_timer) c k kp h = change_opens g p m m.change (Pushes inbox heartbeat_timer) c k kp h
event_opens g p m (Recreates r) c k kp h = change_opens g p m m.change (Recreates r) c k kp h
event_opens g p m Idle c k kp h = change_opens g p m m.change Idle c k kp h

-- ---- every row

row_opens : (g : ReplayInput) (p : RowInput) (m : Matter) (row : Row) (phase : Phase) (c : Consumer) → Last c → IsOpenPhase phase → IsOpenMatter m → IsOpenRow row → Opens (row_at g p m row phase (at_phase phase c))
row_opens g p m Event phase c k kp h hr = event_opens g p m phase c k kp h
row_opens g p m Start phase c k kp h hr = start_opens g (at_phase phase c) k
row_opens g p m Try (Recreates r) c k kp h hr = try_opens g p r c k kp
row_opens g p m Create (Recreates r) c k kp h hr = create_opens g.setup p r c k kp
row_opens g p m Ask (Recreates r) c k kp h hr = ask_opens g p r c k kp
row_opens g p m Await (Recreates r) c k kp h hr = record { consumer = record { last = k; phase = kp }; rows = stage_open g p m r.stage }
row_opens g p m (Answered reply) (Recreates r) c k kp h hr = record { consumer = record { last = k; phase = kp }; rows = (answered_open g.setup (pull.info_in (pull.info_reply reply)), tt) }
row_opens g p m Hold (Recreates r) c k kp h hr = record { consumer = record { last = k; phase = held_in_open m.arrival r.opened kp h }; rows = tt }
row_opens g p m (Succeed info) (Recreates r) c k kp h hr = succeed_opens g.setup g p info r c k kp
row_opens g p m Fail (Recreates r) c k kp h hr = fail_opens g p r (at_phase (Recreates r) c) k
row_opens g p m CheckArrival (Pushes inbox heartbeat_timer) c k kp h hr = record { consumer = record { last = k; phase = tt }; rows = push_rows_open inbox (message_on inbox m.arrival) (on_inbox inbox m.arrival h) }
row_opens g p m (Hear arrival) (Pushes inbox heartbeat_timer) c k kp h hr = hear_opens g.settings.resilience.answers_stalled p arrival inbox heartbeat_timer c k hr
row_opens g p m CheckSilence (Pushes inbox heartbeat_timer) c k kp h hr =
    if_each Opens (is_due heartbeat_timer p.now) _ _ (λ _. record { consumer = record { last = k; phase = tt }; rows = (tt, tt) }) (λ _. record { consumer = record { last = k; phase = tt }; rows = tt })
row_opens g p m Arm (Pushes inbox heartbeat_timer) c k kp h hr = record { consumer = record { last = k; phase = tt }; rows = tt }
row_opens g p m (Read row) (Pulls reader) c k kp h hr = reader_opens p m row reader c k h
row_opens g p m _ phase c k kp h hr = record { consumer = record { last = k; phase = kp }; rows = tt }

-- a row that is passed leaves a consumer that can go on
pub pass_opens : (g : ReplayInput) (p : RowInput) (m : Matter) (row : Row) (c : Consumer) → IsOpen c → IsOpenMatter m → IsOpenRow row → Opens (pass g p m row c)
pass_opens g p m row c k h hr = row_opens g p m row c.phase c k.last k.phase h hr
