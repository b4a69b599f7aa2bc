-- What follows a row has a lower rank, so that rows end.
use Rattle.std.proofs.Common.{◌≡◌, ℕ, zero, suc, ◌+◌, ◌<◌, false, List, [], ◌∷◌, ◌++◌, map, Option, Some, None, refl, ◌∙◌, ap, arith, Bool}
use Rattle.std.specs.Prelude.{nat_lt, not, is_some, ◌&&◌, ◌||◌, ◌==◌}
use Rattle.std.specs.List.{AllByRecursion}
use Rattle.js_base.specs.declared.message.Message.{Message}
use Rattle.js_base.specs.Clock.{is_due, is_any_due}
use Rattle.js_base.specs.declared.clock.Timer.{Timer}
use Rattle.js_base.specs.declared.message.State.{State}
use Rattle.js_base.specs.declared.message.State.TheVariants.{Pending, Connected, Disconnected}
use Rattle.js_json.specs.declared.consumer.info.Info.{Info}
use Rattle.js_message.specs.AckSubject.{Place, readable_as}
use Rattle.js_link.specs.RowInput.{RowInput}
use Rattle.js_pull.specs.Kind.{pull_kind}
use Rattle.js_pull.specs.declared.kind.Kind.{Kind}
use Rattle.js_pull.specs.declared.kind.Kind.TheVariants as kind
use Rattle.js_pull.specs.Reader as pull
use Rattle.js_pull.specs.declared.reader.Row.{Row as PullRow}
use Rattle.js_pull.specs.declared.reader.Row.TheVariants as read
use Rattle.js_pull.specs.declared.reader.Reader.{Reader as PullReader}
use Rattle.js_pull.specs.declared.reader.InfoRequest.{InfoRequest}
use Rattle.js_pull.specs.declared.reader.InfoRequest.TheVariants as inquiries
use Rattle.js_ordered_table.specs.declared.replay_state.ReplayState.{ReplayState}
use Rattle.js_ordered_table.specs.declared.consumer.Consumer.{Consumer}
use Rattle.js_ordered_table.specs.Consumer.{Matter, Change, Unchanged, Becomes, WatcherEnds, Passed, at_phase}
use Rattle.js_ordered_table.specs.declared.row.Row.{Row}
use Rattle.js_ordered_table.specs.declared.row.Row.TheVariants.{Event, Start, Try, Create, Ask, Await, Answered, Hold, Succeed, Fail, CheckArrival, Hear, CheckSilence, Arm, Read}
use Rattle.js_ordered_table.specs.declared.consumer.Recreation.{Recreation}
use Rattle.js_ordered_table.specs.declared.consumer.Opened.{Opened}
use Rattle.js_ordered_table.specs.declared.consumer.ReplayInput.{ReplayInput}
use Rattle.js_ordered_table.specs.declared.consumer.Stage.{Stage}
use Rattle.js_ordered_table.specs.declared.consumer.Phase.{Phase}
use Rattle.js_ordered_table.specs.declared.consumer.Stage.TheVariants.{Between, Deleting, Creating, Waiting}
use Rattle.js_ordered_table.specs.declared.consumer.Phase.TheVariants.{Pulls, Pushes, Recreates, Idle, Ended, Exhausted}
use Rattle.js_ordered_table.specs.Recreation.{create_row, succeed_row, succeed_push, stage_rows, recreation_rows, created, answered, has_subject, message_on}
use Rattle.js_pull.specs.declared.replies.InfoReply.{InfoReply}
use Rattle.js_pull.specs.declared.replies.InfoReply.TheVariants as says
use Rattle.js_ordered_table.specs.Arrivals.{in_place_of, message_row, read_row, push_kind, beat_rows, hear_kind, armed}
use Rattle.js_ordered_table.specs.declared.kind.PushKind.{PushKind}
use Rattle.js_ordered_table.specs.declared.kind.PushKind.TheVariants.{Delivered, OtherStatus, Bad, Beat}
use Rattle.js_ordered_table.specs.Table.{push_rows, go_on, is_connected, changed, watcher_ended, event_change, event_row, row_at, pass}
use Rattle.js_pull.specs.Poll.{same_state}
use Rattle.js_ordered_table.specs.Fold.{Ran, rank, and_then, passing, after, pass_each, pass_to}
use Rattle.js_ordered_table.specs.declared.setup.OrderedSetup.{OrderedSetup}
use Rattle.js_ordered_table.specs.declared.setup.OrderedSetup.TheVariants.{Pull, Push}
use Rattle.js_ordered_table.proofs.Rewritten.{if_both, if_each, all_in_place}

-- each of the rows is below a rank
abbrev pub AreBelow : ℕ → List Row → Type 0
AreBelow n rows = AllByRecursion (λ row. rank row < n) rows

abbrev Leads : ℕ → Passed → Type 0
Leads n passed = AreBelow n passed.next

-- ---- recreations

create_falls : (setup : OrderedSetup) (p : RowInput) (r : Recreation) (c : Consumer) → Leads 2 (create_row setup p r c)
create_falls (Pull setup) p r c = (omega arith, tt)
create_falls (Push setup) p r c = if_each (Leads 2) p.up _ _ (λ _. (omega arith, tt)) (λ _. (omega arith, tt))

held_fall : (inbox : ℕ) (held : List Message) → AreBelow 6 (map (λ (message : Message). Hear (record { inbox = inbox; message = message })) held ++ Arm ∷ [])
held_fall inbox [] = (omega arith, tt)
held_fall inbox (message ∷ held) = (omega arith, held_fall inbox held)

succeed_push_falls : (p : RowInput) (opened : Option Opened) (c : Consumer) → Leads 6 (succeed_push p opened c)
succeed_push_falls p None c = tt
succeed_push_falls p (Some opened) c = held_fall opened.inbox opened.held

succeed_falls : (setup : OrderedSetup) (g : ReplayInput) (p : RowInput) (info : Info) (r : Recreation) (c : Consumer) → Leads 6 (succeed_row setup g p info r c)
succeed_falls (Pull setup) g p info r c = if_each (Leads 6) p.up _ _ (λ _. (omega arith, (omega arith, tt))) (λ _. (omega arith, tt))
succeed_falls (Push setup) g p info r c = succeed_push_falls p r.opened c

answered_falls : (mode : OrderedSetup) (info : Option Info) → rank (answered mode info) < 7
answered_falls mode None = omega arith
answered_falls mode (Some info) = if_each (λ (row : Row). rank row < 7) (has_subject mode info) (Succeed info) Fail (λ _. omega arith) (λ _. omega arith)

created_fall : (g : ReplayInput) (p : RowInput) (timeout : Timer) (reply : Option (Option Message)) → AreBelow 8 (created g p timeout reply)
created_fall g p timeout (Some reply) = (omega arith, tt)
created_fall g p timeout None = if_each (AreBelow 8) (is_due timeout p.now) _ _ (λ _. (omega arith, tt)) (λ _. tt)

stage_falls : (g : ReplayInput) (p : RowInput) (m : Matter) (stage : Stage) → AreBelow 8 (stage_rows g p m stage)
stage_falls g p m Between = tt
stage_falls g p m (Deleting request timeout) =
    if_each (AreBelow 8) (is_some (pull.reply_to request m.answer)) _ _ (λ _. (omega arith, tt)) (λ _. if_each (AreBelow 8) (is_due timeout p.now) _ _ (λ _. (omega arith, tt)) (λ _. tt))
stage_falls g p m (Creating request timeout) = created_fall g p timeout (pull.reply_to request m.answer)
stage_falls g p m (Waiting wait) = if_each (AreBelow 8) (is_due wait p.now) _ _ (λ _. (omega arith, tt)) (λ _. tt)

recreation_falls : (opened : Option Opened) → AreBelow 9 (recreation_rows opened)
recreation_falls None = (omega arith, tt)
recreation_falls (Some opened) = (omega arith, (omega arith, tt))

-- ---- messages

message_falls : (n : ℕ) → 4 < n → (o : Option Place) (message : Message) (c : Consumer) → Leads n (message_row o message c)
message_falls n below None message c = tt
message_falls n below (Some place) message c = if_each (Leads n) (place.number == c.core.consumer_sequence + 1) _ _ (λ _. tt) (λ _. (omega arith, tt))

beat_falls : (beat : Option ℕ) (consumer_sequence : ℕ) → AreBelow 5 (beat_rows beat consumer_sequence)
beat_falls None consumer_sequence = tt
beat_falls (Some last) consumer_sequence = if_each (AreBelow 5) (last == consumer_sequence) _ _ (λ _. tt) (λ _. (omega arith, tt))

hear_kind_falls : (stalled : Bool) (p : RowInput) (message : Message) (k : PushKind) (c : Consumer) → Leads 5 (hear_kind stalled p message k c)
hear_kind_falls stalled p message Delivered c = message_falls 5 (omega arith) (readable_as message.reply) message c
hear_kind_falls stalled p message OtherStatus c = tt
hear_kind_falls stalled p message Bad c = tt
hear_kind_falls stalled p message (Beat last) c = beat_falls last c.core.consumer_sequence

-- ---- the pull reader

abbrev Reads : ℕ → Consumer → pull.Passed → Type 0
Reads n c passed = Leads n (read_row passed c)

hear_falls : (message : Message) (k : Kind) (r : PullReader) (c : Consumer) → Reads 6 c (pull.hear message k r)
hear_falls message kind.Delivered r c =
    all_in_place (λ (row : Row). rank row < 6) (message_row (readable_as message.reply) message (record (at_phase (Pulls (pull.lowered 1 message.length r)) c) { missed = false })).next (Read read.Threshold ∷ [])
    (message_falls 6 (omega arith) (readable_as message.reply) message (record (at_phase (Pulls (pull.lowered 1 message.length r)) c) { missed = false })) (omega arith, tt)
hear_falls message kind.IdleHeartbeat r c = (omega arith, tt)
hear_falls message kind.Deleted r c = (omega arith, tt)
hear_falls message kind.PushBased r c = tt
hear_falls message kind.Limit r c =
    if_each (λ (passed : Passed). AreBelow 6 (in_place_of passed.next [])) c.limited _ _ (λ _. tt) (λ _. (omega arith, tt))
hear_falls message kind.Gone r c = (omega arith, tt)
hear_falls message kind.Bad r c = (omega arith, tt)
hear_falls message (kind.Ledger messages bytes) r c = (omega arith, tt)

arrival_falls : (p : RowInput) (arrival : Option Message) (r : PullReader) (c : Consumer) → Reads 6 c (pull.check_arrival p arrival r)
arrival_falls p None r c = (omega arith, tt)
arrival_falls p (Some message) r c = hear_falls message (pull_kind message) (pull.with_pin message (pull.with_silence p.now r)) c

silence_falls : (p : RowInput) (r : PullReader) (c : Consumer) → Reads 5 c (pull.check_silence p r)
silence_falls p r c =
    if_each (Reads 5 c) (is_any_due r.heartbeat_timer p.now) _ _
    (λ _. if_each (λ (passed : Passed). AreBelow 5 (in_place_of passed.next (map Read (pull.silence_inquiry r)))) c.missed _ _ (λ _. (omega arith, tt))
    (λ _. if_each (λ (rows : List PullRow). AreBelow 5 (map Read rows)) (r.source.resilience.asks_at_first_heartbeat && not (pull.is_asking r.inquiry)) _ _ (λ _. (omega arith, tt)) (λ _. tt)))
    (λ _. tt)

answer_falls : (failures : ℕ) (says : InfoReply) (r : PullReader) (c : Consumer) → Reads 5 c (pull.answered failures says r)
answer_falls failures (says.Info info) r c = (omega arith, tt)
answer_falls failures (says.Error code) r c = if_each (Reads 5 c) (r.source.resilience.recreates_when_gone && pull.is_gone code) _ _ (λ _. (omega arith, tt)) (λ _. (omega arith, tt))
answer_falls failures says.Nothing r c = (omega arith, tt)

asked_falls : (p : RowInput) (timeout : Option Timer) (failures : ℕ) (reply : Option (Option Message)) (r : PullReader) (c : Consumer) → Reads 6 c (pull.check_asked p timeout failures reply r)
asked_falls p timeout failures (Some reply) r c = (omega arith, tt)
asked_falls p timeout failures None r c = if_each (λ (rows : List PullRow). AreBelow 6 (map Read rows)) (is_any_due timeout p.now) _ _ (λ _. (omega arith, tt)) (λ _. tt)

inquiry_falls : (p : RowInput) (answer : Option pull.Answer) (inquiry : InfoRequest) (r : PullReader) (c : Consumer) → Reads 6 c (pull.check_inquiry p answer inquiry r)
inquiry_falls p answer inquiries.NoInfoRequest r c = tt
inquiry_falls p answer (inquiries.Asked request timeout failures) r c = asked_falls p timeout failures (pull.reply_to request answer) r c
inquiry_falls p answer (inquiries.Resting wait failures) r c = if_each (λ (rows : List PullRow). AreBelow 6 (map Read rows)) (is_due wait p.now) _ _ (λ _. (omega arith, tt)) (λ _. tt)

begin_change_falls : (p : RowInput) (change : Option State) (r : PullReader) (c : Consumer) → Reads 9 c (pull.begin_change p change r)
begin_change_falls p None r c = (omega arith, (omega arith, tt))
begin_change_falls p (Some Connected) r c = (omega arith, (omega arith, tt))
begin_change_falls p (Some Pending) r c = (omega arith, tt)
begin_change_falls p (Some Disconnected) r c = (omega arith, tt)

begin_falls : (p : RowInput) (change : Option State) (r : PullReader) (c : Consumer) → Reads 9 c (pull.begin_row p change r)
begin_falls p change r c = if_each (Reads 9 c) r.ended _ _ (λ _. tt)
    (λ _. if_each (Reads 9 c) (pull.is_asking r.inquiry) _ _ (λ _. (omega arith, (omega arith, tt))) (λ _. begin_change_falls p change r c))

reader_falls : (p : RowInput) (answer : Option pull.Answer) (arrival : Option Message) (row : PullRow) (r : PullReader) (c : Consumer) → Reads (rank (Read row)) c (pull.row p answer arrival row r)
reader_falls p answer arrival (read.Ask reason) r c = if_each (Reads 0 c) p.up _ _ (λ _. tt) (λ _. tt)
reader_falls p answer arrival (read.Begin change) r c = begin_falls p change r c
reader_falls p answer arrival read.Threshold r c =
    if_each (Reads 1 c) (pull.is_low r && not r.waiting) _ _
    (λ _. if_each (λ (rows : List PullRow). AreBelow 1 (map Read rows)) (pull.is_asking r.inquiry) _ _ (λ _. tt) (λ _. (omega arith, tt)))
    (λ _. tt)
reader_falls p answer arrival read.Arm r c = tt
reader_falls p answer arrival (read.Inquire failures) r c = if_each (Reads 2 c) p.up _ _ (λ _. tt) (λ _. (omega arith, tt))
reader_falls p answer arrival (read.FailInfoRequest failures) r c = if_each (Reads 1 c) (nat_lt (failures + 1) 6) _ _ (λ _. tt) (λ _. (omega arith, tt))
reader_falls p answer arrival read.CheckInfoRequest r c = inquiry_falls p answer r.inquiry r c
reader_falls p answer arrival (read.Answered reply failures) r c = answer_falls failures (pull.info_reply reply) r c
reader_falls p answer arrival read.CheckExpiry r c = if_each (λ (rows : List PullRow). AreBelow 1 (map Read rows)) (is_any_due r.expiry p.now) _ _ (λ _. (omega arith, tt)) (λ _. tt)
reader_falls p answer arrival read.CheckArrival r c = arrival_falls p arrival r c
reader_falls p answer arrival read.CheckSilence r c = silence_falls p r c

-- ---- an event

push_rows_fall : (inbox : ℕ) (o : Option Message) → AreBelow 6 (push_rows inbox o)
push_rows_fall inbox None = (omega arith, tt)
push_rows_fall inbox (Some message) = (omega arith, tt)

go_on_falls : (g : ReplayInput) (p : RowInput) (m : Matter) (phase : Phase) (c : Consumer) → Leads 9 (go_on g p m phase c)
go_on_falls g p m Idle c = (omega arith, tt)
go_on_falls g p m (Recreates r) c = recreation_falls r.opened
go_on_falls g p m (Pulls reader) c = reader_falls p m.answer (message_on reader.source.inbox m.arrival) (read.Begin None) reader c
go_on_falls g p m (Pushes inbox heartbeat_timer) c = (omega arith, tt)
go_on_falls g p m Ended c = tt
go_on_falls g p m Exhausted c = tt

changed_falls : (g : ReplayInput) (p : RowInput) (m : Matter) (old new : State) (phase : Phase) (c : Consumer) → Leads 9 (changed g p m old new phase c)
changed_falls g p m old new (Pulls reader) c = reader_falls p m.answer (message_on reader.source.inbox m.arrival) (read.Begin (Some new)) reader (record c { connection = new })
changed_falls g p m old new (Pushes inbox heartbeat_timer) c =
    if_both (Leads 9) (is_connected old || is_connected new) _ _ (omega arith, tt) (go_on_falls g p m (Pushes inbox heartbeat_timer) (record c { connection = new }))
changed_falls g p m old new (Recreates r) c = go_on_falls g p m (Recreates r) (record c { connection = new })
changed_falls g p m old new Idle c = go_on_falls g p m Idle (record c { connection = new })
changed_falls g p m old new Ended c = go_on_falls g p m Ended (record c { connection = new })
changed_falls g p m old new Exhausted c = go_on_falls g p m Exhausted (record c { connection = new })

watcher_falls : (g : ReplayInput) (p : RowInput) (m : Matter) (setup : OrderedSetup) (c : Consumer) → Leads 9 (watcher_ended g p m setup c)
watcher_falls g p m (Pull setup) c = go_on_falls g p m c.phase c
watcher_falls g p m (Push setup) c = tt

change_falls : (g : ReplayInput) (p : RowInput) (m : Matter) (change : Change) (c : Consumer) → Leads 9 (event_change g p m change c)
change_falls g p m Unchanged c = go_on_falls g p m c.phase c
change_falls g p m (Becomes state) c = if_both (Leads 9) (same_state c.connection state) _ _ (go_on_falls g p m c.phase c) (changed_falls g p m c.connection state c.phase c)
change_falls g p m WatcherEnds c = watcher_falls g p m g.setup c

event_falls : (g : ReplayInput) (p : RowInput) (m : Matter) (phase : Phase) (c : Consumer) → Leads 9 (event_row g p m phase c)
event_falls g p m Ended c = tt
event_falls g p m Exhausted c = tt
event_falls g p m (Pulls reader) c = change_falls g p m m.change c
event_falls g p m (Pushes inbox heartbeat_timer) c = change_falls g p m m.change c
event_falls g p m (Recreates r) c = change_falls g p m m.change c
event_falls g p m Idle c = change_falls g p m m.change c

-- ---- every row

pub row_falls : (g : ReplayInput) (p : RowInput) (m : Matter) (row : Row) (phase : Phase) (c : Consumer) → Leads (rank row) (row_at g p m row phase c)
row_falls g p m Event phase c = event_falls g p m phase c
row_falls g p m Start phase c = if_each (Leads 4) (c.core.stream_sequence == pull.u64_max) _ _ (λ _. tt) (λ _. (omega arith, tt))
row_falls g p m Try (Recreates r) c = if_each (Leads 3) p.up _ _ (λ _. tt) (λ _. (omega arith, tt))
row_falls g p m Create (Recreates r) c = create_falls g.setup p r c
row_falls g p m Ask (Recreates r) c = if_each (Leads 1) p.up _ _ (λ _. tt) (λ _. (omega arith, tt))
row_falls g p m Await (Recreates r) c = stage_falls g p m r.stage
row_falls g p m (Answered reply) (Recreates r) c = (answered_falls g.setup (pull.info_in (pull.info_reply reply)), tt)
row_falls g p m Hold (Recreates r) c = tt
row_falls g p m (Succeed info) (Recreates r) c = succeed_falls g.setup g p info r c
row_falls g p m Fail (Recreates r) c = if_each (Leads 0) (nat_lt g.settings.retries (r.failures + 1)) _ _ (λ _. tt) (λ _. tt)
row_falls g p m CheckArrival (Pushes inbox heartbeat_timer) c = push_rows_fall inbox (message_on inbox m.arrival)
row_falls g p m (Hear arrival) (Pushes inbox heartbeat_timer) c =
    if_both (Leads 5) (arrival.inbox == inbox) _ _ (hear_kind_falls g.settings.resilience.answers_stalled p arrival.message (push_kind arrival.message) (at_phase (Pushes inbox (armed p.now)) c)) tt
row_falls g p m CheckSilence (Pushes inbox heartbeat_timer) c = if_each (Leads 5) (is_due heartbeat_timer p.now) _ _ (λ _. (omega arith, tt)) (λ _. tt)
row_falls g p m Arm (Pushes inbox heartbeat_timer) c = tt
row_falls g p m (Read row) (Pulls reader) c = reader_falls p m.answer (message_on reader.source.inbox m.arrival) row reader c
row_falls g p m _ phase c = tt

-- ---- so nothing is cut off

pub each_same : (one other : Row → ReplayState → Ran) (n : ℕ) → ((row : Row) (w : ReplayState) → rank row < n → one row w ≡ other row w)
    → (rows : List Row) (w : ReplayState) → AreBelow n rows → pass_each one rows w ≡ pass_each other rows w
each_same one other n same [] w below = refl
each_same one other n same (row ∷ rows) w below =
    ap (λ (ran : Ran). and_then ran.outputs (pass_each one rows ran.state)) (same row w below.0)
    ∙ ap (λ (rest : Ran). and_then (other row w).outputs rest) (each_same one other n same rows (other row w).state below.1)

-- one more depth makes no difference to a row whose rank is below it
pub settled : (g : ReplayInput) (now : ℕ) (m : Matter) (depth : ℕ) (row : Row) (w : ReplayState) → rank row < depth → pass_to g now m depth row w ≡ pass_to g now m (suc depth) row w
settled g now m zero row w below = absurd (omega arith)
settled g now m (suc depth) row w below =
    let passed : Passed = pass g (passing g now w) m row w.consumer in
    ap (λ (rest : Ran). and_then passed.outputs rest)
    (each_same (pass_to g now m depth) (pass_to g now m (suc depth)) (rank row)
    (λ next w' lower. settled g now m depth next w' (omega arith))
    passed.next (after w passed) (row_falls g (passing g now w) m row w.consumer.phase w.consumer))
