-- A row makes at most one send, and puts out at most one yield or item.
use Rattle.std.proofs.Common.{ℕ, ◌+◌, ◌≤◌, Bool, true, false, List, [], length, Option, Some, None, arith}
use Rattle.std.specs.Prelude.{nat_lt, not, ◌&&◌, ◌||◌, ◌==◌}
use Rattle.js_base.specs.declared.message.Message.{Message}
use Rattle.js_base.specs.Clock.{is_due, is_any_due}
use Rattle.js_base.specs.declared.clock.Timer.{Timer}
use Rattle.js_base.specs.declared.message.State.{State}
use Rattle.js_base.specs.declared.message.State.TheVariants.{Pending, Connected, Disconnected}
use Rattle.js_json.specs.declared.consumer.info.Info.{Info}
use Rattle.js_message.specs.AckSubject.{Place, readable_as}
use Rattle.js_link.specs.RowInput.{RowInput}
use Rattle.js_pull.specs.Kind.{pull_kind}
use Rattle.js_pull.specs.declared.kind.Kind.{Kind}
use Rattle.js_pull.specs.declared.kind.Kind.TheVariants as kind
use Rattle.js_pull.specs.Reader as pull
use Rattle.js_pull.specs.declared.reader.Row.{Row as PullRow}
use Rattle.js_pull.specs.declared.reader.Row.TheVariants as read
use Rattle.js_pull.specs.declared.reader.Reader.{Reader as PullReader}
use Rattle.js_pull.specs.declared.reader.InfoRequest.{InfoRequest}
use Rattle.js_pull.specs.declared.reader.InfoRequest.TheVariants as inquiries
use Rattle.js_ordered_table.specs.declared.consumer.Recreation.{Recreation}
use Rattle.js_ordered_table.specs.declared.consumer.Opened.{Opened}
use Rattle.js_ordered_table.specs.declared.consumer.ReplayInput.{ReplayInput}
use Rattle.js_ordered_table.specs.declared.consumer.Phase.{Phase}
use Rattle.js_ordered_table.specs.declared.consumer.Phase.TheVariants.{Pulls, Pushes, Recreates, Idle, Ended, Exhausted}
use Rattle.js_ordered_table.specs.declared.consumer.Consumer.{Consumer}
use Rattle.js_ordered_table.specs.Consumer.{Matter, Change, Unchanged, Becomes, WatcherEnds, Passed, at_phase}
use Rattle.js_ordered_table.specs.declared.row.Row.{Row}
use Rattle.js_ordered_table.specs.declared.row.Row.TheVariants.{Event, Start, Try, Create, Ask, Await, Answered, Hold, Succeed, Fail, CheckArrival, Hear, CheckSilence, Arm, Read}
use Rattle.js_ordered_table.specs.Recreation.{create_row, succeed_row, succeed_push, message_on, missing_after}
use Rattle.js_pull.specs.declared.replies.InfoReply.{InfoReply}
use Rattle.js_pull.specs.declared.replies.InfoReply.TheVariants as says
use Rattle.js_ordered_table.specs.Arrivals.{message_row, read_row, push_kind, beat_answer, beat_subject, hear_kind, armed}
use Rattle.js_ordered_table.specs.declared.kind.PushKind.{PushKind}
use Rattle.js_ordered_table.specs.declared.kind.PushKind.TheVariants.{Delivered, OtherStatus, Bad, Beat}
use Rattle.js_ordered_table.specs.Table.{go_on, is_connected, changed, watcher_ended, event_change, event_row, row_at}
use Rattle.js_pull.specs.Poll.{same_state}
use Rattle.js_ordered_table.specs.Walk.{handed, sent}
use Rattle.js_ordered_table.specs.declared.setup.OrderedSetup.{OrderedSetup}
use Rattle.js_ordered_table.specs.declared.setup.OrderedSetup.TheVariants.{Pull, Push}
use Rattle.js_ordered_table.specs.declared.run.Output.{Output}
use Rattle.js_ordered_table.proofs.Rewritten.{if_both, if_each}

pub record IsSingle (outputs : List Output) : Type 0 where
  pub handed : length (handed outputs) ≤ 1
  pub sent : length (sent outputs) ≤ 1

abbrev Single : Passed → Type 0
Single passed = IsSingle passed.outputs

nothing : IsSingle []
nothing = record { handed = omega arith; sent = omega arith }

message_single : (o : Option Place) (message : Message) (c : Consumer) → Single (message_row o message c)
message_single None message c = record { handed = omega arith; sent = omega arith }
message_single (Some place) message c = if_each Single (place.number == c.core.consumer_sequence + 1) _ _ (λ _. record { handed = omega arith; sent = omega arith }) (λ _. nothing)

create_single : (setup : OrderedSetup) (p : RowInput) (r : Recreation) (c : Consumer) → Single (create_row setup p r c)
create_single (Pull setup) p r c = nothing
create_single (Push setup) p r c = if_each Single p.up _ _ (λ _. record { handed = omega arith; sent = omega arith }) (λ _. nothing)

push_single : (p : RowInput) (opened : Option Opened) (c : Consumer) → Single (succeed_push p opened c)
push_single p None c = nothing
push_single p (Some opened) c = nothing

succeed_single : (setup : OrderedSetup) (g : ReplayInput) (p : RowInput) (info : Info) (r : Recreation) (c : Consumer) → Single (succeed_row setup g p info r c)
succeed_single (Pull setup) g p info r c = if_each Single p.up _ _ (λ _. record { handed = omega arith; sent = omega arith }) (λ _. nothing)
succeed_single (Push setup) g p info r c = push_single p r.opened c

abbrev Reads : Consumer → pull.Passed → Type 0
Reads c passed = Single (read_row passed c)

arrived_single : (message : Message) (k : Kind) (r : PullReader) (c : Consumer) → Reads c (pull.hear message k r)
arrived_single message kind.Delivered r c = message_single (readable_as message.reply) message (record (at_phase (Pulls (pull.lowered 1 message.length r)) c) { missed = false })
arrived_single message kind.IdleHeartbeat r c = nothing
arrived_single message kind.Deleted r c = nothing
arrived_single message kind.PushBased r c = record { handed = omega arith; sent = omega arith }
arrived_single message kind.Limit r c = if_each Single c.limited _ _ (λ _. record { handed = omega arith; sent = omega arith }) (λ _. nothing)
arrived_single message kind.Gone r c = nothing
arrived_single message kind.Bad r c = record { handed = omega arith; sent = omega arith }
arrived_single message (kind.Ledger messages bytes) r c = nothing

arrival_single : (p : RowInput) (arrival : Option Message) (r : PullReader) (c : Consumer) → Reads c (pull.check_arrival p arrival r)
arrival_single p None r c = nothing
arrival_single p (Some message) r c = arrived_single message (pull_kind message) (pull.with_pin message (pull.with_silence p.now r)) c

answer_single : (failures : ℕ) (says : InfoReply) (r : PullReader) (c : Consumer) → Reads c (pull.answered failures says r)
answer_single failures (says.Info info) r c = nothing
answer_single failures (says.Error code) r c = if_each (Reads c) (r.source.resilience.recreates_when_gone && pull.is_gone code) _ _ (λ _. nothing) (λ _. nothing)
answer_single failures says.Nothing r c = nothing

asked_single : (p : RowInput) (timeout : Option Timer) (failures : ℕ) (reply : Option (Option Message)) (r : PullReader) (c : Consumer) → Reads c (pull.check_asked p timeout failures reply r)
asked_single p timeout failures (Some reply) r c = nothing
asked_single p timeout failures None r c = nothing

inquiry_single : (p : RowInput) (answer : Option pull.Answer) (inquiry : InfoRequest) (r : PullReader) (c : Consumer) → Reads c (pull.check_inquiry p answer inquiry r)
inquiry_single p answer inquiries.NoInfoRequest r c = nothing
inquiry_single p answer (inquiries.Asked request timeout failures) r c = asked_single p timeout failures (pull.reply_to request answer) r c
inquiry_single p answer (inquiries.Resting wait failures) r c = nothing

begin_single : (p : RowInput) (change : Option State) (r : PullReader) (c : Consumer) → Reads c (pull.begin_row p change r)
begin_single p change r c = if_each (Reads c) r.ended _ _ (λ _. nothing)
    (λ _. if_each (Reads c) (pull.is_asking r.inquiry) _ _ (λ _. nothing) (λ _. by_change change))
  where
    by_change : (change : Option State) → Reads c (pull.begin_change p change r)
    by_change None = nothing
    by_change (Some Connected) = nothing
    by_change (Some Pending) = nothing
    by_change (Some Disconnected) = nothing

reader_single : (p : RowInput) (answer : Option pull.Answer) (arrival : Option Message) (row : PullRow) (r : PullReader) (c : Consumer) → Reads c (pull.row p answer arrival row r)
reader_single p answer arrival (read.Ask reason) r c = if_each (Reads c) p.up _ _ (λ _. record { handed = omega arith; sent = omega arith }) (λ _. record { handed = omega arith; sent = omega arith })
reader_single p answer arrival (read.Begin change) r c = begin_single p change r c
reader_single p answer arrival read.Threshold r c = if_each (Reads c) (pull.is_low r && not r.waiting) _ _ (λ _. nothing) (λ _. nothing)
reader_single p answer arrival read.Arm r c = nothing
reader_single p answer arrival (read.Inquire failures) r c = if_each (Reads c) p.up _ _ (λ _. record { handed = omega arith; sent = omega arith }) (λ _. nothing)
reader_single p answer arrival (read.FailInfoRequest failures) r c = if_each (Reads c) (nat_lt (failures + 1) 6) _ _ (λ _. nothing) (λ _. record { handed = omega arith; sent = omega arith })
reader_single p answer arrival read.CheckInfoRequest r c = inquiry_single p answer r.inquiry r c
reader_single p answer arrival (read.Answered reply failures) r c = answer_single failures (pull.info_reply reply) r c
reader_single p answer arrival read.CheckExpiry r c = nothing
reader_single p answer arrival read.CheckArrival r c = arrival_single p arrival r c
reader_single p answer arrival read.CheckSilence r c = if_each (Reads c) (is_any_due r.heartbeat_timer p.now) _ _ (λ _. if_each Single c.missed _ _ (λ _. nothing) (λ _. nothing)) (λ _. nothing)

go_on_single : (g : ReplayInput) (p : RowInput) (m : Matter) (phase : Phase) (c : Consumer) → Single (go_on g p m phase c)
go_on_single g p m Idle c = nothing
go_on_single g p m (Recreates r) c = nothing
go_on_single g p m (Pulls reader) c = reader_single p m.answer (message_on reader.source.inbox m.arrival) (read.Begin None) reader c
go_on_single g p m (Pushes inbox heartbeat_timer) c = nothing
go_on_single g p m Ended c = nothing
go_on_single g p m Exhausted c = nothing

changed_single : (g : ReplayInput) (p : RowInput) (m : Matter) (old new : State) (phase : Phase) (c : Consumer) → Single (changed g p m old new phase c)
changed_single g p m old new (Pulls reader) c = reader_single p m.answer (message_on reader.source.inbox m.arrival) (read.Begin (Some new)) reader (record c { connection = new })
changed_single g p m old new (Pushes inbox heartbeat_timer) c =
    if_both Single (is_connected old || is_connected new) _ _ nothing (go_on_single g p m (Pushes inbox heartbeat_timer) (record c { connection = new }))
changed_single g p m old new (Recreates r) c = go_on_single g p m (Recreates r) (record c { connection = new })
changed_single g p m old new Idle c = go_on_single g p m Idle (record c { connection = new })
changed_single g p m old new Ended c = go_on_single g p m Ended (record c { connection = new })
changed_single g p m old new Exhausted c = go_on_single g p m Exhausted (record c { connection = new })

watcher_single : (g : ReplayInput) (p : RowInput) (m : Matter) (setup : OrderedSetup) (c : Consumer) → Single (watcher_ended g p m setup c)
watcher_single g p m (Pull setup) c = go_on_single g p m c.phase c
watcher_single g p m (Push setup) c = record { handed = omega arith; sent = omega arith }

event_single : (g : ReplayInput) (p : RowInput) (m : Matter) (change : Change) (c : Consumer) → Single (event_change g p m change c)
event_single g p m Unchanged c = go_on_single g p m c.phase c
event_single g p m (Becomes state) c = if_both Single (same_state c.connection state) _ _ (go_on_single g p m c.phase c) (changed_single g p m c.connection state c.phase c)
event_single g p m WatcherEnds c = watcher_single g p m g.setup c

first_single : (g : ReplayInput) (p : RowInput) (m : Matter) (phase : Phase) (c : Consumer) → Single (event_row g p m phase c)
first_single g p m Ended c = nothing
first_single g p m Exhausted c = nothing
first_single g p m (Pulls reader) c = event_single g p m m.change c
first_single g p m (Pushes inbox heartbeat_timer) c = event_single g p m m.change c
first_single g p m (Recreates r) c = event_single g p m m.change c
first_single g p m Idle c = event_single g p m m.change c

beat_single : (up : Bool) (reply : Option (List ℕ)) → IsSingle (beat_answer up reply)
beat_single up None = nothing
beat_single true (Some reply) = record { handed = omega arith; sent = omega arith }
beat_single false (Some reply) = nothing

hear_single : (stalled : Bool) (p : RowInput) (message : Message) (k : PushKind) (c : Consumer) → Single (hear_kind stalled p message k c)
hear_single stalled p message Delivered c = message_single (readable_as message.reply) message c
hear_single stalled p message OtherStatus c = nothing
hear_single stalled p message Bad c = record { handed = omega arith; sent = omega arith }
hear_single stalled p message (Beat last) c = beat_single p.up (beat_subject stalled message)

pub row_single : (g : ReplayInput) (p : RowInput) (m : Matter) (row : Row) (phase : Phase) (c : Consumer) → Single (row_at g p m row phase c)
row_single g p m Event phase c = first_single g p m phase c
row_single g p m Start phase c = if_each Single (c.core.stream_sequence == pull.u64_max) _ _ (λ _. nothing) (λ _. record { handed = omega arith; sent = omega arith })
row_single g p m Try (Recreates r) c = if_each Single p.up _ _ (λ _. record { handed = omega arith; sent = omega arith }) (λ _. nothing)
row_single g p m Create (Recreates r) c = create_single g.setup p r c
row_single g p m Ask (Recreates r) c = if_each Single p.up _ _ (λ _. record { handed = omega arith; sent = omega arith }) (λ _. nothing)
row_single g p m Await (Recreates r) c = nothing
row_single g p m (Answered reply) (Recreates r) c =
    if_each IsSingle (missing_after g.settings.resilience.tells_missing_stream (pull.info_reply reply) c.stream_missing && not c.stream_missing) _ _
    (λ _. record { handed = omega arith; sent = omega arith }) (λ _. nothing)
row_single g p m Hold (Recreates r) c = nothing
row_single g p m (Succeed info) (Recreates r) c = succeed_single g.setup g p info r c
row_single g p m Fail (Recreates r) c = if_each Single (nat_lt g.settings.retries (r.failures + 1)) _ _ (λ _. record { handed = omega arith; sent = omega arith }) (λ _. nothing)
row_single g p m CheckArrival (Pushes inbox heartbeat_timer) c = nothing
row_single g p m (Hear arrival) (Pushes inbox heartbeat_timer) c =
    if_both Single (arrival.inbox == inbox) _ _ (hear_single g.settings.resilience.answers_stalled p arrival.message (push_kind arrival.message) (at_phase (Pushes inbox (armed p.now)) c)) nothing
row_single g p m CheckSilence (Pushes inbox heartbeat_timer) c = if_each Single (is_due heartbeat_timer p.now) _ _ (λ _. record { handed = omega arith; sent = omega arith }) (λ _. nothing)
row_single g p m Arm (Pushes inbox heartbeat_timer) c = nothing
row_single g p m (Read row) (Pulls reader) c = reader_single p m.answer (message_on reader.source.inbox m.arrival) row reader c
row_single g p m _ phase c = nothing
