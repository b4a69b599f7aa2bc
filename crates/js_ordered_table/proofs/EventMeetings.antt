-- A row takes from its link no more than what it asks: an event of a replay is met row by row.
use Rattle.std.proofs.Common.{◌≡◌, ℕ, Bool, true, false, List, [], Option, Some, None, refl, sym, ◌∙◌, ap}
use Rattle.std.proofs.lemmas.Bool.{eq-eqb}
use Rattle.std.specs.Prelude.{◌==◌, if◌then◌else◌}
use Rattle.js_base.specs.declared.message.Message.{Message}
use Rattle.js_base.specs.declared.clock.Timer.{Timer}
use Rattle.js_base.specs.declared.message.State.{State}
use Rattle.js_base.specs.declared.message.State.TheVariants.{Pending, Connected, Disconnected}
use Rattle.js_json.specs.declared.consumer.info.Info.{Info}
use Rattle.js_link.specs.RowInput.{RowInput}
use Rattle.js_link.specs.Wish.{row_input, message_of}
use Rattle.js_link.specs.declared.wish.Wish.TheVariants.{Reads, Awaits}
use Rattle.js_link.specs.declared.wish.Met.{Met}
use Rattle.js_link.specs.declared.wish.Wish.TheVariants as wishes
use Rattle.js_link.specs.declared.wish.Met.TheVariants as meetings
use Rattle.js_link.specs.Offer.{Offer, given, took, got}
use Rattle.js_pull.specs.declared.reader.Reader.{Reader as PullReader}
use Rattle.js_pull.specs.Reader as pull
use Rattle.js_pull.specs.declared.reader.InfoRequest.{InfoRequest}
use Rattle.js_pull.specs.declared.reader.InfoRequest.TheVariants as inquiries
use Rattle.js_pull.specs.declared.reader.Row.{Row as PullRow}
use Rattle.js_pull.specs.declared.reader.Row.TheVariants as read
use Rattle.js_pull.proofs.Wishes as pulls
use Rattle.js_ordered_table.specs.declared.consumer.Consumer.{Consumer}
use Rattle.js_ordered_table.specs.Consumer.{Matter, Change, Unchanged, Becomes, WatcherEnds, silent_row, at_phase}
use Rattle.js_ordered_table.specs.declared.consumer.Recreation.{Recreation}
use Rattle.js_ordered_table.specs.declared.consumer.Opened.{Opened}
use Rattle.js_ordered_table.specs.declared.row.Arrival.{Arrival}
use Rattle.js_ordered_table.specs.declared.row.Row.{Row}
use Rattle.js_ordered_table.specs.declared.row.Row.TheVariants.{Event, Start, Try, Create, Ask, Await, Answered, Hold, Succeed, Fail, CheckArrival, Hear, CheckSilence, Arm, Read}
use Rattle.js_ordered_table.specs.declared.consumer.ReplayInput.{ReplayInput}
use Rattle.js_ordered_table.specs.declared.consumer.Stage.{Stage}
use Rattle.js_ordered_table.specs.declared.consumer.Stage.TheVariants.{Between, Deleting, Creating, Waiting}
use Rattle.js_ordered_table.specs.declared.consumer.Phase.{Phase}
use Rattle.js_ordered_table.specs.declared.consumer.Phase.TheVariants.{Pulls, Pushes, Recreates, Idle, Ended, Exhausted}
use Rattle.js_ordered_table.specs.Recreation.{try_row, create_row, ask_row, succeed_row, succeed_push, fail_row, hold, held_in, message_on, stage_rows, created}
use Rattle.js_ordered_table.specs.Arrivals.{read_row, push_kind, beat_answer, beat_subject, hear_kind, armed}
use Rattle.js_ordered_table.specs.declared.kind.PushKind.{PushKind}
use Rattle.js_ordered_table.specs.declared.kind.PushKind.TheVariants.{Delivered, OtherStatus, Bad, Beat}
use Rattle.js_ordered_table.specs.Table.{push_rows, go_on, changed, watcher_ended, event_change, row_at, pass}
use Rattle.js_pull.specs.Poll.{same_state}
use Rattle.js_ordered_table.specs.Wishes.{awaited, opened_read, opened_dropped, create_wish, succeed_wish, beat_wish, wish_at, wish, change_of, arrival_of, matter_of, watched, givings, met_in}
use Rattle.js_ordered_table.specs.declared.setup.OrderedSetup.{OrderedSetup}
use Rattle.js_ordered_table.specs.declared.setup.OrderedSetup.TheVariants.{Pull, Push}
use Rattle.js_ordered_table.proofs.Wishes.{each, chosen}

-- a row at a phase, met by what an event brings
abbrev ReaderOutput : ReplayInput → RowInput → Matter → Row → Phase → Consumer → Type 0
ReaderOutput g p m row phase c =
    row_at g p m row phase c
    ≡ row_at g (row_input p.now (given (givings p m c.connection) (wish_at g row phase))) (matter_of (wish_at g row phase) (given (givings p m c.connection) (wish_at g row phase))) row phase c

-- ---- an event

same_as : (state : State) → same_state state state ≡ true
same_as Pending = refl
same_as Connected = refl
same_as Disconnected = refl

now_watched : (now : ℕ) (state : State) (change : Change) → now ≡ (row_input now (watched state change)).now
now_watched now state Unchanged = refl
now_watched now state (Becomes new) = refl
now_watched now state WatcherEnds = refl

go_told : (g : ReplayInput) (p q : RowInput) (m n : Matter) (phase : Phase) (c : Consumer) → go_on g p m phase c ≡ go_on g q n phase c
go_told g p q m n Idle c = refl
go_told g p q m n (Recreates r) c = refl
go_told g p q m n (Pulls reader) c = refl
go_told g p q m n (Pushes inbox heartbeat_timer) c = refl
go_told g p q m n Ended c = refl
go_told g p q m n Exhausted c = refl

changed_told : (g : ReplayInput) (p q : RowInput) (m n : Matter) → p.now ≡ q.now → (old new : State) (phase : Phase) (c : Consumer) → changed g p m old new phase c ≡ changed g q n old new phase c
changed_told g p q m n same old new (Pulls reader) c =
    ap (λ (passed : pull.Passed). read_row passed (record c { connection = new })) (pulls.begin_told p q (Some new) reader same)
changed_told g p q m n same old new (Pushes inbox heartbeat_timer) c = refl
changed_told g p q m n same old new (Recreates r) c = refl
changed_told g p q m n same old new Idle c = refl
changed_told g p q m n same old new Ended c = refl
changed_told g p q m n same old new Exhausted c = refl

ended_told : (g : ReplayInput) (p q : RowInput) (m n : Matter) (setup : OrderedSetup) (c : Consumer) → watcher_ended g p m setup c ≡ watcher_ended g q n setup c
ended_told g p q m n (Pull setup) c = go_told g p q m n c.phase c
ended_told g p q m n (Push setup) c = refl

change_told : (g : ReplayInput) (p q : RowInput) (m n : Matter) → p.now ≡ q.now → (change : Change) (c : Consumer) → event_change g p m change c ≡ event_change g q n (change_of (watched c.connection change)) c
change_told g p q m n same Unchanged c =
    go_told g p q m n c.phase c ∙ chosen (same_state c.connection c.connection) (go_on g q n c.phase c) (changed g q n c.connection c.connection c.phase c) (same_as c.connection)
change_told g p q m n same (Becomes state) c =
    each (same_state c.connection state) _ _ _ _ (go_told g p q m n c.phase c) (changed_told g p q m n same c.connection state c.phase c)
change_told g p q m n same WatcherEnds c = ended_told g p q m n g.setup c

event_told : (g : ReplayInput) (p : RowInput) (m : Matter) (phase : Phase) (c : Consumer) → ReaderOutput g p m Event phase c
event_told g p m Ended c = refl
event_told g p m Exhausted c = refl
event_told g p m (Pulls reader) c = change_told g p (row_input p.now (watched c.connection m.change)) m (matter_of wishes.Watches (watched c.connection m.change)) (now_watched p.now c.connection m.change) m.change c
event_told g p m (Pushes inbox heartbeat_timer) c = change_told g p (row_input p.now (watched c.connection m.change)) m (matter_of wishes.Watches (watched c.connection m.change)) (now_watched p.now c.connection m.change) m.change c
event_told g p m (Recreates r) c = change_told g p (row_input p.now (watched c.connection m.change)) m (matter_of wishes.Watches (watched c.connection m.change)) (now_watched p.now c.connection m.change) m.change c
event_told g p m Idle c = change_told g p (row_input p.now (watched c.connection m.change)) m (matter_of wishes.Watches (watched c.connection m.change)) (now_watched p.now c.connection m.change) m.change c

-- ---- sends

try_told : (g : ReplayInput) (now : ℕ) (up : Bool) (request inbox : ℕ) (subject : List ℕ) (m : Matter) (state : State) (p : RowInput) → p ≡ record { now = now; up = up; request = request; inbox = inbox; subject = subject }
    → (r : Recreation) (c : Consumer) → try_row g p r c ≡ try_row g (row_input p.now (given (givings p m state) (wish_at g Try (Recreates r)))) r c
try_told g now true request inbox subject m state p is r c = rw is refl
try_told g now false request inbox subject m state p is r c = rw is refl

ask_told : (g : ReplayInput) (now : ℕ) (up : Bool) (request inbox : ℕ) (subject : List ℕ) (m : Matter) (state : State) (p : RowInput) → p ≡ record { now = now; up = up; request = request; inbox = inbox; subject = subject }
    → (r : Recreation) (c : Consumer) → ask_row g p r c ≡ ask_row g (row_input p.now (given (givings p m state) (wish_at g Ask (Recreates r)))) r c
ask_told g now true request inbox subject m state p is r c = rw is refl
ask_told g now false request inbox subject m state p is r c = rw is refl

create_told : (setup : OrderedSetup) (now : ℕ) (up : Bool) (request inbox : ℕ) (subject : List ℕ) (m : Matter) (state : State) (p : RowInput) → p ≡ record { now = now; up = up; request = request; inbox = inbox; subject = subject }
    → (r : Recreation) (c : Consumer) → create_row setup p r c ≡ create_row setup (row_input p.now (given (givings p m state) (create_wish setup))) r c
create_told (Pull setup) now up request inbox subject m state p is r c = refl
create_told (Push setup) now true request inbox subject m state p is r c = rw is refl
create_told (Push setup) now false request inbox subject m state p is r c = rw is refl

push_told : (p q : RowInput) (opened : Option Opened) (c : Consumer) → p.now ≡ q.now → succeed_push p opened c ≡ succeed_push q opened c
push_told p q None c same = refl
push_told p q (Some opened) c same = rw same refl

succeed_told : (setup : OrderedSetup) (g : ReplayInput) (now : ℕ) (up : Bool) (request inbox : ℕ) (subject : List ℕ) (m : Matter) (state : State) (p : RowInput) → p ≡ record { now = now; up = up; request = request; inbox = inbox; subject = subject }
    → (info : Info) (r : Recreation) (c : Consumer) → succeed_row setup g p info r c ≡ succeed_row setup g (row_input p.now (given (givings p m state) (succeed_wish setup))) info r c
succeed_told (Pull setup) g now true request inbox subject m state p is info r c = rw is refl
succeed_told (Pull setup) g now false request inbox subject m state p is info r c = rw is refl
succeed_told (Push setup) g now up request inbox subject m state p is info r c = push_told p (row_input p.now meetings.Unasked) r.opened c refl

now_dropped : (now : ℕ) (x : Offer) (opened : Option Opened) → now ≡ (row_input now (given x (opened_dropped opened))).now
now_dropped now x None = refl
now_dropped now x (Some opened) = refl

fail_told : (g : ReplayInput) (p q : RowInput) (r : Recreation) (c : Consumer) → p.now ≡ q.now → fail_row g p r c ≡ fail_row g q r c
fail_told g p q r c same = rw same refl

-- ---- what is waited for

deleting_told : (g : ReplayInput) (p q : RowInput) (m n : Matter) (request : ℕ) (timeout : Timer) → p.now ≡ q.now → pull.reply_to request m.answer ≡ pull.reply_to request n.answer
    → stage_rows g p m (Deleting request timeout) ≡ stage_rows g q n (Deleting request timeout)
deleting_told g p q m n request timeout same is = rw is (rw same refl)

created_told : (g : ReplayInput) (p q : RowInput) (timeout : Timer) (o u : Option (Option Message)) → p.now ≡ q.now → o ≡ u → created g p timeout o ≡ created g q timeout u
created_told g p q timeout o u same is = ap (λ (o : Option (Option Message)). created g p timeout o) is ∙ by_reply u
  where
    by_reply : (u : Option (Option Message)) → created g p timeout u ≡ created g q timeout u
    by_reply None = rw same refl
    by_reply (Some reply) = refl

await_told : (g : ReplayInput) (p : RowInput) (m : Matter) (x : Offer) → ((request : ℕ) → x.answers request ≡ pull.reply_to request m.answer) → (stage : Stage)
    → stage_rows g p m stage ≡ stage_rows g (row_input p.now (given x (awaited stage))) (matter_of (awaited stage) (given x (awaited stage))) stage
await_told g p m x answers Between = refl
await_told g p m x answers (Deleting request timeout) =
    deleting_told g p (row_input p.now (got (x.answers request))) m (matter_of (Awaits request) (got (x.answers request))) request timeout
    (sym (pulls.now_kept p.now (x.answers request))) (sym (answers request) ∙ sym (pulls.reply_told request (x.answers request)))
await_told g p m x answers (Creating request timeout) =
    created_told g p (row_input p.now (got (x.answers request))) timeout (pull.reply_to request m.answer) (pull.reply_to request (pull.answer_of (Awaits request) (got (x.answers request))))
    (sym (pulls.now_kept p.now (x.answers request))) (sym (answers request) ∙ sym (pulls.reply_told request (x.answers request)))
await_told g p m x answers (Waiting wait) = refl

-- ---- what arrives

-- the message on an inbox, told again
message_told : (inbox : ℕ) (o : Option Message) → message_on inbox (arrival_of (Reads inbox) (took o)) ≡ o
message_told inbox None = refl
message_told inbox (Some message) = rw (eq-eqb inbox inbox refl) refl

hold_told : (x : Offer) (arrival : Option Arrival) → ((inbox : ℕ) → x.arrivals inbox ≡ message_on inbox arrival) → (opened : Option Opened)
    → held_in arrival opened ≡ held_in (arrival_of (opened_read opened) (given x (opened_read opened))) opened
hold_told x arrival arrivals None = refl
hold_told x arrival arrivals (Some opened) =
    ap (λ (o : Option Message). Some (hold o opened)) (sym (arrivals opened.inbox) ∙ sym (message_told opened.inbox (x.arrivals opened.inbox)))

beat_told : (now : ℕ) (up : Bool) (request inbox : ℕ) (subject : List ℕ) (m : Matter) (state : State) (p : RowInput) → p ≡ record { now = now; up = up; request = request; inbox = inbox; subject = subject }
    → (last : Option ℕ) (reply : Option (List ℕ)) → beat_answer p.up reply ≡ beat_answer (row_input p.now (given (givings p m state) (beat_wish (Beat last) reply))).up reply
beat_told now up request inbox subject m state p is last None = refl
beat_told now true request inbox subject m state p is last (Some reply) = rw is refl
beat_told now false request inbox subject m state p is last (Some reply) = rw is refl

beat_now : (p : RowInput) (x : Offer) (kind : PushKind) (reply : Option (List ℕ)) → p.now ≡ (row_input p.now (given x (beat_wish kind reply))).now
beat_now p x Delivered reply = refl
beat_now p x OtherStatus reply = refl
beat_now p x Bad reply = refl
beat_now p x (Beat last) None = refl
beat_now p x (Beat last) (Some reply) = by_up x.passing.up
  where
    by_up : (up : Bool) → p.now ≡ (row_input p.now (if up then meetings.GoneOut else meetings.Refused)).now
    by_up true = refl
    by_up false = refl

kind_told : (stalled : Bool) (p q : RowInput) (message : Message) (kind : PushKind) (c : Consumer) → beat_answer p.up (beat_subject stalled message) ≡ beat_answer q.up (beat_subject stalled message)
    → hear_kind stalled p message kind c ≡ hear_kind stalled q message kind c
kind_told stalled p q message Delivered c is = refl
kind_told stalled p q message OtherStatus c is = refl
kind_told stalled p q message Bad c is = refl
kind_told stalled p q message (Beat last) c is = rw is refl

kind_by : (stalled : Bool) (m : Matter) (state : State) (p : RowInput) (message : Message) (kind : PushKind) (c : Consumer)
    → hear_kind stalled p message kind c ≡ hear_kind stalled (row_input p.now (given (givings p m state) (beat_wish kind (beat_subject stalled message)))) message kind c
kind_by stalled m state p message Delivered c = refl
kind_by stalled m state p message OtherStatus c = refl
kind_by stalled m state p message Bad c = refl
kind_by stalled m state p message (Beat last) c =
    kind_told stalled p (row_input p.now (given (givings p m state) (beat_wish (Beat last) (beat_subject stalled message)))) message (Beat last) c
    (beat_told p.now p.up p.request p.inbox p.subject m state p refl last (beat_subject stalled message))

hear_told : (stalled b : Bool) (m : Matter) (state : State) (p : RowInput) (inbox : ℕ) (message : Message) (kind : PushKind) (c : Consumer)
    → (if b then hear_kind stalled p message kind (at_phase (Pushes inbox (armed p.now)) c) else silent_row c [])
    ≡ (if b
    then hear_kind stalled (row_input p.now (given (givings p m state) (if b then beat_wish kind (beat_subject stalled message) else wishes.Nothing))) message kind
    (at_phase (Pushes inbox (armed (row_input p.now (given (givings p m state) (if b then beat_wish kind (beat_subject stalled message) else wishes.Nothing))).now)) c)
    else silent_row c [])
hear_told stalled false m state p inbox message kind c = refl
hear_told stalled true m state p inbox message kind c =
    kind_by stalled m state p message kind (at_phase (Pushes inbox (armed p.now)) c)
    ∙ ap (λ (now : ℕ). hear_kind stalled (row_input p.now (given (givings p m state) (beat_wish kind (beat_subject stalled message)))) message kind (at_phase (Pushes inbox (armed now)) c))
    (beat_now p (givings p m state) kind (beat_subject stalled message))

-- ---- the reader

arrival_same : (x : Offer) (row : PullRow) (r : PullReader)
    → message_on r.source.inbox (arrival_of (pull.wish row r) (given x (pull.wish row r))) ≡ message_of (given x (pull.wish row r))
arrival_same x (read.Begin change) r = refl
arrival_same x (read.Ask reason) r = by_up x.passing.up
  where
    by_up : (up : Bool) → None ≡ message_of (if up then meetings.GoneOut else meetings.Refused)
    by_up true = refl
    by_up false = refl
arrival_same x read.Threshold r = refl
arrival_same x read.Arm r = refl
arrival_same x (read.Inquire failures) r = by_up x.passing.up
  where
    by_up : (up : Bool) → None ≡ message_of (if up then meetings.Requested x.passing.request else meetings.Refused)
    by_up true = refl
    by_up false = refl
arrival_same x (read.FailInfoRequest failures) r = refl
arrival_same x read.CheckInfoRequest r = by_inquiry r.inquiry
  where
    by_reply : (o : Option (Option Message)) → None ≡ message_of (got o)
    by_reply None = refl
    by_reply (Some None) = refl
    by_reply (Some (Some reply)) = refl

    by_inquiry : (inquiry : InfoRequest) → message_on r.source.inbox (arrival_of (pull.awaited inquiry) (given x (pull.awaited inquiry))) ≡ message_of (given x (pull.awaited inquiry))
    by_inquiry inquiries.NoInfoRequest = refl
    by_inquiry (inquiries.Asked request timeout failures) = by_reply (x.answers request)
    by_inquiry (inquiries.Resting wait failures) = refl
arrival_same x (read.Answered reply failures) r = refl
arrival_same x read.CheckExpiry r = refl
arrival_same x read.CheckArrival r = by_message (x.arrivals r.source.inbox)
  where
    by_message : (o : Option Message) → message_on r.source.inbox (arrival_of (Reads r.source.inbox) (took o)) ≡ message_of (took o)
    by_message None = refl
    by_message (Some message) = message_told r.source.inbox (Some message)
arrival_same x read.CheckSilence r = refl

reader_told : (g : ReplayInput) (p : RowInput) (m : Matter) (row : PullRow) (reader : PullReader) (c : Consumer) → ReaderOutput g p m (Read row) (Pulls reader) c
reader_told g p m row reader c =
    let x : Offer = givings p m c.connection in
    let met : Met = given x (pull.wish row reader) in
    ap (λ (passed : pull.Passed). read_row passed c)
    (pulls.row_told x m.answer (λ request. refl) row reader
    ∙ ap (λ (o : Option Message). pull.row (row_input p.now met) (pull.answer_of (pull.wish row reader) met) o row reader) (sym (arrival_same x row reader)))

-- ---- every row

row_told : (g : ReplayInput) (p : RowInput) (m : Matter) (row : Row) (phase : Phase) (c : Consumer) → ReaderOutput g p m row phase c
row_told g p m Event phase c = event_told g p m phase c
row_told g p m Start phase c = refl
row_told g p m Try (Recreates r) c = try_told g p.now p.up p.request p.inbox p.subject m c.connection p refl r c
row_told g p m Create (Recreates r) c = create_told g.setup p.now p.up p.request p.inbox p.subject m c.connection p refl r c
row_told g p m Ask (Recreates r) c = ask_told g p.now p.up p.request p.inbox p.subject m c.connection p refl r c
row_told g p m Await (Recreates r) c = ap (λ (rows : List Row). silent_row c rows) (await_told g p m (givings p m c.connection) (λ request. refl) r.stage)
row_told g p m (Answered reply) (Recreates r) c = refl
row_told g p m Hold (Recreates r) c =
    ap (λ (opened : Option Opened). silent_row (at_phase (Recreates (record r { opened = opened })) c) []) (hold_told (givings p m c.connection) m.arrival (λ inbox. refl) r.opened)
row_told g p m (Succeed info) (Recreates r) c = succeed_told g.setup g p.now p.up p.request p.inbox p.subject m c.connection p refl info r c
row_told g p m Fail (Recreates r) c = fail_told g p (row_input p.now (given (givings p m c.connection) (opened_dropped r.opened))) r c (now_dropped p.now (givings p m c.connection) r.opened)
row_told g p m CheckArrival (Pushes inbox heartbeat_timer) c =
    ap (λ (o : Option Message). silent_row c (push_rows inbox o)) (sym (message_told inbox (message_on inbox m.arrival)))
row_told g p m (Hear arrival) (Pushes inbox heartbeat_timer) c = hear_told g.settings.resilience.answers_stalled (arrival.inbox == inbox) m c.connection p inbox arrival.message (push_kind arrival.message) c
row_told g p m CheckSilence (Pushes inbox heartbeat_timer) c = refl
row_told g p m Arm (Pushes inbox heartbeat_timer) c = refl
row_told g p m (Read row) (Pulls reader) c = reader_told g p m row reader c
row_told g p m _ phase c = refl

-- a row of a replay is passed as by what it meets when it asks for its one thing
pub pass_told : (g : ReplayInput) (p : RowInput) (m : Matter) (row : Row) (c : Consumer)
    → pass g p m row c ≡ pass g (row_input p.now (met_in g p m row c)) (matter_of (wish g row c) (met_in g p m row c)) row c
pass_told g p m row c = row_told g p m row c.phase c
