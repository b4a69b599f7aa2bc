-- The turns that may follow in a poll, and what a row does to them.
use Rattle.std.proofs.Common.{◌≡◌, ℕ, ◌+◌, ◌*◌, ◌≤◌, Bool, true, false, List, [], ◌∷◌, ◌++◌, map, Option, Some, None, refl, sym, ap, ◌∙◌, subst, arith}
use Rattle.std.specs.Prelude.{⊤, ◌&&◌, ◌||◌, ◌==◌, cond, is_some, nat_lt, not, option_map}
use Rattle.js_base.specs.Clock.{is_due}
use Rattle.js_base.specs.declared.clock.Timer.{Timer}
use Rattle.js_base.specs.declared.message.Message.{Message}
use Rattle.js_base.specs.declared.message.State.{State}
use Rattle.js_json.specs.declared.consumer.info.Info.{Info}
use Rattle.js_link.specs.LinkView.{LinkView, put}
use Rattle.js_link.specs.Meets.{Meets}
use Rattle.js_link.specs.RowInput.{RowInput}
use Rattle.js_link.specs.Wish.{message_of, row_input}
use Rattle.js_link.specs.declared.wish.Met.{Met}
use Rattle.js_link.specs.declared.wish.Met.TheVariants.{Unasked, GoneOut, Refused, Dropped, Requested, Opened, Empty, Shut, Took, Waiting, Gone, Got, Stands, WatchOver}
use Rattle.js_link.specs.declared.wish.Wish.{Wish}
use Rattle.js_link.specs.declared.wish.Wish.TheVariants.{Nothing, OpensInbox, Watches, Publishes, Requests, Drops, Reads, Awaits}
use Rattle.js_link.proofs.Updates.{put_here}
use Rattle.js_pull.specs.Poll.{same_state}
use Rattle.js_pull.specs.Reader as pull
use Rattle.js_pull.specs.declared.reader.InfoRequest.{InfoRequest}
use Rattle.js_pull.specs.declared.reader.InfoRequest.TheVariants as inquiries
use Rattle.js_pull.specs.declared.reader.MessagesErrorKind.TheVariants as error
use Rattle.js_pull.specs.declared.reader.PullSource.{PullSource}
use Rattle.js_pull.specs.declared.reader.Reader.{Reader as PullReader}
use Rattle.js_pull.specs.declared.reader.ReaderOutput.{ReaderOutput as PullTold}
use Rattle.js_pull.specs.declared.reader.ReaderOutput.TheVariants as tells
use Rattle.js_pull.specs.declared.reader.Row.{Row as PullRow}
use Rattle.js_pull.specs.declared.reader.Row.TheVariants as read
use Rattle.js_message.specs.AckSubject.{Place, readable_as}
use Rattle.js_ordered_table.specs.Arrivals.{armed, hear_kind, hear_row, message_row, push_kind, read_row, silence_row, told, beat_subject}
use Rattle.js_ordered_table.specs.Consumer.{Matter, Change, Unchanged, Becomes, WatcherEnds, Passed, at_phase, silent_row}
use Rattle.js_ordered_table.specs.Fold.{rank}
use Rattle.js_ordered_table.specs.Poll.{has_started, is_reading, poll_wish_at}
use Rattle.js_ordered_table.specs.Recreation.{ask_row, create_row, fail_row, held_in, message_on, stage_rows, start_row, succeed_push, succeed_row, try_row, answered_row}
use Rattle.js_ordered_table.specs.Table.{changed, event_change, event_row, go_on, is_connected, push_rows, row_at, watcher_ended}
use Rattle.js_ordered_table.specs.Wishes.{awaited, beat_wish, create_wish, matter_of, opened_dropped, succeed_wish}
use Rattle.js_ordered_table.specs.declared.consumer.Consumer.{Consumer}
use Rattle.js_ordered_table.specs.declared.consumer.Opened.{Opened as OpenedInbox}
use Rattle.js_ordered_table.specs.declared.consumer.Phase.{Phase}
use Rattle.js_ordered_table.specs.declared.consumer.Phase.TheVariants.{Pulls, Pushes, Recreates, Idle, Ended, Exhausted}
use Rattle.js_ordered_table.specs.declared.consumer.Recreation.{Recreation}
use Rattle.js_ordered_table.specs.declared.consumer.ReplayInput.{ReplayInput}
use Rattle.js_ordered_table.specs.declared.consumer.Stage.{Stage}
use Rattle.js_ordered_table.specs.declared.consumer.Stage.TheVariants.{Between, Deleting, Creating, Waiting as Resting}
use Rattle.js_ordered_table.specs.declared.kind.PushKind.{PushKind}
use Rattle.js_ordered_table.specs.declared.kind.PushKind.TheVariants.{Delivered, OtherStatus, Bad, Beat}
use Rattle.js_ordered_table.specs.declared.row.Arrival.{Arrival}
use Rattle.js_ordered_table.specs.declared.row.Row.{Row}
use Rattle.js_ordered_table.specs.declared.row.Row.TheVariants.{Event, Start, Try, Create, Ask, Await, Answered, Hold, Succeed, Fail, CheckArrival, Hear, CheckSilence, Arm, Read}
use Rattle.js_ordered_table.specs.declared.setup.OrderedSetup.{OrderedSetup}
use Rattle.js_ordered_table.specs.declared.setup.OrderedSetup.TheVariants.{Pull, Push}
use Rattle.js_ordered_table.proofs.Ranks.{AreBelow}
use Rattle.js_ordered_table.proofs.Rewritten.{if_both, if_each}
use Rattle.js_ordered_table.proofs.RowInvariant.{row_read}
use Rattle.js_ordered_stream.specs.Polled.{is_bare, is_early, is_none_held, is_plain, is_push}
use Rattle.js_ordered_stream.proofs.FollowingRows.{AreDeaf}
use Rattle.js_ordered_stream.proofs.PassedRows.{and_right, none_held}
use Rattle.js_ordered_stream.proofs.RowMet.{IsOther, opened_other, untaken}

false_true : false ≡ true → ⊥
false_true e = cc

-- ---- the messages that are left

put_less : (f : ℕ → ℕ) (place i : ℕ) → put f place 0 i ≤ f i
put_less f place i = by_test (i == place)
  where
    by_test : (b : Bool) → cond b 0 (f i) ≤ f i
    by_test true = omega arith
    by_test false = omega arith

-- no inbox has more, whatever a row asks that reads none
counts_fall : (wish : Wish) (met : Met) (v u : LinkView) → IsOther wish → Meets wish met v u → (i : ℕ) → u.count i ≤ v.count i
counts_fall Nothing Unasked v u other m i = rw m (omega arith)
counts_fall (Publishes subject reply payload) GoneOut v u other m i = rw m.same (omega arith)
counts_fall (Publishes subject reply payload) Refused v u other m i = rw m.fails.same (omega arith)
counts_fall (Requests subject payload) (Requested request) v u other m i = rw m.same (omega arith)
counts_fall (Requests subject payload) Refused v u other m i = rw m.fails.same (omega arith)
counts_fall OpensInbox (Opened inbox subject) v u other m i = rw m.opens.same (put_less v.count inbox i)
counts_fall OpensInbox Refused v u other m i = rw m.fails.same (omega arith)
counts_fall (Drops inbox) Dropped v u other m i = rw m.same (put_less v.count inbox i)
counts_fall (Awaits request) (Got reply) v u other m i = rw m.same (omega arith)
counts_fall (Awaits request) Gone v u other m i = rw m.0 (omega arith)
counts_fall (Awaits request) Waiting v u other m i = rw m.0 (omega arith)
counts_fall Watches (Stands state) v u other m i = rw m.0 (omega arith)
counts_fall Watches WatchOver v u other m i = rw m.0 (omega arith)
counts_fall (Reads inbox) met v u other m i = absurd other
counts_fall wish met v u other m i = absurd m

abbrev pub number : Bool → ℕ
number true = 1
number false = 0

abbrev pub taken : Met → ℕ
taken met = number (is_some (message_of met))

-- with the one that was taken, an inbox that is read had as many
reads_fall : (inbox : ℕ) (met : Met) (v u : LinkView) → Meets (Reads inbox) met v u → u.count inbox + taken met ≤ v.count inbox
reads_fall inbox (Took message) v u m = omega (arith, m.one_less)
reads_fall inbox Empty v u m = rw m.0 (omega arith)
reads_fall inbox Shut v u m = rw m.0 (omega arith)
reads_fall inbox met v u m = absurd m

-- an inbox that was opened has none
opened_none : (inbox : ℕ) (subject : List ℕ) (v u : LinkView) → Meets OpensInbox (Opened inbox subject) v u → u.count inbox ≡ 0
opened_none inbox subject v u m = ap (λ (w : LinkView). w.count inbox) m.opens.same ∙ put_here v.count inbox 0

-- ---- the turns that may follow

-- two for each message in an inbox that is open for a create
abbrev opened_turns : LinkView → Option OpenedInbox → ℕ
opened_turns v None = 0
opened_turns v (Some opened) = 2 * v.count opened.inbox

-- a reader has two for each message in its inbox, and a recreation has one more, which starts its reader
abbrev pub turns_left : LinkView → Phase → ℕ
turns_left v (Pulls reader) = 2 * v.count reader.source.inbox
turns_left v (Pushes inbox heartbeat_timer) = 2 * v.count inbox
turns_left v (Recreates r) = 1 + opened_turns v r.opened
turns_left v phase = 0

opened_fall : (v u : LinkView) → ((i : ℕ) → u.count i ≤ v.count i) → (opened : Option OpenedInbox) → opened_turns u opened ≤ opened_turns v opened
opened_fall v u fall None = omega arith
opened_fall v u fall (Some opened) = let less = fall opened.inbox in omega (arith, less)

turns_fall : (v u : LinkView) → ((i : ℕ) → u.count i ≤ v.count i) → (phase : Phase) → turns_left u phase ≤ turns_left v phase
turns_fall v u fall (Pulls reader) = let less = fall reader.source.inbox in omega (arith, less)
turns_fall v u fall (Pushes inbox heartbeat_timer) = let less = fall inbox in omega (arith, less)
turns_fall v u fall (Recreates r) = let less = opened_fall v u fall r.opened in omega (arith, less)
turns_fall v u fall Idle = omega arith
turns_fall v u fall Ended = omega arith
turns_fall v u fall Exhausted = omega arith

-- a phase after another one has as few turns, and starts no reader
record Stays (v : LinkView) (before after : Phase) : Type 0 where
  lower : turns_left v after ≤ turns_left v before
  unstarted : has_started before after ≡ false

unstarted_same : (phase : Phase) → has_started phase phase ≡ false
unstarted_same (Pulls reader) = refl
unstarted_same (Pushes inbox heartbeat_timer) = refl
unstarted_same (Recreates r) = refl
unstarted_same Idle = refl
unstarted_same Ended = refl
unstarted_same Exhausted = refl

stays_same : (v : LinkView) (before after : Phase) → after ≡ before → Stays v before after
stays_same v before after is = subst (λ (x : Phase). Stays v before x) (sym is) (record { lower = omega arith; unstarted = unstarted_same before })

pub and_false : (b : Bool) → (b && false) ≡ false
and_false true = refl
and_false false = refl

stays_ended : (v : LinkView) (before : Phase) → Stays v before Ended
stays_ended v before = record { lower = omega arith; unstarted = and_false (not (is_reading before)) }

-- ---- a reader

message_lower : (v : LinkView) (place : Option Place) (message : Message) (c : Consumer) → turns_left v (message_row place message c).consumer.phase ≤ turns_left v c.phase
message_lower v None message c = omega arith
message_lower v (Some place) message c =
    if_each (λ (passed : Passed). turns_left v passed.consumer.phase ≤ turns_left v c.phase) (place.number == c.core.consumer_sequence + 1) _ _ (λ _. omega arith) (λ _. omega arith)

told_lower : (v : LinkView) (t : PullTold) (c : Consumer) → turns_left v (told t c).consumer.phase ≤ turns_left v c.phase
told_lower v tells.Nothing c = omega arith
told_lower v (tells.Hands message) c = message_lower v (readable_as message.reply) message (record c { missed = false })
told_lower v (tells.Tells error.ConsumerDeleted) c = omega arith
told_lower v (tells.Tells error.NoResponders) c = omega arith
told_lower v (tells.Tells error.PushBasedConsumer) c = omega arith
told_lower v (tells.Tells error.RequestLimitExceeded) c = if_each (λ (passed : Passed). turns_left v passed.consumer.phase ≤ turns_left v c.phase) c.limited _ _ (λ _. omega arith) (λ _. omega arith)
told_lower v (tells.Tells error.MissingHeartbeat) c = if_each (λ (passed : Passed). turns_left v passed.consumer.phase ≤ turns_left v c.phase) c.missed _ _ (λ _. omega arith) (λ _. omega arith)
told_lower v (tells.Tells error.Pull) c = omega arith
told_lower v (tells.Tells error.Other) c = omega arith

read_lower : (v : LinkView) (passed : pull.Passed) (reader : PullReader) (c : Consumer) → passed.reader.source ≡ reader.source → turns_left v (read_row passed c).consumer.phase ≤ 2 * v.count reader.source.inbox
read_lower v passed reader c same =
    let lower = told_lower v passed.told (at_phase (Pulls passed.reader) c) in
    let count : v.count passed.reader.source.inbox ≡ v.count reader.source.inbox = ap (λ (s : PullSource). v.count s.inbox) same in
    omega (arith, lower, count)

-- ---- an event

begin_stays : (v : LinkView) (p : RowInput) (m : Matter) (change : Option State) (reader : PullReader) (c : Consumer)
    → Stays v (Pulls reader) (read_row (pull.row p m.answer (message_on reader.source.inbox m.arrival) (read.Begin change) reader) c).consumer.phase
begin_stays v p m change reader c = record {
  lower = read_lower v (pull.row p m.answer (message_on reader.source.inbox m.arrival) (read.Begin change) reader) reader c (row_read p m.answer (message_on reader.source.inbox m.arrival) (read.Begin change) reader).source;
  unstarted = refl;
}

go_on_stays : (v : LinkView) (g : ReplayInput) (p : RowInput) (m : Matter) (phase : Phase) (c : Consumer) → c.phase ≡ phase → Stays v phase (go_on g p m phase c).consumer.phase
go_on_stays v g p m (Pulls reader) c is = begin_stays v p m None reader c
go_on_stays v g p m (Pushes inbox heartbeat_timer) c is = stays_same v (Pushes inbox heartbeat_timer) c.phase is
go_on_stays v g p m (Recreates r) c is = stays_same v (Recreates r) c.phase is
go_on_stays v g p m Idle c is = stays_same v Idle c.phase is
go_on_stays v g p m Ended c is = stays_same v Ended c.phase is
go_on_stays v g p m Exhausted c is = stays_same v Exhausted c.phase is

changed_stays : (v : LinkView) (g : ReplayInput) (p : RowInput) (m : Matter) (old new : State) (phase : Phase) (c : Consumer) → c.phase ≡ phase → Stays v phase (changed g p m old new phase c).consumer.phase
changed_stays v g p m old new (Pulls reader) c is = begin_stays v p m (Some new) reader (record c { connection = new })
changed_stays v g p m old new (Pushes inbox heartbeat_timer) c is =
    if_both (λ (passed : Passed). Stays v (Pushes inbox heartbeat_timer) passed.consumer.phase) (is_connected old || is_connected new) _ _
    (stays_same v (Pushes inbox heartbeat_timer) c.phase is) (stays_same v (Pushes inbox heartbeat_timer) c.phase is)
changed_stays v g p m old new (Recreates r) c is = stays_same v (Recreates r) c.phase is
changed_stays v g p m old new Idle c is = stays_same v Idle c.phase is
changed_stays v g p m old new Ended c is = stays_same v Ended c.phase is
changed_stays v g p m old new Exhausted c is = stays_same v Exhausted c.phase is

watcher_stays : (v : LinkView) (g : ReplayInput) (p : RowInput) (m : Matter) (setup : OrderedSetup) (c : Consumer) → Stays v c.phase (watcher_ended g p m setup c).consumer.phase
watcher_stays v g p m (Pull setup) c = go_on_stays v g p m c.phase c refl
watcher_stays v g p m (Push setup) c = stays_ended v c.phase

change_stays : (v : LinkView) (g : ReplayInput) (p : RowInput) (m : Matter) (change : Change) (c : Consumer) → Stays v c.phase (event_change g p m change c).consumer.phase
change_stays v g p m Unchanged c = go_on_stays v g p m c.phase c refl
change_stays v g p m (Becomes state) c =
    if_both (λ (passed : Passed). Stays v c.phase passed.consumer.phase) (same_state c.connection state) _ _ (go_on_stays v g p m c.phase c refl) (changed_stays v g p m c.connection state c.phase c refl)
change_stays v g p m WatcherEnds c = watcher_stays v g p m g.setup c

event_stays : (v : LinkView) (g : ReplayInput) (p : RowInput) (m : Matter) (phase : Phase) (c : Consumer) → c.phase ≡ phase → Stays v phase (event_row g p m phase c).consumer.phase
event_stays v g p m Ended c is = stays_same v Ended c.phase is
event_stays v g p m Exhausted c is = stays_same v Exhausted c.phase is
event_stays v g p m (Pulls reader) c is = subst (λ (x : Phase). Stays v x (event_change g p m m.change c).consumer.phase) is (change_stays v g p m m.change c)
event_stays v g p m (Pushes inbox heartbeat_timer) c is = subst (λ (x : Phase). Stays v x (event_change g p m m.change c).consumer.phase) is (change_stays v g p m m.change c)
event_stays v g p m (Recreates r) c is = subst (λ (x : Phase). Stays v x (event_change g p m m.change c).consumer.phase) is (change_stays v g p m m.change c)
event_stays v g p m Idle c is = subst (λ (x : Phase). Stays v x (event_change g p m m.change c).consumer.phase) is (change_stays v g p m m.change c)

event_other : (g : ReplayInput) (phase : Phase) → IsOther (poll_wish_at g Event phase)
event_other g (Pulls reader) = tt
event_other g (Pushes inbox heartbeat_timer) = tt
event_other g (Recreates r) = tt
event_other g Idle = tt
event_other g Ended = tt
event_other g Exhausted = tt

-- ---- what a row does to the turns

-- how many follow at most, and which row takes a message or starts a reader
pub record Effect (v u : LinkView) (met : Met) (row : Row) (before : Phase) (passed : Passed) : Type 0 where
  pub fewer : turns_left u passed.consumer.phase + 2 * taken met + number (has_started before passed.consumer.phase) ≤ turns_left v before
  pub taker : is_some (message_of met) ≡ true → rank row ≡ 6
  pub starter : has_started before passed.consumer.phase ≡ true → (rank row ≡ 6) × AreBelow 4 passed.next × (is_early row ≡ false)

-- where it takes none, and starts none
stays_effect : (wish : Wish) (met : Met) (v u : LinkView) (row : Row) (before : Phase) (passed : Passed) → IsOther wish → Meets wish met v u → Stays v before passed.consumer.phase → Effect v u met row before passed
stays_effect wish met v u row before passed other m stays =
    let none : message_of met ≡ None = (untaken wish met v u other m).message in
    let zero_taken : taken met ≡ 0 = ap (λ (o : Option Message). number (is_some o)) none in
    let unstarted : number (has_started before passed.consumer.phase) ≡ 0 = ap number stays.unstarted in
    let falls = turns_fall v u (counts_fall wish met v u other m) passed.consumer.phase in
    let lower = stays.lower in
    record {
      fewer = omega (arith, zero_taken, unstarted, falls, lower);
      taker = λ e. absurd (false_true (ap (λ (o : Option Message). is_some o) (sym none) ∙ e));
      starter = λ e. absurd (false_true (sym stays.unstarted ∙ e));
    }

-- where it looks into the inbox of its reader
look_effect : (inbox : ℕ) (met : Met) (v u : LinkView) (row : Row) (before : Phase) (passed : Passed) → Meets (Reads inbox) met v u → rank row ≡ 6 → turns_left v before ≡ 2 * v.count inbox
    → turns_left u passed.consumer.phase ≤ 2 * u.count inbox → is_reading before ≡ true → Effect v u met row before passed
look_effect inbox met v u row before passed m six had lower reads =
    let unstarted : has_started before passed.consumer.phase ≡ false = ap (λ (b : Bool). not b && is_reading passed.consumer.phase) reads in
    let none : number (has_started before passed.consumer.phase) ≡ 0 = ap number unstarted in
    let falls = reads_fall inbox met v u m in
    record { fewer = omega (arith, none, falls, had, lower); taker = λ e. six; starter = λ e. absurd (false_true (sym unstarted ∙ e)) }

-- ---- each row

beat_other : (kind : PushKind) (reply : Option (List ℕ)) → IsOther (beat_wish kind reply)
beat_other (Beat last) (Some reply) = tt
beat_other (Beat last) None = tt
beat_other Delivered reply = tt
beat_other Bad reply = tt
beat_other OtherStatus reply = tt

kind_stays : (v : LinkView) (stalled : Bool) (p : RowInput) (message : Message) (kind : PushKind) (c : Consumer) → turns_left v (hear_kind stalled p message kind c).consumer.phase ≤ turns_left v c.phase
kind_stays v stalled p message Delivered c = message_lower v (readable_as message.reply) message c
kind_stays v stalled p message (Beat last) c = omega arith
kind_stays v stalled p message Bad c = omega arith
kind_stays v stalled p message OtherStatus c = omega arith

hear_effect : (g : ReplayInput) (now inbox : ℕ) (timer : Timer) (arrival : Arrival) (met : Met) (v u : LinkView) (c : Consumer) → c.phase ≡ Pushes inbox timer → Meets (poll_wish_at g (Hear arrival) (Pushes inbox timer)) met v u
    → Effect v u met (Hear arrival) (Pushes inbox timer) (hear_row g.settings.resilience.answers_stalled (row_input now met) arrival inbox c)
hear_effect g now inbox timer arrival met v u c is m =
    let stalled : Bool = g.settings.resilience.answers_stalled in
    let asked : Option (List ℕ) = beat_subject stalled arrival.message in
    stays_effect (poll_wish_at g (Hear arrival) (Pushes inbox timer)) met v u (Hear arrival) (Pushes inbox timer) (hear_row stalled (row_input now met) arrival inbox c)
    (if_each IsOther (arrival.inbox == inbox) (beat_wish (push_kind arrival.message) asked) Nothing (λ _. beat_other (push_kind arrival.message) asked) (λ _. tt))
    m
    (if_each (λ (passed : Passed). Stays v (Pushes inbox timer) passed.consumer.phase) (arrival.inbox == inbox) _ _
    (λ _. record { lower = kind_stays v stalled (row_input now met) arrival.message (push_kind arrival.message) (at_phase (Pushes inbox (armed (row_input now met).now)) c); unstarted = refl })
    (λ _. stays_same v (Pushes inbox timer) c.phase is))

inquiry_other : (inquiry : InfoRequest) → IsOther (pull.awaited inquiry)
inquiry_other inquiries.NoInfoRequest = tt
inquiry_other (inquiries.Asked request timeout failures) = tt
inquiry_other (inquiries.Resting wait failures) = tt

abbrev reader_passed : ℕ → PullRow → PullReader → Met → Consumer → Passed
reader_passed now row reader met c =
    read_row (pull.row (row_input now met) (matter_of (pull.wish row reader) met).answer (message_on reader.source.inbox (matter_of (pull.wish row reader) met).arrival) row reader) c

reader_lower : (v : LinkView) (now : ℕ) (row : PullRow) (reader : PullReader) (met : Met) (c : Consumer) → turns_left v (reader_passed now row reader met c).consumer.phase ≤ 2 * v.count reader.source.inbox
reader_lower v now row reader met c =
    let m : Matter = matter_of (pull.wish row reader) met in
    read_lower v (pull.row (row_input now met) m.answer (message_on reader.source.inbox m.arrival) row reader) reader c (row_read (row_input now met) m.answer (message_on reader.source.inbox m.arrival) row reader).source

reader_effect : (now : ℕ) (row : PullRow) (reader : PullReader) (met : Met) (v u : LinkView) (c : Consumer) → Meets (pull.wish row reader) met v u
    → Effect v u met (Read row) (Pulls reader) (reader_passed now row reader met c)
reader_effect now read.CheckArrival reader met v u c m =
    look_effect reader.source.inbox met v u (Read read.CheckArrival) (Pulls reader) (reader_passed now read.CheckArrival reader met c) m refl refl (reader_lower u now read.CheckArrival reader met c) refl
reader_effect now read.CheckInfoRequest reader met v u c m =
    stays_effect (pull.awaited reader.inquiry) met v u (Read read.CheckInfoRequest) (Pulls reader) (reader_passed now read.CheckInfoRequest reader met c) (inquiry_other reader.inquiry) m
    (record { lower = reader_lower v now read.CheckInfoRequest reader met c; unstarted = refl })
reader_effect now row reader met v u c m =
    stays_effect (pull.wish row reader) met v u (Read row) (Pulls reader) (reader_passed now row reader met c) tt m (record { lower = reader_lower v now row reader met c; unstarted = refl })

create_effect : (g : ReplayInput) (setup : OrderedSetup) (now : ℕ) (r : Recreation) (met : Met) (v u : LinkView) (c : Consumer) → c.phase ≡ Recreates r → Meets (create_wish setup) met v u
    → Effect v u met Create (Recreates r) (create_row setup (row_input now met) r c)
create_effect g (Pull setup) now r met v u c is m = stays_effect Nothing met v u Create (Recreates r) (silent_row c (Ask ∷ [])) tt m (stays_same v (Recreates r) c.phase is)
create_effect g (Push setup) now r (Opened inbox subject) v u c is m =
    let none = opened_none inbox subject v u m in
    record { fewer = omega (arith, none); taker = λ e. absurd (false_true e); starter = λ e. absurd (false_true e) }
create_effect g (Push setup) now r Refused v u c is m = stays_effect OpensInbox Refused v u Create (Recreates r) (silent_row c (Fail ∷ [])) tt m (stays_same v (Recreates r) c.phase is)
create_effect g (Push setup) now r met v u c is m = absurd m

listens_effect : (setup : OrderedSetup) (p : RowInput) (info : Info) (r : Recreation) (opened : Option OpenedInbox) (met : Met) (v u : LinkView) (c : Consumer) → r.opened ≡ opened → c.phase ≡ Recreates r → is_bare setup opened ≡ true
    → Meets Nothing met v u → Effect v u met (Succeed info) (Recreates r) (succeed_push p opened c)
listens_effect setup p info r None met v u c same is bare m = stays_effect Nothing met v u (Succeed info) (Recreates r) (silent_row c []) tt m (stays_same v (Recreates r) c.phase is)
listens_effect setup p info r (Some opened) met v u c same is bare m =
    let none : message_of met ≡ None = (untaken Nothing met v u tt m).message in
    let zero_taken : taken met ≡ 0 = ap (λ (o : Option Message). number (is_some o)) none in
    let had : opened_turns v r.opened ≡ 2 * v.count opened.inbox = ap (opened_turns v) same in
    let falls = counts_fall Nothing met v u tt m opened.inbox in
    let empty : [] ≡ opened.held = sym (none_held opened.held (and_right (is_push setup) (is_none_held opened.held) bare)) in
    record {
      fewer = omega (arith, zero_taken, had, falls);
      taker = λ e. absurd (false_true (ap (λ (o : Option Message). is_some o) (sym none) ∙ e));
      starter = λ e. (refl, subst (λ (held : List Message). AreBelow 4 (map (λ (message : Message). Hear (record { inbox = opened.inbox; message = message })) held ++ Arm ∷ [])) empty (omega arith, tt), refl);
    }

succeed_effect : (g : ReplayInput) (setup : OrderedSetup) (now : ℕ) (info : Info) (r : Recreation) (met : Met) (v u : LinkView) (c : Consumer) → c.phase ≡ Recreates r → is_bare setup r.opened ≡ true → Meets (succeed_wish setup) met v u
    → Effect v u met (Succeed info) (Recreates r) (succeed_row setup g (row_input now met) info r c)
succeed_effect g (Pull setup) now info r (Opened inbox subject) v u c is bare m =
    let none = opened_none inbox subject v u m in
    record { fewer = omega (arith, none); taker = λ e. absurd (false_true e); starter = λ e. (refl, (omega arith, (omega arith, tt)), refl) }
succeed_effect g (Pull setup) now info r Refused v u c is bare m = stays_effect OpensInbox Refused v u (Succeed info) (Recreates r) (silent_row c (Fail ∷ [])) tt m (stays_same v (Recreates r) c.phase is)
succeed_effect g (Pull setup) now info r met v u c is bare m = absurd m
succeed_effect g (Push setup) now info r met v u c is bare m = listens_effect (Push setup) (row_input now met) info r r.opened met v u c refl is bare m

try_stays : (v : LinkView) (g : ReplayInput) (p : RowInput) (r : Recreation) (c : Consumer) → c.phase ≡ Recreates r → Stays v (Recreates r) (try_row g p r c).consumer.phase
try_stays v g p r c is =
    if_each (λ (passed : Passed). Stays v (Recreates r) passed.consumer.phase) p.up _ _ (λ _. record { lower = omega arith; unstarted = refl }) (λ _. stays_same v (Recreates r) c.phase is)

ask_stays : (v : LinkView) (g : ReplayInput) (p : RowInput) (r : Recreation) (c : Consumer) → c.phase ≡ Recreates r → Stays v (Recreates r) (ask_row g p r c).consumer.phase
ask_stays v g p r c is =
    if_each (λ (passed : Passed). Stays v (Recreates r) passed.consumer.phase) p.up _ _ (λ _. record { lower = omega arith; unstarted = refl }) (λ _. stays_same v (Recreates r) c.phase is)

fail_stays : (v : LinkView) (g : ReplayInput) (p : RowInput) (r : Recreation) (c : Consumer) → Stays v (Recreates r) (fail_row g p r c).consumer.phase
fail_stays v g p r c =
    if_each (λ (passed : Passed). Stays v (Recreates r) passed.consumer.phase) (nat_lt g.settings.retries (r.failures + 1)) _ _
    (λ _. record { lower = omega arith; unstarted = refl }) (λ _. record { lower = omega arith; unstarted = refl })

hold_stays : (v : LinkView) (r : Recreation) (opened : Option OpenedInbox) → r.opened ≡ opened → Stays v (Recreates r) (Recreates (record r { opened = held_in None opened }))
hold_stays v r None same = let had : opened_turns v r.opened ≡ 0 = ap (opened_turns v) same in record { lower = omega (arith, had); unstarted = refl }
hold_stays v r (Some opened) same = let had : opened_turns v r.opened ≡ 2 * v.count opened.inbox = ap (opened_turns v) same in record { lower = omega (arith, had); unstarted = refl }

silence_stays : (v : LinkView) (p : RowInput) (inbox : ℕ) (timer : Timer) (c : Consumer) → c.phase ≡ Pushes inbox timer → Stays v (Pushes inbox timer) (silence_row p timer c).consumer.phase
silence_stays v p inbox timer c is =
    if_each (λ (passed : Passed). Stays v (Pushes inbox timer) passed.consumer.phase) (is_due timer p.now) _ _ (λ _. stays_same v (Pushes inbox timer) c.phase is) (λ _. stays_same v (Pushes inbox timer) c.phase is)

awaited_other : (stage : Stage) → IsOther (awaited stage)
awaited_other Between = tt
awaited_other (Deleting request timeout) = tt
awaited_other (Creating request timeout) = tt
awaited_other (Resting wait) = tt

-- a recreation starts
abbrev pub IsNoStart : Row → Type 0
IsNoStart Start = ⊥
IsNoStart row = ⊤

pub row_effect : (g : ReplayInput) (now : ℕ) (row : Row) (phase : Phase) (c : Consumer) (met : Met) (v u : LinkView) → IsNoStart row → c.phase ≡ phase → is_plain g.setup phase ≡ true → Meets (poll_wish_at g row phase) met v u
    → Effect v u met row phase (row_at g (row_input now met) (matter_of (poll_wish_at g row phase) met) row phase c)
row_effect g now Event phase c met v u other is plain m =
    stays_effect (poll_wish_at g Event phase) met v u Event phase (event_row g (row_input now met) (matter_of (poll_wish_at g Event phase) met) phase c) (event_other g phase) m
    (event_stays v g (row_input now met) (matter_of (poll_wish_at g Event phase) met) phase c is)
row_effect g now Start phase c met v u other is plain m = absurd other
row_effect g now Try (Recreates r) c met v u other is plain m =
    stays_effect (poll_wish_at g Try (Recreates r)) met v u Try (Recreates r) (try_row g (row_input now met) r c) tt m (try_stays v g (row_input now met) r c is)
row_effect g now Create (Recreates r) c met v u other is plain m = create_effect g g.setup now r met v u c is m
row_effect g now Ask (Recreates r) c met v u other is plain m =
    stays_effect (poll_wish_at g Ask (Recreates r)) met v u Ask (Recreates r) (ask_row g (row_input now met) r c) tt m (ask_stays v g (row_input now met) r c is)
row_effect g now Await (Recreates r) c met v u other is plain m =
    stays_effect (awaited r.stage) met v u Await (Recreates r) (silent_row c (stage_rows g (row_input now met) (matter_of (awaited r.stage) met) r.stage)) (awaited_other r.stage) m (stays_same v (Recreates r) c.phase is)
row_effect g now (Answered reply) (Recreates r) c met v u other is plain m =
    stays_effect Nothing met v u (Answered reply) (Recreates r) (answered_row g (pull.info_reply reply) c) tt m (stays_same v (Recreates r) c.phase is)
row_effect g now Hold (Recreates r) c met v u other is plain m =
    stays_effect Nothing met v u Hold (Recreates r) (silent_row (at_phase (Recreates (record r { opened = held_in None r.opened })) c) []) tt m (hold_stays v r r.opened refl)
row_effect g now (Succeed info) (Recreates r) c met v u other is plain m = succeed_effect g g.setup now info r met v u c is plain m
row_effect g now Fail (Recreates r) c met v u other is plain m =
    stays_effect (opened_dropped r.opened) met v u Fail (Recreates r) (fail_row g (row_input now met) r c) (opened_other r.opened) m (fail_stays v g (row_input now met) r c)
row_effect g now CheckArrival (Pushes inbox timer) c met v u other is plain m =
    let passed : Passed = row_at g (row_input now met) (matter_of (Reads inbox) met) CheckArrival (Pushes inbox timer) c in
    let same : turns_left u c.phase ≡ 2 * u.count inbox = ap (turns_left u) is in
    look_effect inbox met v u CheckArrival (Pushes inbox timer) passed m refl refl (omega (arith, same)) refl
row_effect g now (Hear arrival) (Pushes inbox timer) c met v u other is plain m = hear_effect g now inbox timer arrival met v u c is m
row_effect g now CheckSilence (Pushes inbox timer) c met v u other is plain m =
    stays_effect Nothing met v u CheckSilence (Pushes inbox timer) (silence_row (row_input now met) timer c) tt m (silence_stays v (row_input now met) inbox timer c is)
row_effect g now Arm (Pushes inbox timer) c met v u other is plain m =
    stays_effect Nothing met v u Arm (Pushes inbox timer) (silent_row (at_phase (Pushes inbox (armed (row_input now met).now)) c) []) tt m (record { lower = omega arith; unstarted = refl })
row_effect g now (Read row) (Pulls reader) c met v u other is plain m = reader_effect now row reader met v u c m
row_effect g now row phase c met v u other is plain m = stays_effect Nothing met v u row phase (silent_row c []) tt m (stays_same v phase c.phase is)

pub start_turns : (u : LinkView) (g : ReplayInput) (c : Consumer) → turns_left u (start_row g c).consumer.phase ≤ 1
start_turns u g c = if_each (λ (passed : Passed). turns_left u passed.consumer.phase ≤ 1) (c.core.stream_sequence == pull.u64_max) _ _ (λ _. omega arith) (λ _. omega arith)

-- no reader reads then
pub start_reads : (g : ReplayInput) (c : Consumer) → is_reading (start_row g c).consumer.phase ≡ false
start_reads g c = if_each (λ (passed : Passed). is_reading passed.consumer.phase ≡ false) (c.core.stream_sequence == pull.u64_max) _ _ (λ _. refl) (λ _. refl)

-- without a message push's look is followed by no row that hears one
pub look_deaf : (g : ReplayInput) (p : RowInput) (met : Met) (phase : Phase) (c : Consumer) → message_of met ≡ None → AreDeaf (row_at g p (matter_of (poll_wish_at g CheckArrival phase) met) CheckArrival phase c).next
look_deaf g p met (Pushes inbox timer) c none =
    subst (λ (o : Option Message). AreDeaf (push_rows inbox (message_on inbox (option_map (λ (message : Message). record { inbox = inbox; message = message }) o)))) (sym none) (tt, tt)
look_deaf g p met phase c none = tt
