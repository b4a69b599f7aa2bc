-- What a row leaves in a poll: nothing is held, no reader is pinned, and one row at most follows it, or two of which the second one waits.
use Rattle.std.proofs.Common.{◌≡◌, ℕ, ◌+◌, ◌<◌, Bool, true, false, List, [], ◌∷◌, ◌++◌, drop, map, append-nil, Option, Some, None, refl, sym, ap, ◌∙◌, subst, arith}
use Rattle.std.specs.Prelude.{⊤, ◌&&◌, ◌||◌, ◌==◌, is_some, nat_lt, not, Ok}
use Rattle.std.specs.List.{AllByRecursion}
use Rattle.std.proofs.lemmas.Bool.{ltb-true, lt-ltb}
use Rattle.js_base.specs.Clock.{is_any_due, is_due}
use Rattle.js_base.specs.declared.clock.Timer.{Timer}
use Rattle.js_base.specs.declared.message.Message.{Message}
use Rattle.js_base.specs.declared.message.State.{State}
use Rattle.js_base.specs.declared.message.State.TheVariants.{Pending, Connected, Disconnected}
use Rattle.js_json.specs.declared.consumer.info.Info.{Info}
use Rattle.js_link.specs.LinkView.{LinkView}
use Rattle.js_link.specs.RowInput.{RowInput}
use Rattle.js_link.specs.Wish.{row_input}
use Rattle.js_link.specs.declared.wish.Met.{Met}
use Rattle.js_message.specs.AckSubject.{Place, readable_as}
use Rattle.js_pull.specs.Kind.{pull_kind}
use Rattle.js_pull.specs.Poll.{same_state}
use Rattle.js_pull.specs.Reader as pull
use Rattle.js_pull.specs.declared.kind.Kind.{Kind}
use Rattle.js_pull.specs.declared.kind.Kind.TheVariants as kinds
use Rattle.js_pull.specs.declared.reader.InfoRequest.{InfoRequest}
use Rattle.js_pull.specs.declared.reader.InfoRequest.TheVariants as inquiries
use Rattle.js_pull.specs.declared.reader.MessagesErrorKind.TheVariants as error
use Rattle.js_pull.specs.declared.reader.PullSource.{PullSource}
use Rattle.js_pull.specs.declared.reader.Reader.{Reader as PullReader}
use Rattle.js_pull.specs.declared.reader.ReaderOutput.{ReaderOutput as PullTold}
use Rattle.js_pull.specs.declared.reader.ReaderOutput.TheVariants as tells
use Rattle.js_pull.specs.declared.reader.Row.{Row as PullRow}
use Rattle.js_pull.specs.declared.reader.Row.TheVariants as read
use Rattle.js_pull.specs.declared.replies.InfoReply.{InfoReply}
use Rattle.js_pull.specs.declared.replies.InfoReply.TheVariants as says
use Rattle.js_ordered_table.specs.Arrivals.{armed, beat_rows, hear_kind, hear_row, in_place_of, message_row, push_kind, read_row, silence_row, told}
use Rattle.js_ordered_table.specs.Consumer.{Matter, Change, Unchanged, Becomes, WatcherEnds, Passed, at_phase, silent_row}
use Rattle.js_ordered_table.specs.Fold.{rank}
use Rattle.js_ordered_table.specs.Passes.{hearings}
use Rattle.js_ordered_table.specs.Poll.{poll_wish_at}
use Rattle.js_ordered_table.specs.Recreation.{answered, ask_row, create_row, created, fail_row, has_subject, held_in, message_on, recreation_rows, stage_rows, start_row, succeed_push, succeed_row, try_row, answered_row}
use Rattle.js_ordered_table.specs.Table.{changed, event_change, event_row, go_on, is_connected, push_rows, row_at, watcher_ended}
use Rattle.js_ordered_table.specs.Tasks.{next_rows, rows_of}
use Rattle.js_ordered_table.specs.Walk.{first_row, later_rows}
use Rattle.js_ordered_table.specs.Wishes.{matter_of}
use Rattle.js_ordered_table.specs.declared.consumer.Consumer.{Consumer}
use Rattle.js_ordered_table.specs.declared.consumer.Opened.{Opened}
use Rattle.js_ordered_table.specs.declared.consumer.Phase.{Phase}
use Rattle.js_ordered_table.specs.declared.consumer.Phase.TheVariants.{Pulls, Pushes, Recreates, Idle, Ended, Exhausted}
use Rattle.js_ordered_table.specs.declared.consumer.Recreation.{Recreation}
use Rattle.js_ordered_table.specs.declared.consumer.ReplayInput.{ReplayInput}
use Rattle.js_ordered_table.specs.declared.consumer.Stage.{Stage}
use Rattle.js_ordered_table.specs.declared.consumer.Stage.TheVariants.{Between, Deleting, Creating, Waiting}
use Rattle.js_ordered_table.specs.declared.kind.PushKind.{PushKind}
use Rattle.js_ordered_table.specs.declared.kind.PushKind.TheVariants.{Delivered, OtherStatus, Bad, Beat}
use Rattle.js_ordered_table.specs.declared.row.Arrival.{Arrival}
use Rattle.js_ordered_table.specs.declared.row.Row.{Row}
use Rattle.js_ordered_table.specs.declared.row.Row.TheVariants.{Event, Start, Try, Create, Ask, Await, Answered, Hold, Succeed, Fail, CheckArrival, Hear, CheckSilence, Arm, Read}
use Rattle.js_ordered_table.specs.declared.setup.OrderedSetup.{OrderedSetup}
use Rattle.js_ordered_table.specs.declared.setup.OrderedSetup.TheVariants.{Pull, Push}
use Rattle.js_ordered_table.specs.declared.transitions.task.NextTasks.{NextTasks}
use Rattle.js_ordered_table.specs.declared.transitions.task.NextTasks.TheVariants as next
use Rattle.js_ordered_table.specs.declared.transitions.task.Task.{Task}
use Rattle.js_ordered_table.specs.declared.transitions.task.Task.TheVariants as task
use Rattle.js_ordered_table.proofs.Ranks.{AreBelow, row_falls}
use Rattle.js_ordered_table.proofs.Rewritten.{all_in_place, if_both, if_each}
use Rattle.js_ordered_table.proofs.RowInvariant.{row_read}
use Rattle.js_ordered_stream.proofs.PassedRows.{and_right, none_held}
use Rattle.js_ordered_stream.specs.declared.remaining_rows.RemainingRows.{RemainingRows}
use Rattle.js_ordered_stream.specs.declared.remaining_rows.Seen.{Seen}
use Rattle.js_ordered_stream.specs.declared.rows.Stepped.{Stepped}
use Rattle.js_ordered_stream.specs.Rows.{IfLook, hold_none, holds_none, is_left, later_of, left_rows, read_in}
use Rattle.js_ordered_stream.specs.Ordered.{PassesFirst}
use Rattle.js_ordered_stream.specs.Polled.{IsSteady, is_bare, is_early, is_none_held, is_plain, is_push, is_turn, may_wait}

-- no row that hears a message
abbrev pub HearsNothing : Row → Type 0
HearsNothing (Hear arrival) = ⊥
HearsNothing row = ⊤

abbrev pub AreDeaf : List Row → Type 0
AreDeaf rows = AllByRecursion HearsNothing rows

-- one row at most
abbrev pub is_one : List Row → Bool
is_one [] = true
is_one (row ∷ []) = true
is_one (row ∷ second ∷ rows) = false

-- one row at most follows this one
abbrev pub has_one : OrderedSetup → Row → Bool
has_one setup Event = false
has_one setup (Read (read.Begin change)) = false
has_one setup (Succeed info) = is_push setup
has_one setup row = true

-- push's look is followed by the row that hears what it brings
abbrev pub IfDeaf : Row → Type 0 → Type 0
IfDeaf CheckArrival holds = ⊤
IfDeaf row holds = holds

-- what a row leaves
pub record Leaves (setup : OrderedSetup) (row : Row) (passed : Passed) : Type 0 where
  pub plain : is_plain setup passed.consumer.phase ≡ true
  pub turn : is_turn setup passed.next ≡ true
  pub one : has_one setup row ≡ true → is_one passed.next ≡ true
  pub deaf : IfDeaf row (AreDeaf passed.next)

-- one row at most follows, which hears no message
record Calm (setup : OrderedSetup) (passed : Passed) : Type 0 where
  plain : is_plain setup passed.consumer.phase ≡ true
  one : is_one passed.next ≡ true
  deaf : AreDeaf passed.next

-- or another one and a row that waits
record Turning (setup : OrderedSetup) (passed : Passed) : Type 0 where
  plain : is_plain setup passed.consumer.phase ≡ true
  turn : is_turn setup passed.next ≡ true
  deaf : AreDeaf passed.next

false_true : false ≡ true → ⊥
false_true e = cc

and_left : (a b : Bool) → (a && b) ≡ true → a ≡ true
and_left true b e = refl
and_left false b e = e

one_turn : (setup : OrderedSetup) (rows : List Row) → is_one rows ≡ true → is_turn setup rows ≡ true
one_turn setup [] e = refl
one_turn setup (row ∷ []) e = refl
one_turn setup (row ∷ second ∷ rows) e = absurd (false_true e)

if_deaf : (row : Row) (P : Type 0) → P → IfDeaf row P
if_deaf CheckArrival P holds = tt
if_deaf row P holds = holds

leaves_one : (setup : OrderedSetup) (row : Row) (passed : Passed) → Calm setup passed → Leaves setup row passed
leaves_one setup row passed calm = record { plain = calm.plain; turn = one_turn setup passed.next calm.one; one = λ _. calm.one; deaf = if_deaf row (AreDeaf passed.next) calm.deaf }

leaves_turn : (setup : OrderedSetup) (row : Row) (passed : Passed) → has_one setup row ≡ false → Turning setup passed → Leaves setup row passed
leaves_turn setup row passed more turning =
    record { plain = turning.plain; turn = turning.turn; one = λ e. absurd (false_true (sym more ∙ e)); deaf = if_deaf row (AreDeaf passed.next) turning.deaf }

-- ---- what a reader tells, and what push hears

message_calm : (setup : OrderedSetup) (place : Option Place) (message : Message) (c : Consumer) → is_plain setup c.phase ≡ true → Calm setup (message_row place message c)
message_calm setup None message c k = record { plain = k; one = refl; deaf = tt }
message_calm setup (Some place) message c k =
    if_each (Calm setup) (place.number == c.core.consumer_sequence + 1) _ _ (λ _. record { plain = k; one = refl; deaf = tt }) (λ _. record { plain = k; one = refl; deaf = (tt, tt) })

told_calm : (setup : OrderedSetup) (t : PullTold) (c : Consumer) → is_plain setup c.phase ≡ true → Calm setup (told t c)
told_calm setup tells.Nothing c k = record { plain = k; one = refl; deaf = tt }
told_calm setup (tells.Hands message) c k = message_calm setup (readable_as message.reply) message (record c { missed = false }) k
told_calm setup (tells.Tells error.ConsumerDeleted) c k = record { plain = k; one = refl; deaf = (tt, tt) }
told_calm setup (tells.Tells error.NoResponders) c k = record { plain = k; one = refl; deaf = (tt, tt) }
told_calm setup (tells.Tells error.PushBasedConsumer) c k = record { plain = refl; one = refl; deaf = tt }
told_calm setup (tells.Tells error.RequestLimitExceeded) c k =
    if_each (Calm setup) c.limited _ _ (λ _. record { plain = refl; one = refl; deaf = tt }) (λ _. record { plain = k; one = refl; deaf = (tt, tt) })
told_calm setup (tells.Tells error.MissingHeartbeat) c k =
    if_each (Calm setup) c.missed _ _ (λ _. record { plain = k; one = refl; deaf = (tt, tt) }) (λ _. record { plain = k; one = refl; deaf = tt })
told_calm setup (tells.Tells error.Pull) c k = record { plain = k; one = refl; deaf = tt }
told_calm setup (tells.Tells error.Other) c k = record { plain = k; one = refl; deaf = tt }

-- ---- a reader's rows

abbrev is_single : List PullRow → Bool
is_single [] = true
is_single (row ∷ []) = true
is_single (row ∷ second ∷ rows) = false

abbrev Single : pull.Passed → Type 0
Single passed = is_single passed.next ≡ true

abbrev AreSingle : List PullRow → Type 0
AreSingle rows = is_single rows ≡ true

-- an event is not looked at
abbrev IsBegun : PullRow → Type 0
IsBegun (read.Begin change) = ⊥
IsBegun row = ⊤

hear_single : (message : Message) (kind : Kind) (r : PullReader) → Single (pull.hear message kind r)
hear_single message kinds.Delivered r = refl
hear_single message kinds.IdleHeartbeat r = refl
hear_single message kinds.Deleted r = refl
hear_single message kinds.PushBased r = refl
hear_single message kinds.Limit r = refl
hear_single message kinds.Gone r = refl
hear_single message kinds.Bad r = refl
hear_single message (kinds.Ledger messages bytes) r = refl

arrival_single : (p : RowInput) (arrival : Option Message) (r : PullReader) → Single (pull.check_arrival p arrival r)
arrival_single p None r = refl
arrival_single p (Some message) r = hear_single message (pull_kind message) (pull.with_pin message (pull.with_silence p.now r))

answered_single : (failures : ℕ) (reply : InfoReply) (r : PullReader) → Single (pull.answered failures reply r)
answered_single failures (says.Info info) r = refl
answered_single failures (says.Error code) r = if_each Single (r.source.resilience.recreates_when_gone && pull.is_gone code) _ _ (λ _. refl) (λ _. refl)
answered_single failures says.Nothing r = refl

asked_single : (p : RowInput) (timeout : Option Timer) (failures : ℕ) (reply : Option (Option Message)) (r : PullReader) → Single (pull.check_asked p timeout failures reply r)
asked_single p timeout failures (Some reply) r = refl
asked_single p timeout failures None r = if_each AreSingle (is_any_due timeout p.now) _ _ (λ _. refl) (λ _. refl)

inquiry_single : (p : RowInput) (answer : Option pull.Answer) (inquiry : InfoRequest) (r : PullReader) → Single (pull.check_inquiry p answer inquiry r)
inquiry_single p answer inquiries.NoInfoRequest r = refl
inquiry_single p answer (inquiries.Asked request timeout failures) r = asked_single p timeout failures (pull.reply_to request answer) r
inquiry_single p answer (inquiries.Resting wait failures) r = if_each AreSingle (is_due wait p.now) _ _ (λ _. refl) (λ _. refl)

row_single : (p : RowInput) (answer : Option pull.Answer) (arrival : Option Message) (row : PullRow) (r : PullReader) → IsBegun row → Single (pull.row p answer arrival row r)
row_single p answer arrival (read.Begin change) r begun = absurd begun
row_single p answer arrival (read.Ask reason) r begun = if_each Single p.up _ _ (λ _. refl) (λ _. refl)
row_single p answer arrival read.Threshold r begun =
    if_each Single (pull.is_low r && not r.waiting) _ _ (λ _. if_each AreSingle (pull.is_asking r.inquiry) _ _ (λ _. refl) (λ _. refl)) (λ _. refl)
row_single p answer arrival read.Arm r begun = refl
row_single p answer arrival (read.Inquire failures) r begun = if_each Single p.up _ _ (λ _. refl) (λ _. refl)
row_single p answer arrival (read.FailInfoRequest failures) r begun = if_each Single (nat_lt (failures + 1) 6) _ _ (λ _. refl) (λ _. refl)
row_single p answer arrival read.CheckInfoRequest r begun = inquiry_single p answer r.inquiry r
row_single p answer arrival (read.Answered reply failures) r begun = answered_single failures (pull.info_reply reply) r
row_single p answer arrival read.CheckExpiry r begun = if_each AreSingle (is_any_due r.expiry p.now) _ _ (λ _. refl) (λ _. refl)
row_single p answer arrival read.CheckArrival r begun = arrival_single p arrival r
row_single p answer arrival read.CheckSilence r begun =
    if_each Single (is_any_due r.heartbeat_timer p.now) _ _
    (λ _. if_each AreSingle (r.source.resilience.asks_at_first_heartbeat && not (pull.is_asking r.inquiry)) _ _ (λ _. refl) (λ _. refl)) (λ _. refl)

reads_deaf : (rows : List PullRow) → AreDeaf (map Read rows)
reads_deaf [] = tt
reads_deaf (row ∷ rows) = (tt, reads_deaf rows)

reads_one : (rows : List PullRow) → AreSingle rows → is_one (map Read rows) ≡ true
reads_one [] e = refl
reads_one (row ∷ []) e = refl
reads_one (row ∷ second ∷ rows) e = absurd (false_true e)

one_in_place : (rows others : List Row) → is_one rows ≡ true → is_one others ≡ true → is_one (in_place_of rows others) ≡ true
one_in_place [] others one other = other
one_in_place (row ∷ rows) others one other = one

read_calm : (setup : OrderedSetup) (passed : pull.Passed) (c : Consumer) → is_plain setup (Pulls passed.reader) ≡ true → Single passed → Calm setup (read_row passed c)
read_calm setup passed c k single =
    let tells_it : Calm setup (told passed.told (at_phase (Pulls passed.reader) c)) = told_calm setup passed.told (at_phase (Pulls passed.reader) c) k in
    record {
      plain = tells_it.plain;
      one = one_in_place (told passed.told (at_phase (Pulls passed.reader) c)).next (map Read passed.next) tells_it.one (reads_one passed.next single);
      deaf = all_in_place HearsNothing (told passed.told (at_phase (Pulls passed.reader) c)).next (map Read passed.next) tells_it.deaf (reads_deaf passed.next);
    }

-- a row keeps the source of its reader
kept_source : (p : RowInput) (answer : Option pull.Answer) (arrival : Option Message) (row : PullRow) (r : PullReader) → not r.source.pinned ≡ true → not (pull.row p answer arrival row r).reader.source.pinned ≡ true
kept_source p answer arrival row r k = ap (λ (s : PullSource). not s.pinned) (row_read p answer arrival row r).source ∙ k

begin_turns : (setup : OrderedSetup) (p : RowInput) (change : Option State) (r : PullReader) (c : Consumer) → not r.source.pinned ≡ true → Turning setup (read_row (pull.begin_row p change r) c)
begin_turns setup p change r c k =
    if_each (λ (passed : pull.Passed). Turning setup (read_row passed c)) r.ended _ _ (λ _. record { plain = k; turn = refl; deaf = tt })
    (λ _. if_each (λ (passed : pull.Passed). Turning setup (read_row passed c)) (pull.is_asking r.inquiry) _ _ (λ _. record { plain = k; turn = refl; deaf = (tt, (tt, tt)) }) (λ _. by_change change))
  where
    by_change : (change : Option State) → Turning setup (read_row (pull.begin_change p change r) c)
    by_change None = record { plain = k; turn = refl; deaf = (tt, (tt, tt)) }
    by_change (Some Connected) = record { plain = k; turn = refl; deaf = (tt, (tt, tt)) }
    by_change (Some Pending) = record { plain = k; turn = refl; deaf = (tt, tt) }
    by_change (Some Disconnected) = record { plain = k; turn = refl; deaf = (tt, tt) }

not_true : (b : Bool) → not b ≡ true → b ≡ false
not_true true e = absurd (false_true e)
not_true false e = refl

-- the reader that reads is not pinned
pub unpinned : (setup : OrderedSetup) (phase : Phase) (reader : PullReader) → phase ≡ Pulls reader → is_plain setup phase ≡ true → reader.source.pinned ≡ false
unpinned setup phase reader is plain = not_true reader.source.pinned (subst (λ (x : Phase). is_plain setup x ≡ true) is plain)

-- ---- push

beat_one : (last : Option ℕ) (consumer_sequence : ℕ) → is_one (beat_rows last consumer_sequence) ≡ true
beat_one None consumer_sequence = refl
beat_one (Some last) consumer_sequence = if_each (λ (rows : List Row). is_one rows ≡ true) (last == consumer_sequence) _ _ (λ _. refl) (λ _. refl)

beat_deaf : (last : Option ℕ) (consumer_sequence : ℕ) → AreDeaf (beat_rows last consumer_sequence)
beat_deaf None consumer_sequence = tt
beat_deaf (Some last) consumer_sequence = if_each AreDeaf (last == consumer_sequence) _ _ (λ _. tt) (λ _. (tt, tt))

kind_calm : (setup : OrderedSetup) (stalled : Bool) (p : RowInput) (message : Message) (kind : PushKind) (c : Consumer) → is_plain setup c.phase ≡ true → Calm setup (hear_kind stalled p message kind c)
kind_calm setup stalled p message Delivered c k = message_calm setup (readable_as message.reply) message c k
kind_calm setup stalled p message (Beat last) c k = record { plain = k; one = beat_one last c.core.consumer_sequence; deaf = beat_deaf last c.core.consumer_sequence }
kind_calm setup stalled p message Bad c k = record { plain = k; one = refl; deaf = tt }
kind_calm setup stalled p message OtherStatus c k = record { plain = k; one = refl; deaf = tt }

hears_calm : (setup : OrderedSetup) (stalled : Bool) (p : RowInput) (arrival : Arrival) (inbox : ℕ) (c : Consumer) → is_plain setup c.phase ≡ true → Calm setup (hear_row stalled p arrival inbox c)
hears_calm setup stalled p arrival inbox c k =
    if_each (Calm setup) (arrival.inbox == inbox) _ _ (λ _. kind_calm setup stalled p arrival.message (push_kind arrival.message) (at_phase (Pushes inbox (armed p.now)) c) refl) (λ _. record { plain = k; one = refl; deaf = tt })

silence_calm : (setup : OrderedSetup) (p : RowInput) (timer : Timer) (c : Consumer) → is_plain setup c.phase ≡ true → Calm setup (silence_row p timer c)
silence_calm setup p timer c k = if_each (Calm setup) (is_due timer p.now) _ _ (λ _. record { plain = k; one = refl; deaf = (tt, tt) }) (λ _. record { plain = k; one = refl; deaf = tt })

looks_one : (inbox : ℕ) (message : Option Message) → is_one (push_rows inbox message) ≡ true
looks_one inbox None = refl
looks_one inbox (Some message) = refl

-- ---- a recreation

start_calm : (g : ReplayInput) (c : Consumer) → Calm g.setup (start_row g c)
start_calm g c = if_each (Calm g.setup) (c.core.stream_sequence == pull.u64_max) _ _ (λ _. record { plain = refl; one = refl; deaf = tt }) (λ _. record { plain = refl; one = refl; deaf = (tt, tt) })

try_calm : (g : ReplayInput) (p : RowInput) (r : Recreation) (c : Consumer) → is_bare g.setup r.opened ≡ true → is_plain g.setup c.phase ≡ true → Calm g.setup (try_row g p r c)
try_calm g p r c bare k = if_each (Calm g.setup) p.up _ _ (λ _. record { plain = bare; one = refl; deaf = tt }) (λ _. record { plain = k; one = refl; deaf = (tt, tt) })

create_calm : (setup : OrderedSetup) (p : RowInput) (r : Recreation) (c : Consumer) → is_plain setup c.phase ≡ true → Calm setup (create_row setup p r c)
create_calm (Pull setup) p r c k = record { plain = k; one = refl; deaf = (tt, tt) }
create_calm (Push setup) p r c k = if_each (Calm (Push setup)) p.up _ _ (λ _. record { plain = refl; one = refl; deaf = (tt, tt) }) (λ _. record { plain = k; one = refl; deaf = (tt, tt) })

ask_calm : (g : ReplayInput) (p : RowInput) (r : Recreation) (c : Consumer) → is_bare g.setup r.opened ≡ true → is_plain g.setup c.phase ≡ true → Calm g.setup (ask_row g p r c)
ask_calm g p r c bare k = if_each (Calm g.setup) p.up _ _ (λ _. record { plain = bare; one = refl; deaf = tt }) (λ _. record { plain = k; one = refl; deaf = (tt, tt) })

created_one : (g : ReplayInput) (p : RowInput) (timeout : Timer) (reply : Option (Option Message)) → is_one (created g p timeout reply) ≡ true
created_one g p timeout (Some reply) = refl
created_one g p timeout None = if_each (λ (rows : List Row). is_one rows ≡ true) (is_due timeout p.now) _ _ (λ _. refl) (λ _. refl)

created_deaf : (g : ReplayInput) (p : RowInput) (timeout : Timer) (reply : Option (Option Message)) → AreDeaf (created g p timeout reply)
created_deaf g p timeout (Some reply) = (tt, tt)
created_deaf g p timeout None = if_each AreDeaf (is_due timeout p.now) _ _ (λ _. (tt, tt)) (λ _. tt)

stage_one : (g : ReplayInput) (p : RowInput) (m : Matter) (stage : Stage) → is_one (stage_rows g p m stage) ≡ true
stage_one g p m Between = refl
stage_one g p m (Deleting request timeout) =
    if_each (λ (rows : List Row). is_one rows ≡ true) (is_some (pull.reply_to request m.answer)) _ _ (λ _. refl) (λ _. if_each (λ (rows : List Row). is_one rows ≡ true) (is_due timeout p.now) _ _ (λ _. refl) (λ _. refl))
stage_one g p m (Creating request timeout) = created_one g p timeout (pull.reply_to request m.answer)
stage_one g p m (Waiting wait) = if_each (λ (rows : List Row). is_one rows ≡ true) (is_due wait p.now) _ _ (λ _. refl) (λ _. refl)

stage_deaf : (g : ReplayInput) (p : RowInput) (m : Matter) (stage : Stage) → AreDeaf (stage_rows g p m stage)
stage_deaf g p m Between = tt
stage_deaf g p m (Deleting request timeout) =
    if_each AreDeaf (is_some (pull.reply_to request m.answer)) _ _ (λ _. (tt, tt)) (λ _. if_each AreDeaf (is_due timeout p.now) _ _ (λ _. (tt, tt)) (λ _. tt))
stage_deaf g p m (Creating request timeout) = created_deaf g p timeout (pull.reply_to request m.answer)
stage_deaf g p m (Waiting wait) = if_each AreDeaf (is_due wait p.now) _ _ (λ _. (tt, tt)) (λ _. tt)

answered_deaf : (setup : OrderedSetup) (info : Option Info) → HearsNothing (answered setup info)
answered_deaf setup None = tt
answered_deaf setup (Some info) = if_each HearsNothing (has_subject setup info) (Succeed info) Fail (λ _. tt) (λ _. tt)

answered_calm : (g : ReplayInput) (reply : InfoReply) (c : Consumer) → is_plain g.setup c.phase ≡ true → Calm g.setup (answered_row g reply c)
answered_calm g reply c k = record { plain = k; one = refl; deaf = (answered_deaf g.setup (pull.info_in reply), tt) }

fail_calm : (g : ReplayInput) (p : RowInput) (r : Recreation) (c : Consumer) → Calm g.setup (fail_row g p r c)
fail_calm g p r c = if_each (Calm g.setup) (nat_lt g.settings.retries (r.failures + 1)) _ _ (λ _. record { plain = refl; one = refl; deaf = tt }) (λ _. record { plain = refl; one = refl; deaf = tt })

abbrev armed_behind : ℕ → List Message → List Row
armed_behind inbox held = map (λ (message : Message). Hear (record { inbox = inbox; message = message })) held ++ Arm ∷ []

listens_calm : (setup : OrderedSetup) (p : RowInput) (opened : Option Opened) (c : Consumer) → is_bare setup opened ≡ true → is_plain setup c.phase ≡ true → Calm setup (succeed_push p opened c)
listens_calm setup p None c bare k = record { plain = k; one = refl; deaf = tt }
listens_calm setup p (Some opened) c bare k =
    let none : [] ≡ opened.held = sym (none_held opened.held (and_right (is_push setup) (is_none_held opened.held) bare)) in
    record {
      plain = refl;
      one = subst (λ (held : List Message). is_one (armed_behind opened.inbox held) ≡ true) none refl;
      deaf = subst (λ (held : List Message). AreDeaf (armed_behind opened.inbox held)) none (tt, tt);
    }

succeed_leaves : (setup : OrderedSetup) (g : ReplayInput) (p : RowInput) (info : Info) (r : Recreation) (c : Consumer) → is_bare setup r.opened ≡ true → is_plain setup c.phase ≡ true
    → Leaves setup (Succeed info) (succeed_row setup g p info r c)
succeed_leaves (Pull setup) g p info r c bare k =
    leaves_turn (Pull setup) (Succeed info) (succeed_row (Pull setup) g p info r c) refl
    (if_each (Turning (Pull setup)) p.up _ _ (λ _. record { plain = refl; turn = refl; deaf = (tt, (tt, tt)) }) (λ _. record { plain = k; turn = refl; deaf = (tt, tt) }))
succeed_leaves (Push setup) g p info r c bare k = leaves_one (Push setup) (Succeed info) (succeed_push p r.opened c) (listens_calm (Push setup) p r.opened c bare k)

held_bare : (setup : OrderedSetup) (arrival : Option Arrival) (opened : Option Opened) → arrival ≡ None → is_bare setup opened ≡ true → is_bare setup (held_in arrival opened) ≡ true
held_bare setup None None none bare = refl
held_bare setup None (Some opened) none bare = bare
held_bare setup (Some arrival) opened none bare = absurd (let h = none in cc)

-- ---- an event

recreation_turns : (setup : OrderedSetup) (opened : Option Opened) (c : Consumer) → is_bare setup opened ≡ true → is_plain setup c.phase ≡ true → Turning setup (silent_row c (recreation_rows opened))
recreation_turns setup None c bare k = record { plain = k; turn = refl; deaf = (tt, tt) }
recreation_turns setup (Some opened) c bare k = record { plain = k; turn = ap (λ (b : Bool). b && nat_lt (rank Await) 9) (and_left (is_push setup) (is_none_held opened.held) bare); deaf = (tt, (tt, tt)) }

go_on_turns : (g : ReplayInput) (p : RowInput) (m : Matter) (phase : Phase) (c : Consumer) → is_plain g.setup phase ≡ true → is_plain g.setup c.phase ≡ true → Turning g.setup (go_on g p m phase c)
go_on_turns g p m Idle c at k = record { plain = k; turn = refl; deaf = (tt, tt) }
go_on_turns g p m (Recreates r) c at k = recreation_turns g.setup r.opened c at k
go_on_turns g p m (Pulls reader) c at k = begin_turns g.setup p None reader c at
go_on_turns g p m (Pushes inbox heartbeat_timer) c at k = record { plain = k; turn = refl; deaf = (tt, tt) }
go_on_turns g p m Ended c at k = record { plain = k; turn = refl; deaf = tt }
go_on_turns g p m Exhausted c at k = record { plain = k; turn = refl; deaf = tt }

changed_turns : (g : ReplayInput) (p : RowInput) (m : Matter) (old new : State) (phase : Phase) (c : Consumer) → is_plain g.setup phase ≡ true → is_plain g.setup c.phase ≡ true → Turning g.setup (changed g p m old new phase c)
changed_turns g p m old new (Pulls reader) c at k = begin_turns g.setup p (Some new) reader (record c { connection = new }) at
changed_turns g p m old new (Pushes inbox heartbeat_timer) c at k =
    if_both (Turning g.setup) (is_connected old || is_connected new) _ _ (record { plain = k; turn = refl; deaf = (tt, tt) }) (go_on_turns g p m (Pushes inbox heartbeat_timer) (record c { connection = new }) refl k)
changed_turns g p m old new (Recreates r) c at k = go_on_turns g p m (Recreates r) (record c { connection = new }) at k
changed_turns g p m old new Idle c at k = go_on_turns g p m Idle (record c { connection = new }) refl k
changed_turns g p m old new Ended c at k = go_on_turns g p m Ended (record c { connection = new }) refl k
changed_turns g p m old new Exhausted c at k = go_on_turns g p m Exhausted (record c { connection = new }) refl k

watcher_turns : (g : ReplayInput) (p : RowInput) (m : Matter) (setup : OrderedSetup) (c : Consumer) → is_plain g.setup c.phase ≡ true → Turning g.setup (watcher_ended g p m setup c)
watcher_turns g p m (Pull setup) c k = go_on_turns g p m c.phase c k k
watcher_turns g p m (Push setup) c k = record { plain = refl; turn = refl; deaf = tt }

change_turns : (g : ReplayInput) (p : RowInput) (m : Matter) (change : Change) (c : Consumer) → is_plain g.setup c.phase ≡ true → Turning g.setup (event_change g p m change c)
change_turns g p m Unchanged c k = go_on_turns g p m c.phase c k k
change_turns g p m (Becomes state) c k =
    if_both (Turning g.setup) (same_state c.connection state) _ _ (go_on_turns g p m c.phase c k k) (changed_turns g p m c.connection state c.phase c k k)
change_turns g p m WatcherEnds c k = watcher_turns g p m g.setup c k

event_turns : (g : ReplayInput) (p : RowInput) (m : Matter) (phase : Phase) (c : Consumer) → is_plain g.setup c.phase ≡ true → Turning g.setup (event_row g p m phase c)
event_turns g p m Ended c k = record { plain = k; turn = refl; deaf = tt }
event_turns g p m Exhausted c k = record { plain = k; turn = refl; deaf = tt }
event_turns g p m (Pulls reader) c k = change_turns g p m m.change c k
event_turns g p m (Pushes inbox heartbeat_timer) c k = change_turns g p m m.change c k
event_turns g p m (Recreates r) c k = change_turns g p m m.change c k
event_turns g p m Idle c k = change_turns g p m m.change c k

-- ---- every row

-- where a row would hold what arrives, nothing does
abbrev pub IsUnheld : Row → Matter → Type 0
IsUnheld Hold m = m.arrival ≡ None
IsUnheld row m = ⊤

-- so it is in a poll
pub poll_unheld : (g : ReplayInput) (row : Row) (phase : Phase) (met : Met) (m : Matter) → m ≡ matter_of (poll_wish_at g row phase) met → IsUnheld row m
poll_unheld g Hold phase met m is = ap (λ (m : Matter). m.arrival) is
poll_unheld g _ phase met m is = tt

read_leaves : (setup : OrderedSetup) (p : RowInput) (m : Matter) (row : PullRow) (reader : PullReader) (c : Consumer) → not reader.source.pinned ≡ true
    → Leaves setup (Read row) (read_row (pull.row p m.answer (message_on reader.source.inbox m.arrival) row reader) c)
read_leaves setup p m (read.Begin change) reader c at = leaves_turn setup (Read (read.Begin change)) (read_row (pull.begin_row p change reader) c) refl (begin_turns setup p change reader c at)
read_leaves setup p m row reader c at =
    let passed : pull.Passed = pull.row p m.answer (message_on reader.source.inbox m.arrival) row reader in
    leaves_one setup (Read row) (read_row passed c)
    (read_calm setup passed c (kept_source p m.answer (message_on reader.source.inbox m.arrival) row reader at) (row_single p m.answer (message_on reader.source.inbox m.arrival) row reader tt))

pub row_leaves : (g : ReplayInput) (p : RowInput) (m : Matter) (row : Row) (phase : Phase) (c : Consumer) → IsUnheld row m → is_plain g.setup phase ≡ true → is_plain g.setup c.phase ≡ true
    → Leaves g.setup row (row_at g p m row phase c)
row_leaves g p m Event phase c unheld at k = leaves_turn g.setup Event (event_row g p m phase c) refl (event_turns g p m phase c k)
row_leaves g p m Start phase c unheld at k = leaves_one g.setup Start (start_row g c) (start_calm g c)
row_leaves g p m Try (Recreates r) c unheld at k = leaves_one g.setup Try (try_row g p r c) (try_calm g p r c at k)
row_leaves g p m Create (Recreates r) c unheld at k = leaves_one g.setup Create (create_row g.setup p r c) (create_calm g.setup p r c k)
row_leaves g p m Ask (Recreates r) c unheld at k = leaves_one g.setup Ask (ask_row g p r c) (ask_calm g p r c at k)
row_leaves g p m Await (Recreates r) c unheld at k = leaves_one g.setup Await (silent_row c (stage_rows g p m r.stage)) (record { plain = k; one = stage_one g p m r.stage; deaf = stage_deaf g p m r.stage })
row_leaves g p m (Answered reply) (Recreates r) c unheld at k =
    leaves_one g.setup (Answered reply) (answered_row g (pull.info_reply reply) c) (answered_calm g (pull.info_reply reply) c k)
row_leaves g p m Hold (Recreates r) c unheld at k =
    leaves_one g.setup Hold (silent_row (at_phase (Recreates (record r { opened = held_in m.arrival r.opened })) c) []) (record { plain = held_bare g.setup m.arrival r.opened unheld at; one = refl; deaf = tt })
row_leaves g p m (Succeed info) (Recreates r) c unheld at k = succeed_leaves g.setup g p info r c at k
row_leaves g p m Fail (Recreates r) c unheld at k = leaves_one g.setup Fail (fail_row g p r c) (fail_calm g p r c)
row_leaves g p m CheckArrival (Pushes inbox heartbeat_timer) c unheld at k =
    let one : is_one (push_rows inbox (message_on inbox m.arrival)) ≡ true = looks_one inbox (message_on inbox m.arrival) in
    record { plain = k; turn = one_turn g.setup (push_rows inbox (message_on inbox m.arrival)) one; one = λ _. one; deaf = tt }
row_leaves g p m (Hear arrival) (Pushes inbox heartbeat_timer) c unheld at k = leaves_one g.setup (Hear arrival) (hear_row g.settings.resilience.answers_stalled p arrival inbox c) (hears_calm g.setup g.settings.resilience.answers_stalled p arrival inbox c k)
row_leaves g p m CheckSilence (Pushes inbox heartbeat_timer) c unheld at k = leaves_one g.setup CheckSilence (silence_row p heartbeat_timer c) (silence_calm g.setup p heartbeat_timer c k)
row_leaves g p m Arm (Pushes inbox heartbeat_timer) c unheld at k = leaves_one g.setup Arm (silent_row (at_phase (Pushes inbox (armed p.now)) c) []) (record { plain = refl; one = refl; deaf = tt })
row_leaves g p m (Read row) (Pulls reader) c unheld at k = read_leaves g.setup p m row reader c at
row_leaves g p m row phase c unheld at k = leaves_one g.setup row (silent_row c []) (record { plain = k; one = refl; deaf = tt })

-- ---- the rows that are left then

-- behind a row that is early one row at most follows
early_read : (setup : OrderedSetup) (row : PullRow) → is_early (Read row) ≡ true → has_one setup (Read row) ≡ true
early_read setup (read.Begin change) e = absurd (false_true e)
early_read setup row e = refl

early_one : (setup : OrderedSetup) (row : Row) → is_early row ≡ true → has_one setup row ≡ true
early_one setup Event e = absurd (false_true e)
early_one setup (Succeed info) e = absurd (false_true e)
early_one setup (Read row) e = early_read setup row e
early_one setup row e = refl

hold_read : (setup : OrderedSetup) (row : PullRow) → may_wait setup (Read row) Hold ≡ true → has_one setup (Read row) ≡ true
hold_read setup (read.Begin change) e = absurd (false_true (and_right (is_push setup) false e))
hold_read setup row e = refl

hold_one : (setup : OrderedSetup) (row : Row) → may_wait setup row Hold ≡ true → has_one setup row ≡ true
hold_one setup Event e = absurd (false_true (and_right (is_push setup) false e))
hold_one setup (Succeed info) e = and_left (is_push setup) true e
hold_one setup (Read row) e = hold_read setup row e
hold_one setup row e = refl

pub wait_read : (setup : OrderedSetup) (row : Row) (later : PullRow) → may_wait setup row (Read later) ≡ true → is_early row ≡ true
wait_read setup row read.Arm e = e
wait_read setup row read.CheckArrival e = e
wait_read setup row later e = absurd (false_true e)

waits_one : (setup : OrderedSetup) (row later : Row) → may_wait setup row later ≡ true → has_one setup row ≡ true
waits_one setup row Hold e = hold_one setup row e
waits_one setup row (Read later) e = early_one setup row (wait_read setup row later e)
waits_one setup row later e = absurd (false_true e)

-- rows behind each of which a row of a reader may wait
abbrev pub AreEarly : List Row → Type 0
AreEarly rows = AllByRecursion (λ row. is_early row ≡ true) rows

early_low : (row : Row) → rank row < 5 → is_early row ≡ true
early_low (Read row) low = by_read row low
  where
    by_read : (row : PullRow) → rank (Read row) < 5 → is_early (Read row) ≡ true
    by_read read.CheckInfoRequest low = refl
    by_read (read.Answered reply failures) low = refl
    by_read row low = lt-ltb (rank (Read row)) 5 low
early_low row low = lt-ltb (rank row) 5 low

below_early : (n : ℕ) (rows : List Row) → n < 5 → AreBelow n rows → AreEarly rows
below_early n [] low below = tt
below_early n (row ∷ rows) low below = (early_low row (let lower = below.0 in omega (arith, low, lower)), below_early n rows low below.1)

asked_early : (p : RowInput) (timeout : Option Timer) (failures : ℕ) (reply : Option (Option Message)) (r : PullReader) (c : Consumer) → AreEarly (read_row (pull.check_asked p timeout failures reply r) c).next
asked_early p timeout failures (Some reply) r c = (refl, tt)
asked_early p timeout failures None r c =
    if_each (λ (rows : List PullRow). AreEarly (read_row (pull.silent_row r rows) c).next) (is_any_due timeout p.now) _ _ (λ _. (refl, tt)) (λ _. tt)

inquiry_early : (p : RowInput) (answer : Option pull.Answer) (inquiry : InfoRequest) (r : PullReader) (c : Consumer) → AreEarly (read_row (pull.check_inquiry p answer inquiry r) c).next
inquiry_early p answer inquiries.NoInfoRequest r c = tt
inquiry_early p answer (inquiries.Asked request timeout failures) r c = asked_early p timeout failures (pull.reply_to request answer) r c
inquiry_early p answer (inquiries.Resting wait failures) r c =
    if_each (λ (rows : List PullRow). AreEarly (read_row (pull.silent_row r rows) c).next) (is_due wait p.now) _ _ (λ _. (refl, tt)) (λ _. tt)

-- an answer that ends the reader begins a recreation
answered_early : (failures : ℕ) (reply : InfoReply) (r : PullReader) (c : Consumer) → AreEarly (read_row (pull.answered failures reply r) c).next
answered_early failures (says.Info info) r c = (refl, tt)
answered_early failures (says.Error code) r c =
    if_each (λ (passed : pull.Passed). AreEarly (read_row passed c).next) (r.source.resilience.recreates_when_gone && pull.is_gone code) _ _ (λ _. (refl, tt)) (λ _. (refl, tt))
answered_early failures says.Nothing r c = (refl, tt)

checked_early : (g : ReplayInput) (p : RowInput) (m : Matter) (phase : Phase) (c : Consumer) → AreEarly (row_at g p m (Read read.CheckInfoRequest) phase c).next
checked_early g p m (Pulls reader) c = inquiry_early p m.answer reader.inquiry reader c
checked_early g p m phase c = tt

replied_early : (g : ReplayInput) (p : RowInput) (m : Matter) (reply : Option Message) (failures : ℕ) (phase : Phase) (c : Consumer) → AreEarly (row_at g p m (Read (read.Answered reply failures)) phase c).next
replied_early g p m reply failures (Pulls reader) c = answered_early failures (pull.info_reply reply) reader c
replied_early g p m reply failures phase c = tt

low_early : (g : ReplayInput) (p : RowInput) (m : Matter) (row : Row) (phase : Phase) (c : Consumer) → nat_lt (rank row) 5 ≡ true → AreEarly (row_at g p m row phase c).next
low_early g p m row phase c e = below_early (rank row) (row_at g p m row phase c).next (ltb-true (rank row) 5 e) (row_falls g p m row phase c)

-- what follows such a row is such a row
pub row_early : (g : ReplayInput) (p : RowInput) (m : Matter) (row : Row) (phase : Phase) (c : Consumer) → is_early row ≡ true → AreEarly (row_at g p m row phase c).next
row_early g p m (Read row) phase c e = by_read row e
  where
    by_read : (row : PullRow) → is_early (Read row) ≡ true → AreEarly (row_at g p m (Read row) phase c).next
    by_read read.CheckInfoRequest e = checked_early g p m phase c
    by_read (read.Answered reply failures) e = replied_early g p m reply failures phase c
    by_read row e = low_early g p m (Read row) phase c e
row_early g p m row phase c e = low_early g p m row phase c e

hold_below : (setup : OrderedSetup) (row lower : Row) → rank lower < rank row → may_wait setup row Hold ≡ true → may_wait setup lower Hold ≡ true
hold_below setup row lower below e =
    let less : rank row < 9 = ltb-true (rank row) 9 (and_right (is_push setup) (nat_lt (rank row) 9) e) in
    let lowest : nat_lt (rank lower) 9 ≡ true = lt-ltb (rank lower) 9 (omega (arith, below, less)) in
    ap (λ (b : Bool). b && nat_lt (rank lower) 9) (and_left (is_push setup) (nat_lt (rank row) 9) e) ∙ lowest

read_below : (setup : OrderedSetup) (row lower : Row) (later : PullRow) → (is_early row ≡ true → is_early lower ≡ true) → may_wait setup row (Read later) ≡ true → may_wait setup lower (Read later) ≡ true
read_below setup row lower read.Arm early e = early e
read_below setup row lower read.CheckArrival early e = early e
read_below setup row lower later early e = absurd (false_true e)

waits_below : (setup : OrderedSetup) (row lower later : Row) → rank lower < rank row → (is_early row ≡ true → is_early lower ≡ true) → may_wait setup row later ≡ true → may_wait setup lower later ≡ true
waits_below setup row lower Hold below early e = hold_below setup row lower below e
waits_below setup row lower (Read later) below early e = read_below setup row lower later early e
waits_below setup row lower later below early e = absurd (false_true e)

-- what follows the next row stands before what is left
pub turn_after : (setup : OrderedSetup) (todo : List Row) (passed : Passed) → is_turn setup todo ≡ true → Leaves setup (first_row todo) passed → AreBelow (rank (first_row todo)) passed.next
    → (is_early (first_row todo) ≡ true → AreEarly passed.next) → is_turn setup (passed.next ++ later_rows todo) ≡ true
turn_after setup [] passed turn leaves below early = ap (is_turn setup) (append-nil passed.next) ∙ leaves.turn
turn_after setup (row ∷ []) passed turn leaves below early = ap (is_turn setup) (append-nil passed.next) ∙ leaves.turn
turn_after setup (row ∷ later ∷ []) passed turn leaves below early = by_next passed.next (leaves.one (waits_one setup row later turn)) below early
  where
    by_next : (rows : List Row) → is_one rows ≡ true → AreBelow (rank row) rows → (is_early row ≡ true → AreEarly rows) → is_turn setup (rows ++ later ∷ []) ≡ true
    by_next [] one below early = refl
    by_next (lower ∷ []) one below early = waits_below setup row lower later below.0 (λ e. (early e).0) turn
    by_next (lower ∷ second ∷ rows) one below early = absurd (false_true one)
turn_after setup (row ∷ later ∷ third ∷ rows) passed turn leaves below early = absurd (false_true turn)

-- ---- nothing is held

hearings_none : (inbox : ℕ) (messages : List Message) → AreDeaf (hearings inbox messages) → not (is_left (hearings inbox messages)) ≡ true
hearings_none inbox [] deaf = refl
hearings_none inbox (message ∷ messages) deaf = absurd deaf.0

task_none : (m : Matter) (one : Task) → AreDeaf (rows_of m one) → holds_none one ≡ true
task_none m (task.HearHeld held) deaf = hearings_none held.value.inbox (drop held.value.place held.value.messages) deaf
task_none m one deaf = refl

deaf_left : (rows others : List Row) → AreDeaf (rows ++ others) → AreDeaf rows
deaf_left [] others deaf = tt
deaf_left (row ∷ rows) others deaf = (deaf.0, deaf_left rows others deaf.1)

deaf_right : (rows others : List Row) → AreDeaf (rows ++ others) → AreDeaf others
deaf_right [] others deaf = deaf
deaf_right (row ∷ rows) others deaf = deaf_right rows others deaf.1

deaf_none : (m : Matter) (rest : NextTasks) → AreDeaf (next_rows m rest) → hold_none rest ≡ true
deaf_none m next.Nothing deaf = refl
deaf_none m (next.One one) deaf = task_none m one deaf
deaf_none m (next.Two one second) deaf =
    ap (λ (b : Bool). b && holds_none second) (task_none m one (deaf_left (rows_of m one) (rows_of m second) deaf)) ∙ task_none m second (deaf_right (rows_of m one) (rows_of m second) deaf)

none_after : (m : Matter) (row : Row) (rest : NextTasks) (rows : List Row) → next_rows m rest ≡ rows → IfDeaf row (AreDeaf rows) → IfLook row (hold_none rest ≡ true) → hold_none rest ≡ true
none_after m CheckArrival rest rows is deaf look = look
none_after m row rest rows is deaf look = deaf_none m rest (subst AreDeaf (sym is) deaf)

-- ---- the next row was passed

-- what is left then is as steady
pub record Settles (setup : OrderedSetup) (left : RemainingRows) (new : Consumer) (kept : Seen) (done : Stepped) : Type 0 where
  pub plain : is_plain setup new.phase ≡ true
  pub turn : is_turn setup (next_rows (read_in kept) done.next ++ later_of left.todo) ≡ true
  pub held : hold_none done.next ≡ true

pub settles : (g : ReplayInput) (now : ℕ) (left : RemainingRows) (c d : Consumer) (v u : LinkView) (kept : Seen) (done : Stepped) → IsSteady g.setup c left → PassesFirst g now left c d v u kept (Ok done)
    → Settles g.setup left d kept done
settles g now left c d v u kept done steady (row, first_is, later_is, (met, meets, is_open, steps)) =
    let p : RowInput = row_input now met in
    let m : Matter = matter_of (poll_wish_at g row c.phase) met in
    let passed : Passed = row_at g p m row c.phase c in
    let leaves : Leaves g.setup row passed = row_leaves g p m row c.phase c (poll_unheld g row c.phase met m refl) steady.plain steady.plain in
    let below : AreBelow (rank row) passed.next = row_falls g p m row c.phase c in
    let turn : is_turn g.setup (passed.next ++ later_rows (left_rows left)) ≡ true =
    turn_after g.setup (left_rows left) passed steady.turn (subst (λ (one : Row). Leaves g.setup one passed) (sym first_is) leaves) (subst (λ (one : Row). AreBelow (rank one) passed.next) (sym first_is) below)
    (λ e. row_early g p m row c.phase c (ap is_early (sym first_is) ∙ e)) in
    record {
      plain = ap (λ (x : Consumer). is_plain g.setup x.phase) steps.consumer ∙ leaves.plain;
      turn = ap (λ (rows : List Row). is_turn g.setup (rows ++ later_of left.todo)) steps.next ∙ ap (λ (rows : List Row). is_turn g.setup (passed.next ++ rows)) (sym later_is) ∙ turn;
      held = none_after (read_in kept) row done.next passed.next steps.next leaves.deaf steps.held;
    }
