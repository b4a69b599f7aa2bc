-- A recreation goes on asking for the start that was put out last.
use Rattle.std.proofs.Common.{◌≡◌, ℕ, ◌+◌, false, List, [], ◌∷◌, ◌++◌, Option, Some, None, refl, subst, Bool}
use Rattle.std.specs.Prelude.{⊤, nat_lt, ◌||◌, ◌==◌, not, ◌&&◌}
use Rattle.js_base.specs.declared.message.Message.{Message}
use Rattle.js_base.specs.declared.clock.Timer.{Timer}
use Rattle.js_base.specs.Clock.{is_due}
use Rattle.js_base.specs.declared.message.State.{State}
use Rattle.js_json.specs.declared.consumer.info.Info.{Info}
use Rattle.js_message.specs.AckSubject.{Place, readable_as}
use Rattle.js_link.specs.RowInput.{RowInput}
use Rattle.js_pull.specs.Reader as pull
use Rattle.js_pull.specs.declared.reader.Row.TheVariants as read
use Rattle.js_pull.specs.declared.reader.ReaderOutput.TheVariants as tells
use Rattle.js_pull.specs.declared.reader.Reader.{Reader as PullReader}
use Rattle.js_pull.specs.declared.reader.Row.{Row as PullRow}
use Rattle.js_pull.specs.declared.reader.ReaderOutput.{ReaderOutput as PullTold}
use Rattle.js_pull.specs.declared.reader.MessagesErrorKind.TheVariants as error
use Rattle.js_ordered_table.specs.declared.consumer.Consumer.{Consumer}
use Rattle.js_ordered_table.specs.Consumer.{Matter, Change, Unchanged, Becomes, WatcherEnds, Passed, at_phase}
use Rattle.js_ordered_table.specs.declared.row.Arrival.{Arrival}
use Rattle.js_ordered_table.specs.declared.row.Row.{Row}
use Rattle.js_ordered_table.specs.declared.row.Row.TheVariants.{Event, Start, Try, Create, Ask, Await, Answered, Hold, Succeed, Fail, CheckArrival, Hear, CheckSilence, Arm, Read}
use Rattle.js_ordered_table.specs.declared.consumer.Recreation.{Recreation}
use Rattle.js_ordered_table.specs.declared.consumer.Opened.{Opened}
use Rattle.js_ordered_table.specs.declared.consumer.ReplayInput.{ReplayInput}
use Rattle.js_ordered_table.specs.declared.consumer.Phase.{Phase}
use Rattle.js_ordered_table.specs.declared.consumer.Phase.TheVariants.{Pulls, Pushes, Recreates, Idle, Ended, Exhausted}
use Rattle.js_ordered_table.specs.Recreation.{start_row, create_row, succeed_row, succeed_push, message_on, missing_after}
use Rattle.js_ordered_table.specs.Arrivals.{message_row, told, push_kind, hear_kind, hear_row, armed}
use Rattle.js_ordered_table.specs.declared.kind.PushKind.{PushKind}
use Rattle.js_ordered_table.specs.declared.kind.PushKind.TheVariants.{Delivered, OtherStatus, Bad, Beat}
use Rattle.js_ordered_table.specs.Table.{go_on, is_connected, changed, watcher_ended, event_change, event_row, reader_row, row_at}
use Rattle.js_pull.specs.Poll.{same_state}
use Rattle.js_ordered_table.specs.declared.setup.OrderedSetup.{OrderedSetup}
use Rattle.js_ordered_table.specs.declared.setup.OrderedSetup.TheVariants.{Pull, Push}
use Rattle.js_ordered_table.specs.declared.run.Output.{Output}
use Rattle.js_ordered_table.specs.declared.run.Output.TheVariants as out
use Rattle.js_ordered_table.specs.Gapless.{Server, FollowsStarts, start_sequence}
use Rattle.js_ordered_table.specs.Invariant.{OpensAsAsked}
use Rattle.js_ordered_table.proofs.Rewritten.{if_both, if_each}

-- the start of the last recreation among the outputs
abbrev pub from_after : ℕ → List Output → ℕ
from_after from [] = from
from_after from (out.Recreate recreation_count start ∷ outputs) = from_after (start_sequence start) outputs
from_after from (_ ∷ outputs) = from_after from outputs

pub from_append : (from : ℕ) (first second : List Output) → from_after from (first ++ second) ≡ from_after (from_after from first) second
from_append from [] second = refl
from_append from (out.Recreate recreation_count start ∷ first) second = from_append (start_sequence start) first second
from_append from (out.Yield sequence number subject payload ∷ first) second = from_append from first second
from_append from (out.Item kind ∷ first) second = from_append from first second
from_append from (out.Request number subject payload ∷ first) second = from_append from first second
from_append from (out.Publish subject reply payload ∷ first) second = from_append from first second
from_append from (out.Subscribe inbox subject ∷ first) second = from_append from first second

pub follows_first : (starts : ℕ → ℕ) (from : ℕ) (first second : List Output) → FollowsStarts starts from (first ++ second) → FollowsStarts starts from first
follows_first starts from [] second f = tt
follows_first starts from (out.Recreate recreation_count start ∷ first) second f = follows_first starts (start_sequence start) first second f
follows_first starts from (out.Yield sequence number subject payload ∷ first) second f = follows_first starts from first second f
follows_first starts from (out.Item kind ∷ first) second f = follows_first starts from first second f
follows_first starts from (out.Request number subject payload ∷ first) second f = follows_first starts from first second f
follows_first starts from (out.Publish subject reply payload ∷ first) second f = follows_first starts from first second f
follows_first starts from (out.Subscribe inbox subject ∷ first) second f = (f.0, follows_first starts from first second f.1)

pub follows_second : (starts : ℕ → ℕ) (from : ℕ) (first second : List Output) → FollowsStarts starts from (first ++ second) → FollowsStarts starts (from_after from first) second
follows_second starts from [] second f = f
follows_second starts from (out.Recreate recreation_count start ∷ first) second f = follows_second starts (start_sequence start) first second f
follows_second starts from (out.Yield sequence number subject payload ∷ first) second f = follows_second starts from first second f
follows_second starts from (out.Item kind ∷ first) second f = follows_second starts from first second f
follows_second starts from (out.Request number subject payload ∷ first) second f = follows_second starts from first second f
follows_second starts from (out.Publish subject reply payload ∷ first) second f = follows_second starts from first second f
follows_second starts from (out.Subscribe inbox subject ∷ first) second f = follows_second starts from first second f.1

-- an open recreation asks from there
abbrev pub AsksFrom : Phase → ℕ → Type 0
AsksFrom (Recreates r) from = from ≡ start_sequence r.start
AsksFrom _ from = ⊤

abbrev Asks : ℕ → Passed → Type 0
Asks from passed = AsksFrom passed.consumer.phase (from_after from passed.outputs)

pub opens_from : (s : Server) (phase : Phase) (from : ℕ) (outputs : List Output) → AsksFrom phase from → FollowsStarts s.starts from outputs → OpensAsAsked s phase outputs
opens_from s (Recreates r) from outputs asks follows = subst (λ (n : ℕ). FollowsStarts s.starts n outputs) asks follows
opens_from s (Pulls reader) from outputs asks follows = tt
opens_from s (Pushes inbox heartbeat_timer) from outputs asks follows = tt
opens_from s Idle from outputs asks follows = tt
opens_from s Ended from outputs asks follows = tt
opens_from s Exhausted from outputs asks follows = tt

-- ---- a phase that is no recreation asks nothing

abbrev NotAsking : Phase → Type 0
NotAsking (Recreates r) = ⊥
NotAsking _ = ⊤

not_asking : (phase : Phase) (from : ℕ) → NotAsking phase → AsksFrom phase from
not_asking (Recreates r) from never = absurd never
not_asking (Pulls reader) from never = tt
not_asking (Pushes inbox heartbeat_timer) from never = tt
not_asking Idle from never = tt
not_asking Ended from never = tt
not_asking Exhausted from never = tt

abbrev LeavesNone : Passed → Type 0
LeavesNone passed = NotAsking passed.consumer.phase

message_none : (o : Option Place) (message : Message) (c : Consumer) → NotAsking c.phase → LeavesNone (message_row o message c)
message_none None message c never = never
message_none (Some place) message c never = if_both LeavesNone (place.number == c.core.consumer_sequence + 1) _ _ never never

told_none : (t : PullTold) (c : Consumer) → NotAsking c.phase → LeavesNone (told t c)
told_none tells.Nothing c never = never
told_none (tells.Hands message) c never = message_none (readable_as message.reply) message (record c { missed = false }) never
told_none (tells.Tells error.ConsumerDeleted) c never = never
told_none (tells.Tells error.NoResponders) c never = never
told_none (tells.Tells error.PushBasedConsumer) c never = tt
told_none (tells.Tells error.RequestLimitExceeded) c never = if_both LeavesNone c.limited _ _ tt never
told_none (tells.Tells error.MissingHeartbeat) c never = if_both LeavesNone c.missed _ _ never never
told_none (tells.Tells error.Pull) c never = never
told_none (tells.Tells error.Other) c never = never

hear_kind_none : (stalled : Bool) (p : RowInput) (message : Message) (k : PushKind) (c : Consumer) → NotAsking c.phase → LeavesNone (hear_kind stalled p message k c)
hear_kind_none stalled p message Delivered c never = message_none (readable_as message.reply) message c never
hear_kind_none stalled p message OtherStatus c never = never
hear_kind_none stalled p message Bad c never = never
hear_kind_none stalled p message (Beat n) c never = never

-- ---- the rows of a recreation

start_asks : (g : ReplayInput) (c : Consumer) (from : ℕ) → Asks from (start_row g c)
start_asks g c from = if_each (Asks from) (c.core.stream_sequence == pull.u64_max) _ _ (λ _. tt) (λ _. refl)

create_asks : (setup : OrderedSetup) (p : RowInput) (r : Recreation) (c : Consumer) (from : ℕ) → from ≡ start_sequence r.start → Asks from (create_row setup p r (at_phase (Recreates r) c))
create_asks (Pull setup) p r c from a = a
create_asks (Push setup) p r c from a = if_each (Asks from) p.up _ _ (λ _. a) (λ _. a)

succeed_push_asks : (p : RowInput) (opened : Option Opened) (r : Recreation) (c : Consumer) (from : ℕ) → from ≡ start_sequence r.start → Asks from (succeed_push p opened (at_phase (Recreates r) c))
succeed_push_asks p None r c from a = a
succeed_push_asks p (Some opened) r c from a = tt

succeed_asks : (g : ReplayInput) (setup : OrderedSetup) (p : RowInput) (info : Info) (r : Recreation) (c : Consumer) (from : ℕ) → from ≡ start_sequence r.start → Asks from (succeed_row setup g p info r (at_phase (Recreates r) c))
succeed_asks g (Pull setup) p info r c from a = if_each (Asks from) p.up _ _ (λ _. tt) (λ _. a)
succeed_asks g (Push setup) p info r c from a = succeed_push_asks p r.opened r c from a

-- ---- an event's first row

reader_asks : (p : RowInput) (m : Matter) (row : PullRow) (reader : PullReader) (c : Consumer) (from : ℕ) → Asks from (reader_row p m row reader c)
reader_asks p m row reader c from =
    let passed : Passed = reader_row p m row reader c in
    let read : pull.Passed = pull.row p m.answer (message_on reader.source.inbox m.arrival) row reader in
    not_asking passed.consumer.phase (from_after from passed.outputs) (told_none read.told (at_phase (Pulls read.reader) c) tt)

go_on_asks : (g : ReplayInput) (p : RowInput) (m : Matter) (phase : Phase) (c : Consumer) (from : ℕ) → AsksFrom phase from → Asks from (go_on g p m phase (at_phase phase c))
go_on_asks g p m Idle c from a = tt
go_on_asks g p m (Recreates r) c from a = a
go_on_asks g p m (Pulls reader) c from a = reader_asks p m (read.Begin None) reader c from
go_on_asks g p m (Pushes inbox heartbeat_timer) c from a = tt
go_on_asks g p m Ended c from a = tt
go_on_asks g p m Exhausted c from a = tt

changed_asks : (g : ReplayInput) (p : RowInput) (m : Matter) (old new : State) (phase : Phase) (c : Consumer) (from : ℕ) → AsksFrom phase from → Asks from (changed g p m old new phase (at_phase phase c))
changed_asks g p m old new (Pulls reader) c from a = reader_asks p m (read.Begin (Some new)) reader (record c { connection = new }) from
changed_asks g p m old new (Pushes inbox heartbeat_timer) c from a =
    if_both (Asks from) (is_connected old || is_connected new) _ _ tt (go_on_asks g p m (Pushes inbox heartbeat_timer) (record c { connection = new }) from a)
changed_asks g p m old new (Recreates r) c from a =
    go_on_asks g p m (Recreates r) (record c { connection = new }) from a
changed_asks g p m old new Idle c from a =
    go_on_asks g p m Idle (record c { connection = new }) from a
changed_asks g p m old new Ended c from a =
    go_on_asks g p m Ended (record c { connection = new }) from a
changed_asks g p m old new Exhausted c from a =
    go_on_asks g p m Exhausted (record c { connection = new }) from a

watcher_asks : (g : ReplayInput) (p : RowInput) (m : Matter) (setup : OrderedSetup) (phase : Phase) (c : Consumer) (from : ℕ) → AsksFrom phase from → Asks from (watcher_ended g p m setup (at_phase phase c))
watcher_asks g p m (Pull setup) phase c from a = go_on_asks g p m phase c from a
watcher_asks g p m (Push setup) phase c from a = tt

change_asks : (g : ReplayInput) (p : RowInput) (m : Matter) (change : Change) (phase : Phase) (c : Consumer) (from : ℕ) → AsksFrom phase from → Asks from (event_change g p m change (at_phase phase c))
change_asks g p m Unchanged phase c from a = go_on_asks g p m phase c from a
change_asks g p m (Becomes state) phase c from a =
    if_both (Asks from) (same_state c.connection state) _ _ (go_on_asks g p m phase c from a) (changed_asks g p m c.connection state phase c from a)
change_asks g p m WatcherEnds phase c from a = watcher_asks g p m g.setup phase c from a

event_asks : (g : ReplayInput) (p : RowInput) (m : Matter) (phase : Phase) (c : Consumer) (from : ℕ) → AsksFrom phase from → Asks from (event_row g p m phase (at_phase phase c))
event_asks g p m Ended c from a = tt
event_asks g p m Exhausted c from a = tt
event_asks g p m (Pulls reader) c from a = change_asks g p m m.change (Pulls reader) c from a
event_asks g p m (Pushes inbox heartbeat_timer) c from a = change_asks g p m m.change (Pushes inbox heartbeat_timer) c from a
event_asks g p m (Recreates r) c from a = change_asks g p m m.change (Recreates r) c from a
event_asks g p m Idle c from a = change_asks g p m m.change Idle c from a

-- ---- every row

hear_asks : (stalled : Bool) (p : RowInput) (arrival : Arrival) (inbox : ℕ) (heartbeat_timer : Timer) (c : Consumer) (from : ℕ) → Asks from (hear_row stalled p arrival inbox (at_phase (Pushes inbox heartbeat_timer) c))
hear_asks stalled p arrival inbox heartbeat_timer c from =
    if_both (Asks from) (arrival.inbox == inbox) _ _
    (let passed : Passed = hear_kind stalled p arrival.message (push_kind arrival.message) (at_phase (Pushes inbox (armed p.now)) c) in
    not_asking passed.consumer.phase (from_after from passed.outputs)
    (hear_kind_none stalled p arrival.message (push_kind arrival.message) (at_phase (Pushes inbox (armed p.now)) c) tt))
    tt

pub row_asks : (g : ReplayInput) (p : RowInput) (m : Matter) (row : Row) (phase : Phase) (c : Consumer) (from : ℕ) → AsksFrom phase from → Asks from (row_at g p m row phase (at_phase phase c))
row_asks g p m Event phase c from a = event_asks g p m phase c from a
row_asks g p m Start phase c from a = start_asks g (at_phase phase c) from
row_asks g p m Try (Recreates r) c from a = if_each (Asks from) p.up _ _ (λ _. a) (λ _. a)
row_asks g p m Create (Recreates r) c from a = create_asks g.setup p r c from a
row_asks g p m Ask (Recreates r) c from a = if_each (Asks from) p.up _ _ (λ _. a) (λ _. a)
row_asks g p m Await (Recreates r) c from a = a
row_asks g p m (Answered reply) (Recreates r) c from a =
    if_each (λ (outputs : List Output). from_after from outputs ≡ start_sequence r.start)
    (missing_after g.settings.resilience.tells_missing_stream (pull.info_reply reply) c.stream_missing && not c.stream_missing) _ _ (λ _. a) (λ _. a)
row_asks g p m Hold (Recreates r) c from a = a
row_asks g p m (Succeed info) (Recreates r) c from a = succeed_asks g g.setup p info r c from a
row_asks g p m Fail (Recreates r) c from a = if_each (Asks from) (nat_lt g.settings.retries (r.failures + 1)) _ _ (λ _. tt) (λ _. a)
row_asks g p m CheckArrival (Pushes inbox heartbeat_timer) c from a = tt
row_asks g p m (Hear arrival) (Pushes inbox heartbeat_timer) c from a = hear_asks g.settings.resilience.answers_stalled p arrival inbox heartbeat_timer c from
row_asks g p m CheckSilence (Pushes inbox heartbeat_timer) c from a = if_each (Asks from) (is_due heartbeat_timer p.now) _ _ (λ _. tt) (λ _. tt)
row_asks g p m Arm (Pushes inbox heartbeat_timer) c from a = tt
row_asks g p m (Read row) (Pulls reader) c from a = reader_asks p m row reader c from
row_asks g p m _ phase c from a = a
