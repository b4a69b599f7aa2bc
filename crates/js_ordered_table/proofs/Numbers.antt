-- On one inbox the consumer numbers of the yields are 1, 2, 3 and so on.
use Rattle.std.proofs.Common.{◌≡◌, ℕ, zero, suc, ◌+◌, Bool, true, false, List, [], ◌∷◌, ◌++◌, map, Option, Some, None, refl, subst}
use Rattle.std.specs.Prelude.{nat_lt, ◌||◌, ◌==◌, not, ◌&&◌}
use Rattle.std.proofs.lemmas.Bool.{eqb-true}
use Rattle.js_base.specs.declared.message.Message.{Message}
use Rattle.js_base.specs.Clock.{is_due}
use Rattle.js_base.specs.declared.message.State.{State}
use Rattle.js_json.specs.declared.consumer.info.Info.{Info}
use Rattle.js_message.specs.AckSubject.{Place, readable_as}
use Rattle.js_link.specs.RowInput.{RowInput}
use Rattle.js_link.specs.declared.sent.Sent.{Sent}
use Rattle.js_link.specs.declared.sent.Sent.TheVariants as goes
use Rattle.js_pull.specs.Reader as pull
use Rattle.js_pull.specs.declared.reader.Row.TheVariants as read
use Rattle.js_pull.specs.declared.reader.ReaderOutput.TheVariants as tells
use Rattle.js_pull.specs.declared.reader.Reader.{Reader as PullReader}
use Rattle.js_pull.specs.declared.reader.Row.{Row as PullRow}
use Rattle.js_pull.specs.declared.reader.ReaderOutput.{ReaderOutput as PullTold}
use Rattle.js_pull.specs.declared.reader.MessagesErrorKind.TheVariants as error
use Rattle.js_ordered_table.specs.declared.consumer.Consumer.{Consumer}
use Rattle.js_ordered_table.specs.Consumer.{Matter, Change, Unchanged, Becomes, WatcherEnds, Passed, at_phase, output_of}
use Rattle.js_ordered_table.specs.declared.row.Row.{Row}
use Rattle.js_ordered_table.specs.declared.row.Row.TheVariants.{Event, Start, Try, Create, Ask, Await, Answered, Hold, Succeed, Fail, CheckArrival, Hear, CheckSilence, Arm, Read}
use Rattle.js_ordered_table.specs.declared.consumer.Recreation.{Recreation}
use Rattle.js_ordered_table.specs.declared.consumer.Opened.{Opened}
use Rattle.js_ordered_table.specs.declared.consumer.ReplayInput.{ReplayInput}
use Rattle.js_ordered_table.specs.declared.consumer.Phase.{Phase}
use Rattle.js_ordered_table.specs.declared.consumer.Phase.TheVariants.{Pulls, Pushes, Recreates, Idle, Ended, Exhausted}
use Rattle.js_ordered_table.specs.declared.replay_state.ReplayState.{ReplayState}
use Rattle.js_ordered_table.specs.Recreation.{create_row, succeed_row, succeed_push, message_on, missing_after}
use Rattle.js_ordered_table.specs.Arrivals.{message_row, told, push_kind, hear_kind, armed, beat_answer, beat_subject}
use Rattle.js_ordered_table.specs.declared.kind.PushKind.{PushKind}
use Rattle.js_ordered_table.specs.declared.kind.PushKind.TheVariants.{Delivered, OtherStatus, Bad, Beat}
use Rattle.js_ordered_table.specs.Table.{go_on, is_connected, changed, watcher_ended, event_change, event_row, reader_row, row_at, pass}
use Rattle.js_pull.specs.Poll.{same_state}
use Rattle.js_ordered_table.specs.declared.setup.OrderedSetup.{OrderedSetup}
use Rattle.js_ordered_table.specs.declared.setup.OrderedSetup.TheVariants.{Pull, Push}
use Rattle.js_ordered_table.specs.declared.event.Event as events
use Rattle.js_ordered_table.specs.declared.run.Output.{Output}
use Rattle.js_ordered_table.specs.declared.run.Output.TheVariants as out
use Rattle.js_ordered_table.specs.Fold.{Ran, passing, after, pass_all, pass_each, pass_to, rank, tick, matter_of, link_after, event, run_events, opening_rows, first_state, opening, fold, step_of}
use Rattle.js_ordered_table.specs.Gapless.{joined, all_outputs}
use Rattle.js_ordered_table.specs.Replay.{CountsUp}
use Rattle.js_ordered_table.proofs.Rewritten.{if_both, if_each, if_with}

-- the numbers of these yields go on from one number up to another
abbrev Counts : ℕ → List Output → ℕ → Type 0
Counts before [] after = after ≡ before
Counts before (out.Yield sequence number subject payload ∷ outputs) after = (number ≡ before + 1) × Counts number outputs after
Counts before (out.Recreate recreation_count start ∷ outputs) after = Counts 0 outputs after
Counts before (_ ∷ outputs) after = Counts before outputs after

counts_append : (before between after : ℕ) (first second : List Output) → Counts before first between → Counts between second after → Counts before (first ++ second) after
counts_append before between after [] second c d = subst (λ (n : ℕ). Counts n second after) c d
counts_append before between after (out.Yield sequence number subject payload ∷ first) second c d = (c.0, counts_append number between after first second c.1 d)
counts_append before between after (out.Item kind ∷ first) second c d = counts_append before between after first second c d
counts_append before between after (out.Recreate recreation_count start ∷ first) second c d = counts_append 0 between after first second c d
counts_append before between after (out.Request number subject payload ∷ first) second c d = counts_append before between after first second c d
counts_append before between after (out.Publish subject reply payload ∷ first) second c d = counts_append before between after first second c d
counts_append before between after (out.Subscribe inbox subject ∷ first) second c d = counts_append before between after first second c d

counts_up : (before after : ℕ) (outputs : List Output) → Counts before outputs after → CountsUp before outputs
counts_up before after [] c = tt
counts_up before after (out.Yield sequence number subject payload ∷ outputs) c = (c.0, counts_up number after outputs c.1)
counts_up before after (out.Item kind ∷ outputs) c = counts_up before after outputs c
counts_up before after (out.Recreate recreation_count start ∷ outputs) c = counts_up 0 after outputs c
counts_up before after (out.Request number subject payload ∷ outputs) c = counts_up before after outputs c
counts_up before after (out.Publish subject reply payload ∷ outputs) c = counts_up before after outputs c
counts_up before after (out.Subscribe inbox subject ∷ outputs) c = counts_up before after outputs c

-- what a reader sends is no yield
sent_counts : (sent : List Sent) (before after : ℕ) (outputs : List Output) → Counts before outputs after → Counts before (map output_of sent ++ outputs) after
sent_counts [] before after outputs c = c
sent_counts (goes.Request number subject headers payload ∷ sent) before after outputs c = sent_counts sent before after outputs c
sent_counts (goes.Publish subject reply headers payload ∷ sent) before after outputs c = sent_counts sent before after outputs c
sent_counts (goes.Subscribe inbox subject group ∷ sent) before after outputs c = sent_counts sent before after outputs c

-- ---- the rows

-- a row goes on from the last number, up to the number that it leaves
abbrev GoesUp : ℕ → Passed → Type 0
GoesUp before passed = Counts before passed.outputs passed.consumer.core.consumer_sequence

message_up : (o : Option Place) (message : Message) (c : Consumer) → GoesUp c.core.consumer_sequence (message_row o message c)
message_up None message c = refl
message_up (Some place) message c = if_with (GoesUp c.core.consumer_sequence) (place.number == c.core.consumer_sequence + 1) _ _ (λ same. (eqb-true place.number (c.core.consumer_sequence + 1) same, refl)) refl

told_up : (t : PullTold) (c : Consumer) → GoesUp c.core.consumer_sequence (told t c)
told_up tells.Nothing c = refl
told_up (tells.Hands message) c = message_up (readable_as message.reply) message (record c { missed = false })
told_up (tells.Tells error.ConsumerDeleted) c = refl
told_up (tells.Tells error.NoResponders) c = refl
told_up (tells.Tells error.PushBasedConsumer) c = refl
told_up (tells.Tells error.RequestLimitExceeded) c = if_both (GoesUp c.core.consumer_sequence) c.limited _ _ refl refl
told_up (tells.Tells error.MissingHeartbeat) c = if_both (GoesUp c.core.consumer_sequence) c.missed _ _ refl refl
told_up (tells.Tells error.Pull) c = refl
told_up (tells.Tells error.Other) c = refl

reader_up : (p : RowInput) (m : Matter) (row : PullRow) (reader : PullReader) (c : Consumer) → GoesUp c.core.consumer_sequence (reader_row p m row reader c)
reader_up p m row reader c =
    let passed : pull.Passed = pull.row p m.answer (message_on reader.source.inbox m.arrival) row reader in
    let inboxes_opened : Passed = told passed.told (at_phase (Pulls passed.reader) c) in
    sent_counts passed.sent c.core.consumer_sequence inboxes_opened.consumer.core.consumer_sequence inboxes_opened.outputs (told_up passed.told (at_phase (Pulls passed.reader) c))

beat_up : (up : Bool) (reply : Option (List ℕ)) (n : ℕ) → Counts n (beat_answer up reply) n
beat_up up None n = refl
beat_up true (Some reply) n = refl
beat_up false (Some reply) n = refl

hear_up : (stalled : Bool) (p : RowInput) (message : Message) (k : PushKind) (c : Consumer) → GoesUp c.core.consumer_sequence (hear_kind stalled p message k c)
hear_up stalled p message Delivered c = message_up (readable_as message.reply) message c
hear_up stalled p message OtherStatus c = refl
hear_up stalled p message Bad c = refl
hear_up stalled p message (Beat last) c = beat_up p.up (beat_subject stalled message) c.core.consumer_sequence

create_up : (setup : OrderedSetup) (p : RowInput) (r : Recreation) (c : Consumer) → GoesUp c.core.consumer_sequence (create_row setup p r c)
create_up (Pull setup) p r c = refl
create_up (Push setup) p r c = if_each (GoesUp c.core.consumer_sequence) p.up _ _ (λ _. refl) (λ _. refl)

push_up : (p : RowInput) (opened : Option Opened) (c : Consumer) → GoesUp c.core.consumer_sequence (succeed_push p opened c)
push_up p None c = refl
push_up p (Some opened) c = refl

succeed_up : (setup : OrderedSetup) (g : ReplayInput) (p : RowInput) (info : Info) (r : Recreation) (c : Consumer) → GoesUp c.core.consumer_sequence (succeed_row setup g p info r c)
succeed_up (Pull setup) g p info r c = if_each (GoesUp c.core.consumer_sequence) p.up _ _ (λ _. refl) (λ _. refl)
succeed_up (Push setup) g p info r c = push_up p r.opened c

go_on_up : (g : ReplayInput) (p : RowInput) (m : Matter) (phase : Phase) (c : Consumer) → GoesUp c.core.consumer_sequence (go_on g p m phase c)
go_on_up g p m Idle c = refl
go_on_up g p m (Recreates r) c = refl
go_on_up g p m (Pulls reader) c = reader_up p m (read.Begin None) reader c
go_on_up g p m (Pushes inbox heartbeat_timer) c = refl
go_on_up g p m Ended c = refl
go_on_up g p m Exhausted c = refl

changed_up : (g : ReplayInput) (p : RowInput) (m : Matter) (old new : State) (phase : Phase) (c : Consumer) → GoesUp c.core.consumer_sequence (changed g p m old new phase c)
changed_up g p m old new (Pulls reader) c = reader_up p m (read.Begin (Some new)) reader (record c { connection = new })
changed_up g p m old new (Pushes inbox heartbeat_timer) c =
    if_both (GoesUp c.core.consumer_sequence) (is_connected old || is_connected new) _ _ refl (go_on_up g p m (Pushes inbox heartbeat_timer) (record c { connection = new }))
changed_up g p m old new (Recreates r) c = go_on_up g p m (Recreates r) (record c { connection = new })
changed_up g p m old new Idle c = go_on_up g p m Idle (record c { connection = new })
changed_up g p m old new Ended c = go_on_up g p m Ended (record c { connection = new })
changed_up g p m old new Exhausted c = go_on_up g p m Exhausted (record c { connection = new })

watcher_up : (g : ReplayInput) (p : RowInput) (m : Matter) (setup : OrderedSetup) (c : Consumer) → GoesUp c.core.consumer_sequence (watcher_ended g p m setup c)
watcher_up g p m (Pull setup) c = go_on_up g p m c.phase c
watcher_up g p m (Push setup) c = refl

change_up : (g : ReplayInput) (p : RowInput) (m : Matter) (change : Change) (c : Consumer) → GoesUp c.core.consumer_sequence (event_change g p m change c)
change_up g p m Unchanged c = go_on_up g p m c.phase c
change_up g p m (Becomes state) c =
    if_both (GoesUp c.core.consumer_sequence) (same_state c.connection state) _ _ (go_on_up g p m c.phase c) (changed_up g p m c.connection state c.phase c)
change_up g p m WatcherEnds c = watcher_up g p m g.setup c

event_up : (g : ReplayInput) (p : RowInput) (m : Matter) (phase : Phase) (c : Consumer) → GoesUp c.core.consumer_sequence (event_row g p m phase c)
event_up g p m Ended c = refl
event_up g p m Exhausted c = refl
event_up g p m (Pulls reader) c = change_up g p m m.change c
event_up g p m (Pushes inbox heartbeat_timer) c = change_up g p m m.change c
event_up g p m (Recreates r) c = change_up g p m m.change c
event_up g p m Idle c = change_up g p m m.change c

row_up : (g : ReplayInput) (p : RowInput) (m : Matter) (row : Row) (phase : Phase) (c : Consumer) → GoesUp c.core.consumer_sequence (row_at g p m row phase c)
row_up g p m Event phase c = event_up g p m phase c
row_up g p m Start phase c = if_each (GoesUp c.core.consumer_sequence) (c.core.stream_sequence == pull.u64_max) _ _ (λ _. refl) (λ _. refl)
row_up g p m Try (Recreates r) c = if_each (GoesUp c.core.consumer_sequence) p.up _ _ (λ _. refl) (λ _. refl)
row_up g p m Create (Recreates r) c = create_up g.setup p r c
row_up g p m Ask (Recreates r) c = if_each (GoesUp c.core.consumer_sequence) p.up _ _ (λ _. refl) (λ _. refl)
row_up g p m Await (Recreates r) c = refl
row_up g p m (Answered reply) (Recreates r) c =
    if_each (λ (outputs : List Output). Counts c.core.consumer_sequence outputs c.core.consumer_sequence)
    (missing_after g.settings.resilience.tells_missing_stream (pull.info_reply reply) c.stream_missing && not c.stream_missing) _ _ (λ _. refl) (λ _. refl)
row_up g p m Hold (Recreates r) c = refl
row_up g p m (Succeed info) (Recreates r) c = succeed_up g.setup g p info r c
row_up g p m Fail (Recreates r) c = if_each (GoesUp c.core.consumer_sequence) (nat_lt g.settings.retries (r.failures + 1)) _ _ (λ _. refl) (λ _. refl)
row_up g p m CheckArrival (Pushes inbox heartbeat_timer) c = refl
row_up g p m (Hear arrival) (Pushes inbox heartbeat_timer) c =
    if_both (GoesUp c.core.consumer_sequence) (arrival.inbox == inbox) _ _ (hear_up g.settings.resilience.answers_stalled p arrival.message (push_kind arrival.message) (at_phase (Pushes inbox (armed p.now)) c)) refl
row_up g p m CheckSilence (Pushes inbox heartbeat_timer) c = if_each (GoesUp c.core.consumer_sequence) (is_due heartbeat_timer p.now) _ _ (λ _. refl) (λ _. refl)
row_up g p m Arm (Pushes inbox heartbeat_timer) c = refl
row_up g p m (Read row) (Pulls reader) c = reader_up p m row reader c
row_up g p m _ phase c = refl

-- ---- the runs

abbrev RanUp : ℕ → Ran → Type 0
RanUp before ran = Counts before ran.outputs ran.state.consumer.core.consumer_sequence

each_up : (one : Row → ReplayState → Ran) → ((row : Row) (w : ReplayState) → RanUp w.consumer.core.consumer_sequence (one row w)) → (rows : List Row) (w : ReplayState) → RanUp w.consumer.core.consumer_sequence (pass_each one rows w)
each_up one up [] w = refl
each_up one up (row ∷ rows) w =
    let ran : Ran = one row w in
    let rest : Ran = pass_each one rows ran.state in
    counts_append w.consumer.core.consumer_sequence ran.state.consumer.core.consumer_sequence rest.state.consumer.core.consumer_sequence ran.outputs rest.outputs (up row w) (each_up one up rows ran.state)

to_up : (g : ReplayInput) (now : ℕ) (m : Matter) (depth : ℕ) (row : Row) (w : ReplayState) → RanUp w.consumer.core.consumer_sequence (pass_to g now m depth row w)
to_up g now m zero row w = refl
to_up g now m (suc depth) row w =
    let passed : Passed = pass g (passing g now w) m row w.consumer in
    let rest : Ran = pass_each (pass_to g now m depth) passed.next (after w passed) in
    counts_append w.consumer.core.consumer_sequence passed.consumer.core.consumer_sequence rest.state.consumer.core.consumer_sequence passed.outputs rest.outputs
    (row_up g (passing g now w) m row w.consumer.phase w.consumer) (each_up (pass_to g now m depth) (to_up g now m depth) passed.next (after w passed))

all_up : (g : ReplayInput) (now : ℕ) (m : Matter) (rows : List Row) (w : ReplayState) → RanUp w.consumer.core.consumer_sequence (pass_all g now m rows w)
all_up g now m rows w = each_up (λ row. pass_to g now m (suc (rank row)) row) (λ row. to_up g now m (suc (rank row)) row) rows w

events_up : (g : ReplayInput) (es : List events.Event) (w : ReplayState) → (after : ℕ) × Counts w.consumer.core.consumer_sequence (joined (map step_of (run_events g es w))) after
unfolding event run_events
events_up g [] w = (w.consumer.core.consumer_sequence, refl)
events_up g (e ∷ es) w =
    let ran : Ran = event g e w in
    let rest : List Output = joined (map step_of (run_events g es ran.state)) in
    let more : (after : ℕ) × Counts ran.state.consumer.core.consumer_sequence rest after = events_up g es ran.state in (
      more.0,
      counts_append w.consumer.core.consumer_sequence ran.state.consumer.core.consumer_sequence more.0 ran.outputs rest
          (all_up g e.at (matter_of e.what) (Event ∷ []) (record w { link_up = link_after e.what w.link_up })) more.1,
    )

pub fold_counts_up : (g : ReplayInput) (start : ℕ) (es : List events.Event) → CountsUp 0 (all_outputs (fold g start es))
unfolding opening fold
fold_counts_up g start es =
    let first : Ran = opening g start in
    let rest : List Output = joined (map step_of (run_events g es first.state)) in
    let more : (after : ℕ) × Counts first.state.consumer.core.consumer_sequence rest after = events_up g es first.state in
    counts_up 0 more.0 (first.outputs ++ rest)
    (counts_append 0 first.state.consumer.core.consumer_sequence more.0 first.outputs rest (all_up g start tick (opening_rows g.setup) (first_state g start)) more.1)
