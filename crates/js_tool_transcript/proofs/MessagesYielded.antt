-- What holds of the subject and the payload of each message that arrives holds of each yield.
use Rattle.std.proofs.Common.{ℕ, zero, suc, ◌+◌, Bool, true, false, List, [], ◌∷◌, ◌++◌, map, Option, Some, None, subst}
use Rattle.std.specs.Prelude.{⊤, IfSome, nat_lt, is_some, ◌||◌, ◌==◌, ◌&&◌, not}
use Rattle.std.specs.List.{AllByRecursion}
use Rattle.js_base.specs.declared.clock.Timer.{Timer}
use Rattle.js_base.specs.Clock.{is_due}
use Rattle.js_base.specs.declared.message.Message.{Message}
use Rattle.js_base.specs.declared.message.State.{State}
use Rattle.js_json.specs.declared.consumer.info.Info.{Info}
use Rattle.js_link.specs.RowInput.{RowInput}
use Rattle.js_link.specs.declared.sent.Sent.{Sent}
use Rattle.js_link.specs.declared.sent.Sent.TheVariants as goes
use Rattle.js_message.specs.AckSubject.{Place, readable_as}
use Rattle.js_pull.specs.Reader as pull
use Rattle.js_pull.specs.declared.reader.Reader.{Reader as PullReader}
use Rattle.js_pull.specs.declared.reader.Row.{Row as PullRow}
use Rattle.js_pull.specs.declared.reader.Row.TheVariants as read
use Rattle.js_pull.specs.declared.reader.ReaderOutput.{ReaderOutput as PullTold}
use Rattle.js_pull.specs.declared.reader.ReaderOutput.TheVariants as tells
use Rattle.js_pull.specs.declared.reader.MessagesErrorKind.TheVariants as error
use Rattle.js_ordered_table.specs.declared.consumer.Consumer.{Consumer}
use Rattle.js_ordered_table.specs.declared.consumer.Opened.{Opened}
use Rattle.js_ordered_table.specs.declared.consumer.Phase.{Phase}
use Rattle.js_ordered_table.specs.declared.consumer.Phase.TheVariants.{Pulls, Pushes, Recreates, Idle, Ended, Exhausted}
use Rattle.js_ordered_table.specs.declared.consumer.Recreation.{Recreation}
use Rattle.js_ordered_table.specs.declared.consumer.ReplayInput.{ReplayInput}
use Rattle.js_ordered_table.specs.declared.consumer.Stage.{Stage}
use Rattle.js_ordered_table.specs.declared.consumer.Stage.TheVariants.{Between, Deleting, Creating, Waiting}
use Rattle.js_ordered_table.specs.declared.event.Event as events
use Rattle.js_ordered_table.specs.declared.event.EventKind.{EventKind}
use Rattle.js_ordered_table.specs.declared.event.EventKind.TheVariants as what
use Rattle.js_ordered_table.specs.declared.kind.PushKind.{PushKind}
use Rattle.js_ordered_table.specs.declared.kind.PushKind.TheVariants.{Delivered, OtherStatus, Bad, Beat}
use Rattle.js_ordered_table.specs.declared.replay_state.ReplayState.{ReplayState}
use Rattle.js_ordered_table.specs.declared.row.Arrival.{Arrival}
use Rattle.js_ordered_table.specs.declared.row.Row.{Row}
use Rattle.js_ordered_table.specs.declared.row.Row.TheVariants.{Event, Start, Try, Create, Ask, Await, Answered, Hold, Succeed, Fail, CheckArrival, Hear, CheckSilence, Arm, Read}
use Rattle.js_ordered_table.specs.declared.run.Output.{Output}
use Rattle.js_ordered_table.specs.declared.run.Output.TheVariants as out
use Rattle.js_ordered_table.specs.declared.setup.OrderedSetup.{OrderedSetup}
use Rattle.js_ordered_table.specs.declared.setup.OrderedSetup.TheVariants.{Pull, Push}
use Rattle.js_ordered_table.specs.Fold.{Ran, passing, after, pass_all, pass_each, pass_to, rank, tick, matter_of, link_after, event, run_events, first_phase, opening_rows, first_state, opening, fold, step_of}
use Rattle.js_ordered_table.specs.Gapless as gapless
use Rattle.js_ordered_table.specs.Gapless.{joined, all_outputs, yields}
use Rattle.js_ordered_table.specs.Arrivals.{message_row, told, with_sent, push_kind, beat_answer, beat_rows, hear_kind, hear_row, silence_row, armed, beat_subject}
use Rattle.js_ordered_table.specs.Recreation.{start_row, try_row, create_row, ask_row, succeed_row, succeed_pull, succeed_push, fail_row, message_on, hold, held_in, stage_rows, recreation_rows, created, answered, has_subject, missing_after, missing_outputs}
use Rattle.js_ordered_table.specs.Consumer.{Matter, Change, Unchanged, Becomes, WatcherEnds, Passed, at_phase, output_of}
use Rattle.js_ordered_table.specs.Table.{push_rows, go_on, is_connected, changed, watcher_ended, event_change, event_row, reader_row, row_at, pass}
use Rattle.js_pull.specs.Poll.{same_state}
use Rattle.js_ordered_table.proofs.RowInvariant.{HandsOnly, IsRead, row_read}
use Rattle.js_ordered_table.proofs.Rewritten.{if_both, if_each, all_append, all_in_place}

-- ---- where a message stands

-- a message whose subject and payload are so
abbrev pub IsOf : (List ℕ → List ℕ → Type 0) → Message → Type 0
IsOf P message = P message.subject message.payload

-- what an inbox holds
abbrev Holds : (List ℕ → List ℕ → Type 0) → Opened → Type 0
Holds P opened = AllByRecursion (IsOf P) opened.held

abbrev IsPhase : (List ℕ → List ℕ → Type 0) → Phase → Type 0
IsPhase P (Recreates r) = IfSome r.opened (Holds P)
IsPhase P _ = ⊤

abbrev IsRow : (List ℕ → List ℕ → Type 0) → Row → Type 0
IsRow P (Hear arrival) = IsOf P arrival.message
IsRow P _ = ⊤

abbrev IsMatter : (List ℕ → List ℕ → Type 0) → Matter → Type 0
IsMatter P m = IfSome m.arrival (λ arrival. IsOf P arrival.message)

-- a yield
abbrev IsOutput : (List ℕ → List ℕ → Type 0) → Output → Type 0
IsOutput P (out.Yield sequence number subject payload) = P subject payload
IsOutput P _ = ⊤

-- a row that was passed keeps it
record Keeps (P : List ℕ → List ℕ → Type 0) (passed : Passed) : Type 0 where
  phase : IsPhase P passed.consumer.phase
  rows : AllByRecursion (IsRow P) passed.next
  outputs : AllByRecursion (IsOutput P) passed.outputs

module _ (P : List ℕ → List ℕ → Type 0) where
  -- ---- recreations

  start_is : (g : ReplayInput) (c : Consumer) → Keeps P (start_row g c)
  start_is g c = if_each (Keeps P) (c.core.stream_sequence == pull.u64_max) _ _
      (λ _. record { phase = tt; rows = tt; outputs = tt }) (λ _. record { phase = tt; rows = (tt, tt); outputs = (tt, tt) })

  try_is : (g : ReplayInput) (p : RowInput) (r : Recreation) (c : Consumer) → IfSome r.opened (Holds P) → Keeps P (try_row g p r (at_phase (Recreates r) c))
  try_is g p r c k = if_each (Keeps P) p.up _ _ (λ _. record { phase = k; rows = tt; outputs = (tt, tt) }) (λ _. record { phase = k; rows = (tt, tt); outputs = tt })

  create_is : (setup : OrderedSetup) (p : RowInput) (r : Recreation) (c : Consumer) → IfSome r.opened (Holds P) → Keeps P (create_row setup p r (at_phase (Recreates r) c))
  create_is (Pull setup) p r c k = record { phase = k; rows = (tt, tt); outputs = tt }
  create_is (Push setup) p r c k =
      if_each (Keeps P) p.up _ _ (λ _. record { phase = tt; rows = (tt, tt); outputs = (tt, tt) }) (λ _. record { phase = k; rows = (tt, tt); outputs = tt })

  ask_is : (g : ReplayInput) (p : RowInput) (r : Recreation) (c : Consumer) → IfSome r.opened (Holds P) → Keeps P (ask_row g p r (at_phase (Recreates r) c))
  ask_is g p r c k = if_each (Keeps P) p.up _ _ (λ _. record { phase = k; rows = tt; outputs = (tt, tt) }) (λ _. record { phase = k; rows = (tt, tt); outputs = tt })

  fail_is : (g : ReplayInput) (p : RowInput) (r : Recreation) (c : Consumer) → Keeps P (fail_row g p r (at_phase (Recreates r) c))
  fail_is g p r c = if_each (Keeps P) (nat_lt g.settings.retries (r.failures + 1)) _ _
      (λ _. record { phase = tt; rows = tt; outputs = (tt, tt) }) (λ _. record { phase = tt; rows = tt; outputs = tt })

  succeed_pull_is : (g : ReplayInput) (p : RowInput) (info : Info) (r : Recreation) (c : Consumer) → IfSome r.opened (Holds P) → Keeps P (succeed_pull g p info (at_phase (Recreates r) c))
  succeed_pull_is g p info r c k =
      if_each (Keeps P) p.up _ _ (λ _. record { phase = tt; rows = (tt, (tt, tt)); outputs = (tt, tt) }) (λ _. record { phase = k; rows = (tt, tt); outputs = tt })

  held_rows : (inbox : ℕ) (held : List Message) → AllByRecursion (IsOf P) held
      → AllByRecursion (IsRow P) (map (λ (message : Message). Hear (record { inbox = inbox; message = message })) held ++ Arm ∷ [])
  held_rows inbox [] are = (tt, tt)
  held_rows inbox (message ∷ held) are = (are.0, held_rows inbox held are.1)

  succeed_push_is : (p : RowInput) (opened : Option Opened) (r : Recreation) (c : Consumer) → IfSome r.opened (Holds P) → IfSome opened (Holds P)
      → Keeps P (succeed_push p opened (at_phase (Recreates r) c))
  succeed_push_is p None r c k holds = record { phase = k; rows = tt; outputs = tt }
  succeed_push_is p (Some opened) r c k holds = record { phase = tt; rows = held_rows opened.inbox opened.held holds; outputs = tt }

  succeed_is : (setup : OrderedSetup) (g : ReplayInput) (p : RowInput) (info : Info) (r : Recreation) (c : Consumer) → IfSome r.opened (Holds P)
      → Keeps P (succeed_row setup g p info r (at_phase (Recreates r) c))
  succeed_is (Pull setup) g p info r c k = succeed_pull_is g p info r c k
  succeed_is (Push setup) g p info r c k = succeed_push_is p r.opened r c k k

  -- ---- what is held

  on_inbox : (inbox : ℕ) (arrival : Option Arrival) → IfSome arrival (λ arrival. IsOf P arrival.message) → IfSome (message_on inbox arrival) (IsOf P)
  on_inbox inbox None is = tt
  on_inbox inbox (Some arrival) is = if_both (λ (o : Option Message). IfSome o (IsOf P)) (inbox == arrival.inbox) _ _ is tt

  hold_is : (message : Option Message) (opened : Opened) → Holds P opened → IfSome message (IsOf P) → Holds P (hold message opened)
  hold_is None opened k is = k
  hold_is (Some message) opened k is = all_append (IsOf P) opened.held (message ∷ []) k (is, tt)

  held_is : (arrival : Option Arrival) (opened : Option Opened) → IfSome opened (Holds P) → IfSome arrival (λ arrival. IsOf P arrival.message) → IfSome (held_in arrival opened) (Holds P)
  held_is arrival None k is = tt
  held_is arrival (Some opened) k is = hold_is (message_on opened.inbox arrival) opened k (on_inbox opened.inbox arrival is)

  -- ---- the rows of a stage

  answered_is : (mode : OrderedSetup) (info : Option Info) → IsRow P (answered mode info)
  answered_is mode None = tt
  answered_is mode (Some info) = if_each (IsRow P) (has_subject mode info) (Succeed info) Fail (λ _. tt) (λ _. tt)

  -- an item is told, or nothing
  missing_are : (missing was_missing : Bool) → AllByRecursion (IsOutput P) (missing_outputs missing was_missing)
  missing_are missing was_missing = if_each (AllByRecursion (IsOutput P)) (missing && not was_missing) _ _ (λ _. (tt, tt)) (λ _. tt)

  created_are : (g : ReplayInput) (p : RowInput) (timeout : Timer) (reply : Option (Option Message)) → AllByRecursion (IsRow P) (created g p timeout reply)
  created_are g p timeout (Some reply) = (tt, tt)
  created_are g p timeout None = if_each (AllByRecursion (IsRow P)) (is_due timeout p.now) _ _ (λ _. (tt, tt)) (λ _. tt)

  stage_are : (g : ReplayInput) (p : RowInput) (m : Matter) (stage : Stage) → AllByRecursion (IsRow P) (stage_rows g p m stage)
  stage_are g p m Between = tt
  stage_are g p m (Deleting request timeout) =
      if_each (AllByRecursion (IsRow P)) (is_some (pull.reply_to request m.answer)) _ _ (λ _. (tt, tt))
      (λ _. if_each (AllByRecursion (IsRow P)) (is_due timeout p.now) _ _ (λ _. (tt, tt)) (λ _. tt))
  stage_are g p m (Creating request timeout) = created_are g p timeout (pull.reply_to request m.answer)
  stage_are g p m (Waiting wait) = if_each (AllByRecursion (IsRow P)) (is_due wait p.now) _ _ (λ _. (tt, tt)) (λ _. tt)

  recreation_are : (opened : Option Opened) → AllByRecursion (IsRow P) (recreation_rows opened)
  recreation_are None = (tt, tt)
  recreation_are (Some opened) = (tt, (tt, tt))

  -- ---- a message

  message_is : (phase : Phase) (c : Consumer) (o : Option Place) (message : Message) → IsPhase P phase → IsOf P message → Keeps P (message_row o message (at_phase phase c))
  message_is phase c None message k is = record { phase = k; rows = tt; outputs = (tt, tt) }
  message_is phase c (Some place) message k is =
      if_both (Keeps P) (place.number == c.core.consumer_sequence + 1) _ _ (record { phase = k; rows = tt; outputs = (is, tt) }) (record { phase = k; rows = (tt, tt); outputs = tt })

  -- ---- the pull reader

  sent_are : (sent : List Sent) (outputs : List Output) → AllByRecursion (IsOutput P) outputs → AllByRecursion (IsOutput P) (map output_of sent ++ outputs)
  sent_are [] outputs are = are
  sent_are (goes.Request number subject headers payload ∷ sent) outputs are = (tt, sent_are sent outputs are)
  sent_are (goes.Publish subject reply headers payload ∷ sent) outputs are = (tt, sent_are sent outputs are)
  sent_are (goes.Subscribe inbox subject group ∷ sent) outputs are = (tt, sent_are sent outputs are)

  read_rows : (rows : List PullRow) → AllByRecursion (IsRow P) (map Read rows)
  read_rows [] = tt
  read_rows (row ∷ rows) = (tt, read_rows rows)

  with_sent_is : (sent : List Sent) (rows : List PullRow) (passed : Passed) → Keeps P passed → Keeps P (with_sent (map output_of sent) (map Read rows) passed)
  with_sent_is sent rows passed keeps = record {
    phase = keeps.phase;
    rows = all_in_place (IsRow P) passed.next (map Read rows) keeps.rows (read_rows rows);
    outputs = sent_are sent passed.outputs keeps.outputs;
  }

  told_is : (reader : PullReader) (c : Consumer) (arrival : Option Message) (t : PullTold) → IfSome arrival (IsOf P) → HandsOnly arrival t → Keeps P (told t (at_phase (Pulls reader) c))
  told_is reader c arrival tells.Nothing is hands = record { phase = tt; rows = tt; outputs = tt }
  told_is reader c arrival (tells.Hands message) is hands =
      message_is (Pulls reader) (record c { missed = false }) (readable_as message.reply) message tt (subst (λ (o : Option Message). IfSome o (IsOf P)) hands.0 is)
  told_is reader c arrival (tells.Tells error.ConsumerDeleted) is hands = record { phase = tt; rows = (tt, tt); outputs = tt }
  told_is reader c arrival (tells.Tells error.NoResponders) is hands = record { phase = tt; rows = (tt, tt); outputs = tt }
  told_is reader c arrival (tells.Tells error.PushBasedConsumer) is hands = record { phase = tt; rows = tt; outputs = (tt, tt) }
  told_is reader c arrival (tells.Tells error.RequestLimitExceeded) is hands =
      if_each (Keeps P) c.limited _ _ (λ _. record { phase = tt; rows = tt; outputs = (tt, tt) }) (λ _. record { phase = tt; rows = (tt, tt); outputs = tt })
  told_is reader c arrival (tells.Tells error.MissingHeartbeat) is hands =
      if_each (Keeps P) c.missed _ _ (λ _. record { phase = tt; rows = (tt, tt); outputs = tt }) (λ _. record { phase = tt; rows = tt; outputs = tt })
  told_is reader c arrival (tells.Tells error.Pull) is hands = record { phase = tt; rows = tt; outputs = (tt, tt) }
  told_is reader c arrival (tells.Tells error.Other) is hands = record { phase = tt; rows = tt; outputs = (tt, tt) }

  reader_is : (p : RowInput) (m : Matter) (row : PullRow) (reader : PullReader) (c : Consumer) → IsMatter P m → Keeps P (reader_row p m row reader c)
  reader_is p m row reader c is =
      let arrival : Option Message = message_on reader.source.inbox m.arrival in
      let passed : pull.Passed = pull.row p m.answer arrival row reader in
      let read : IsRead reader arrival passed = row_read p m.answer arrival row reader in
      with_sent_is passed.sent passed.next (told passed.told (at_phase (Pulls passed.reader) c))
      (told_is passed.reader c arrival passed.told (on_inbox reader.source.inbox m.arrival is) read.hands)

  -- ---- push

  silence_is : (p : RowInput) (heartbeat_timer : Timer) (inbox : ℕ) (c : Consumer) → Keeps P (silence_row p heartbeat_timer (at_phase (Pushes inbox heartbeat_timer) c))
  silence_is p heartbeat_timer inbox c =
      if_each (Keeps P) (is_due heartbeat_timer p.now) _ _ (λ _. record { phase = tt; rows = (tt, tt); outputs = (tt, tt) }) (λ _. record { phase = tt; rows = tt; outputs = tt })

  beat_is : (up : Bool) (reply : Option (List ℕ)) → AllByRecursion (IsOutput P) (beat_answer up reply)
  beat_is up None = tt
  beat_is true (Some reply) = (tt, tt)
  beat_is false (Some reply) = tt

  beat_rows_are : (beat : Option ℕ) (consumer_sequence : ℕ) → AllByRecursion (IsRow P) (beat_rows beat consumer_sequence)
  beat_rows_are None consumer_sequence = tt
  beat_rows_are (Some n) consumer_sequence = if_each (AllByRecursion (IsRow P)) (n == consumer_sequence) _ _ (λ _. tt) (λ _. (tt, tt))

  hear_kind_is : (stalled : Bool) (p : RowInput) (inbox : ℕ) (heartbeat_timer : Timer) (c : Consumer) (message : Message) (k : PushKind) → IsOf P message
      → Keeps P (hear_kind stalled p message k (at_phase (Pushes inbox heartbeat_timer) c))
  hear_kind_is stalled p inbox heartbeat_timer c message Delivered is = message_is (Pushes inbox heartbeat_timer) c (readable_as message.reply) message tt is
  hear_kind_is stalled p inbox heartbeat_timer c message OtherStatus is = record { phase = tt; rows = tt; outputs = tt }
  hear_kind_is stalled p inbox heartbeat_timer c message Bad is = record { phase = tt; rows = tt; outputs = (tt, tt) }
  hear_kind_is stalled p inbox heartbeat_timer c message (Beat n) is = record { phase = tt; rows = beat_rows_are n c.core.consumer_sequence; outputs = beat_is p.up (beat_subject stalled message) }

  hear_is : (stalled : Bool) (p : RowInput) (arrival : Arrival) (inbox : ℕ) (heartbeat_timer : Timer) (c : Consumer) → IsOf P arrival.message
      → Keeps P (hear_row stalled p arrival inbox (at_phase (Pushes inbox heartbeat_timer) c))
  hear_is stalled p arrival inbox heartbeat_timer c is =
      if_both (Keeps P) (arrival.inbox == inbox) _ _ (hear_kind_is stalled p inbox (armed p.now) c arrival.message (push_kind arrival.message) is) (record { phase = tt; rows = tt; outputs = tt })

  push_rows_are : (inbox : ℕ) (o : Option Message) → IfSome o (IsOf P) → AllByRecursion (IsRow P) (push_rows inbox o)
  push_rows_are inbox None is = (tt, tt)
  push_rows_are inbox (Some message) is = (is, tt)

  -- ---- an event's first row

  go_on_is : (g : ReplayInput) (p : RowInput) (m : Matter) (phase : Phase) (c : Consumer) → IsPhase P phase → IsMatter P m → Keeps P (go_on g p m phase (at_phase phase c))
  go_on_is g p m Idle c k is = record { phase = tt; rows = (tt, tt); outputs = tt }
  go_on_is g p m (Recreates r) c k is = record { phase = k; rows = recreation_are r.opened; outputs = tt }
  go_on_is g p m (Pulls reader) c k is = reader_is p m (read.Begin None) reader c is
  go_on_is g p m (Pushes inbox heartbeat_timer) c k is = record { phase = tt; rows = (tt, tt); outputs = tt }
  go_on_is g p m Ended c k is = record { phase = tt; rows = tt; outputs = tt }
  go_on_is g p m Exhausted c k is = record { phase = tt; rows = tt; outputs = tt }

  changed_is : (g : ReplayInput) (p : RowInput) (m : Matter) (old new : State) (phase : Phase) (c : Consumer) → IsPhase P phase → IsMatter P m → Keeps P (changed g p m old new phase (at_phase phase c))
  changed_is g p m old new (Pulls reader) c k is = reader_is p m (read.Begin (Some new)) reader (record c { connection = new }) is
  changed_is g p m old new (Pushes inbox heartbeat_timer) c k is =
      if_both (Keeps P) (is_connected old || is_connected new) _ _
      (record { phase = tt; rows = (tt, tt); outputs = tt }) (go_on_is g p m (Pushes inbox heartbeat_timer) (record c { connection = new }) k is)
  changed_is g p m old new (Recreates r) c k is = go_on_is g p m (Recreates r) (record c { connection = new }) k is
  changed_is g p m old new Idle c k is = go_on_is g p m Idle (record c { connection = new }) k is
  changed_is g p m old new Ended c k is = go_on_is g p m Ended (record c { connection = new }) k is
  changed_is g p m old new Exhausted c k is = go_on_is g p m Exhausted (record c { connection = new }) k is

  watcher_is : (g : ReplayInput) (p : RowInput) (m : Matter) (setup : OrderedSetup) (phase : Phase) (c : Consumer) → IsPhase P phase → IsMatter P m → Keeps P (watcher_ended g p m setup (at_phase phase c))
  watcher_is g p m (Pull setup) phase c k is = go_on_is g p m phase c k is
  watcher_is g p m (Push setup) phase c k is = record { phase = tt; rows = tt; outputs = (tt, tt) }

  change_is : (g : ReplayInput) (p : RowInput) (m : Matter) (change : Change) (phase : Phase) (c : Consumer) → IsPhase P phase → IsMatter P m → Keeps P (event_change g p m change (at_phase phase c))
  change_is g p m Unchanged phase c k is = go_on_is g p m phase c k is
  change_is g p m (Becomes state) phase c k is =
      if_both (Keeps P) (same_state c.connection state) _ _ (go_on_is g p m phase c k is) (changed_is g p m c.connection state phase c k is)
  change_is g p m WatcherEnds phase c k is = watcher_is g p m g.setup phase c k is

  event_is : (g : ReplayInput) (p : RowInput) (m : Matter) (phase : Phase) (c : Consumer) → IsPhase P phase → IsMatter P m → Keeps P (event_row g p m phase (at_phase phase c))
  event_is g p m Ended c k is = record { phase = tt; rows = tt; outputs = tt }
  event_is g p m Exhausted c k is = record { phase = tt; rows = tt; outputs = tt }
  event_is g p m (Pulls reader) c k is = change_is g p m m.change (Pulls reader) c k is
  event_is g p m (Pushes inbox heartbeat_timer) c k is = change_is g p m m.change (Pushes inbox heartbeat_timer) c k is
  event_is g p m (Recreates r) c k is = change_is g p m m.change (Recreates r) c k is
  event_is g p m Idle c k is = change_is g p m m.change Idle c k is

  -- ---- every row

  row_is : (g : ReplayInput) (p : RowInput) (m : Matter) (row : Row) (phase : Phase) (c : Consumer) → IsPhase P phase → IsMatter P m → IsRow P row → Keeps P (row_at g p m row phase (at_phase phase c))
  row_is g p m Event phase c k matter is = event_is g p m phase c k matter
  row_is g p m Start phase c k matter is = start_is g (at_phase phase c)
  row_is g p m Try (Recreates r) c k matter is = try_is g p r c k
  row_is g p m Create (Recreates r) c k matter is = create_is g.setup p r c k
  row_is g p m Ask (Recreates r) c k matter is = ask_is g p r c k
  row_is g p m Await (Recreates r) c k matter is = record { phase = k; rows = stage_are g p m r.stage; outputs = tt }
  row_is g p m (Answered reply) (Recreates r) c k matter is = record {
    phase = k;
    rows = (answered_is g.setup (pull.info_of_reply reply), tt);
    outputs = missing_are (missing_after g.settings.resilience.tells_missing_stream (pull.info_reply reply) c.stream_missing) c.stream_missing;
  }
  row_is g p m Hold (Recreates r) c k matter is = record { phase = held_is m.arrival r.opened k matter; rows = tt; outputs = tt }
  row_is g p m (Succeed info) (Recreates r) c k matter is = succeed_is g.setup g p info r c k
  row_is g p m Fail (Recreates r) c k matter is = fail_is g p r c
  row_is g p m CheckArrival (Pushes inbox heartbeat_timer) c k matter is = record { phase = tt; rows = push_rows_are inbox (message_on inbox m.arrival) (on_inbox inbox m.arrival matter); outputs = tt }
  row_is g p m (Hear arrival) (Pushes inbox heartbeat_timer) c k matter is = hear_is g.settings.resilience.answers_stalled p arrival inbox heartbeat_timer c is
  row_is g p m CheckSilence (Pushes inbox heartbeat_timer) c k matter is = silence_is p heartbeat_timer inbox c
  row_is g p m Arm (Pushes inbox heartbeat_timer) c k matter is = record { phase = tt; rows = tt; outputs = tt }
  row_is g p m (Read row) (Pulls reader) c k matter is = reader_is p m row reader c matter
  row_is g p m _ phase c k matter is = record { phase = k; rows = tt; outputs = tt }

  -- ---- the runs

  record KeepsRan (ran : Ran) : Type 0 where
    phase : IsPhase P ran.state.consumer.phase
    outputs : AllByRecursion (IsOutput P) ran.outputs

  each_is : (one : Row → ReplayState → Ran) → ((row : Row) (w : ReplayState) → IsPhase P w.consumer.phase → IsRow P row → KeepsRan (one row w))
      → (rows : List Row) (w : ReplayState) → IsPhase P w.consumer.phase → AllByRecursion (IsRow P) rows → KeepsRan (pass_each one rows w)
  each_is one keeps [] w k are = record { phase = k; outputs = tt }
  each_is one keeps (row ∷ rows) w k are =
      let ran : Ran = one row w in
      let rest : Ran = pass_each one rows ran.state in
      let first : KeepsRan ran = keeps row w k are.0 in
      let more : KeepsRan rest = each_is one keeps rows ran.state first.phase are.1 in
      record { phase = more.phase; outputs = all_append (IsOutput P) ran.outputs rest.outputs first.outputs more.outputs }

  to_is : (g : ReplayInput) (now : ℕ) (m : Matter) → IsMatter P m → (depth : ℕ) (row : Row) (w : ReplayState) → IsPhase P w.consumer.phase → IsRow P row → KeepsRan (pass_to g now m depth row w)
  to_is g now m matter zero row w k is = record { phase = k; outputs = tt }
  to_is g now m matter (suc depth) row w k is =
      let passed : Passed = pass g (passing g now w) m row w.consumer in
      let rest : Ran = pass_each (pass_to g now m depth) passed.next (after w passed) in
      let one : Keeps P passed = row_is g (passing g now w) m row w.consumer.phase w.consumer k matter is in
      let more : KeepsRan rest = each_is (pass_to g now m depth) (to_is g now m matter depth) passed.next (after w passed) one.phase one.rows in
      record { phase = more.phase; outputs = all_append (IsOutput P) passed.outputs rest.outputs one.outputs more.outputs }

  all_is : (g : ReplayInput) (now : ℕ) (m : Matter) (rows : List Row) (w : ReplayState) → IsMatter P m → IsPhase P w.consumer.phase → AllByRecursion (IsRow P) rows → KeepsRan (pass_all g now m rows w)
  all_is g now m rows w matter k are = each_is (λ row. pass_to g now m (suc (rank row)) row) (λ row. to_is g now m matter (suc (rank row)) row) rows w k are

  -- what an event brings
  abbrev pub Brings : EventKind → Type 0
  Brings (what.Arrival inbox message) = IsOf P message
  Brings _ = ⊤

  matter_is : (kind : EventKind) → Brings kind → IsMatter P (matter_of kind)
  matter_is what.Tick brings = tt
  matter_is (what.Arrival inbox message) brings = brings
  matter_is (what.Answer request reply) brings = tt
  matter_is (what.Link up) brings = tt
  matter_is (what.Connection state) brings = tt
  matter_is what.WatcherEnded brings = tt

  events_are : (g : ReplayInput) (es : List events.Event) (w : ReplayState) → IsPhase P w.consumer.phase → AllByRecursion (λ e. Brings e.what) es
      → AllByRecursion (IsOutput P) (joined (map step_of (run_events g es w)))
  unfolding event run_events
  events_are g [] w k are = tt
  events_are g (e ∷ es) w k are =
      let ran : Ran = event g e w in
      let one : KeepsRan ran = all_is g e.at (matter_of e.what) (Event ∷ []) (record w { link_up = link_after e.what w.link_up }) (matter_is e.what are.0) k (tt, tt) in
      all_append (IsOutput P) ran.outputs (joined (map step_of (run_events g es ran.state))) one.outputs (events_are g es ran.state one.phase are.1)

  first_is : (g : ReplayInput) (start : ℕ) (setup : OrderedSetup) → IsPhase P (first_phase g start setup)
  first_is g start (Pull setup) = tt
  first_is g start (Push setup) = tt

  opening_are : (setup : OrderedSetup) → AllByRecursion (IsRow P) (opening_rows setup)
  opening_are (Pull setup) = (tt, (tt, tt))
  opening_are (Push setup) = tt

  outputs_are : (g : ReplayInput) (start : ℕ) (es : List events.Event) → AllByRecursion (λ e. Brings e.what) es → AllByRecursion (IsOutput P) (all_outputs (fold g start es))
  unfolding opening fold
  outputs_are g start es are =
      let first : Ran = opening g start in
      let one : KeepsRan first = all_is g start tick (opening_rows g.setup) (first_state g start) tt (first_is g start g.setup) (opening_are g.setup) in
      all_append (IsOutput P) first.outputs (joined (map step_of (run_events g es first.state))) one.outputs (events_are g es first.state one.phase are)

  entries_are : (outputs : List Output) → AllByRecursion (IsOutput P) outputs → AllByRecursion (λ (y : gapless.Entry). P y.subject y.payload) (yields outputs)
  entries_are [] are = tt
  entries_are (out.Yield sequence number subject payload ∷ outputs) are = (are.0, entries_are outputs are.1)
  entries_are (out.Item kind ∷ outputs) are = entries_are outputs are.1
  entries_are (out.Recreate recreation_count start ∷ outputs) are = entries_are outputs are.1
  entries_are (out.Request number subject payload ∷ outputs) are = entries_are outputs are.1
  entries_are (out.Publish subject reply payload ∷ outputs) are = entries_are outputs are.1
  entries_are (out.Subscribe inbox subject ∷ outputs) are = entries_are outputs are.1

  -- each yield of a run
  pub yields_are : (g : ReplayInput) (start : ℕ) (es : List events.Event) → AllByRecursion (λ e. Brings e.what) es
      → AllByRecursion (λ (y : gapless.Entry). P y.subject y.payload) (yields (all_outputs (fold g start es)))
  yields_are g start es are = entries_are (all_outputs (fold g start es)) (outputs_are g start es are)
