-- In one step at most one recreation begins: when it has begun, no reader is current, and no row that follows brings another.
use Rattle.std.proofs.Common.{◌≡◌, ℕ, zero, suc, ◌+◌, ◌⊎◌, Bool, true, false, List, [], ◌∷◌, ◌++◌, map, Option, Some, None, refl, inl, inr, arith}
use Rattle.std.specs.Prelude.{⊤, nat_lt, is_some, ◌||◌, ◌==◌, not, ◌&&◌}
use Rattle.std.specs.List.{AllByRecursion}
use Rattle.js_base.specs.declared.message.Message.{Message}
use Rattle.js_base.specs.declared.clock.Timer.{Timer}
use Rattle.js_base.specs.Clock.{is_due}
use Rattle.js_base.specs.declared.message.State.{State}
use Rattle.js_json.specs.declared.consumer.info.Info.{Info}
use Rattle.js_message.specs.AckSubject.{Place, readable_as}
use Rattle.js_link.specs.RowInput.{RowInput}
use Rattle.js_link.specs.declared.sent.Sent.{Sent}
use Rattle.js_link.specs.declared.sent.Sent.TheVariants as goes
use Rattle.js_pull.specs.declared.reader.Reader.{Reader as PullReader}
use Rattle.js_pull.specs.Reader as pull
use Rattle.js_pull.specs.declared.reader.Row.{Row as PullRow}
use Rattle.js_pull.specs.declared.reader.Row.TheVariants as read
use Rattle.js_pull.specs.declared.reader.ReaderOutput.{ReaderOutput as PullTold}
use Rattle.js_pull.specs.declared.reader.ReaderOutput.TheVariants as tells
use Rattle.js_pull.specs.declared.reader.MessagesErrorKind.TheVariants as error
use Rattle.js_ordered_table.specs.declared.replay_state.ReplayState.{ReplayState}
use Rattle.js_ordered_table.specs.declared.consumer.Consumer.{Consumer}
use Rattle.js_ordered_table.specs.Consumer.{Matter, Change, Unchanged, Becomes, WatcherEnds, Passed, at_phase, output_of}
use Rattle.js_ordered_table.specs.declared.consumer.Recreation.{Recreation}
use Rattle.js_ordered_table.specs.declared.consumer.Opened.{Opened}
use Rattle.js_ordered_table.specs.declared.row.Row.{Row}
use Rattle.js_ordered_table.specs.declared.row.Row.TheVariants.{Event, Start, Try, Create, Ask, Await, Answered, Hold, Succeed, Fail, CheckArrival, Hear, CheckSilence, Arm, Read}
use Rattle.js_ordered_table.specs.declared.consumer.ReplayInput.{ReplayInput}
use Rattle.js_ordered_table.specs.declared.consumer.Stage.{Stage}
use Rattle.js_ordered_table.specs.declared.consumer.Stage.TheVariants.{Between, Deleting, Creating, Waiting}
use Rattle.js_ordered_table.specs.declared.consumer.Phase.{Phase}
use Rattle.js_ordered_table.specs.declared.consumer.Phase.TheVariants.{Pulls, Pushes, Recreates, Idle, Ended, Exhausted}
use Rattle.js_ordered_table.specs.Recreation.{start_row, try_row, create_row, ask_row, succeed_row, succeed_push, fail_row, message_on, stage_rows, recreation_rows, created, answered, has_subject, missing_after}
use Rattle.js_ordered_table.specs.Arrivals.{in_place_of, message_row, told, push_kind, beat_answer, beat_rows, beat_subject, hear_kind, armed}
use Rattle.js_ordered_table.specs.declared.kind.PushKind.{PushKind}
use Rattle.js_ordered_table.specs.declared.kind.PushKind.TheVariants.{Delivered, OtherStatus, Bad, Beat}
use Rattle.js_ordered_table.specs.Table.{push_rows, go_on, is_connected, changed, watcher_ended, event_change, event_row, reader_row, row_at, pass}
use Rattle.js_pull.specs.Poll.{same_state}
use Rattle.js_ordered_table.specs.Fold.{Ran, passing, after, stays, and_then, rank, pass_each, pass_to, pass_all, tick, matter_of, link_after, event, run_events, opening_rows, first_state, opening, fold, step_of}
use Rattle.js_ordered_table.specs.Replay.{recreations, HasOneRecreation}
use Rattle.js_ordered_table.specs.declared.setup.OrderedSetup.{OrderedSetup}
use Rattle.js_ordered_table.specs.declared.setup.OrderedSetup.TheVariants.{Pull, Push}
use Rattle.js_ordered_table.specs.declared.event.Event as events
use Rattle.js_ordered_table.specs.declared.run.Output.{Output}
use Rattle.js_ordered_table.specs.declared.run.Output.TheVariants as out
use Rattle.js_ordered_table.proofs.Rewritten.{if_both, if_each}

-- ---- counting

recreations_append : (first second : List Output) → recreations (first ++ second) ≡ recreations first + recreations second
recreations_append [] second = omega arith
recreations_append (out.Recreate recreation_count start ∷ first) second = let h = recreations_append first second in omega (arith, h)
recreations_append (out.Yield sequence number subject payload ∷ first) second = recreations_append first second
recreations_append (out.Item kind ∷ first) second = recreations_append first second
recreations_append (out.Request number subject payload ∷ first) second = recreations_append first second
recreations_append (out.Publish subject reply payload ∷ first) second = recreations_append first second
recreations_append (out.Subscribe inbox subject ∷ first) second = recreations_append first second

sent_none : (sent : List Sent) (outputs : List Output) → recreations outputs ≡ 0 → recreations (map output_of sent ++ outputs) ≡ 0
sent_none [] outputs none = none
sent_none (goes.Request number subject headers payload ∷ sent) outputs none = sent_none sent outputs none
sent_none (goes.Publish subject reply headers payload ∷ sent) outputs none = sent_none sent outputs none
sent_none (goes.Subscribe inbox subject group ∷ sent) outputs none = sent_none sent outputs none

-- ---- kinds of rows and phases

-- a row that does no more than bring a recreation next
abbrev IsLater : Row → Type 0
IsLater Event = ⊥
IsLater Start = ⊥
IsLater Await = ⊥
IsLater (Answered reply) = ⊥
IsLater (Succeed info) = ⊥
IsLater _ = ⊤

abbrev AreLater : List Row → Type 0
AreLater rows = AllByRecursion IsLater rows

-- what such a row brings
abbrev IsNext : Row → Type 0
IsNext Event = ⊥
IsNext Await = ⊥
IsNext (Answered reply) = ⊥
IsNext (Succeed info) = ⊥
IsNext _ = ⊤

-- what an answer brings
abbrev IsGood : Row → Type 0
IsGood Event = ⊥
IsGood Await = ⊥
IsGood (Answered reply) = ⊥
IsGood _ = ⊤

-- what is waited for brings
abbrev IsAwaited : Row → Type 0
IsAwaited Event = ⊥
IsAwaited Await = ⊥
IsAwaited _ = ⊤

-- what an event brings
abbrev IsInside : Row → Type 0
IsInside Event = ⊥
IsInside _ = ⊤

-- one row of a kind, and then later ones
abbrev Heads : (Row → Type 0) → List Row → Type 0
Heads P [] = ⊤
Heads P (row ∷ rows) = P row × AreLater rows

-- no reader is current
abbrev IsStill : Phase → Type 0
IsStill (Pulls reader) = ⊥
IsStill (Pushes inbox heartbeat_timer) = ⊥
IsStill _ = ⊤

heads_in_place : (P : Row → Type 0) → ((row : Row) → IsLater row → P row) → (first second : List Row) → Heads P first → AreLater second → Heads P (in_place_of first second)
heads_in_place P later [] [] h l = tt
heads_in_place P later [] (row ∷ second) h l = (later row l.0, l.1)
heads_in_place P later (row ∷ first) second h l = h

later_next : (row : Row) → IsLater row → IsNext row
later_next Event l = l
later_next Start l = tt
later_next Await l = l
later_next (Answered reply) l = l
later_next (Succeed info) l = l
later_next Hold l = tt
later_next CheckArrival l = tt
later_next Try l = tt
later_next Create l = tt
later_next Ask l = tt
later_next Fail l = tt
later_next (Hear arrival) l = tt
later_next CheckSilence l = tt
later_next Arm l = tt
later_next (Read row) l = tt

next_inside : (row : Row) → IsNext row → IsInside row
next_inside Event n = n
next_inside Start n = tt
next_inside Await n = tt
next_inside (Answered reply) n = tt
next_inside (Succeed info) n = tt
next_inside Hold n = tt
next_inside CheckArrival n = tt
next_inside Try n = tt
next_inside Create n = tt
next_inside Ask n = tt
next_inside Fail n = tt
next_inside (Hear arrival) n = tt
next_inside CheckSilence n = tt
next_inside Arm n = tt
next_inside (Read row) n = tt

heads_inside : (rows : List Row) → Heads IsNext rows → Heads IsInside rows
heads_inside [] h = tt
heads_inside (row ∷ rows) h = (next_inside row h.0, h.1)

-- a row begins no recreation, and brings rows of a kind
record Leads (P : Row → Type 0) (passed : Passed) : Type 0 where
  none : recreations passed.outputs ≡ 0
  next : Heads P passed.next

-- and without a reader it leaves none
record Rests (passed : Passed) : Type 0 where
  none : recreations passed.outputs ≡ 0
  next : AreLater passed.next
  still : IsStill passed.consumer.phase

-- ---- rows without a reader

try_rests : (g : ReplayInput) (p : RowInput) (r : Recreation) (c : Consumer) → Rests (try_row g p r (at_phase (Recreates r) c))
try_rests g p r c = if_each Rests p.up _ _ (λ _. record { none = refl; next = tt; still = tt }) (λ _. record { none = refl; next = (tt, tt); still = tt })

create_rests : (setup : OrderedSetup) (p : RowInput) (r : Recreation) (c : Consumer) → Rests (create_row setup p r (at_phase (Recreates r) c))
create_rests (Pull setup) p r c = record { none = refl; next = (tt, tt); still = tt }
create_rests (Push setup) p r c = if_each Rests p.up _ _ (λ _. record { none = refl; next = (tt, tt); still = tt }) (λ _. record { none = refl; next = (tt, tt); still = tt })

ask_rests : (g : ReplayInput) (p : RowInput) (r : Recreation) (c : Consumer) → Rests (ask_row g p r (at_phase (Recreates r) c))
ask_rests g p r c = if_each Rests p.up _ _ (λ _. record { none = refl; next = tt; still = tt }) (λ _. record { none = refl; next = (tt, tt); still = tt })

fail_rests : (g : ReplayInput) (p : RowInput) (r : Recreation) (c : Consumer) → Rests (fail_row g p r (at_phase (Recreates r) c))
fail_rests g p r c = if_each Rests (nat_lt g.settings.retries (r.failures + 1)) _ _ (λ _. record { none = refl; next = tt; still = tt }) (λ _. record { none = refl; next = tt; still = tt })

-- a later row without a reader
rests : (g : ReplayInput) (p : RowInput) (m : Matter) (row : Row) (phase : Phase) (c : Consumer) → IsLater row → IsStill phase → Rests (row_at g p m row phase (at_phase phase c))
rests g p m Try (Recreates r) c l s = try_rests g p r c
rests g p m Create (Recreates r) c l s = create_rests g.setup p r c
rests g p m Ask (Recreates r) c l s = ask_rests g p r c
rests g p m Fail (Recreates r) c l s = fail_rests g p r c
rests g p m Hold (Recreates r) c l s = record { none = refl; next = tt; still = tt }
rests g p m CheckArrival (Pushes inbox heartbeat_timer) c l s = absurd s
rests g p m Await phase c l s = absurd l
rests g p m (Answered reply) phase c l s = absurd l
rests g p m Event phase c l s = absurd l
rests g p m Start phase c l s = absurd l
rests g p m (Succeed info) phase c l s = absurd l
rests g p m (Hear arrival) (Pushes inbox heartbeat_timer) c l s = absurd s
rests g p m CheckSilence (Pushes inbox heartbeat_timer) c l s = absurd s
rests g p m Arm (Pushes inbox heartbeat_timer) c l s = absurd s
rests g p m (Read row) (Pulls reader) c l s = absurd s
rests g p m _ phase c l s = record { none = refl; next = tt; still = s }

-- ---- rows with a reader

message_leads : (o : Option Place) (message : Message) (c : Consumer) → Leads IsNext (message_row o message c)
message_leads None message c = record { none = refl; next = tt }
message_leads (Some place) message c = if_each (Leads IsNext) (place.number == c.core.consumer_sequence + 1) _ _ (λ _. record { none = refl; next = tt }) (λ _. record { none = refl; next = (tt, tt) })

told_leads : (t : PullTold) (c : Consumer) → Leads IsNext (told t c)
told_leads tells.Nothing c = record { none = refl; next = tt }
told_leads (tells.Hands message) c = message_leads (readable_as message.reply) message (record c { missed = false })
told_leads (tells.Tells error.ConsumerDeleted) c = record { none = refl; next = (tt, tt) }
told_leads (tells.Tells error.NoResponders) c = record { none = refl; next = (tt, tt) }
told_leads (tells.Tells error.PushBasedConsumer) c = record { none = refl; next = tt }
told_leads (tells.Tells error.RequestLimitExceeded) c = if_each (Leads IsNext) c.limited _ _ (λ _. record { none = refl; next = tt }) (λ _. record { none = refl; next = (tt, tt) })
told_leads (tells.Tells error.MissingHeartbeat) c = if_each (Leads IsNext) c.missed _ _ (λ _. record { none = refl; next = (tt, tt) }) (λ _. record { none = refl; next = tt })
told_leads (tells.Tells error.Pull) c = record { none = refl; next = tt }
told_leads (tells.Tells error.Other) c = record { none = refl; next = tt }

reads_later : (rows : List PullRow) → AreLater (map Read rows)
reads_later [] = tt
reads_later (row ∷ rows) = (tt, reads_later rows)

reader_leads : (p : RowInput) (m : Matter) (row : PullRow) (reader : PullReader) (c : Consumer) → Leads IsNext (reader_row p m row reader c)
reader_leads p m row reader c =
    let passed : pull.Passed = pull.row p m.answer (message_on reader.source.inbox m.arrival) row reader in
    let one : Leads IsNext (told passed.told (at_phase (Pulls passed.reader) c)) = told_leads passed.told (at_phase (Pulls passed.reader) c) in
    record {
      none = sent_none passed.sent (told passed.told (at_phase (Pulls passed.reader) c)).outputs one.none;
      next = heads_in_place IsNext later_next (told passed.told (at_phase (Pulls passed.reader) c)).next (map Read passed.next) one.next (reads_later passed.next);
    }

beat_none : (up : Bool) (reply : Option (List ℕ)) → recreations (beat_answer up reply) ≡ 0
beat_none up None = refl
beat_none true (Some reply) = refl
beat_none false (Some reply) = refl

beat_next : (beat : Option ℕ) (consumer_sequence : ℕ) → Heads IsNext (beat_rows beat consumer_sequence)
beat_next None consumer_sequence = tt
beat_next (Some n) consumer_sequence = if_each (Heads IsNext) (n == consumer_sequence) _ _ (λ _. tt) (λ _. (tt, tt))

hear_kind_leads : (stalled : Bool) (p : RowInput) (message : Message) (kind : PushKind) (c : Consumer) → Leads IsNext (hear_kind stalled p message kind c)
hear_kind_leads stalled p message Delivered c = message_leads (readable_as message.reply) message c
hear_kind_leads stalled p message OtherStatus c = record { none = refl; next = tt }
hear_kind_leads stalled p message Bad c = record { none = refl; next = tt }
hear_kind_leads stalled p message (Beat n) c = record { none = beat_none p.up (beat_subject stalled message); next = beat_next n c.core.consumer_sequence }

weaker : (passed : Passed) → Rests passed → Leads IsNext passed
weaker passed r = record { none = r.none; next = later_heads passed.next r.next }
  where
    later_heads : (rows : List Row) → AreLater rows → Heads IsNext rows
    later_heads [] l = tt
    later_heads (row ∷ rows) l = (later_next row l.0, l.1)

push_next : (inbox : ℕ) (o : Option Message) → Heads IsNext (push_rows inbox o)
push_next inbox None = (tt, tt)
push_next inbox (Some message) = (tt, tt)

-- a later row, whatever the phase
leads : (g : ReplayInput) (p : RowInput) (m : Matter) (row : Row) (phase : Phase) (c : Consumer) → IsLater row → Leads IsNext (row_at g p m row phase (at_phase phase c))
leads g p m Try (Recreates r) c l = weaker (try_row g p r (at_phase (Recreates r) c)) (try_rests g p r c)
leads g p m Create (Recreates r) c l = weaker (create_row g.setup p r (at_phase (Recreates r) c)) (create_rests g.setup p r c)
leads g p m Ask (Recreates r) c l = weaker (ask_row g p r (at_phase (Recreates r) c)) (ask_rests g p r c)
leads g p m Fail (Recreates r) c l = weaker (fail_row g p r (at_phase (Recreates r) c)) (fail_rests g p r c)
leads g p m Hold (Recreates r) c l = record { none = refl; next = tt }
leads g p m CheckArrival (Pushes inbox heartbeat_timer) c l = record { none = refl; next = push_next inbox (message_on inbox m.arrival) }
leads g p m Await phase c l = absurd l
leads g p m (Answered reply) phase c l = absurd l
leads g p m Event phase c l = absurd l
leads g p m Start phase c l = absurd l
leads g p m (Succeed info) phase c l = absurd l
leads g p m (Hear arrival) (Pushes inbox heartbeat_timer) c l =
    if_each (Leads IsNext) (arrival.inbox == inbox) _ _ (λ _. hear_kind_leads g.settings.resilience.answers_stalled p arrival.message (push_kind arrival.message) (at_phase (Pushes inbox (armed p.now)) c)) (λ _. record { none = refl; next = tt })
leads g p m CheckSilence (Pushes inbox heartbeat_timer) c l = if_each (Leads IsNext) (is_due heartbeat_timer p.now) _ _ (λ _. record { none = refl; next = (tt, tt) }) (λ _. record { none = refl; next = tt })
leads g p m Arm (Pushes inbox heartbeat_timer) c l = record { none = refl; next = tt }
leads g p m (Read row) (Pulls reader) c l = reader_leads p m row reader c
leads g p m _ phase c l = record { none = refl; next = tt }

-- ---- a new recreation, a good answer, and an event's first row

record Begins (passed : Passed) : Type 0 where
  once : (recreations passed.outputs ≡ 0) ⊎ (recreations passed.outputs ≡ 1)
  next : AreLater passed.next
  still : IsStill passed.consumer.phase

start_begins : (g : ReplayInput) (c : Consumer) → Begins (start_row g c)
start_begins g c = if_each Begins (c.core.stream_sequence == pull.u64_max) _ _ (λ _. record { once = inl refl; next = tt; still = tt }) (λ _. record { once = inr refl; next = (tt, tt); still = tt })

held_later : (inbox : ℕ) (held : List Message) → AreLater (map (λ (message : Message). Hear (record { inbox = inbox; message = message })) held ++ Arm ∷ [])
held_later inbox [] = (tt, tt)
held_later inbox (message ∷ held) = (tt, held_later inbox held)

record Goes (passed : Passed) : Type 0 where
  none : recreations passed.outputs ≡ 0
  next : AreLater passed.next

push_goes : (p : RowInput) (opened : Option Opened) (c : Consumer) → Goes (succeed_push p opened c)
push_goes p None c = record { none = refl; next = tt }
push_goes p (Some opened) c = record { none = refl; next = held_later opened.inbox opened.held }

succeed_goes : (setup : OrderedSetup) (g : ReplayInput) (p : RowInput) (info : Info) (r : Recreation) (c : Consumer) → Goes (succeed_row setup g p info r c)
succeed_goes (Pull setup) g p info r c = if_each Goes p.up _ _ (λ _. record { none = refl; next = (tt, (tt, tt)) }) (λ _. record { none = refl; next = (tt, tt) })
succeed_goes (Push setup) g p info r c = push_goes p r.opened c

good_goes : (g : ReplayInput) (p : RowInput) (m : Matter) (info : Info) (phase : Phase) (c : Consumer) → Goes (row_at g p m (Succeed info) phase c)
good_goes g p m info (Recreates r) c = succeed_goes g.setup g p info r c
good_goes g p m info (Pulls reader) c = record { none = refl; next = tt }
good_goes g p m info (Pushes inbox heartbeat_timer) c = record { none = refl; next = tt }
good_goes g p m info Idle c = record { none = refl; next = tt }
good_goes g p m info Ended c = record { none = refl; next = tt }
good_goes g p m info Exhausted c = record { none = refl; next = tt }

answered_good : (mode : OrderedSetup) (info : Option Info) → IsGood (answered mode info)
answered_good mode None = tt
answered_good mode (Some info) = if_each IsGood (has_subject mode info) (Succeed info) Fail (λ _. tt) (λ _. tt)

answer_leads : (g : ReplayInput) (p : RowInput) (m : Matter) (reply : Option Message) (phase : Phase) (c : Consumer) → Leads IsGood (row_at g p m (Answered reply) phase c)
answer_leads g p m reply (Recreates r) c = record {
  none = if_each (λ (outputs : List Output). recreations outputs ≡ 0)
      (missing_after g.settings.resilience.tells_missing_stream (pull.info_reply reply) c.stream_missing && not c.stream_missing) _ _ (λ _. refl) (λ _. refl);
  next = (answered_good g.setup (pull.info_in (pull.info_reply reply)), tt);
}
answer_leads g p m reply (Pulls reader) c = record { none = refl; next = tt }
answer_leads g p m reply (Pushes inbox heartbeat_timer) c = record { none = refl; next = tt }
answer_leads g p m reply Idle c = record { none = refl; next = tt }
answer_leads g p m reply Ended c = record { none = refl; next = tt }
answer_leads g p m reply Exhausted c = record { none = refl; next = tt }

created_awaited : (g : ReplayInput) (p : RowInput) (timeout : Timer) (reply : Option (Option Message)) → Heads IsAwaited (created g p timeout reply)
created_awaited g p timeout (Some reply) = (tt, tt)
created_awaited g p timeout None = if_each (Heads IsAwaited) (is_due timeout p.now) _ _ (λ _. (tt, tt)) (λ _. tt)

stage_awaited : (g : ReplayInput) (p : RowInput) (m : Matter) (stage : Stage) → Heads IsAwaited (stage_rows g p m stage)
stage_awaited g p m Between = tt
stage_awaited g p m (Deleting request timeout) =
    if_each (Heads IsAwaited) (is_some (pull.reply_to request m.answer)) _ _ (λ _. (tt, tt)) (λ _. if_each (Heads IsAwaited) (is_due timeout p.now) _ _ (λ _. (tt, tt)) (λ _. tt))
stage_awaited g p m (Creating request timeout) = created_awaited g p timeout (pull.reply_to request m.answer)
stage_awaited g p m (Waiting wait) = if_each (Heads IsAwaited) (is_due wait p.now) _ _ (λ _. (tt, tt)) (λ _. tt)

await_leads : (g : ReplayInput) (p : RowInput) (m : Matter) (phase : Phase) (c : Consumer) → Leads IsAwaited (row_at g p m Await phase c)
await_leads g p m (Recreates r) c = record { none = refl; next = stage_awaited g p m r.stage }
await_leads g p m (Pulls reader) c = record { none = refl; next = tt }
await_leads g p m (Pushes inbox heartbeat_timer) c = record { none = refl; next = tt }
await_leads g p m Idle c = record { none = refl; next = tt }
await_leads g p m Ended c = record { none = refl; next = tt }
await_leads g p m Exhausted c = record { none = refl; next = tt }

reader_inside : (p : RowInput) (m : Matter) (row : PullRow) (reader : PullReader) (c : Consumer) → Leads IsInside (reader_row p m row reader c)
reader_inside p m row reader c = let one : Leads IsNext (reader_row p m row reader c) = reader_leads p m row reader c in record { none = one.none; next = heads_inside (reader_row p m row reader c).next one.next }

recreation_inside : (opened : Option Opened) → Heads IsInside (recreation_rows opened)
recreation_inside None = (tt, tt)
recreation_inside (Some opened) = (tt, (tt, tt))

go_on_leads : (g : ReplayInput) (p : RowInput) (m : Matter) (phase : Phase) (c : Consumer) → Leads IsInside (go_on g p m phase c)
go_on_leads g p m Idle c = record { none = refl; next = (tt, tt) }
go_on_leads g p m (Recreates r) c = record { none = refl; next = recreation_inside r.opened }
go_on_leads g p m (Pulls reader) c = reader_inside p m (read.Begin None) reader c
go_on_leads g p m (Pushes inbox heartbeat_timer) c = record { none = refl; next = (tt, tt) }
go_on_leads g p m Ended c = record { none = refl; next = tt }
go_on_leads g p m Exhausted c = record { none = refl; next = tt }

changed_leads : (g : ReplayInput) (p : RowInput) (m : Matter) (old new : State) (phase : Phase) (c : Consumer) → Leads IsInside (changed g p m old new phase c)
changed_leads g p m old new (Pulls reader) c = reader_inside p m (read.Begin (Some new)) reader (record c { connection = new })
changed_leads g p m old new (Pushes inbox heartbeat_timer) c =
    if_both (Leads IsInside) (is_connected old || is_connected new) _ _ (record { none = refl; next = (tt, tt) }) (go_on_leads g p m (Pushes inbox heartbeat_timer) (record c { connection = new }))
changed_leads g p m old new (Recreates r) c = go_on_leads g p m (Recreates r) (record c { connection = new })
changed_leads g p m old new Idle c = go_on_leads g p m Idle (record c { connection = new })
changed_leads g p m old new Ended c = go_on_leads g p m Ended (record c { connection = new })
changed_leads g p m old new Exhausted c = go_on_leads g p m Exhausted (record c { connection = new })

watcher_leads : (g : ReplayInput) (p : RowInput) (m : Matter) (setup : OrderedSetup) (c : Consumer) → Leads IsInside (watcher_ended g p m setup c)
watcher_leads g p m (Pull setup) c = go_on_leads g p m c.phase c
watcher_leads g p m (Push setup) c = record { none = refl; next = tt }

change_leads : (g : ReplayInput) (p : RowInput) (m : Matter) (change : Change) (c : Consumer) → Leads IsInside (event_change g p m change c)
change_leads g p m Unchanged c = go_on_leads g p m c.phase c
change_leads g p m (Becomes state) c = if_both (Leads IsInside) (same_state c.connection state) _ _ (go_on_leads g p m c.phase c) (changed_leads g p m c.connection state c.phase c)
change_leads g p m WatcherEnds c = watcher_leads g p m g.setup c

event_leads : (g : ReplayInput) (p : RowInput) (m : Matter) (phase : Phase) (c : Consumer) → Leads IsInside (event_row g p m phase c)
event_leads g p m Ended c = record { none = refl; next = tt }
event_leads g p m Exhausted c = record { none = refl; next = tt }
event_leads g p m (Pulls reader) c = change_leads g p m m.change c
event_leads g p m (Pushes inbox heartbeat_timer) c = change_leads g p m m.change c
event_leads g p m (Recreates r) c = change_leads g p m m.change c
event_leads g p m Idle c = change_leads g p m m.change c

-- ---- a row with all that follows it

record Stays (ran : Ran) : Type 0 where
  none : recreations ran.outputs ≡ 0
  still : IsStill ran.state.consumer.phase

-- nothing begins, or one recreation, which leaves no reader
abbrev Once : Ran → Type 0
Once ran = (recreations ran.outputs ≡ 0) ⊎ ((recreations ran.outputs ≡ 1) × IsStill ran.state.consumer.phase)

added : (outputs : List Output) (ran : Ran) (n k : ℕ) → recreations outputs ≡ n → recreations ran.outputs ≡ k → recreations (and_then outputs ran).outputs ≡ n + k
added outputs ran n k first rest = let h = recreations_append outputs ran.outputs in omega (arith, h, first, rest)

quiet_once : (outputs : List Output) (ran : Ran) → recreations outputs ≡ 0 → Once ran → Once (and_then outputs ran)
quiet_once outputs ran none (inl zero_more) = inl (added outputs ran 0 0 none zero_more)
quiet_once outputs ran none (inr one) = inr (added outputs ran 0 1 none one.0, one.1)

begin_once : (outputs : List Output) (ran : Ran) → (recreations outputs ≡ 0) ⊎ (recreations outputs ≡ 1) → Stays ran → Once (and_then outputs ran)
begin_once outputs ran (inl none) s = inl (added outputs ran 0 0 none s.none)
begin_once outputs ran (inr one) s = inr (added outputs ran 1 0 one s.none, s.still)

stay : (outputs : List Output) (ran : Ran) → recreations outputs ≡ 0 → Stays ran → Stays (and_then outputs ran)
stay outputs ran none s = record { none = added outputs ran 0 0 none s.none; still = s.still }

abbrev OneStays : (Row → ReplayState → Ran) → Type 0
OneStays one = (row : Row) (w : ReplayState) → IsLater row → IsStill w.consumer.phase → Stays (one row w)

each_stays : (one : Row → ReplayState → Ran) → OneStays one → (rows : List Row) (w : ReplayState) → AreLater rows → IsStill w.consumer.phase → Stays (pass_each one rows w)
each_stays one stays_one [] w l s = record { none = refl; still = s }
each_stays one stays_one (row ∷ rows) w l s =
    let ran : Ran = one row w in
    let first : Stays ran = stays_one row w l.0 s in
    stay ran.outputs (pass_each one rows ran.state) first.none (each_stays one stays_one rows ran.state l.1 first.still)

row_stays : (g : ReplayInput) (now : ℕ) (m : Matter) (depth : ℕ) → OneStays (pass_to g now m depth)
row_stays g now m zero row w l s = record { none = refl; still = s }
row_stays g now m (suc depth) row w l s =
    let passed : Passed = pass g (passing g now w) m row w.consumer in
    let one : Rests passed = rests g (passing g now w) m row w.consumer.phase w.consumer l s in
    stay passed.outputs (pass_each (pass_to g now m depth) passed.next (after w passed)) one.none
    (each_stays (pass_to g now m depth) (row_stays g now m depth) passed.next (after w passed) one.next one.still)

-- a first run, and then rows that begin nothing more where one has begun
then_once : (first rest : Ran) → Once first → (IsStill first.state.consumer.phase → Stays rest) → Once rest → Once (and_then first.outputs rest)
then_once first rest (inl none) stays_rest once_rest = quiet_once first.outputs rest none once_rest
then_once first rest (inr one) stays_rest once_rest = begin_once first.outputs rest (inr one.0) (stays_rest one.1)

abbrev OneOnce : (Row → Type 0) → (Row → ReplayState → Ran) → Type 0
OneOnce P one = (row : Row) (w : ReplayState) → P row → Once (one row w)

each_once : (one : Row → ReplayState → Ran) → OneStays one → OneOnce IsLater one → (rows : List Row) (w : ReplayState) → AreLater rows → Once (pass_each one rows w)
each_once one stays_one once_one [] w l = inl refl
each_once one stays_one once_one (row ∷ rows) w l =
    let ran : Ran = one row w in
    then_once ran (pass_each one rows ran.state) (once_one row w l.0) (each_stays one stays_one rows ran.state l.1) (each_once one stays_one once_one rows ran.state l.1)

heads_once : (P : Row → Type 0) (one : Row → ReplayState → Ran) → OneStays one → OneOnce IsLater one → OneOnce P one → (rows : List Row) (w : ReplayState) → Heads P rows → Once (pass_each one rows w)
heads_once P one stays_one once_one once_head [] w h = inl refl
heads_once P one stays_one once_one once_head (row ∷ rows) w h =
    let ran : Ran = one row w in
    then_once ran (pass_each one rows ran.state) (once_head row w h.0) (each_stays one stays_one rows ran.state h.1) (each_once one stays_one once_one rows ran.state h.1)

start_once : (g : ReplayInput) (now : ℕ) (m : Matter) (depth : ℕ) (w : ReplayState) → Once (pass_to g now m depth Start w)
start_once g now m zero w = inl refl
start_once g now m (suc depth) w =
    let passed : Passed = pass g (passing g now w) m Start w.consumer in
    let one : Begins passed = start_begins g w.consumer in
    begin_once passed.outputs (pass_each (pass_to g now m depth) passed.next (after w passed)) one.once
    (each_stays (pass_to g now m depth) (row_stays g now m depth) passed.next (after w passed) one.next one.still)

-- a later row, where what it brings is known to begin at most one
later_once : (g : ReplayInput) (now : ℕ) (m : Matter) (depth : ℕ) → OneOnce IsNext (pass_to g now m depth) → (row : Row) (w : ReplayState) → IsLater row → Once (pass_to g now m (suc depth) row w)
later_once g now m depth below row w l =
    let passed : Passed = pass g (passing g now w) m row w.consumer in
    let one : Leads IsNext passed = leads g (passing g now w) m row w.consumer.phase w.consumer l in
    quiet_once passed.outputs (pass_each (pass_to g now m depth) passed.next (after w passed)) one.none
    (heads_once IsNext (pass_to g now m depth) (row_stays g now m depth) (λ next w' l'. below next w' (later_next next l')) below passed.next (after w passed) one.next)

next_once : (g : ReplayInput) (now : ℕ) (m : Matter) (depth : ℕ) → OneOnce IsNext (pass_to g now m depth)
next_once g now m zero row w n = inl refl
next_once g now m (suc depth) Event w n = absurd n
next_once g now m (suc depth) Await w n = absurd n
next_once g now m (suc depth) (Answered reply) w n = absurd n
next_once g now m (suc depth) (Succeed info) w n = absurd n
next_once g now m (suc depth) Hold w n = later_once g now m depth (next_once g now m depth) Hold w tt
next_once g now m (suc depth) CheckArrival w n = later_once g now m depth (next_once g now m depth) CheckArrival w tt
next_once g now m (suc depth) Start w n = start_once g now m (suc depth) w
next_once g now m (suc depth) Try w n = later_once g now m depth (next_once g now m depth) Try w tt
next_once g now m (suc depth) Create w n = later_once g now m depth (next_once g now m depth) Create w tt
next_once g now m (suc depth) Ask w n = later_once g now m depth (next_once g now m depth) Ask w tt
next_once g now m (suc depth) Fail w n = later_once g now m depth (next_once g now m depth) Fail w tt
next_once g now m (suc depth) (Hear arrival) w n = later_once g now m depth (next_once g now m depth) (Hear arrival) w tt
next_once g now m (suc depth) CheckSilence w n = later_once g now m depth (next_once g now m depth) CheckSilence w tt
next_once g now m (suc depth) Arm w n = later_once g now m depth (next_once g now m depth) Arm w tt
next_once g now m (suc depth) (Read row) w n = later_once g now m depth (next_once g now m depth) (Read row) w tt

good_once : (g : ReplayInput) (now : ℕ) (m : Matter) (depth : ℕ) (info : Info) (w : ReplayState) → Once (pass_to g now m depth (Succeed info) w)
good_once g now m zero info w = inl refl
good_once g now m (suc depth) info w =
    let passed : Passed = pass g (passing g now w) m (Succeed info) w.consumer in
    let one : Goes passed = good_goes g (passing g now w) m info w.consumer.phase w.consumer in
    quiet_once passed.outputs (pass_each (pass_to g now m depth) passed.next (after w passed)) one.none
    (each_once (pass_to g now m depth) (row_stays g now m depth) (λ next w' l. next_once g now m depth next w' (later_next next l)) passed.next (after w passed) one.next)

ended_once : (g : ReplayInput) (now : ℕ) (m : Matter) (depth : ℕ) → OneOnce IsGood (pass_to g now m depth)
ended_once g now m depth Event w i = absurd i
ended_once g now m depth Await w i = absurd i
ended_once g now m depth (Answered reply) w i = absurd i
ended_once g now m depth (Succeed info) w i = good_once g now m depth info w
ended_once g now m depth Start w i = next_once g now m depth Start w tt
ended_once g now m depth Try w i = next_once g now m depth Try w tt
ended_once g now m depth Create w i = next_once g now m depth Create w tt
ended_once g now m depth Ask w i = next_once g now m depth Ask w tt
ended_once g now m depth Hold w i = next_once g now m depth Hold w tt
ended_once g now m depth Fail w i = next_once g now m depth Fail w tt
ended_once g now m depth CheckArrival w i = next_once g now m depth CheckArrival w tt
ended_once g now m depth (Hear arrival) w i = next_once g now m depth (Hear arrival) w tt
ended_once g now m depth CheckSilence w i = next_once g now m depth CheckSilence w tt
ended_once g now m depth Arm w i = next_once g now m depth Arm w tt
ended_once g now m depth (Read row) w i = next_once g now m depth (Read row) w tt

answer_once : (g : ReplayInput) (now : ℕ) (m : Matter) (depth : ℕ) (reply : Option Message) (w : ReplayState) → Once (pass_to g now m depth (Answered reply) w)
answer_once g now m zero reply w = inl refl
answer_once g now m (suc depth) reply w =
    let passed : Passed = pass g (passing g now w) m (Answered reply) w.consumer in
    let one : Leads IsGood passed = answer_leads g (passing g now w) m reply w.consumer.phase w.consumer in
    quiet_once passed.outputs (pass_each (pass_to g now m depth) passed.next (after w passed)) one.none
    (heads_once IsGood (pass_to g now m depth) (row_stays g now m depth) (λ next w' l. next_once g now m depth next w' (later_next next l)) (ended_once g now m depth) passed.next (after w passed) one.next)

awaited_once : (g : ReplayInput) (now : ℕ) (m : Matter) (depth : ℕ) → OneOnce IsAwaited (pass_to g now m depth)
awaited_once g now m depth Event w i = absurd i
awaited_once g now m depth Await w i = absurd i
awaited_once g now m depth (Answered reply) w i = answer_once g now m depth reply w
awaited_once g now m depth (Succeed info) w i = good_once g now m depth info w
awaited_once g now m depth Start w i = next_once g now m depth Start w tt
awaited_once g now m depth Try w i = next_once g now m depth Try w tt
awaited_once g now m depth Create w i = next_once g now m depth Create w tt
awaited_once g now m depth Ask w i = next_once g now m depth Ask w tt
awaited_once g now m depth Hold w i = next_once g now m depth Hold w tt
awaited_once g now m depth Fail w i = next_once g now m depth Fail w tt
awaited_once g now m depth CheckArrival w i = next_once g now m depth CheckArrival w tt
awaited_once g now m depth (Hear arrival) w i = next_once g now m depth (Hear arrival) w tt
awaited_once g now m depth CheckSilence w i = next_once g now m depth CheckSilence w tt
awaited_once g now m depth Arm w i = next_once g now m depth Arm w tt
awaited_once g now m depth (Read row) w i = next_once g now m depth (Read row) w tt

await_once : (g : ReplayInput) (now : ℕ) (m : Matter) (depth : ℕ) (w : ReplayState) → Once (pass_to g now m depth Await w)
await_once g now m zero w = inl refl
await_once g now m (suc depth) w =
    let passed : Passed = pass g (passing g now w) m Await w.consumer in
    let one : Leads IsAwaited passed = await_leads g (passing g now w) m w.consumer.phase w.consumer in
    quiet_once passed.outputs (pass_each (pass_to g now m depth) passed.next (after w passed)) one.none
    (heads_once IsAwaited (pass_to g now m depth) (row_stays g now m depth) (λ next w' l. next_once g now m depth next w' (later_next next l)) (awaited_once g now m depth) passed.next (after w passed) one.next)

inside_once : (g : ReplayInput) (now : ℕ) (m : Matter) (depth : ℕ) → OneOnce IsInside (pass_to g now m depth)
inside_once g now m depth Event w i = absurd i
inside_once g now m depth Await w i = await_once g now m depth w
inside_once g now m depth (Answered reply) w i = answer_once g now m depth reply w
inside_once g now m depth (Succeed info) w i = good_once g now m depth info w
inside_once g now m depth Start w i = next_once g now m depth Start w tt
inside_once g now m depth Try w i = next_once g now m depth Try w tt
inside_once g now m depth Create w i = next_once g now m depth Create w tt
inside_once g now m depth Ask w i = next_once g now m depth Ask w tt
inside_once g now m depth Hold w i = next_once g now m depth Hold w tt
inside_once g now m depth Fail w i = next_once g now m depth Fail w tt
inside_once g now m depth CheckArrival w i = next_once g now m depth CheckArrival w tt
inside_once g now m depth (Hear arrival) w i = next_once g now m depth (Hear arrival) w tt
inside_once g now m depth CheckSilence w i = next_once g now m depth CheckSilence w tt
inside_once g now m depth Arm w i = next_once g now m depth Arm w tt
inside_once g now m depth (Read row) w i = next_once g now m depth (Read row) w tt

event_once : (g : ReplayInput) (now : ℕ) (m : Matter) (depth : ℕ) (w : ReplayState) → Once (pass_to g now m (suc depth) Event w)
event_once g now m depth w =
    let passed : Passed = pass g (passing g now w) m Event w.consumer in
    let one : Leads IsInside passed = event_leads g (passing g now w) m w.consumer.phase w.consumer in
    quiet_once passed.outputs (pass_each (pass_to g now m depth) passed.next (after w passed)) one.none
    (heads_once IsInside (pass_to g now m depth) (row_stays g now m depth) (λ next w' l. next_once g now m depth next w' (later_next next l)) (inside_once g now m depth) passed.next (after w passed) one.next)

-- ---- each step

at_most_one : (ran : Ran) → Once ran → HasOneRecreation (step_of ran)
at_most_one ran (inl none) = omega (arith, none)
at_most_one ran (inr one) = omega (arith, one.0)

event_single : (g : ReplayInput) (e : events.Event) (w : ReplayState) → HasOneRecreation (step_of (event g e w))
unfolding event
event_single g e w =
    let w' : ReplayState = record w { link_up = link_after e.what w.link_up } in
    let ran : Ran = pass_to g e.at (matter_of e.what) 10 Event w' in
    let one : Once ran = event_once g e.at (matter_of e.what) 9 w' in
    at_most_one (and_then ran.outputs (stays ran.state)) (then_once ran (stays ran.state) one (λ still. record { none = refl; still = still }) (inl refl))

events_single : (g : ReplayInput) (es : List events.Event) (w : ReplayState) → AllByRecursion HasOneRecreation (map step_of (run_events g es w))
unfolding run_events
events_single g [] w = tt
events_single g (e ∷ es) w = (event_single g e w, events_single g es (event g e w).state)

opening_later : (setup : OrderedSetup) → AreLater (opening_rows setup)
opening_later (Pull setup) = (tt, (tt, tt))
opening_later (Push setup) = tt

opening_single : (g : ReplayInput) (start : ℕ) → HasOneRecreation (step_of (opening g start))
unfolding opening
opening_single g start = at_most_one (pass_all g start tick (opening_rows g.setup) (first_state g start))
    (each_once (λ row. pass_to g start tick (suc (rank row)) row) (λ row. row_stays g start tick (suc (rank row)) row)
    (λ row w l. next_once g start tick (suc (rank row)) row w (later_next row l)) (opening_rows g.setup) (first_state g start) (opening_later g.setup))

-- in each step of a run at most one recreation begins
pub fold_single : (g : ReplayInput) (start : ℕ) (es : List events.Event) → AllByRecursion HasOneRecreation ((fold g start es).opening ∷ (fold g start es).steps)
unfolding fold
fold_single g start es = (opening_single g start, events_single g es (opening g start).state)
