-- What an event yields is the message of its arrival, and it yields one at most.
use Rattle.std.proofs.Common.{◌≡◌, ◌⊎◌, ℕ, zero, suc, ◌+◌, ◌≤◌, ◌∙◌, Bool, true, false, List, [], ◌∷◌, ◌++◌, map, Option, Some, None, refl, sym, ap, subst, inl, inr, append-nil, arith}
use Rattle.std.specs.Prelude.{nat_lt, not, ◌&&◌, ◌||◌, ◌==◌, ⊤, is_some, if◌then◌else◌}
use Rattle.std.specs.List.{AllByRecursion}
use Rattle.js_base.specs.Clock.{is_due, is_any_due}
use Rattle.js_base.specs.declared.clock.Timer.{Timer}
use Rattle.js_base.specs.declared.message.Message.{Message}
use Rattle.js_base.specs.declared.message.State.{State}
use Rattle.js_base.specs.declared.message.State.TheVariants.{Pending, Connected, Disconnected}
use Rattle.js_json.specs.declared.consumer.info.Info.{Info}
use Rattle.js_link.specs.RowInput.{RowInput}
use Rattle.js_link.specs.declared.sent.Sent.{Sent}
use Rattle.js_link.specs.declared.sent.Sent.TheVariants as goes
use Rattle.js_message.specs.AckSubject.{Place, readable_as}
use Rattle.js_ordered_table.proofs.Rewritten.{if_both, if_each}
use Rattle.js_ordered_table.specs.Arrivals.{beat_answer, beat_rows, hear_kind, in_place_of, message_row, push_kind, read_row, armed, told, with_sent, beat_subject}
use Rattle.js_ordered_table.specs.Consumer.{Becomes, Change, Matter, Passed, Unchanged, WatcherEnds, at_phase, output_of}
use Rattle.js_ordered_table.specs.Fold.{Ran, after, event, first_phase, first_state, link_after, matter_of, opening, opening_rows, pass_all, pass_each, pass_to, passing, rank, tick}
use Rattle.js_ordered_table.specs.declared.event.Event as events
use Rattle.js_ordered_table.specs.Recreation.{answered, create_row, created, held_in, hold_row, message_on, has_subject, recreation_rows, stage_rows, succeed_push, succeed_row, answered_row, missing_after, missing_outputs}
use Rattle.js_ordered_table.specs.Table.{changed, event_change, event_row, go_on, is_connected, pass, push_rows, row_at, watcher_ended}
use Rattle.js_ordered_table.specs.declared.consumer.Consumer.{Consumer}
use Rattle.js_ordered_table.specs.declared.consumer.Opened.{Opened}
use Rattle.js_ordered_table.specs.declared.consumer.Phase.{Phase}
use Rattle.js_ordered_table.specs.declared.consumer.Phase.TheVariants.{Pulls, Pushes, Recreates, Idle, Ended, Exhausted}
use Rattle.js_ordered_table.specs.declared.consumer.Recreation.{Recreation}
use Rattle.js_ordered_table.specs.declared.consumer.ReplayInput.{ReplayInput}
use Rattle.js_ordered_table.specs.declared.consumer.Stage.{Stage}
use Rattle.js_ordered_table.specs.declared.consumer.Stage.TheVariants.{Between, Creating, Deleting, Waiting}
use Rattle.js_ordered_table.specs.declared.kind.PushKind.{PushKind}
use Rattle.js_ordered_table.specs.declared.kind.PushKind.TheVariants.{Delivered, OtherStatus, Bad, Beat}
use Rattle.js_ordered_table.specs.declared.replay_state.ReplayState.{ReplayState}
use Rattle.js_ordered_table.specs.declared.row.Arrival.{Arrival}
use Rattle.js_ordered_table.specs.declared.row.Row.{Row}
use Rattle.js_ordered_table.specs.declared.row.Row.TheVariants.{Event, Start, Try, Create, Ask, Await, Answered, Hold, Succeed, Fail, CheckArrival, Hear, CheckSilence, Arm, Read}
use Rattle.js_ordered_table.specs.declared.run.ItemKind.TheVariants as item
use Rattle.js_ordered_table.specs.declared.run.Output.{Output}
use Rattle.js_ordered_table.specs.declared.run.Output.TheVariants as out
use Rattle.js_ordered_table.specs.declared.setup.OrderedSetup.{OrderedSetup}
use Rattle.js_ordered_table.specs.declared.setup.OrderedSetup.TheVariants.{Pull, Push}
use Rattle.js_pull.specs.Kind.{pull_kind}
use Rattle.js_pull.specs.Poll.{same_state}
use Rattle.js_pull.specs.Reader as pull
use Rattle.js_pull.specs.declared.kind.Kind.{Kind}
use Rattle.js_pull.specs.declared.kind.Kind.TheVariants as kind
use Rattle.js_pull.specs.declared.reader.InfoRequest.{InfoRequest}
use Rattle.js_pull.specs.declared.reader.InfoRequest.TheVariants as inquiries
use Rattle.js_pull.specs.declared.reader.MessagesErrorKind.TheVariants as error
use Rattle.js_pull.specs.declared.reader.Reader.{Reader as PullReader}
use Rattle.js_pull.specs.declared.reader.ReaderOutput.{ReaderOutput as PullTold}
use Rattle.js_pull.specs.declared.reader.ReaderOutput.TheVariants as tells
use Rattle.js_pull.specs.declared.reader.Row.{Row as PullRow}
use Rattle.js_pull.specs.declared.reader.Row.TheVariants as read
use Rattle.js_pull.specs.declared.replies.InfoReply.{InfoReply}
use Rattle.js_ordered_recorder.proofs.OwnArrival.{AreOwn, Fits, Follows, HoldsNone, NoneHeld, Ready, RowsFit, answered_fit, arrived, message_fits, none_fit, on_inbox, own_append, row_reads, silent_fits, stage_fit, uses, uses_append, weight, weights}

-- ---- a consumer's rows

-- what is heard is the arrival
check_fits : (m : Matter) (inbox : ℕ) (c : Consumer) (o : Option Message) → HoldsNone c.phase → ((message : Message) → o ≡ Some message → arrived m ≡ Some message) → Fits m 1 (record { consumer = c; outputs = []; next = push_rows inbox o })
check_fits m inbox c None held is = record { own = tt; held = held; rows = (tt, tt); few = omega arith }
check_fits m inbox c (Some message) held is = record { own = tt; held = held; rows = (is message refl, tt); few = omega arith }

beat_fits : (m : Matter) (up : Bool) (reply : Option (List ℕ)) (c : Consumer) (rows : List Row) → HoldsNone c.phase → RowsFit m rows → Fits m 1 (record { consumer = c; outputs = beat_answer up reply; next = rows })
beat_fits m up None c rows held fit = silent_fits m 1 c rows held fit
beat_fits m true (Some reply) c rows held fit = record { own = tt; held = held; rows = fit.0; few = let light = fit.1 in omega arith }
beat_fits m false (Some reply) c rows held fit = silent_fits m 1 c rows held fit

gap_fit : (m : Matter) (last : Option ℕ) (n : ℕ) → RowsFit m (beat_rows last n)
gap_fit m None n = none_fit m
gap_fit m (Some last) n = if_each (RowsFit m) (last == n) _ _ (λ _. none_fit m) (λ _. ((tt, tt), omega arith))

hear_fits : (stalled : Bool) (p : RowInput) (m : Matter) (message : Message) (k : PushKind) (c : Consumer) → arrived m ≡ Some message → HoldsNone c.phase → Fits m 1 (hear_kind stalled p message k c)
hear_fits stalled p m message Delivered c is held = message_fits m message (readable_as message.reply) c is refl held
hear_fits stalled p m message OtherStatus c is held = silent_fits m 1 c [] held (none_fit m)
hear_fits stalled p m message Bad c is held = record { own = tt; held = held; rows = tt; few = omega arith }
hear_fits stalled p m message (Beat last) c is held = beat_fits m p.up (beat_subject stalled message) c (beat_rows last c.core.consumer_sequence) held (gap_fit m last c.core.consumer_sequence)

await_fit : (m : Matter) (opened : Option Opened) → m.arrival ≡ None → RowsFit m (recreation_rows opened)
await_fit m None nothing = ((tt, tt), omega arith)
await_fit m (Some opened) nothing = ((tt, (nothing, tt)), omega arith)

go_on_fits : (g : ReplayInput) (p : RowInput) (m : Matter) (phase : Phase) (c : Consumer) → Ready m phase → HoldsNone c.phase → Fits m 1 (go_on g p m phase c)
go_on_fits g p m Idle c ready held = record { own = tt; held = held; rows = (tt, tt); few = omega arith }
go_on_fits g p m (Recreates r) c ready held = silent_fits m 1 c (recreation_rows r.opened) held (await_fit m r.opened ready)
go_on_fits g p m (Pulls reader) c ready held = row_reads p m (read.Begin None) reader c
go_on_fits g p m (Pushes inbox heartbeat_timer) c ready held = record { own = tt; held = held; rows = (tt, tt); few = omega arith }
go_on_fits g p m Ended c ready held = silent_fits m 1 c [] held (none_fit m)
go_on_fits g p m Exhausted c ready held = silent_fits m 1 c [] held (none_fit m)

changed_fits : (g : ReplayInput) (p : RowInput) (m : Matter) (old new : State) (phase : Phase) (c : Consumer) → Ready m phase → HoldsNone c.phase → Fits m 1 (changed g p m old new phase c)
changed_fits g p m old new (Pulls reader) c ready held = row_reads p m (read.Begin (Some new)) reader (record c { connection = new })
changed_fits g p m old new (Pushes inbox heartbeat_timer) c ready held =
    if_both (Fits m 1) (is_connected old || is_connected new) _ _ (record { own = tt; held = held; rows = (tt, tt); few = omega arith })
    (go_on_fits g p m (Pushes inbox heartbeat_timer) (record c { connection = new }) ready held)
changed_fits g p m old new (Recreates r) c ready held = go_on_fits g p m (Recreates r) (record c { connection = new }) ready held
changed_fits g p m old new Idle c ready held = go_on_fits g p m Idle (record c { connection = new }) ready held
changed_fits g p m old new Ended c ready held = go_on_fits g p m Ended (record c { connection = new }) ready held
changed_fits g p m old new Exhausted c ready held = go_on_fits g p m Exhausted (record c { connection = new }) ready held

watcher_fits : (g : ReplayInput) (p : RowInput) (m : Matter) (setup : OrderedSetup) (c : Consumer) → Ready m c.phase → HoldsNone c.phase → Fits m 1 (watcher_ended g p m setup c)
watcher_fits g p m (Pull setup) c ready held = go_on_fits g p m c.phase c ready held
watcher_fits g p m (Push setup) c ready held = record { own = tt; held = tt; rows = tt; few = omega arith }

change_fits : (g : ReplayInput) (p : RowInput) (m : Matter) (change : Change) (c : Consumer) → Ready m c.phase → HoldsNone c.phase → Fits m 1 (event_change g p m change c)
change_fits g p m Unchanged c ready held = go_on_fits g p m c.phase c ready held
change_fits g p m (Becomes state) c ready held =
    if_both (Fits m 1) (same_state c.connection state) _ _ (go_on_fits g p m c.phase c ready held) (changed_fits g p m c.connection state c.phase c ready held)
change_fits g p m WatcherEnds c ready held = watcher_fits g p m g.setup c ready held

-- an event's first row
first_fits : (g : ReplayInput) (p : RowInput) (m : Matter) (phase : Phase) (c : Consumer) → Ready m c.phase → HoldsNone c.phase → Fits m 1 (event_row g p m phase c)
first_fits g p m Ended c ready held = silent_fits m 1 c [] held (none_fit m)
first_fits g p m Exhausted c ready held = silent_fits m 1 c [] held (none_fit m)
first_fits g p m (Pulls reader) c ready held = change_fits g p m m.change c ready held
first_fits g p m (Pushes inbox heartbeat_timer) c ready held = change_fits g p m m.change c ready held
first_fits g p m (Recreates r) c ready held = change_fits g p m m.change c ready held
first_fits g p m Idle c ready held = change_fits g p m m.change c ready held

create_fits : (setup : OrderedSetup) (p : RowInput) (m : Matter) (r : Recreation) (c : Consumer) → NoneHeld r.opened → HoldsNone c.phase → Fits m 0 (create_row setup p r c)
create_fits (Pull setup) p m r c none held = record { own = tt; held = held; rows = (tt, tt); few = omega arith }
create_fits (Push setup) p m r c none held =
    if_each (Fits m 0) p.up _ _ (λ _. record { own = tt; held = refl; rows = (tt, tt); few = omega arith }) (λ _. record { own = tt; held = held; rows = (tt, tt); few = omega arith })

held_none : (opened : Option Opened) (arrival : Option Arrival) → arrival ≡ None → NoneHeld opened → NoneHeld (held_in arrival opened)
held_none None arrival nothing none = tt
held_none (Some opened) arrival nothing none = let P : Option Arrival → Type 0 = λ a. NoneHeld (held_in a (Some opened)) in subst P (sym nothing) none

push_fits : (p : RowInput) (m : Matter) (opened : Option Opened) (c : Consumer) → NoneHeld opened → HoldsNone c.phase → Fits m 0 (succeed_push p opened c)
push_fits p m None c none held = silent_fits m 0 c [] held (none_fit m)
push_fits p m (Some opened) c none held =
    let P : List Message → Type 0 = λ messages.
    Fits m 0 (record {
      consumer = at_phase (Pushes opened.inbox (record { set = p.now; wait = 10_000_000_000 })) c;
      outputs = [];
      next = map (λ message. Hear (record { inbox = opened.inbox; message = message })) messages ++ Arm ∷ [];
    }) in
    subst P (sym none) (record { own = tt; held = tt; rows = (tt, tt); few = omega arith })

succeed_fits : (setup : OrderedSetup) (g : ReplayInput) (p : RowInput) (m : Matter) (info : Info) (r : Recreation) (c : Consumer) → NoneHeld r.opened → HoldsNone c.phase → Fits m 0 (succeed_row setup g p info r c)
succeed_fits (Pull setup) g p m info r c none held =
    if_each (Fits m 0) p.up _ _ (λ _. record { own = tt; held = tt; rows = (tt, (tt, tt)); few = omega arith }) (λ _. record { own = tt; held = held; rows = (tt, tt); few = omega arith })
succeed_fits (Push setup) g p m info r c none held = push_fits p m r.opened c none held

-- an answer to a create may be told, in an item that uses nothing
missing_fits : (m : Matter) (missing was_missing : Bool) → AreOwn (arrived m) (missing_outputs missing was_missing) × (uses (missing_outputs missing was_missing) ≤ 0)
missing_fits m missing was_missing =
    if_each (λ (outputs : List Output). AreOwn (arrived m) outputs × (uses outputs ≤ 0)) (missing && not was_missing) _ _ (λ _. (tt, omega arith)) (λ _. (tt, omega arith))

answered_fits : (g : ReplayInput) (m : Matter) (reply : InfoReply) (c : Consumer) → HoldsNone c.phase → Fits m 0 (answered_row g reply c)
answered_fits g m reply c held =
    let fit = answered_fit m g.setup (pull.info_in reply) in
    let told = missing_fits m (missing_after g.settings.resilience.tells_missing_stream reply c.stream_missing) c.stream_missing in
    record { own = told.0; held = held; rows = fit.0; few = let light = fit.1 in let none = told.1 in omega arith }

-- each row but an event's first
row_fits : (g : ReplayInput) (p : RowInput) (m : Matter) (row : Row) (phase : Phase) (c : Consumer) → Follows m row → HoldsNone phase → HoldsNone c.phase → Fits m (weight row) (row_at g p m row phase c)
row_fits g p m Event phase c follows none held = absurd follows
row_fits g p m Start phase c follows none held =
    if_each (Fits m 0) (c.core.stream_sequence == pull.u64_max) _ _ (λ _. record { own = tt; held = tt; rows = tt; few = omega arith }) (λ _. record { own = tt; held = tt; rows = (tt, tt); few = omega arith })
row_fits g p m Try (Recreates r) c follows none held =
    if_each (Fits m 0) p.up _ _ (λ _. record { own = tt; held = none; rows = tt; few = omega arith }) (λ _. record { own = tt; held = held; rows = (tt, tt); few = omega arith })
row_fits g p m Create (Recreates r) c follows none held = create_fits g.setup p m r c none held
row_fits g p m Ask (Recreates r) c follows none held =
    if_each (Fits m 0) p.up _ _ (λ _. record { own = tt; held = none; rows = tt; few = omega arith }) (λ _. record { own = tt; held = held; rows = (tt, tt); few = omega arith })
row_fits g p m Await (Recreates r) c follows none held = silent_fits m 0 c (stage_rows g p m r.stage) held (stage_fit g p m r.stage)
row_fits g p m (Answered reply) (Recreates r) c follows none held = answered_fits g m (pull.info_reply reply) c held
row_fits g p m Hold (Recreates r) c follows none held = record { own = tt; held = held_none r.opened m.arrival follows none; rows = tt; few = omega arith }
row_fits g p m (Succeed info) (Recreates r) c follows none held = succeed_fits g.setup g p m info r c none held
row_fits g p m Fail (Recreates r) c follows none held =
    if_each (Fits m 0) (nat_lt g.settings.retries (r.failures + 1)) _ _ (λ _. record { own = tt; held = tt; rows = tt; few = omega arith }) (λ _. record { own = tt; held = tt; rows = tt; few = omega arith })
row_fits g p m CheckArrival (Pushes inbox heartbeat_timer) c follows none held = check_fits m inbox c (message_on inbox m.arrival) held (on_inbox inbox m.arrival)
row_fits g p m (Hear arrival) (Pushes inbox heartbeat_timer) c follows none held =
    if_both (Fits m 1) (arrival.inbox == inbox) _ _ (hear_fits g.settings.resilience.answers_stalled p m arrival.message (push_kind arrival.message) (at_phase (Pushes inbox (armed p.now)) c) follows tt) (silent_fits m 1 c [] held (none_fit m))
row_fits g p m CheckSilence (Pushes inbox heartbeat_timer) c follows none held =
    if_each (Fits m 0) (is_due heartbeat_timer p.now) _ _ (λ _. record { own = tt; held = held; rows = (tt, tt); few = omega arith }) (λ _. record { own = tt; held = held; rows = tt; few = omega arith })
row_fits g p m Arm (Pushes inbox heartbeat_timer) c follows none held = record { own = tt; held = tt; rows = tt; few = omega arith }
row_fits g p m (Read row) (Pulls reader) c follows none held = row_reads p m row reader c
row_fits g p m row phase c follows none held = silent_fits m (weight row) c [] held (none_fit m)

-- ---- an event

-- what a row and all that follows it come to
pub record RanFits (m : Matter) (n : ℕ) (ran : Ran) : Type 0 where
  pub own : AreOwn (arrived m) ran.outputs
  pub held : HoldsNone ran.state.consumer.phase
  pub few : uses ran.outputs ≤ n

abbrev OneFits : Matter → (Row → ReplayState → Ran) → Type 0
OneFits m one = (row : Row) (w : ReplayState) → Follows m row → HoldsNone w.consumer.phase → RanFits m (weight row) (one row w)

each_fit : (m : Matter) (one : Row → ReplayState → Ran) → OneFits m one → (rows : List Row) (w : ReplayState) → AllByRecursion (Follows m) rows → HoldsNone w.consumer.phase → RanFits m (weights rows) (pass_each one rows w)
each_fit m one fits [] w follow held = record { own = tt; held = held; few = omega arith }
each_fit m one fits (row ∷ rows) w follow held =
    let first : RanFits m (weight row) (one row w) = fits row w follow.0 held in
    let rest : Ran = pass_each one rows (one row w).state in
    let more : RanFits m (weights rows) rest = each_fit m one fits rows (one row w).state follow.1 first.held in
    let both : uses ((one row w).outputs ++ rest.outputs) ≡ uses (one row w).outputs + uses rest.outputs = uses_append (one row w).outputs rest.outputs in
    record {
      own = own_append (arrived m) (one row w).outputs rest.outputs first.own more.own;
      held = more.held;
      few = let few = first.few in let later = more.few in omega arith;
    }

then_fit : (g : ReplayInput) (now : ℕ) (m : Matter) (depth n : ℕ) (w : ReplayState) (passed : Passed) → OneFits m (pass_to g now m depth) → Fits m n passed
    → RanFits m n (record { state = (pass_each (pass_to g now m depth) passed.next (after w passed)).state; outputs = passed.outputs ++ (pass_each (pass_to g now m depth) passed.next (after w passed)).outputs })
then_fit g now m depth n w passed fits first =
    let rest : Ran = pass_each (pass_to g now m depth) passed.next (after w passed) in
    let more : RanFits m (weights passed.next) rest = each_fit m (pass_to g now m depth) fits passed.next (after w passed) first.rows first.held in
    let both : uses (passed.outputs ++ rest.outputs) ≡ uses passed.outputs + uses rest.outputs = uses_append passed.outputs rest.outputs in
    record {
      own = own_append (arrived m) passed.outputs rest.outputs first.own more.own;
      held = more.held;
      few = let few = first.few in let later = more.few in omega arith;
    }

pass_fits : (g : ReplayInput) (now : ℕ) (m : Matter) (depth : ℕ) → OneFits m (pass_to g now m depth)
pass_fits g now m zero row w follows held = record { own = tt; held = held; few = omega arith }
pass_fits g now m (suc depth) row w follows held =
    then_fit g now m depth (weight row) w (pass g (passing g now w) m row w.consumer) (pass_fits g now m depth)
    (row_fits g (passing g now w) m row w.consumer.phase w.consumer follows held held)

-- the last outputs, and nothing more
end_fits : (m : Matter) (n : ℕ) (ran : Ran) → RanFits m n ran → RanFits m n (record { state = ran.state; outputs = ran.outputs ++ [] })
end_fits m n ran fits =
    let P : List Output → Type 0 = λ os. RanFits m n (record { state = ran.state; outputs = os }) in
    subst P (sym (append-nil ran.outputs)) (record { own = fits.own; held = fits.held; few = fits.few })

-- what an event puts out for the user is its arrival's, and uses its message once at most
pub event_fits : (g : ReplayInput) (e : events.Event) (w : ReplayState) → Ready (matter_of e.what) w.consumer.phase → HoldsNone w.consumer.phase → RanFits (matter_of e.what) 1 (event g e w)
unfolding event
event_fits g e w ready held =
    let m : Matter = matter_of e.what in
    let v : ReplayState = record w { link_up = link_after e.what w.link_up } in
    end_fits m 1 (pass_to g e.at m 10 Event v)
    (then_fit g e.at m 9 1 v (pass g (passing g e.at v) m Event v.consumer) (pass_fits g e.at m 9) (first_fits g (passing g e.at v) m v.consumer.phase v.consumer ready held))

opening_follows : (setup : OrderedSetup) → AllByRecursion (Follows tick) (opening_rows setup)
opening_follows (Pull setup) = (tt, (tt, tt))
opening_follows (Push setup) = tt

opening_weighs : (setup : OrderedSetup) → weights (opening_rows setup) ≤ 0
opening_weighs (Pull setup) = omega arith
opening_weighs (Push setup) = omega arith

first_holds : (g : ReplayInput) (start : ℕ) (setup : OrderedSetup) → HoldsNone (first_phase g start setup)
first_holds g start (Pull setup) = tt
first_holds g start (Push setup) = tt

-- nor does the opening use a message
pub opening_fits : (g : ReplayInput) (start : ℕ) → RanFits tick 0 (opening g start)
unfolding opening
opening_fits g start =
    let fits : RanFits tick (weights (opening_rows g.setup)) (pass_all g start tick (opening_rows g.setup) (first_state g start)) =
    each_fit tick (λ row. pass_to g start tick (suc (rank row)) row) (λ row. pass_fits g start tick (suc (rank row)) row) (opening_rows g.setup) (first_state g start) (opening_follows g.setup) (first_holds g start g.setup) in
    record { own = fits.own; held = fits.held; few = let few = fits.few in let none = opening_weighs g.setup in omega arith }
