-- A row sends what it asks to send.
use Rattle.std.proofs.Common.{◌≡◌, ℕ, ◌+◌, Bool, true, false, List, [], ◌∷◌, ◌++◌, map, Option, Some, None, refl, sym, ◌∙◌, ap}
use Rattle.std.specs.Prelude.{◌||◌, nat_lt, ◌==◌, if◌then◌else◌, not, ◌&&◌}
use Rattle.js_base.specs.declared.message.Message.{Message}
use Rattle.js_base.specs.Clock.{is_due}
use Rattle.js_base.specs.declared.message.State.{State}
use Rattle.js_json.specs.declared.consumer.info.Info.{Info}
use Rattle.js_message.specs.AckSubject.{Place, readable_as}
use Rattle.js_link.specs.RowInput.{RowInput}
use Rattle.js_link.specs.declared.wish.Wish.{Wish}
use Rattle.js_link.specs.Offer.{sends_of}
use Rattle.js_link.specs.declared.sent.Sent.{Sent}
use Rattle.js_link.specs.declared.sent.Sent.TheVariants as goes
use Rattle.js_pull.specs.declared.reader.Reader.{Reader as PullReader}
use Rattle.js_pull.specs.Reader as pull
use Rattle.js_pull.specs.declared.reader.Row.{Row as PullRow}
use Rattle.js_pull.specs.declared.reader.Row.TheVariants as read
use Rattle.js_pull.specs.declared.reader.ReaderOutput.{ReaderOutput as PullTold}
use Rattle.js_pull.specs.declared.reader.ReaderOutput.TheVariants as tells
use Rattle.js_pull.specs.declared.reader.MessagesErrorKind.TheVariants as error
use Rattle.js_pull.proofs.Wishes as pulls
use Rattle.js_ordered_table.specs.declared.consumer.Consumer.{Consumer}
use Rattle.js_ordered_table.specs.Consumer.{Matter, Change, Unchanged, Becomes, WatcherEnds, Passed, at_phase, output_of}
use Rattle.js_ordered_table.specs.declared.consumer.Recreation.{Recreation}
use Rattle.js_ordered_table.specs.declared.consumer.Opened.{Opened}
use Rattle.js_ordered_table.specs.declared.row.Row.{Row}
use Rattle.js_ordered_table.specs.declared.row.Row.TheVariants.{Event, Start, Try, Create, Ask, Await, Answered, Hold, Succeed, Fail, CheckArrival, Hear, CheckSilence, Arm, Read}
use Rattle.js_ordered_table.specs.declared.consumer.ReplayInput.{ReplayInput}
use Rattle.js_ordered_table.specs.declared.consumer.Stage.{Stage}
use Rattle.js_ordered_table.specs.declared.consumer.Stage.TheVariants.{Between, Deleting, Creating, Waiting}
use Rattle.js_ordered_table.specs.declared.consumer.Phase.{Phase}
use Rattle.js_ordered_table.specs.declared.consumer.Phase.TheVariants.{Pulls, Pushes, Recreates, Idle, Ended, Exhausted}
use Rattle.js_ordered_table.specs.Recreation.{start_row, create_row, succeed_row, succeed_push, fail_row, message_on, missing_after}
use Rattle.js_ordered_table.specs.Arrivals.{message_row, told, push_kind, beat_answer, beat_subject, hear_kind, armed}
use Rattle.js_ordered_table.specs.declared.kind.PushKind.{PushKind}
use Rattle.js_ordered_table.specs.declared.kind.PushKind.TheVariants.{Delivered, OtherStatus, Bad, Beat}
use Rattle.js_ordered_table.specs.Table.{go_on, is_connected, changed, watcher_ended, event_change, event_row, reader_row, row_at}
use Rattle.js_pull.specs.Poll.{same_state}
use Rattle.js_ordered_table.specs.Walk.{sent}
use Rattle.js_ordered_table.specs.Wishes.{awaited, opened_read, opened_dropped, dropped, create_wish, succeed_wish, beat_wish, wish_at, wish}
use Rattle.js_ordered_table.specs.declared.setup.OrderedSetup.{OrderedSetup}
use Rattle.js_ordered_table.specs.declared.setup.OrderedSetup.TheVariants.{Pull, Push}
use Rattle.js_ordered_table.specs.declared.run.Output.{Output}
use Rattle.js_ordered_table.proofs.Rewritten.{if_both, if_each}

-- ---- choices

-- a function of a choice that is made on both sides
both : {A B D : Type 0} (f : A → D) (h : B → D) (b : Bool) (x y : A) (u v : B) → f x ≡ h u → f y ≡ h v → f (if b then x else y) ≡ h (if b then u else v)
both f h true x y u v hu hv = hu
both f h false x y u v hu hv = hv

pub each : {A : Type 0} (b : Bool) (x y u v : A) → x ≡ u → y ≡ v → (if b then x else y) ≡ (if b then u else v)
each true x y u v hu hv = hu
each false x y u v hu hv = hv

pub chosen : {A : Type 0} (b : Bool) (x y : A) → b ≡ true → x ≡ (if b then x else y)
chosen true x y is = refl
chosen false x y is = absurd (never is)
  where
    never : false ≡ true → ⊥
    never e = cc

-- ---- what is asked is sent

abbrev Sends : Wish → RowInput → Passed → Type 0
Sends wish p passed = sent passed.outputs ≡ map output_of (sends_of wish p)

abbrev Silent : Passed → Type 0
Silent passed = sent passed.outputs ≡ []

sent_append : (xs : List Sent) (outputs : List Output) → sent (map output_of xs ++ outputs) ≡ map output_of xs ++ sent outputs
sent_append [] outputs = refl
sent_append (goes.Request number subject headers payload ∷ xs) outputs = ap (λ (rest : List Output). output_of (goes.Request number subject headers payload) ∷ rest) (sent_append xs outputs)
sent_append (goes.Publish subject reply headers payload ∷ xs) outputs = ap (λ (rest : List Output). output_of (goes.Publish subject reply headers payload) ∷ rest) (sent_append xs outputs)
sent_append (goes.Subscribe inbox subject group ∷ xs) outputs = ap (λ (rest : List Output). output_of (goes.Subscribe inbox subject group) ∷ rest) (sent_append xs outputs)

no_more : (xs : List Output) → xs ++ [] ≡ xs
no_more [] = refl
no_more (x ∷ xs) = ap (λ (rest : List Output). x ∷ rest) (no_more xs)

message_silent : (o : Option Place) (message : Message) (c : Consumer) → Silent (message_row o message c)
message_silent None message c = refl
message_silent (Some place) message c = if_each Silent (place.number == c.core.consumer_sequence + 1) _ _ (λ _. refl) (λ _. refl)

told_silent : (t : PullTold) (c : Consumer) → Silent (told t c)
told_silent tells.Nothing c = refl
told_silent (tells.Hands message) c = message_silent (readable_as message.reply) message (record c { missed = false })
told_silent (tells.Tells error.ConsumerDeleted) c = refl
told_silent (tells.Tells error.NoResponders) c = refl
told_silent (tells.Tells error.PushBasedConsumer) c = refl
told_silent (tells.Tells error.RequestLimitExceeded) c = if_each Silent c.limited _ _ (λ _. refl) (λ _. refl)
told_silent (tells.Tells error.MissingHeartbeat) c = if_each Silent c.missed _ _ (λ _. refl) (λ _. refl)
told_silent (tells.Tells error.Pull) c = refl
told_silent (tells.Tells error.Other) c = refl

reader_sends : (p : RowInput) (m : Matter) (row : PullRow) (reader : PullReader) (c : Consumer) → Sends (pull.wish row reader) p (reader_row p m row reader c)
reader_sends p m row reader c =
    let passed : pull.Passed = pull.row p m.answer (message_on reader.source.inbox m.arrival) row reader in
    sent_append passed.sent (told passed.told (at_phase (Pulls passed.reader) c)).outputs
    ∙ ap (λ (rest : List Output). map output_of passed.sent ++ rest) (told_silent passed.told (at_phase (Pulls passed.reader) c))
    ∙ no_more (map output_of passed.sent)
    ∙ ap (λ (xs : List Sent). map output_of xs) (pulls.row_sends p m.answer (message_on reader.source.inbox m.arrival) row reader)

go_on_silent : (g : ReplayInput) (p : RowInput) (m : Matter) (phase : Phase) (c : Consumer) → Silent (go_on g p m phase c)
go_on_silent g p m Idle c = refl
go_on_silent g p m (Recreates r) c = refl
go_on_silent g p m (Pulls reader) c = reader_sends p m (read.Begin None) reader c
go_on_silent g p m (Pushes inbox heartbeat_timer) c = refl
go_on_silent g p m Ended c = refl
go_on_silent g p m Exhausted c = refl

changed_silent : (g : ReplayInput) (p : RowInput) (m : Matter) (old new : State) (phase : Phase) (c : Consumer) → Silent (changed g p m old new phase c)
changed_silent g p m old new (Pulls reader) c = reader_sends p m (read.Begin (Some new)) reader (record c { connection = new })
changed_silent g p m old new (Pushes inbox heartbeat_timer) c = if_each Silent (is_connected old || is_connected new) _ _ (λ _. refl) (λ _. refl)
changed_silent g p m old new (Recreates r) c = refl
changed_silent g p m old new Idle c = refl
changed_silent g p m old new Ended c = refl
changed_silent g p m old new Exhausted c = refl

change_silent : (g : ReplayInput) (p : RowInput) (m : Matter) (change : Change) (c : Consumer) → Silent (event_change g p m change c)
change_silent g p m Unchanged c = go_on_silent g p m c.phase c
change_silent g p m (Becomes state) c = if_both Silent (same_state c.connection state) _ _ (go_on_silent g p m c.phase c) (changed_silent g p m c.connection state c.phase c)
change_silent g p m WatcherEnds c = by_setup g.setup
  where
    by_setup : (setup : OrderedSetup) → Silent (watcher_ended g p m setup c)
    by_setup (Pull setup) = go_on_silent g p m c.phase c
    by_setup (Push setup) = refl

event_sends : (g : ReplayInput) (p : RowInput) (m : Matter) (phase : Phase) (c : Consumer) → Sends (wish_at g Event phase) p (event_row g p m phase c)
event_sends g p m Ended c = refl
event_sends g p m Exhausted c = refl
event_sends g p m (Pulls reader) c = change_silent g p m m.change c
event_sends g p m (Pushes inbox heartbeat_timer) c = change_silent g p m m.change c
event_sends g p m (Recreates r) c = change_silent g p m m.change c
event_sends g p m Idle c = change_silent g p m m.change c

opened_silent : (opened : Option Opened) (p : RowInput) → sends_of (opened_dropped opened) p ≡ []
opened_silent None p = refl
opened_silent (Some opened) p = refl

dropped_silent : (phase : Phase) (p : RowInput) → sends_of (dropped phase) p ≡ []
dropped_silent (Pulls reader) p = refl
dropped_silent (Pushes inbox heartbeat_timer) p = refl
dropped_silent (Recreates r) p = opened_silent r.opened p
dropped_silent Idle p = refl
dropped_silent Ended p = refl
dropped_silent Exhausted p = refl

read_silent : (opened : Option Opened) (p : RowInput) → sends_of (opened_read opened) p ≡ []
read_silent None p = refl
read_silent (Some opened) p = refl

awaited_silent : (stage : Stage) (p : RowInput) → sends_of (awaited stage) p ≡ []
awaited_silent Between p = refl
awaited_silent (Deleting request timeout) p = refl
awaited_silent (Creating request timeout) p = refl
awaited_silent (Waiting wait) p = refl

-- nothing goes out of a row that asks for nothing to be sent
quiet : (outputs : List Output) (xs : List Sent) → sent outputs ≡ [] → xs ≡ [] → sent outputs ≡ map output_of xs
quiet outputs xs none is = none ∙ sym (ap (λ (xs : List Sent). map output_of xs) is)

create_sends : (setup : OrderedSetup) (p : RowInput) (r : Recreation) (c : Consumer) → Sends (create_wish setup) p (create_row setup p r c)
create_sends (Pull setup) p r c = refl
create_sends (Push setup) p r c = both (λ (passed : Passed). sent passed.outputs) (λ (xs : List Sent). map output_of xs) p.up _ _ _ _ refl refl

push_sends : (p : RowInput) (opened : Option Opened) (c : Consumer) → Silent (succeed_push p opened c)
push_sends p None c = refl
push_sends p (Some opened) c = refl

succeed_sends : (setup : OrderedSetup) (g : ReplayInput) (p : RowInput) (info : Info) (r : Recreation) (c : Consumer) → Sends (succeed_wish setup) p (succeed_row setup g p info r c)
succeed_sends (Pull setup) g p info r c = both (λ (passed : Passed). sent passed.outputs) (λ (xs : List Sent). map output_of xs) p.up _ _ _ _ refl refl
succeed_sends (Push setup) g p info r c = push_sends p r.opened c

beat_sends : (p : RowInput) (last : Option ℕ) (reply : Option (List ℕ)) → sent (beat_answer p.up reply) ≡ map output_of (sends_of (beat_wish (Beat last) reply) p)
beat_sends p last None = refl
beat_sends p last (Some reply) = both sent (λ (xs : List Sent). map output_of xs) p.up _ _ _ _ refl refl

kind_sends : (stalled : Bool) (p : RowInput) (message : Message) (kind : PushKind) (c : Consumer) → Sends (beat_wish kind (beat_subject stalled message)) p (hear_kind stalled p message kind c)
kind_sends stalled p message Delivered c = message_silent (readable_as message.reply) message c
kind_sends stalled p message OtherStatus c = refl
kind_sends stalled p message Bad c = refl
kind_sends stalled p message (Beat last) c = beat_sends p last (beat_subject stalled message)

-- what a row sends is what it asks to send
pub row_sends : (g : ReplayInput) (p : RowInput) (m : Matter) (row : Row) (phase : Phase) (c : Consumer) → Sends (wish_at g row phase) p (row_at g p m row phase c)
row_sends g p m Event phase c = event_sends g p m phase c
row_sends g p m Start phase c = quiet (start_row g c).outputs (sends_of (dropped phase) p) (if_each Silent (c.core.stream_sequence == pull.u64_max) _ _ (λ _. refl) (λ _. refl)) (dropped_silent phase p)
row_sends g p m Try (Recreates r) c = both (λ (passed : Passed). sent passed.outputs) (λ (xs : List Sent). map output_of xs) p.up _ _ _ _ refl refl
row_sends g p m Create (Recreates r) c = create_sends g.setup p r c
row_sends g p m Ask (Recreates r) c = both (λ (passed : Passed). sent passed.outputs) (λ (xs : List Sent). map output_of xs) p.up _ _ _ _ refl refl
row_sends g p m Await (Recreates r) c = quiet [] (sends_of (awaited r.stage) p) refl (awaited_silent r.stage p)
row_sends g p m (Answered reply) (Recreates r) c =
    if_each (λ (outputs : List Output). sent outputs ≡ [])
    (missing_after g.settings.resilience.tells_missing_stream (pull.info_reply reply) c.stream_missing && not c.stream_missing) _ _ (λ _. refl) (λ _. refl)
row_sends g p m Hold (Recreates r) c = quiet [] (sends_of (opened_read r.opened) p) refl (read_silent r.opened p)
row_sends g p m (Succeed info) (Recreates r) c = succeed_sends g.setup g p info r c
row_sends g p m Fail (Recreates r) c =
    quiet (fail_row g p r c).outputs (sends_of (opened_dropped r.opened) p) (if_each Silent (nat_lt g.settings.retries (r.failures + 1)) _ _ (λ _. refl) (λ _. refl)) (opened_silent r.opened p)
row_sends g p m CheckArrival (Pushes inbox heartbeat_timer) c = refl
row_sends g p m (Hear arrival) (Pushes inbox heartbeat_timer) c =
    both (λ (passed : Passed). sent passed.outputs) (λ (w : Wish). map output_of (sends_of w p)) (arrival.inbox == inbox) _ _ _ _
    (kind_sends g.settings.resilience.answers_stalled p arrival.message (push_kind arrival.message) (at_phase (Pushes inbox (armed p.now)) c)) refl
row_sends g p m CheckSilence (Pushes inbox heartbeat_timer) c = if_each Silent (is_due heartbeat_timer p.now) _ _ (λ _. refl) (λ _. refl)
row_sends g p m Arm (Pushes inbox heartbeat_timer) c = refl
row_sends g p m (Read row) (Pulls reader) c = reader_sends p m row reader c
row_sends g p m _ phase c = refl
