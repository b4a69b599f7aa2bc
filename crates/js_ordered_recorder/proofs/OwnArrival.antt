-- What a row yields is the message of its arrival, and an event yields one at most.
use Rattle.std.proofs.Common.{◌≡◌, ◌⊎◌, ℕ, zero, suc, ◌+◌, ◌≤◌, ◌∙◌, Bool, true, false, List, [], ◌∷◌, ◌++◌, map, Option, Some, None, refl, sym, ap, subst, inl, inr, arith}
use Rattle.std.specs.Prelude.{nat_lt, not, ◌&&◌, ◌||◌, ◌==◌, ⊤, is_some, if◌then◌else◌}
use Rattle.std.specs.List.{AllByRecursion}
use Rattle.js_base.specs.Clock.{is_due, is_any_due}
use Rattle.js_base.specs.declared.clock.Timer.{Timer}
use Rattle.js_base.specs.declared.message.Message.{Message}
use Rattle.js_base.specs.declared.message.State.{State}
use Rattle.js_base.specs.declared.message.State.TheVariants.{Pending, Connected, Disconnected}
use Rattle.js_json.specs.declared.consumer.info.Info.{Info}
use Rattle.js_link.specs.RowInput.{RowInput}
use Rattle.js_link.specs.declared.sent.Sent.{Sent}
use Rattle.js_link.specs.declared.sent.Sent.TheVariants as goes
use Rattle.js_message.specs.AckSubject.{Place, readable_as}
use Rattle.js_ordered_table.proofs.Rewritten.{if_both, if_each}
use Rattle.js_ordered_table.specs.Arrivals.{beat_answer, beat_rows, hear_kind, in_place_of, message_row, push_kind, read_row, armed, told, with_sent}
use Rattle.js_ordered_table.specs.Consumer.{Becomes, Change, Matter, Passed, Unchanged, WatcherEnds, at_phase, output_of}
use Rattle.js_ordered_table.specs.Fold.{Ran, after, pass_each, pass_to, passing}
use Rattle.js_ordered_table.specs.Recreation.{answered, create_row, created, held_in, hold_row, message_on, has_subject, recreation_rows, stage_rows, succeed_push, succeed_row}
use Rattle.js_ordered_table.specs.Table.{changed, event_change, event_row, go_on, is_connected, pass, row_at, watcher_ended}
use Rattle.js_ordered_table.specs.declared.consumer.Consumer.{Consumer}
use Rattle.js_ordered_table.specs.declared.consumer.Opened.{Opened}
use Rattle.js_ordered_table.specs.declared.consumer.Phase.{Phase}
use Rattle.js_ordered_table.specs.declared.consumer.Phase.TheVariants.{Pulls, Pushes, Recreates, Idle, Ended, Exhausted}
use Rattle.js_ordered_table.specs.declared.consumer.Recreation.{Recreation}
use Rattle.js_ordered_table.specs.declared.consumer.ReplayInput.{ReplayInput}
use Rattle.js_ordered_table.specs.declared.consumer.Stage.{Stage}
use Rattle.js_ordered_table.specs.declared.consumer.Stage.TheVariants.{Between, Creating, Deleting, Waiting}
use Rattle.js_ordered_table.specs.declared.kind.PushKind.{PushKind}
use Rattle.js_ordered_table.specs.declared.kind.PushKind.TheVariants.{Delivered, OtherStatus, Bad, Beat}
use Rattle.js_ordered_table.specs.declared.replay_state.ReplayState.{ReplayState}
use Rattle.js_ordered_table.specs.declared.row.Arrival.{Arrival}
use Rattle.js_ordered_table.specs.declared.row.Row.{Row}
use Rattle.js_ordered_table.specs.declared.row.Row.TheVariants.{Event, Start, Try, Create, Ask, Await, Answered, Hold, Succeed, Fail, CheckArrival, Hear, CheckSilence, Arm, Read}
use Rattle.js_ordered_table.specs.declared.run.ItemKind.TheVariants as item
use Rattle.js_ordered_table.specs.declared.run.Output.{Output}
use Rattle.js_ordered_table.specs.declared.run.Output.TheVariants as out
use Rattle.js_ordered_table.specs.declared.setup.OrderedSetup.{OrderedSetup}
use Rattle.js_ordered_table.specs.declared.setup.OrderedSetup.TheVariants.{Pull, Push}
use Rattle.js_pull.specs.Kind.{pull_kind}
use Rattle.js_pull.specs.Poll.{same_state}
use Rattle.js_pull.specs.Reader as pull
use Rattle.js_pull.specs.declared.kind.Kind.{Kind}
use Rattle.js_pull.specs.declared.kind.Kind.TheVariants as kind
use Rattle.js_pull.specs.declared.reader.InfoRequest.{InfoRequest}
use Rattle.js_pull.specs.declared.reader.InfoRequest.TheVariants as inquiries
use Rattle.js_pull.specs.declared.reader.MessagesErrorKind.TheVariants as error
use Rattle.js_pull.specs.declared.reader.Reader.{Reader as PullReader}
use Rattle.js_pull.specs.declared.reader.ReaderOutput.{ReaderOutput as PullTold}
use Rattle.js_pull.specs.declared.reader.ReaderOutput.TheVariants as tells
use Rattle.js_pull.specs.declared.reader.Row.{Row as PullRow}
use Rattle.js_pull.specs.declared.reader.Row.TheVariants as read
use Rattle.js_pull.specs.declared.replies.InfoReply.{InfoReply}
use Rattle.js_pull.specs.declared.replies.InfoReply.TheVariants as says

-- ---- what is said of a row

-- an output for which the message of the arrival is used: a yield, or the error that has its text
-- as source
abbrev pub uses : List Output → ℕ
uses [] = 0
uses (out.Yield sequence number subject payload ∷ outputs) = 1 + uses outputs
uses (out.Item item.RequestLimitExceeded ∷ outputs) = 1 + uses outputs
uses (_ ∷ outputs) = uses outputs

-- a yield is the message's, with its numbers
pub record IsOwn (message : Message) (sequence number : ℕ) (subject payload : List ℕ) : Type 0 where
  pub place : readable_as message.reply ≡ Some (record { sequence = sequence; number = number })
  pub subject_is : message.subject ≡ subject
  pub payload_is : message.payload ≡ payload

abbrev pub IsOwnOf : Option Message → ℕ → ℕ → List ℕ → List ℕ → Type 0
IsOwnOf None sequence number subject payload = ⊥
IsOwnOf (Some message) sequence number subject payload = IsOwn message sequence number subject payload

-- each yield is the message's
abbrev pub AreOwn : Option Message → List Output → Type 0
AreOwn brought [] = ⊤
AreOwn brought (out.Yield sequence number subject payload ∷ outputs) = IsOwnOf brought sequence number subject payload × AreOwn brought outputs
AreOwn brought (_ ∷ outputs) = AreOwn brought outputs

-- the message that arrived
abbrev pub arrived_in : Option Arrival → Option Message
arrived_in None = None
arrived_in (Some arrival) = Some arrival.message

abbrev pub arrived : Matter → Option Message
arrived m = arrived_in m.arrival

-- how many uses a row may lead to
abbrev pub weight : Row → ℕ
weight Event = 1
weight CheckArrival = 1
weight (Hear arrival) = 1
weight (Read (read.Begin change)) = 1
weight (Read read.CheckArrival) = 1
weight row = 0

abbrev pub weights : List Row → ℕ
weights [] = 0
weights (row ∷ rows) = weight row + weights rows

-- a recreation holds no arrival
abbrev pub NoneHeld : Option Opened → Type 0
NoneHeld None = ⊤
NoneHeld (Some opened) = opened.held ≡ []

abbrev pub HoldsNone : Phase → Type 0
HoldsNone (Recreates r) = NoneHeld r.opened
HoldsNone phase = ⊤

-- nothing arrives while a consumer is recreated
abbrev pub Ready : Matter → Phase → Type 0
Ready m (Recreates r) = m.arrival ≡ None
Ready m phase = ⊤

-- a row that an event leads to: what is heard is the arrival, and nothing is held
abbrev pub Follows : Matter → Row → Type 0
Follows m Event = ⊥
Follows m Hold = m.arrival ≡ None
Follows m (Hear arrival) = arrived m ≡ Some arrival.message
Follows m row = ⊤

pub record Fits (m : Matter) (n : ℕ) (passed : Passed) : Type 0 where
  pub own : AreOwn (arrived m) passed.outputs
  pub held : HoldsNone passed.consumer.phase
  pub rows : AllByRecursion (Follows m) passed.next
  pub few : uses passed.outputs + weights passed.next ≤ n

-- ---- numbers of outputs

pub own_append : (brought : Option Message) (xs ys : List Output) → AreOwn brought xs → AreOwn brought ys → AreOwn brought (xs ++ ys)
own_append brought [] ys first more = more
own_append brought (out.Yield sequence number subject payload ∷ xs) ys first more = (first.0, own_append brought xs ys first.1 more)
own_append brought (out.Item kind ∷ xs) ys first more = own_append brought xs ys first more
own_append brought (out.Recreate recreation_count start ∷ xs) ys first more = own_append brought xs ys first more
own_append brought (out.Request number subject payload ∷ xs) ys first more = own_append brought xs ys first more
own_append brought (out.Publish subject reply payload ∷ xs) ys first more = own_append brought xs ys first more
own_append brought (out.Subscribe inbox subject ∷ xs) ys first more = own_append brought xs ys first more

one_more : (n a b : ℕ) → n ≡ a + b → 1 + n ≡ (1 + a) + b
one_more n a b same = omega arith

pub uses_append : (xs ys : List Output) → uses (xs ++ ys) ≡ uses xs + uses ys
uses_append [] ys = omega arith
uses_append (out.Yield sequence number subject payload ∷ xs) ys = one_more (uses (xs ++ ys)) (uses xs) (uses ys) (uses_append xs ys)
uses_append (out.Item item.RequestLimitExceeded ∷ xs) ys = one_more (uses (xs ++ ys)) (uses xs) (uses ys) (uses_append xs ys)
uses_append (out.Item item.MissingHeartbeat ∷ xs) ys = uses_append xs ys
uses_append (out.Item item.PushBasedConsumer ∷ xs) ys = uses_append xs ys
uses_append (out.Item item.Pull ∷ xs) ys = uses_append xs ys
uses_append (out.Item item.Recreate ∷ xs) ys = uses_append xs ys
uses_append (out.Item item.Other ∷ xs) ys = uses_append xs ys
uses_append (out.Item item.StreamNotFound ∷ xs) ys = uses_append xs ys
uses_append (out.Recreate recreation_count start ∷ xs) ys = uses_append xs ys
uses_append (out.Request number subject payload ∷ xs) ys = uses_append xs ys
uses_append (out.Publish subject reply payload ∷ xs) ys = uses_append xs ys
uses_append (out.Subscribe inbox subject ∷ xs) ys = uses_append xs ys

-- what was sent is neither
sent_uses : (sent : List Sent) (outputs : List Output) → uses (map output_of sent ++ outputs) ≡ uses outputs
sent_uses [] outputs = refl
sent_uses (goes.Request number subject headers payload ∷ sent) outputs = sent_uses sent outputs
sent_uses (goes.Publish subject reply headers payload ∷ sent) outputs = sent_uses sent outputs
sent_uses (goes.Subscribe inbox subject group ∷ sent) outputs = sent_uses sent outputs

sent_own : (brought : Option Message) (sent : List Sent) (outputs : List Output) → AreOwn brought outputs → AreOwn brought (map output_of sent ++ outputs)
sent_own brought [] outputs own = own
sent_own brought (goes.Request number subject headers payload ∷ sent) outputs own = sent_own brought sent outputs own
sent_own brought (goes.Publish subject reply headers payload ∷ sent) outputs own = sent_own brought sent outputs own
sent_own brought (goes.Subscribe inbox subject group ∷ sent) outputs own = sent_own brought sent outputs own

-- ---- rows without a use

-- rows that follow, and lead to no use
abbrev pub RowsFit : Matter → List Row → Type 0
RowsFit m rows = AllByRecursion (Follows m) rows × (weights rows ≤ 0)

pub silent_fits : (m : Matter) (n : ℕ) (c : Consumer) (rows : List Row) → HoldsNone c.phase → RowsFit m rows → Fits m n (record { consumer = c; outputs = []; next = rows })
silent_fits m n c rows held fit = record { own = tt; held = held; rows = fit.0; few = let light = fit.1 in omega arith }

pub none_fit : (m : Matter) → RowsFit m []
none_fit m = (tt, omega arith)

pub answered_fit : (m : Matter) (setup : OrderedSetup) (info : Option Info) → RowsFit m (answered setup info ∷ [])
answered_fit m setup None = ((tt, tt), omega arith)
answered_fit m setup (Some info) = if_each (λ (row : Row). RowsFit m (row ∷ [])) (has_subject setup info) (Succeed info) Fail (λ _. ((tt, tt), omega arith)) (λ _. ((tt, tt), omega arith))

created_fit : (g : ReplayInput) (p : RowInput) (m : Matter) (timeout : Timer) (reply : Option (Option Message)) → RowsFit m (created g p timeout reply)
created_fit g p m timeout (Some reply) = ((tt, tt), omega arith)
created_fit g p m timeout None = if_each (RowsFit m) (is_due timeout p.now) _ _ (λ _. ((tt, tt), omega arith)) (λ _. none_fit m)

pub stage_fit : (g : ReplayInput) (p : RowInput) (m : Matter) (stage : Stage) → RowsFit m (stage_rows g p m stage)
stage_fit g p m Between = none_fit m
stage_fit g p m (Deleting request timeout) =
    if_each (RowsFit m) (is_some (pull.reply_to request m.answer)) (Create ∷ []) (if is_due timeout p.now then Create ∷ [] else []) (λ _. ((tt, tt), omega arith))
    (λ _. if_each (RowsFit m) (is_due timeout p.now) (Create ∷ []) [] (λ _. ((tt, tt), omega arith)) (λ _. none_fit m))
stage_fit g p m (Creating request timeout) = created_fit g p m timeout (pull.reply_to request m.answer)
stage_fit g p m (Waiting wait) = if_each (RowsFit m) (is_due wait p.now) _ _ (λ _. ((tt, tt), omega arith)) (λ _. none_fit m)

-- ---- a message

pub message_fits : (m : Matter) (message : Message) (o : Option Place) (c : Consumer) → arrived m ≡ Some message → readable_as message.reply ≡ o → HoldsNone c.phase → Fits m 1 (message_row o message c)
message_fits m message None c is reads held = record { own = tt; held = held; rows = tt; few = omega arith }
message_fits m message (Some place) c is reads held =
    let P : Option Message → Type 0 = λ b. IsOwnOf b place.sequence place.number message.subject message.payload in
    if_each (Fits m 1) (place.number == c.core.consumer_sequence + 1) _ _
    (λ _. record { own = (subst P (sym is) (record { place = reads; subject_is = refl; payload_is = refl }), tt); held = held; rows = tt; few = omega arith })
    (λ _. record { own = tt; held = held; rows = (tt, tt); few = omega arith })

-- ---- a reader

-- a message only where one arrived
abbrev HandsOnly : Option Message → PullTold → Type 0
HandsOnly arrival (tells.Hands message) = arrival ≡ Some message
HandsOnly arrival _ = ⊤

abbrev told_weight : PullTold → ℕ
told_weight (tells.Hands message) = 1
told_weight (tells.Tells error.RequestLimitExceeded) = 1
told_weight _ = 0

told_fits : (m : Matter) (arrival : Option Message) (t : PullTold) (reader : PullReader) (c : Consumer) → HandsOnly arrival t → ((message : Message) → arrival ≡ Some message → arrived m ≡ Some message)
    → Fits m (told_weight t) (told t (at_phase (Pulls reader) c))
told_fits m arrival tells.Nothing reader c hands is = record { own = tt; held = tt; rows = tt; few = omega arith }
told_fits m arrival (tells.Hands message) reader c hands is = message_fits m message (readable_as message.reply) (record (at_phase (Pulls reader) c) { missed = false }) (is message hands) refl tt
told_fits m arrival (tells.Tells error.ConsumerDeleted) reader c hands is = record { own = tt; held = tt; rows = (tt, tt); few = omega arith }
told_fits m arrival (tells.Tells error.NoResponders) reader c hands is = record { own = tt; held = tt; rows = (tt, tt); few = omega arith }
told_fits m arrival (tells.Tells error.PushBasedConsumer) reader c hands is = record { own = tt; held = tt; rows = tt; few = omega arith }
told_fits m arrival (tells.Tells error.RequestLimitExceeded) reader c hands is =
    if_each (Fits m 1) c.limited _ _ (λ _. record { own = tt; held = tt; rows = tt; few = omega arith }) (λ _. record { own = tt; held = tt; rows = (tt, tt); few = omega arith })
told_fits m arrival (tells.Tells error.MissingHeartbeat) reader c hands is =
    if_each (Fits m 0) c.missed _ _ (λ _. record { own = tt; held = tt; rows = (tt, tt); few = omega arith }) (λ _. record { own = tt; held = tt; rows = tt; few = omega arith })
told_fits m arrival (tells.Tells error.Pull) reader c hands is = record { own = tt; held = tt; rows = tt; few = omega arith }
told_fits m arrival (tells.Tells error.Other) reader c hands is = record { own = tt; held = tt; rows = tt; few = omega arith }

reads_follow : (m : Matter) (rows : List PullRow) → AllByRecursion (Follows m) (map Read rows)
reads_follow m [] = tt
reads_follow m (row ∷ rows) = (tt, reads_follow m rows)

place_follow : (m : Matter) (xs ys : List Row) → AllByRecursion (Follows m) xs → AllByRecursion (Follows m) ys → AllByRecursion (Follows m) (in_place_of xs ys)
place_follow m [] ys first more = more
place_follow m (x ∷ xs) ys first more = first

place_weighs : (xs ys : List Row) → weights (in_place_of xs ys) ≤ weights xs + weights ys
place_weighs [] ys = omega arith
place_weighs (x ∷ xs) ys = omega arith

-- what a reader's row leaves
record ReadFits (n : ℕ) (arrival : Option Message) (passed : pull.Passed) : Type 0 where
  hands : HandsOnly arrival passed.told
  few : told_weight passed.told + weights (map Read passed.next) ≤ n

read_fits : (m : Matter) (n : ℕ) (arrival : Option Message) (passed : pull.Passed) (c : Consumer) → ReadFits n arrival passed → ((message : Message) → arrival ≡ Some message → arrived m ≡ Some message) → Fits m n (read_row passed c)
read_fits m n arrival passed c reads is =
    let tail : Fits m (told_weight passed.told) (told passed.told (at_phase (Pulls passed.reader) c)) = told_fits m arrival passed.told passed.reader c reads.hands is in
    let outputs : List Output = (told passed.told (at_phase (Pulls passed.reader) c)).outputs in
    let next : List Row = (told passed.told (at_phase (Pulls passed.reader) c)).next in
    let same : uses (map output_of passed.sent ++ outputs) ≡ uses outputs = sent_uses passed.sent outputs in
    let place : weights (in_place_of next (map Read passed.next)) ≤ weights next + weights (map Read passed.next) = place_weighs next (map Read passed.next) in
    record {
      own = sent_own (arrived m) passed.sent outputs tail.own;
      held = tail.held;
      rows = place_follow m next (map Read passed.next) tail.rows (reads_follow m passed.next);
      few = let few = tail.few in let rest = reads.few in omega arith;
    }

light : (n : ℕ) (arrival : Option Message) (reader : PullReader) (sent : List Sent) (rows : List PullRow) → weights (map Read rows) ≤ n → ReadFits n arrival (record { reader = reader; sent = sent; told = tells.Nothing; next = rows })
light n arrival reader sent rows few = record { hands = tt; few = omega arith }

hear_fits : (message : Message) (k : Kind) (r : PullReader) → ReadFits 1 (Some message) (pull.hear message k r)
hear_fits message kind.Delivered r = record { hands = refl; few = omega arith }
hear_fits message kind.IdleHeartbeat r = record { hands = tt; few = omega arith }
hear_fits message kind.Deleted r = record { hands = tt; few = omega arith }
hear_fits message kind.PushBased r = record { hands = tt; few = omega arith }
hear_fits message kind.Limit r = record { hands = tt; few = omega arith }
hear_fits message kind.Gone r = record { hands = tt; few = omega arith }
hear_fits message kind.Bad r = record { hands = tt; few = omega arith }
hear_fits message (kind.Ledger messages bytes) r = record { hands = tt; few = omega arith }

arrival_fits : (p : RowInput) (arrival : Option Message) (r : PullReader) → ReadFits 1 arrival (pull.check_arrival p arrival r)
arrival_fits p None r = record { hands = tt; few = omega arith }
arrival_fits p (Some message) r = hear_fits message (pull_kind message) (pull.with_pin message (pull.with_silence p.now r))

answer_fits : (arrival : Option Message) (failures : ℕ) (reply : InfoReply) (r : PullReader) → ReadFits 0 arrival (pull.answered failures reply r)
answer_fits arrival failures (says.Info info) r = record { hands = tt; few = omega arith }
answer_fits arrival failures (says.Error code) r =
    if_each (ReadFits 0 arrival) (r.source.resilience.recreates_when_gone && pull.is_gone code) _ _ (λ _. record { hands = tt; few = omega arith }) (λ _. record { hands = tt; few = omega arith })
answer_fits arrival failures says.Nothing r = record { hands = tt; few = omega arith }

abbrev Light : List PullRow → Type 0
Light rows = weights (map Read rows) ≤ 0

asked_fits : (p : RowInput) (arrival : Option Message) (timeout : Option Timer) (failures : ℕ) (reply : Option (Option Message)) (r : PullReader) → ReadFits 0 arrival (pull.check_asked p timeout failures reply r)
asked_fits p arrival timeout failures (Some reply) r = record { hands = tt; few = omega arith }
asked_fits p arrival timeout failures None r = light 0 arrival r [] _ (if_each Light (is_any_due timeout p.now) _ _ (λ _. omega arith) (λ _. omega arith))

inquiry_fits : (p : RowInput) (answer : Option pull.Answer) (arrival : Option Message) (inquiry : InfoRequest) (r : PullReader) → ReadFits 0 arrival (pull.check_inquiry p answer inquiry r)
inquiry_fits p answer arrival inquiries.NoInfoRequest r = record { hands = tt; few = omega arith }
inquiry_fits p answer arrival (inquiries.Asked request timeout failures) r = asked_fits p arrival timeout failures (pull.reply_to request answer) r
inquiry_fits p answer arrival (inquiries.Resting wait failures) r = light 0 arrival r [] _ (if_each Light (is_due wait p.now) _ _ (λ _. omega arith) (λ _. omega arith))

begin_fits : (p : RowInput) (arrival : Option Message) (change : Option State) (r : PullReader) → ReadFits 1 arrival (pull.begin_row p change r)
begin_fits p arrival change r = if_each (ReadFits 1 arrival) r.ended _ _ (λ _. record { hands = tt; few = omega arith })
    (λ _. if_each (ReadFits 1 arrival) (pull.is_asking r.inquiry) _ _ (λ _. record { hands = tt; few = omega arith }) (λ _. by_change change))
  where
    by_change : (change : Option State) → ReadFits 1 arrival (pull.begin_change p change r)
    by_change None = record { hands = tt; few = omega arith }
    by_change (Some Connected) = record { hands = tt; few = omega arith }
    by_change (Some Pending) = record { hands = tt; few = omega arith }
    by_change (Some Disconnected) = record { hands = tt; few = omega arith }

threshold_fits : (arrival : Option Message) (r : PullReader) → ReadFits 0 arrival (pull.threshold r)
threshold_fits arrival r =
    if_each (ReadFits 0 arrival) (pull.is_low r && not r.waiting) _ _
    (λ _. light 0 arrival _ [] _ (if_each Light (pull.is_asking r.inquiry) _ _ (λ _. omega arith) (λ _. omega arith))) (λ _. record { hands = tt; few = omega arith })

reader_fits : (p : RowInput) (answer : Option pull.Answer) (arrival : Option Message) (row : PullRow) (r : PullReader) → ReadFits (weight (Read row)) arrival (pull.row p answer arrival row r)
reader_fits p answer arrival (read.Ask reason) r = if_each (ReadFits 0 arrival) p.up _ _ (λ _. record { hands = tt; few = omega arith }) (λ _. record { hands = tt; few = omega arith })
reader_fits p answer arrival (read.Begin change) r = begin_fits p arrival change r
reader_fits p answer arrival read.Threshold r = threshold_fits arrival r
reader_fits p answer arrival read.Arm r = record { hands = tt; few = omega arith }
reader_fits p answer arrival (read.Inquire failures) r = if_each (ReadFits 0 arrival) p.up _ _ (λ _. record { hands = tt; few = omega arith }) (λ _. record { hands = tt; few = omega arith })
reader_fits p answer arrival (read.FailInfoRequest failures) r =
    if_each (ReadFits 0 arrival) (nat_lt (failures + 1) 6) _ _ (λ _. record { hands = tt; few = omega arith }) (λ _. record { hands = tt; few = omega arith })
reader_fits p answer arrival read.CheckInfoRequest r = inquiry_fits p answer arrival r.inquiry r
reader_fits p answer arrival (read.Answered reply failures) r = answer_fits arrival failures (pull.info_reply reply) r
reader_fits p answer arrival read.CheckExpiry r = light 0 arrival r [] _ (if_each Light (is_any_due r.expiry p.now) _ _ (λ _. omega arith) (λ _. omega arith))
reader_fits p answer arrival read.CheckArrival r = arrival_fits p arrival r
reader_fits p answer arrival read.CheckSilence r =
    if_each (ReadFits 0 arrival) (is_any_due r.heartbeat_timer p.now) _ _
    (λ _. record {
      hands = tt;
      few = let light = if_each Light (r.source.resilience.asks_at_first_heartbeat && not (pull.is_asking r.inquiry)) (read.Inquire 0 ∷ []) [] (λ _. omega arith) (λ _. omega arith) in omega arith;
    })
    (λ _. record { hands = tt; few = omega arith })

-- ---- the arrival of an inbox

none_some : {P : Type 0} (message : Message) → None ≡ Some message → P
none_some message same = cc

some_where : (test : Bool) (x message : Message) → (if test then Some x else None) ≡ Some message → Some x ≡ Some message
some_where true x message is = is
some_where false x message is = none_some message is

pub on_inbox : (inbox : ℕ) (arrival : Option Arrival) (message : Message) → message_on inbox arrival ≡ Some message → arrived_in arrival ≡ Some message
on_inbox inbox None message is = none_some message is
on_inbox inbox (Some arrival) message is = some_where (inbox == arrival.inbox) arrival.message message is

pub row_reads : (p : RowInput) (m : Matter) (row : PullRow) (reader : PullReader) (c : Consumer) → Fits m (weight (Read row)) (read_row (pull.row p m.answer (message_on reader.source.inbox m.arrival) row reader) c)
row_reads p m row reader c =
    read_fits m (weight (Read row)) (message_on reader.source.inbox m.arrival) (pull.row p m.answer (message_on reader.source.inbox m.arrival) row reader) c
    (reader_fits p m.answer (message_on reader.source.inbox m.arrival) row reader) (on_inbox reader.source.inbox m.arrival)
