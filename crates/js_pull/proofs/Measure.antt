-- What the rows of a stream do to its inbox, and how far they come.
use Rattle.std.proofs.Common.{◌≡◌, ℕ, ◌+◌, ◌*◌, ◌<◌, ◌≤◌, Bool, true, false, List, [], ◌∷◌, ◌++◌, Option, Some, None, refl, sym, ◌∙◌, ap, subst, arith}
use Rattle.std.specs.Prelude.{◌&&◌, not, nat_lt}
use Rattle.js_base.specs.Clock.{is_due, is_any_due}
use Rattle.js_base.specs.declared.clock.Timer.{Timer}
use Rattle.js_base.specs.declared.message.Message.{Message}
use Rattle.js_base.specs.declared.message.State.{State}
use Rattle.js_base.specs.declared.message.State.TheVariants.{Pending, Connected, Disconnected}
use Rattle.js_link.specs.LinkView.{LinkView}
use Rattle.js_link.specs.RowInput.{RowInput}
use Rattle.js_link.specs.Wish.{row_input, message_of}
use Rattle.js_link.specs.declared.wish.Wish.TheVariants.{Nothing, Watches, Publishes, Requests, Reads, Awaits}
use Rattle.js_link.specs.declared.wish.Met.{Met}
use Rattle.js_link.specs.declared.wish.Met.TheVariants.{Stands, WatchOver, Unasked, GoneOut, Refused, Requested, Took, Empty, Shut, Got, Gone, Waiting}
use Rattle.js_link.specs.Meets.{Meets}
use Rattle.js_pull.specs.declared.kind.Kind.{Kind}
use Rattle.js_pull.specs.declared.kind.Kind.TheVariants.{Delivered, IdleHeartbeat, Deleted, PushBased, Limit, Bad, Ledger}
use Rattle.js_pull.specs.declared.kind.Kind.TheVariants as kinds
use Rattle.js_pull.specs.Kind.{pull_kind}
use Rattle.js_pull.specs.declared.reader.PullSource.{PullSource}
use Rattle.js_pull.specs.declared.reader.Reader.{Reader}
use Rattle.js_pull.specs.declared.reader.InfoRequest.{InfoRequest}
use Rattle.js_pull.specs.declared.reader.InfoRequest.TheVariants.{NoInfoRequest, Asked, Resting}
use Rattle.js_pull.specs.declared.reader.Row.{Row}
use Rattle.js_pull.specs.declared.reader.Row.TheVariants.{Begin, Ask, Threshold, Arm, Inquire, FailInfoRequest, CheckInfoRequest, Answered, CheckExpiry, CheckArrival, CheckSilence}
use Rattle.js_pull.specs.declared.reader.ReaderOutput.{ReaderOutput}
use Rattle.js_pull.specs.Passes.{publishing}
use Rattle.js_pull.specs.Reader as rows
use Rattle.js_pull.specs.Rows.{met_row}
use Rattle.js_pull.specs.Poll.{Position}
use Rattle.js_pull.specs.Stream.{PassesNext, BeginsAt, begun_with, is_took}
use Rattle.js_pull.specs.declared.replies.InfoReply.{InfoReply}
use Rattle.js_pull.specs.declared.replies.InfoReply.TheVariants as reply
use Rattle.js_pull.proofs.Cases.{if_each}

-- ---- the messages that are left

abbrev pub taken : Bool → ℕ
taken true = 1
taken false = 0

-- with the one that was taken, no more than there were
abbrev Counts : ℕ → Met → LinkView → LinkView → Type 0
Counts inbox met v u = u.count inbox + taken (is_took met) ≤ v.count inbox

nothing_counts : (i : ℕ) (met : Met) (v u : LinkView) → Meets Nothing met v u → Counts i met v u
nothing_counts i Unasked v u m = rw m (omega arith)
nothing_counts i met v u m = absurd m

publish_counts : (i : ℕ) (s : List ℕ) (r : Option (List ℕ)) (b : List ℕ) (met : Met) (v u : LinkView) → Meets (Publishes s r b) met v u → Counts i met v u
publish_counts i s r b GoneOut v u m = rw m.same (omega arith)
publish_counts i s r b Refused v u m = rw m.fails.same (omega arith)
publish_counts i s r b met v u m = absurd m

request_counts : (i : ℕ) (s b : List ℕ) (met : Met) (v u : LinkView) → Meets (Requests s b) met v u → Counts i met v u
request_counts i s b (Requested n) v u m = rw m.same (omega arith)
request_counts i s b Refused v u m = rw m.fails.same (omega arith)
request_counts i s b met v u m = absurd m

await_counts : (i n : ℕ) (met : Met) (v u : LinkView) → Meets (Awaits n) met v u → Counts i met v u
await_counts i n (Got reply) v u m = rw m.same (omega arith)
await_counts i n Gone v u m = rw m.0 (omega arith)
await_counts i n Waiting v u m = rw m.0 (omega arith)
await_counts i n met v u m = absurd m

read_counts : (i : ℕ) (met : Met) (v u : LinkView) → Meets (Reads i) met v u → Counts i met v u
read_counts i (Took message) v u m = omega (arith, m.one_less)
read_counts i Empty v u m = rw m.0 (omega arith)
read_counts i Shut v u m = rw m.0 (omega arith)
read_counts i met v u m = absurd m

inquiry_counts : (i : ℕ) (inquiry : InfoRequest) (met : Met) (v u : LinkView) → Meets (rows.awaited inquiry) met v u → Counts i met v u
inquiry_counts i NoInfoRequest met v u m = nothing_counts i met v u m
inquiry_counts i (Asked request timeout failures) met v u m = await_counts i request met v u m
inquiry_counts i (Resting wait failures) met v u m = nothing_counts i met v u m

row_counts : (row : Row) (met : Met) (r : Reader) (v u : LinkView) → Meets (rows.wish row r) met v u → Counts r.source.inbox met v u
row_counts (Ask reason) met r v u m = publish_counts r.source.inbox _ _ _ met v u m
row_counts (Inquire failures) met r v u m = request_counts r.source.inbox _ _ met v u m
row_counts CheckInfoRequest met r v u m = inquiry_counts r.source.inbox r.inquiry met v u m
row_counts CheckArrival met r v u m = read_counts r.source.inbox met v u m
row_counts (Begin change) met r v u m = nothing_counts r.source.inbox met v u m
row_counts Threshold met r v u m = nothing_counts r.source.inbox met v u m
row_counts Arm met r v u m = nothing_counts r.source.inbox met v u m
row_counts (FailInfoRequest failures) met r v u m = nothing_counts r.source.inbox met v u m
row_counts (Answered reply failures) met r v u m = nothing_counts r.source.inbox met v u m
row_counts CheckExpiry met r v u m = nothing_counts r.source.inbox met v u m
row_counts CheckSilence met r v u m = nothing_counts r.source.inbox met v u m

-- ---- how far the end of an event is

abbrev pub rank : Row → ℕ
rank (Begin change) = 10
rank (Ask reason) = 1
rank Threshold = 2
rank Arm = 1
rank (Inquire failures) = 3
rank (FailInfoRequest failures) = 2
rank CheckInfoRequest = 4
rank (Answered reply failures) = 3
rank CheckExpiry = 2
rank CheckArrival = 5
rank CheckSilence = 4

abbrev pub rank_of : List Row → ℕ
rank_of [] = 0
rank_of (row ∷ rows) = rank row + rank_of rows

rank_append : (xs ys : List Row) → rank_of (xs ++ ys) ≡ rank_of xs + rank_of ys
rank_append [] ys = omega arith
rank_append (x ∷ xs) ys = let e = rank_append xs ys in omega (arith, e)

-- a row keeps its source, and what follows is nearer to the end
pub record Nears (n : ℕ) (r : Reader) (passed : rows.Passed) : Type 0 where
  pub source : passed.reader.source ≡ r.source
  pub lower : rank_of passed.next < n

abbrev NearsList : ℕ → List Row → Type 0
NearsList n xs = rank_of xs < n

hear_nears : (message : Message) (kind : Kind) (r s : Reader) → s.source ≡ r.source → Nears 5 r (rows.hear message kind s)
hear_nears message Delivered r s e = record { source = e; lower = omega arith }
hear_nears message IdleHeartbeat r s e = record { source = e; lower = omega arith }
hear_nears message Deleted r s e = record { source = e; lower = omega arith }
hear_nears message PushBased r s e = record { source = e; lower = omega arith }
hear_nears message Limit r s e = record { source = e; lower = omega arith }
hear_nears message kinds.Gone r s e = record { source = e; lower = omega arith }
hear_nears message Bad r s e = record { source = e; lower = omega arith }
hear_nears message (Ledger messages bytes) r s e = record { source = e; lower = omega arith }

arrival_nears : (p : RowInput) (arrival : Option Message) (r : Reader) → Nears 5 r (rows.check_arrival p arrival r)
arrival_nears p None r = record { source = refl; lower = omega arith }
arrival_nears p (Some message) r = hear_nears message (pull_kind message) r (rows.with_pin message (rows.with_silence p.now r)) refl

change_nears : (p : RowInput) (change : Option State) (r : Reader) → Nears 10 r (rows.begin_change p change r)
change_nears p None r = record { source = refl; lower = omega arith }
change_nears p (Some Connected) r = record { source = refl; lower = omega arith }
change_nears p (Some Pending) r = record { source = refl; lower = omega arith }
change_nears p (Some Disconnected) r = record { source = refl; lower = omega arith }

pub begin_nears : (p : RowInput) (change : Option State) (r : Reader) → Nears 10 r (rows.begin_row p change r)
begin_nears p change r = if_each (Nears 10 r) r.ended _ _ (λ _. record { source = refl; lower = omega arith })
    (λ _. if_each (Nears 10 r) (rows.is_asking r.inquiry) _ _ (λ _. record { source = refl; lower = omega arith }) (λ _. change_nears p change r))

answered_nears : (failures : ℕ) (says : InfoReply) (r : Reader) → Nears 3 r (rows.answered failures says r)
answered_nears failures (reply.Info info) r = record { source = refl; lower = omega arith }
answered_nears failures (reply.Error code) r = if_each (Nears 3 r) (r.source.resilience.recreates_when_gone && rows.is_gone code) _ _
    (λ _. record { source = refl; lower = omega arith }) (λ _. record { source = refl; lower = omega arith })
answered_nears failures reply.Nothing r = record { source = refl; lower = omega arith }

asked_nears : (p : RowInput) (timeout : Option Timer) (failures : ℕ) (reply : Option (Option Message)) (r : Reader) → Nears 4 r (rows.check_asked p timeout failures reply r)
asked_nears p timeout failures (Some reply) r = record { source = refl; lower = omega arith }
asked_nears p timeout failures None r = record { source = refl; lower = if_each (NearsList 4) (is_any_due timeout p.now) _ _ (λ _. omega arith) (λ _. omega arith) }

inquiry_nears : (p : RowInput) (answer : Option rows.Answer) (inquiry : InfoRequest) (r : Reader) → Nears 4 r (rows.check_inquiry p answer inquiry r)
inquiry_nears p answer NoInfoRequest r = record { source = refl; lower = omega arith }
inquiry_nears p answer (Asked request timeout failures) r = asked_nears p timeout failures (rows.reply_to request answer) r
inquiry_nears p answer (Resting wait failures) r = record { source = refl; lower = if_each (NearsList 4) (is_due wait p.now) _ _ (λ _. omega arith) (λ _. omega arith) }

pub row_nears : (p : RowInput) (answer : Option rows.Answer) (arrival : Option Message) (row : Row) (r : Reader) → Nears (rank row) r (rows.row p answer arrival row r)
row_nears p answer arrival (Begin change) r = begin_nears p change r
row_nears p answer arrival (Ask reason) r = if_each (Nears 1 r) p.up _ _ (λ _. record { source = refl; lower = omega arith }) (λ _. record { source = refl; lower = omega arith })
row_nears p answer arrival Threshold r = if_each (Nears 2 r) (rows.is_low r && not r.waiting) _ _
    (λ _. record { source = refl; lower = if_each (NearsList 2) (rows.is_asking r.inquiry) _ _ (λ _. omega arith) (λ _. omega arith) })
    (λ _. record { source = refl; lower = omega arith })
row_nears p answer arrival Arm r = record { source = refl; lower = omega arith }
row_nears p answer arrival (Inquire failures) r = if_each (Nears 3 r) p.up _ _ (λ _. record { source = refl; lower = omega arith }) (λ _. record { source = refl; lower = omega arith })
row_nears p answer arrival (FailInfoRequest failures) r = if_each (Nears 2 r) (nat_lt (failures + 1) 6) _ _
    (λ _. record { source = refl; lower = omega arith }) (λ _. record { source = refl; lower = omega arith })
row_nears p answer arrival CheckInfoRequest r = inquiry_nears p answer r.inquiry r
row_nears p answer arrival (Answered message failures) r = answered_nears failures (rows.info_reply message) r
row_nears p answer arrival CheckExpiry r = record { source = refl; lower = if_each (NearsList 2) (is_any_due r.expiry p.now) _ _ (λ _. omega arith) (λ _. omega arith) }
row_nears p answer arrival CheckArrival r = arrival_nears p arrival r
row_nears p answer arrival CheckSilence r = if_each (Nears 4 r) (is_any_due r.heartbeat_timer p.now) _ _
    (λ _. record {
      source = refl;
      lower = if_each (NearsList 4) (r.source.resilience.asks_at_first_heartbeat && not (rows.is_asking r.inquiry)) _ _ (λ _. omega arith) (λ _. omega arith);
    })
    (λ _. record { source = refl; lower = omega arith })

-- ---- a row that was passed

-- the same source, fewer messages, a lower rank
pub record Falls (took : Bool) (old new : Position) (before after : LinkView) : Type 0 where
  pub source : new.reader.source ≡ old.reader.source
  pub counts : after.count new.reader.source.inbox + taken took ≤ before.count old.reader.source.inbox
  pub lower : rank_of new.todo < rank_of old.todo

pub next_falls : (now : ℕ) (told : ReaderOutput) (text : Option (List ℕ)) (met : Met) (old new : Position) (v u : LinkView)
    → PassesNext now told text met old new v u → Falls (is_took met) old new v u
next_falls now told text met old new v u p =
    let nears = row_nears (row_input now met) (rows.answer_of (rows.wish p.row old.reader) met) (message_of met) p.row old.reader in
    let same : new.reader.source ≡ old.reader.source = ap (λ (r : Reader). r.source) p.reader ∙ nears.source in
    let counts = row_counts p.row met old.reader v u p.meets in
    record {
      source = same;
      counts = subst (λ (s : PullSource). u.count s.inbox + taken (is_took met) ≤ v.count old.reader.source.inbox) (sym same) counts;
      lower =
          let less = nears.lower in
          let whole = rank_append (met_row now p.row met old.reader).next p.later in
          let left = ap rank_of p.left in
          let had = ap rank_of p.todo in
          omega (arith, less, whole, left, had);
    }

-- ---- the measure

abbrev pub busy : Bool → ℕ
busy true = 0
busy false = 1

-- what is left to a poll: two events for each message, and one more until an event is quiet
abbrev pub measure : Bool → Position → LinkView → ℕ
measure quiet at v = 64 * (2 * v.count at.reader.source.inbox + busy quiet) + rank_of at.todo

-- an event begins with the same source
pub begun_source : (now : ℕ) (change : Option State) (at new : Position) → new ≡ begun_with now change at.reader at.todo at.connection → new.reader.source ≡ at.reader.source
begun_source now change at new leads = by_rows at.reader at.todo leads
  where
    by_rows : (r : Reader) (todo : List Row) → new ≡ begun_with now change r todo at.connection → new.reader.source ≡ r.source
    by_rows r [] leads = ap (λ (p : Position). p.reader.source) leads ∙ (begin_nears (publishing now false) change r).source
    by_rows r (row ∷ rows) leads = ap (λ (p : Position). p.reader.source) leads

-- an event begins: the same source, and few rows
begun_falls : (now : ℕ) (change : Option State) (at new : Position) (v u : LinkView) → at.todo ≡ [] → new ≡ begun_with now change at.reader at.todo at.connection → u ≡ v
    → measure true new u < measure false at v
begun_falls now change at new v u rests leads same = by_rows at.reader at.todo rests leads
  where
    by_rows : (r : Reader) (todo : List Row) → todo ≡ [] → new ≡ begun_with now change r todo at.connection
        → measure true new u < measure false (record { reader = r; todo = todo; connection = at.connection }) v
    by_rows r todo rests leads =
        let nears = begin_nears (publishing now false) change r in
        let new_at : new ≡ begun_with now change r [] at.connection = leads ∙ ap (λ (xs : List Row). begun_with now change r xs at.connection) rests in
        let lower : rank_of new.todo < 10 = subst (λ (p : Position). rank_of p.todo < 10) (sym new_at) nears.lower in
        let source : new.reader.source ≡ r.source = ap (λ (p : Position). p.reader.source) new_at ∙ nears.source in
        let counts : u.count new.reader.source.inbox ≡ v.count r.source.inbox = ap (λ (s : PullSource). u.count s.inbox) source ∙ ap (λ (w : LinkView). w.count r.source.inbox) same in
        omega (arith, lower, counts)

-- an event begins that is quiet so far
pub begun_smaller : (now : ℕ) (quiet : Bool) (at new : Position) (v u : LinkView) → quiet ≡ false → at.todo ≡ [] → BeginsAt now at new v u → measure true new u < measure quiet at v
begun_smaller now quiet at new v u is rests begins =
    subst (λ (b : Bool). measure true new u < measure b at v) (sym is) (begun_falls now begins.change at new v u rests begins.leads (same_view begins.met v u begins.meets))
  where
    same_view : (met : Met) (v u : LinkView) → Meets Watches met v u → u ≡ v
    same_view (Stands state) v u m = m.0
    same_view WatchOver v u m = m.0
    same_view met v u m = absurd m

row_smaller : (quiet : Bool) (old new : Position) (v u : LinkView) → Falls false old new v u → measure quiet new u < measure quiet old v
row_smaller quiet old new v u falls =
    let counts = falls.counts in
    let lower = falls.lower in
    omega (arith, counts, lower)

took_smaller : (quiet : Bool) (old new : Position) (v u : LinkView) → Falls true old new v u → measure false new u < measure quiet old v
took_smaller quiet old new v u falls =
    let counts = falls.counts in
    let lower = falls.lower in
    omega (arith, counts, lower)

-- a row that took no message
pub silent_smaller : (quiet : Bool) (now : ℕ) (told : ReaderOutput) (text : Option (List ℕ)) (met : Met) (old new : Position) (v u : LinkView)
    → PassesNext now told text met old new v u → is_took met ≡ false → measure quiet new u < measure quiet old v
silent_smaller quiet now told text met old new v u p is =
    row_smaller quiet old new v u (subst (λ (b : Bool). Falls b old new v u) is (next_falls now told text met old new v u p))

-- a row that took one
pub heard_smaller : (quiet : Bool) (now : ℕ) (told : ReaderOutput) (text : Option (List ℕ)) (met : Met) (old new : Position) (v u : LinkView)
    → PassesNext now told text met old new v u → is_took met ≡ true → measure false new u < measure quiet old v
heard_smaller quiet now told text met old new v u p is =
    took_smaller quiet old new v u (subst (λ (b : Bool). Falls b old new v u) is (next_falls now told text met old new v u p))
