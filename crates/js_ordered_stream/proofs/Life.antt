-- Polls of a consumer extend what it has yielded, whatever numbers the link gives to its inboxes.
use Rattle.std.proofs.Common.{◌≡◌, ℕ, ◌+◌, Bool, true, false, List, [], ◌∷◌, Option, Some, None, refl, sym, ap, ◌∙◌, subst}
use Rattle.std.specs.Prelude.{◌&&◌, ◌==◌, IfSome, if◌then◌else◌}
use Rattle.std.specs.List.{AllByRecursion}
use Rattle.js_json.specs.declared.consumer.info.Info.{Info}
use Rattle.js_link.specs.RowInput.{RowInput}
use Rattle.js_link.specs.declared.wish.Wish.{Wish}
use Rattle.js_link.specs.declared.wish.Wish.TheVariants.{Nothing, Reads}
use Rattle.js_link.specs.declared.wish.Met.{Met}
use Rattle.js_pull.specs.Reader as pull
use Rattle.js_pull.specs.declared.reader.InfoRequest.{InfoRequest}
use Rattle.js_pull.specs.declared.reader.InfoRequest.TheVariants as inquiries
use Rattle.js_pull.specs.declared.reader.Reader.{Reader as PullReader}
use Rattle.js_pull.specs.declared.reader.Row.{Row as PullRow}
use Rattle.js_pull.specs.declared.reader.Row.TheVariants as read
use Rattle.js_ordered_stream.specs.Life.{AreServedPolls, IsServedWalk, asks_inbox, opens_inbox, place_after, place_past, serving}
use Rattle.js_ordered_table.specs.Arrivals.{beat_subject, push_kind}
use Rattle.js_ordered_table.specs.Consumer.{Matter, Passed, at_phase}
use Rattle.js_ordered_table.specs.Gapless.{Entry, IsGapless, IsHonestArrival, Server, yields}
use Rattle.js_ordered_table.specs.Invariant.{Extends, IsFirst, IsHonestMatter, IsHonestRow, IsKept, IsKeptAt, IsKeptIn, Joins, OpensAsAsked}
use Rattle.js_ordered_table.specs.Lifetime.{handed_out}
use Rattle.js_ordered_table.specs.Poll.{Answer, HasWholeLists, IsMet, closed_at, handed_by, poll_wish, poll_wish_at}
use Rattle.js_ordered_table.specs.Recreation.{create_row, succeed_row}
use Rattle.js_ordered_table.specs.Table.{pass, row_at}
use Rattle.js_ordered_table.specs.Texts.{configured_start}
use Rattle.js_ordered_table.specs.Walk.{IsKeptPosition, IsStride, Moved, Position, Stride, first_row, handed, later_rows, step, walk}
use Rattle.js_ordered_table.specs.Wishes.{arrival_of, awaited, beat_wish, create_wish, dropped, opened_dropped, succeed_wish}
use Rattle.js_ordered_table.specs.declared.consumer.Consumer.{Consumer}
use Rattle.js_ordered_table.specs.declared.consumer.Opened.{Opened}
use Rattle.js_ordered_table.specs.declared.consumer.Phase.{Phase}
use Rattle.js_ordered_table.specs.declared.consumer.Phase.TheVariants.{Pulls, Pushes, Recreates, Idle, Ended, Exhausted}
use Rattle.js_ordered_table.specs.declared.consumer.Recreation.{Recreation}
use Rattle.js_ordered_table.specs.declared.consumer.ReplayInput.{ReplayInput}
use Rattle.js_ordered_table.specs.declared.consumer.Stage.{Stage}
use Rattle.js_ordered_table.specs.declared.consumer.Stage.TheVariants.{Between, Deleting, Creating, Waiting}
use Rattle.js_ordered_table.specs.declared.kind.PushKind.{PushKind}
use Rattle.js_ordered_table.specs.declared.kind.PushKind.TheVariants.{Beat}
use Rattle.js_ordered_table.specs.declared.row.Arrival.{Arrival}
use Rattle.js_ordered_table.specs.declared.row.Row.{Row}
use Rattle.js_ordered_table.specs.declared.row.Row.TheVariants.{Event, Start, Try, Create, Ask, Await, Hold, Succeed, Fail, CheckArrival, Hear, Read}
use Rattle.js_ordered_table.specs.declared.run.Output.{Output}
use Rattle.js_ordered_table.specs.declared.run.Output.TheVariants as out
use Rattle.js_ordered_table.specs.declared.setup.OrderedSetup.{OrderedSetup}
use Rattle.js_ordered_table.specs.declared.setup.OrderedSetup.TheVariants.{Pull, Push}
use Rattle.js_ordered_stream.specs.Polled.{is_plain, is_turn}
use Rattle.js_ordered_stream.proofs.FollowingRows.{AreDeaf, HearsNothing, Leaves, poll_unheld, row_early, row_leaves, turn_after}
use Rattle.js_ordered_table.proofs.Ranks.{row_falls}
use Rattle.js_ordered_table.proofs.Chains.{extends_append, extends_gapless}
use Rattle.js_ordered_table.proofs.Rewritten.{all_append}
use Rattle.js_ordered_table.proofs.RowInvariant.{Keeps, pass_keeps}

-- ---- which rows open an inbox

never : (b up : Bool) → b ≡ false → b && up ≡ true → ⊥
never true up is opens = let h = is in cc
never false up is opens = let h = opens in cc

dropped_opened : (opened : Option Opened) → asks_inbox (opened_dropped opened) ≡ false
dropped_opened None = refl
dropped_opened (Some opened) = refl

dropped_none : (phase : Phase) → asks_inbox (dropped phase) ≡ false
dropped_none (Pulls reader) = refl
dropped_none (Pushes inbox heartbeat_timer) = refl
dropped_none (Recreates r) = dropped_opened r.opened
dropped_none Idle = refl
dropped_none Ended = refl
dropped_none Exhausted = refl

awaited_none : (stage : Stage) → asks_inbox (awaited stage) ≡ false
awaited_none Between = refl
awaited_none (Deleting request timeout) = refl
awaited_none (Creating request timeout) = refl
awaited_none (Waiting wait) = refl

beat_none : (kind : PushKind) (reply : Option (List ℕ)) → asks_inbox (beat_wish kind reply) ≡ false
beat_none (Beat last) (Some reply) = refl
beat_none _ _ = refl

inquiry_none : (inquiry : InfoRequest) → asks_inbox (pull.awaited inquiry) ≡ false
inquiry_none inquiries.NoInfoRequest = refl
inquiry_none (inquiries.Asked request timeout failures) = refl
inquiry_none (inquiries.Resting wait failures) = refl

read_none : (row : PullRow) (r : PullReader) → asks_inbox (pull.wish row r) ≡ false
read_none read.CheckInfoRequest r = inquiry_none r.inquiry
read_none _ r = refl

-- ---- a row that opens an inbox looks at nothing that an earlier one was sent

-- without the inbox that was opened for an earlier try
abbrev emptied : Phase → Phase
emptied (Recreates r) = Recreates (record r { opened = None })
emptied phase = phase

record OpensAnew (g : ReplayInput) (s : Server) (p : RowInput) (m : Matter) (row : Row) (phase : Phase) (c : Consumer) : Type 0 where
  kept : IsKeptAt g.setup s (at_phase (emptied phase) c) (emptied phase)
  same : row_at g p m row phase (at_phase phase c) ≡ row_at g p m row (emptied phase) (at_phase (emptied phase) c)
  asked : (outputs : List Output) → OpensAsAsked s phase outputs → OpensAsAsked s (emptied phase) outputs
  deaf : HearsNothing row

when_up : {A : Type 0} (b : Bool) (x y z : A) → b ≡ true → (if b then x else y) ≡ (if b then x else z)
when_up true x y z up = refl
when_up false x y z up = absurd (let h = up in cc)

create_same : (setup : OrderedSetup) (p : RowInput) (r : Recreation) (c : Consumer) → asks_inbox (create_wish setup) && p.up ≡ true
    → create_row setup p r (at_phase (Recreates r) c) ≡ create_row setup p (record r { opened = None }) (at_phase (Recreates (record r { opened = None })) c)
create_same (Pull setup) p r c opens = absurd (let h = opens in cc)
create_same (Push setup) p r c opens = when_up p.up _ _ _ opens

succeed_same : (setup : OrderedSetup) (g : ReplayInput) (p : RowInput) (info : Info) (r : Recreation) (c : Consumer) → asks_inbox (succeed_wish setup) && p.up ≡ true
    → succeed_row setup g p info r (at_phase (Recreates r) c) ≡ succeed_row setup g p info (record r { opened = None }) (at_phase (Recreates (record r { opened = None })) c)
succeed_same (Pull setup) g p info r c opens = when_up p.up _ _ _ opens
succeed_same (Push setup) g p info r c opens = absurd (let h = opens in cc)

recreates_empty : (setup : OrderedSetup) (s t : Server) (consumer_sequence last recreation_count : ℕ) (r : Recreation) → IsKeptIn setup s consumer_sequence last recreation_count r
    → IsKeptIn setup t consumer_sequence last recreation_count (record r { opened = None })
recreates_empty setup s t consumer_sequence last recreation_count r k = record { start = k.start; fresh = k.fresh; later = k.later; opened = tt }

heard_none : (same : Bool) (kind : PushKind) (reply : Option (List ℕ)) → asks_inbox (if same then beat_wish kind reply else Nothing) ≡ false
heard_none true kind reply = beat_none kind reply
heard_none false kind reply = refl

opens_anew : (g : ReplayInput) (s t : Server) (p : RowInput) (m : Matter) (row : Row) (phase : Phase) (c : Consumer)
    → asks_inbox (poll_wish_at g row phase) && p.up ≡ true → IsKeptAt g.setup s c phase → OpensAnew g t p m row phase c
opens_anew g s t p m Event Ended c opens k = absurd (never false p.up refl opens)
opens_anew g s t p m Event Exhausted c opens k = absurd (never false p.up refl opens)
opens_anew g s t p m Event (Pulls reader) c opens k = absurd (never false p.up refl opens)
opens_anew g s t p m Event (Pushes inbox heartbeat_timer) c opens k = absurd (never false p.up refl opens)
opens_anew g s t p m Event (Recreates r) c opens k = absurd (never false p.up refl opens)
opens_anew g s t p m Event Idle c opens k = absurd (never false p.up refl opens)
opens_anew g s t p m Start phase c opens k = absurd (never (asks_inbox (dropped phase)) p.up (dropped_none phase) opens)
opens_anew g s t p m Try (Recreates r) c opens k = absurd (never false p.up refl opens)
opens_anew g s t p m Create (Recreates r) c opens k = record {
  kept = recreates_empty g.setup s t c.core.consumer_sequence c.core.stream_sequence c.core.recreation_count r k;
  same = create_same g.setup p r c opens;
  asked = λ outputs asked. asked;
  deaf = tt;
}
opens_anew g s t p m Ask (Recreates r) c opens k = absurd (never false p.up refl opens)
opens_anew g s t p m Await (Recreates r) c opens k = absurd (never (asks_inbox (awaited r.stage)) p.up (awaited_none r.stage) opens)
opens_anew g s t p m Hold phase c opens k = absurd (never false p.up refl opens)
opens_anew g s t p m (Succeed info) (Recreates r) c opens k = record {
  kept = recreates_empty g.setup s t c.core.consumer_sequence c.core.stream_sequence c.core.recreation_count r k;
  same = succeed_same g.setup g p info r c opens;
  asked = λ outputs asked. asked;
  deaf = tt;
}
opens_anew g s t p m Fail (Recreates r) c opens k = absurd (never (asks_inbox (opened_dropped r.opened)) p.up (dropped_opened r.opened) opens)
opens_anew g s t p m CheckArrival (Pushes inbox heartbeat_timer) c opens k = absurd (never false p.up refl opens)
opens_anew g s t p m (Hear arrival) (Pushes inbox heartbeat_timer) c opens k =
    let asked = beat_subject g.settings.resilience.answers_stalled arrival.message in
    absurd (never (asks_inbox (if arrival.inbox == inbox then beat_wish (push_kind arrival.message) asked else Nothing)) p.up
    (heard_none (arrival.inbox == inbox) (push_kind arrival.message) asked) opens)
opens_anew g s t p m (Read row) (Pulls reader) c opens k = absurd (never (asks_inbox (pull.wish row reader)) p.up (read_none row reader) opens)
opens_anew g s t p m _ phase c opens k = absurd (never false p.up refl opens)

-- ---- one server for each place

none_taken : (wish : Wish) (met : Met) (up : Bool) → asks_inbox wish && up ≡ true → arrival_of wish met ≡ None
none_taken (Reads inbox) met up opens = absurd (let h = opens in cc)
none_taken _ met up opens = refl

deaf_honest : (setup : OrderedSetup) (s : Server) (rows : List Row) → AreDeaf rows → AllByRecursion (IsHonestRow setup s) rows
deaf_honest setup s [] deaf = tt
deaf_honest setup s (row ∷ rows) deaf = (one row deaf.0, deaf_honest setup s rows deaf.1)
  where
    one : (row : Row) → HearsNothing row → IsHonestRow setup s row
    one (Hear arrival) deaf = absurd deaf
    one _ deaf = tt

first_same : (setup : OrderedSetup) (s : Server) (place sequence : ℕ) (start : Option ℕ) → IfSome start (IsFirst setup (serving s place) sequence) → IfSome start (IsFirst setup s sequence)
first_same setup s place sequence None first = tt
first_same setup s place sequence (Some start) first = record { past_start = first.past_start; before = first.before }

joins_same : (setup : OrderedSetup) (s : Server) (place last : ℕ) (entry : Entry) → Joins setup (serving s place) last entry → Joins setup s last entry
joins_same setup s place last entry j = record {
  above = j.above;
  matching = j.matching;
  logged = j.logged;
  between = j.between;
  first = λ none. first_same setup s place entry.sequence (configured_start setup) (j.first none);
}

extends_same : (setup : OrderedSetup) (s : Server) (place last after : ℕ) (outputs : List Output) → Extends setup (serving s place) last outputs after → Extends setup s last outputs after
extends_same setup s place last after [] e = e
extends_same setup s place last after (out.Yield sequence number subject payload ∷ outputs) e =
    (joins_same setup s place last (record { subject = subject; sequence = sequence; payload = payload }) e.0, extends_same setup s place sequence after outputs e.1)
extends_same setup s place last after (out.Item kind ∷ outputs) e = extends_same setup s place last after outputs e
extends_same setup s place last after (out.Recreate recreation_count start ∷ outputs) e = extends_same setup s place last after outputs e
extends_same setup s place last after (out.Request number subject payload ∷ outputs) e = extends_same setup s place last after outputs e
extends_same setup s place last after (out.Publish subject reply payload ∷ outputs) e = extends_same setup s place last after outputs e
extends_same setup s place last after (out.Subscribe inbox subject ∷ outputs) e = extends_same setup s place last after outputs e

-- ---- a row

-- behind the next row no row hears a message
later_deaf : (setup : OrderedSetup) (todo : List Row) → is_turn setup todo ≡ true → AreDeaf (later_rows todo)
later_deaf setup [] turn = tt
later_deaf setup (row ∷ []) turn = tt
later_deaf setup (row ∷ Hear arrival ∷ []) turn = absurd (let h = turn in cc)
later_deaf setup (row ∷ later ∷ []) turn = (tt, tt)
later_deaf setup (row ∷ later ∷ third ∷ rows) turn = absurd (let h = turn in cc)

-- what is known where the inbox with this place was opened last
pub record IsServedAt (setup : OrderedSetup) (s : Server) (place : ℕ) (at : Position) : Type 0 where
  pub kept : IsKeptPosition setup (serving s place) at
  pub plain : is_plain setup at.consumer.phase ≡ true
  pub turn : is_turn setup at.todo ≡ true

record KeepsServed (setup : OrderedSetup) (s : Server) (place last : ℕ) (moved : Moved) : Type 0 where
  at : IsServedAt setup s place moved.position
  extends : Extends setup s last moved.outputs moved.position.consumer.core.stream_sequence

later_honest : (setup : OrderedSetup) (s : Server) (todo : List Row) → AllByRecursion (IsHonestRow setup s) todo → AllByRecursion (IsHonestRow setup s) (later_rows todo)
later_honest setup s [] honest = tt
later_honest setup s (row ∷ rows) honest = honest.1

first_honest : (setup : OrderedSetup) (s : Server) (todo : List Row) → AllByRecursion (IsHonestRow setup s) todo → IsHonestRow setup s (first_row todo)
first_honest setup s [] honest = tt
first_honest setup s (row ∷ rows) honest = honest.0

-- a row that keeps what is known with the server of a place, where the rows after it are honest there
passed_served : (g : ReplayInput) (s : Server) (place now : ℕ) (stride : Stride) (met : Met) (at : Position) → IsStride now (poll_wish g at) met stride
    → is_plain g.setup at.consumer.phase ≡ true → is_turn g.setup at.todo ≡ true → AllByRecursion (IsHonestRow g.setup (serving s place)) (later_rows at.todo)
    → Keeps g.setup (serving s place) at.consumer.core.stream_sequence (pass g stride.passing stride.matter (first_row at.todo) at.consumer)
    → KeepsServed g.setup s place at.consumer.core.stream_sequence (step g stride at)
passed_served g s place now stride met at is plain turn honest keeps =
    let passed : Passed = pass g stride.passing stride.matter (first_row at.todo) at.consumer in
    let leaves : Leaves g.setup (first_row at.todo) passed =
    row_leaves g stride.passing stride.matter (first_row at.todo) at.consumer.phase at.consumer (poll_unheld g (first_row at.todo) at.consumer.phase met stride.matter is.matter) plain plain in
    record {
      at = record {
        kept = record { consumer = keeps.kept; todo = all_append (IsHonestRow g.setup (serving s place)) passed.next (later_rows at.todo) keeps.rows honest };
        plain = leaves.plain;
        turn = turn_after g.setup at.todo passed turn leaves (row_falls g stride.passing stride.matter (first_row at.todo) at.consumer.phase at.consumer)
            (row_early g stride.passing stride.matter (first_row at.todo) at.consumer.phase at.consumer);
      };
      extends = extends_same g.setup s place at.consumer.core.stream_sequence passed.consumer.core.stream_sequence passed.outputs keeps.extends;
    }

-- what is known of a row that opens an inbox with the server of any place
opened_keeps : (g : ReplayInput) (s t : Server) → HasWholeLists g.setup t → (p : RowInput) (m : Matter) (row : Row) (c : Consumer) → IsKept g.setup s c
    → asks_inbox (poll_wish_at g row c.phase) && p.up ≡ true → IsHonestMatter g.setup t m → OpensAsAsked t c.phase (pass g p m row c).outputs
    → Keeps g.setup t c.core.stream_sequence (pass g p m row c)
opened_keeps g s t whole p m row c kept opens matter asked =
    let anew : OpensAnew g t p m row c.phase c = opens_anew g s t p m row c.phase c opens kept.0 in
    let bare : Consumer = at_phase (emptied c.phase) c in
    subst (λ (passed : Passed). Keeps g.setup t c.core.stream_sequence passed) (sym anew.same)
    (pass_keeps g t whole p m row bare (anew.kept, kept.1) matter (honest row anew.deaf)
    (subst (λ (passed : Passed). OpensAsAsked t (emptied c.phase) passed.outputs) anew.same (anew.asked (pass g p m row c).outputs asked)))
  where
    honest : (row : Row) → HearsNothing row → IsHonestRow g.setup t row
    honest (Hear arrival) deaf = absurd deaf
    honest _ deaf = tt

untaken : (setup : OrderedSetup) (s : Server) (m : Matter) → m.arrival ≡ None → IsHonestMatter setup s m
untaken setup s m none = subst (λ (arrival : Option Arrival). IfSome arrival (IsHonestArrival setup s)) (sym none) tt

step_served : (g : ReplayInput) (s : Server) → HasWholeLists g.setup s → (place now : ℕ) (stride : Stride) (met : Met) (at : Position) → IsStride now (poll_wish g at) met stride
    → IsServedAt g.setup s place at → IsHonestMatter g.setup (serving s place) stride.matter
    → OpensAsAsked (serving s (place_past g place stride at)) at.consumer.phase (step g stride at).outputs
    → KeepsServed g.setup s (place_past g place stride at) at.consumer.core.stream_sequence (step g stride at)
step_served g s whole place now stride met at is known matter asked = choose (opens_inbox g stride at) refl asked
  where
    choose : (opens : Bool) → opens_inbox g stride at ≡ opens → OpensAsAsked (serving s (if opens then place + 1 else place)) at.consumer.phase (step g stride at).outputs
        → KeepsServed g.setup s (if opens then place + 1 else place) at.consumer.core.stream_sequence (step g stride at)
    choose false opens asked =
        passed_served g s place now stride met at is known.plain known.turn (later_honest g.setup (serving s place) at.todo known.kept.todo)
        (pass_keeps g (serving s place) (λ inbox. whole place) stride.passing stride.matter (first_row at.todo) at.consumer known.kept.consumer matter
        (first_honest g.setup (serving s place) at.todo known.kept.todo) asked)
    choose true opens asked =
        let none : stride.matter.arrival ≡ None = ap (λ (m : Matter). m.arrival) is.matter ∙ none_taken (poll_wish g at) met stride.passing.up opens in
        passed_served g s (place + 1) now stride met at is known.plain known.turn (deaf_honest g.setup (serving s (place + 1)) (later_rows at.todo) (later_deaf g.setup at.todo known.turn))
        (opened_keeps g (serving s place) (serving s (place + 1)) (λ inbox. whole (place + 1)) stride.passing stride.matter (first_row at.todo) at.consumer known.kept.consumer opens
        (untaken g.setup (serving s (place + 1)) stride.matter none) asked)

-- ---- a walk, a poll, and all polls

walk_served : {V : Type 0} (g : ReplayInput) (s : Server) → HasWholeLists g.setup s → (now : ℕ) (meets : Wish → Met → V → V → Type 0)
    → (strides : List Stride) (place : ℕ) (at : Position) (before after : V) → IsMet g now meets strides at before after
    → IsServedAt g.setup s place at → IsServedWalk g s place strides at
    → KeepsServed g.setup s (place_after g place strides at) at.consumer.core.stream_sequence (walk g strides at)
walk_served g s whole now meets [] place at before after met known honest = record { at = known; extends = refl }
walk_served {V} g s whole now meets (stride ∷ strides) place at before after met known honest =
    let moved : Moved = step g stride at in
    let one : KeepsServed g.setup s (place_past g place stride at) at.consumer.core.stream_sequence moved = step_served g s whole place now stride met.0 at met.2 known honest.0 honest.1 in
    let rest : KeepsServed g.setup s (place_after g (place_past g place stride at) strides moved.position) moved.position.consumer.core.stream_sequence (walk g strides moved.position) =
    walk_served g s whole now meets strides (place_past g place stride at) moved.position met.1 after met.5 one.at honest.2 in
    record {
      at = rest.at;
      extends = extends_append g.setup s at.consumer.core.stream_sequence moved.position.consumer.core.stream_sequence (walk g strides moved.position).position.consumer.core.stream_sequence
          moved.outputs (walk g strides moved.position).outputs one.extends rest.extends;
    }

-- what is sent is no yield
extends_handed : (setup : OrderedSetup) (s : Server) (last after : ℕ) (outputs : List Output) → Extends setup s last outputs after → Extends setup s last (handed outputs) after
extends_handed setup s last after [] e = e
extends_handed setup s last after (out.Yield sequence number subject payload ∷ outputs) e = (e.0, extends_handed setup s sequence after outputs e.1)
extends_handed setup s last after (out.Item kind ∷ outputs) e = extends_handed setup s last after outputs e
extends_handed setup s last after (out.Recreate recreation_count start ∷ outputs) e = extends_handed setup s last after outputs e
extends_handed setup s last after (out.Request number subject payload ∷ outputs) e = extends_handed setup s last after outputs e
extends_handed setup s last after (out.Publish subject reply payload ∷ outputs) e = extends_handed setup s last after outputs e
extends_handed setup s last after (out.Subscribe inbox subject ∷ outputs) e = extends_handed setup s last after outputs e

-- a closed inbox ends the consumer, and takes nothing back
record KeepsClosed (setup : OrderedSetup) (s : Server) (place last : ℕ) (to : Position) (answer : Answer) : Type 0 where
  at : IsServedAt setup s place to
  extends : Extends setup s last (handed_by answer) to.consumer.core.stream_sequence

closed_keeps : (setup : OrderedSetup) (s : Server) (place last : ℕ) (closed : Bool) (moved : Moved) (answer : Answer) → handed moved.outputs ≡ handed_by answer
    → KeepsServed setup s place last moved → KeepsClosed setup s place last (closed_at closed moved.position) answer
closed_keeps setup s place last closed moved answer hands keeps = choose closed
  where
    extends : Extends setup s last (handed_by answer) moved.position.consumer.core.stream_sequence
    extends = subst (λ (outputs : List Output). Extends setup s last outputs moved.position.consumer.core.stream_sequence) hands
        (extends_handed setup s last moved.position.consumer.core.stream_sequence moved.outputs keeps.extends)

    choose : (closed : Bool) → KeepsClosed setup s place last (closed_at closed moved.position) answer
    choose true = record { at = record { kept = record { consumer = (tt, keeps.at.kept.consumer.1); todo = tt }; plain = refl; turn = refl }; extends = extends }
    choose false = record { at = keeps.at; extends = extends }

polls_extend : {V : Type 0} (g : ReplayInput) (meets : Wish → Met → V → V → Type 0) (s : Server) → HasWholeLists g.setup s
    → (answers : List Answer) (place : ℕ) (from : Position) → IsServedAt g.setup s place from → AreServedPolls g meets s place from answers
    → (last : ℕ) × Extends g.setup s from.consumer.core.stream_sequence (handed_out answers) last
polls_extend g meets s whole [] place from known polls = (from.consumer.core.stream_sequence, refl)
polls_extend {V} g meets s whole (answer ∷ answers) place from known (now, to, before, after, poll, honest, polls) =
    let one : KeepsClosed g.setup s (place_after g place poll.strides from) from.consumer.core.stream_sequence to answer =
    subst (λ (at : Position). KeepsClosed g.setup s (place_after g place poll.strides from) from.consumer.core.stream_sequence at answer) (sym poll.leads)
    (closed_keeps g.setup s (place_after g place poll.strides from) from.consumer.core.stream_sequence poll.closed (walk g poll.strides from) answer poll.out
    (walk_served g s whole now meets poll.strides place from before poll.between poll.met known honest)) in
    let more : (last : ℕ) × Extends g.setup s to.consumer.core.stream_sequence (handed_out answers) last =
    polls_extend g meets s whole answers (place_after g place poll.strides from) to one.at polls in (
      more.0,
      extends_append g.setup s from.consumer.core.stream_sequence to.consumer.core.stream_sequence more.0 (handed_by answer) (handed_out answers) one.extends more.1,
    )

-- from a position at which nothing was yielded yet
pub life_gapless : {V : Type 0} (g : ReplayInput) (meets : Wish → Met → V → V → Type 0) (s : Server) → HasWholeLists g.setup s
    → (answers : List Answer) (from : Position) → IsServedAt g.setup s 0 from → from.consumer.core.stream_sequence ≡ 0 → AreServedPolls g meets s 0 from answers
    → IsGapless s g.setup (yields (handed_out answers))
life_gapless g meets s whole answers from known none polls =
    let all : (last : ℕ) × Extends g.setup s from.consumer.core.stream_sequence (handed_out answers) last = polls_extend g meets s whole answers 0 from known polls in
    extends_gapless g.setup s all.0 (handed_out answers) (subst (λ (n : ℕ). Extends g.setup s n (handed_out answers) all.0) none all.1)
