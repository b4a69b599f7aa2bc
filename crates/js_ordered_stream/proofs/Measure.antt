-- A poll ends: with each row its rows that are left, or the turns that may follow, become fewer.
use Rattle.std.proofs.Common.{◌≡◌, ℕ, zero, suc, ◌+◌, ◌*◌, ◌<◌, ◌≤◌, Bool, true, false, List, [], ◌∷◌, ◌++◌, Option, Some, None, refl, sym, ap, ◌∙◌, subst, arith}
use Rattle.std.specs.Prelude.{⊤, ◌&&◌, ◌||◌, ◌==◌, is_some, nat_le, not, if◌then◌else◌}
use Rattle.std.proofs.lemmas.Bool.{le-leb, leb-true}
use Rattle.js_base.specs.declared.message.Message.{Message}
use Rattle.js_link.specs.LinkView.{LinkView}
use Rattle.js_link.specs.Meets.{Meets}
use Rattle.js_link.specs.Wish.{message_of, row_input}
use Rattle.js_link.specs.declared.wish.Met.{Met}
use Rattle.js_pull.specs.Reader as pull
use Rattle.js_ordered_table.specs.Consumer.{Passed}
use Rattle.js_ordered_table.specs.Fold.{rank}
use Rattle.js_ordered_table.specs.Poll.{has_started, is_reading, poll_wish_at}
use Rattle.js_ordered_table.specs.Recreation.{start_row}
use Rattle.js_ordered_table.specs.Table.{row_at}
use Rattle.js_ordered_table.specs.Walk.{Position, first_row}
use Rattle.js_ordered_table.specs.Wishes.{dropped, matter_of}
use Rattle.js_ordered_table.specs.declared.consumer.Consumer.{Consumer}
use Rattle.js_link.specs.declared.wish.Wish.TheVariants.{Nothing}
use Rattle.js_ordered_table.specs.declared.consumer.Phase.{Phase}
use Rattle.js_ordered_table.specs.declared.consumer.Phase.TheVariants.{Pulls, Pushes, Recreates, Idle, Ended, Exhausted}
use Rattle.js_pull.specs.declared.reader.Row.{Row as PullRow}
use Rattle.js_ordered_table.specs.declared.consumer.ReplayInput.{ReplayInput}
use Rattle.js_ordered_table.specs.declared.row.Row.{Row}
use Rattle.js_ordered_table.specs.declared.row.Row.TheVariants.{Event, Start, Hold, CheckArrival, Hear, Read}
use Rattle.js_ordered_table.specs.declared.setup.OrderedSetup.{OrderedSetup}
use Rattle.js_ordered_table.proofs.Ranks.{AreBelow, row_falls}
use Rattle.js_ordered_table.proofs.Rewritten.{if_each}
use Rattle.js_ordered_stream.specs.declared.ordered.RowOutcome.TheVariants as turns
use Rattle.js_ordered_stream.specs.declared.remaining_rows.RemainingRows.{RemainingRows}
use Rattle.js_ordered_stream.specs.Ordered.{ComesTo, PassesNext, stirring}
use Rattle.js_ordered_stream.specs.Polled.{IsSteady, is_early, is_plain, is_turn}
use Rattle.js_ordered_stream.specs.Rows.{is_left, is_rested, left_rows, read_in}
use Rattle.js_ordered_stream.proofs.FollowingRows.{AreDeaf, IfDeaf, Leaves, poll_unheld, row_leaves, wait_read}
use Rattle.js_ordered_stream.proofs.NextRow.{rested, rows_left}
use Rattle.js_ordered_stream.proofs.RowMet.{dropped_other, untaken}
use Rattle.js_ordered_stream.proofs.TurnsLeft.{Effect, IsNoStart, and_false, look_deaf, number, row_effect, start_reads, start_turns, taken, turns_left}

false_true : false ≡ true → ⊥
false_true e = cc

true_false : true ≡ false → ⊥
true_false e = cc

-- ---- the rows that are left

-- twice as much as all that may follow, and one more
abbrev weight : ℕ → ℕ
weight zero = 1
weight (suc n) = 2 * weight n + 1

weight_falls : (m n : ℕ) → m < n → 2 * weight m + 1 ≤ weight n
weight_falls m zero below = absurd (omega (arith, below))
weight_falls zero (suc zero) below = omega arith
weight_falls zero (suc (suc n)) below = let less = weight_falls zero (suc n) (omega arith) in omega (arith, less)
weight_falls (suc m) (suc n) below = let less = weight_falls m n (omega (arith, below)) in omega (arith, less)

abbrev weight_of : List Row → ℕ
weight_of [] = 0
weight_of (row ∷ rows) = weight (rank row) + weight_of rows

weight_append : (rows others : List Row) → weight_of (rows ++ others) ≡ weight_of rows + weight_of others
weight_append [] others = omega arith
weight_append (row ∷ rows) others = let e = weight_append rows others in omega (arith, e)

weight_some : (n : ℕ) → 1 ≤ weight n
weight_some zero = omega arith
weight_some (suc n) = let some = weight_some n in omega (arith, some)

-- what follows a row weighs less than it
next_lighter : (setup : OrderedSetup) (n : ℕ) (rows : List Row) → is_turn setup rows ≡ true → AreBelow n rows → weight_of rows < weight n
next_lighter setup n [] turn below = let some = weight_some n in omega (arith, some)
next_lighter setup n (row ∷ []) turn below = let less = weight_falls (rank row) n below.0 in omega (arith, less)
next_lighter setup n (row ∷ later ∷ []) turn below =
    let one = weight_falls (rank row) n below.0 in
    let other = weight_falls (rank later) n below.1.0 in
    omega (arith, one, other)
next_lighter setup n (row ∷ later ∷ third ∷ rows) turn below = absurd (false_true turn)

-- ---- rows of a rank

abbrev is_read : Row → Bool
is_read (Read row) = true
is_read row = false

-- a row of a reader does something only while an inbox is read
abbrev is_live : Bool → Row → Bool
is_live reads row = not (is_read row) || reads

-- a row of this rank or more is left, which does something
abbrev high : Bool → ℕ → List Row → ℕ
high reads n [] = 0
high reads n (row ∷ rows) = if is_live reads row && nat_le n (rank row) then 1 else high reads n rows

and_right : (a b : Bool) → (a && b) ≡ true → b ≡ true
and_right true b e = e
and_right false b e = absurd (let h = e in cc)

high_one : (reads : Bool) (n : ℕ) (rows : List Row) → high reads n rows ≤ 1
high_one reads n [] = omega arith
high_one reads n (row ∷ rows) = by_test (is_live reads row && nat_le n (rank row)) (high_one reads n rows)
  where
    by_test : (b : Bool) → high reads n rows ≤ 1 → (if b then 1 else high reads n rows) ≤ 1
    by_test true rest = omega arith
    by_test false rest = rest

high_here : (reads : Bool) (n : ℕ) (row : Row) (rows : List Row) → is_live reads row ≡ true → n ≤ rank row → high reads n (row ∷ rows) ≡ 1
high_here reads n row rows lives is =
    ap (λ (b : Bool). if b && nat_le n (rank row) then 1 else high reads n rows) lives ∙ ap (λ (b : Bool). if b then 1 else high reads n rows) (le-leb n (rank row) is)

-- nothing that follows is of a rank that the row was not of
high_falls : (reads : Bool) (n : ℕ) (row : Row) (rows later : List Row) → is_live reads row ≡ true → AreBelow (rank row) rows → high reads n (rows ++ later) ≤ high reads n (row ∷ later)
high_falls reads n row [] later lives below = by_test (is_live reads row && nat_le n (rank row))
  where
    by_test : (b : Bool) → high reads n later ≤ (if b then 1 else high reads n later)
    by_test true = high_one reads n later
    by_test false = omega arith
high_falls reads n row (next ∷ rows) later lives below = by_test (is_live reads next && nat_le n (rank next)) refl (high_falls reads n row rows later lives below.1)
  where
    by_test : (b : Bool) → (is_live reads next && nat_le n (rank next)) ≡ b → high reads n (rows ++ later) ≤ high reads n (row ∷ later) → (if b then 1 else high reads n (rows ++ later)) ≤ high reads n (row ∷ later)
    by_test true e rest =
        let is : n ≤ rank next = leb-true n (rank next) (and_right (is_live reads next) (nat_le n (rank next)) e) in
        let lower = below.0 in
        let here : high reads n (row ∷ later) ≡ 1 = high_here reads n row later lives (omega (arith, is, lower)) in
        omega (arith, here)
    by_test false e rest = rest

none_high : (reads : Bool) (n : ℕ) (rows later : List Row) → AreBelow n rows → high reads n (rows ++ later) ≡ high reads n later
none_high reads n [] later below = refl
none_high reads n (row ∷ rows) later below = by_test (is_live reads row && nat_le n (rank row)) refl (none_high reads n rows later below.1)
  where
    by_test : (b : Bool) → (is_live reads row && nat_le n (rank row)) ≡ b → high reads n (rows ++ later) ≡ high reads n later → (if b then 1 else high reads n (rows ++ later)) ≡ high reads n later
    by_test true e rest =
        let is : n ≤ rank row = leb-true n (rank row) (and_right (is_live reads row) (nat_le n (rank row)) e) in
        let lower = below.0 in
        absurd (omega (arith, is, lower))
    by_test false e rest = rest

-- fewer rows do something where no inbox is read
high_weaker : (n : ℕ) (rows : List Row) → high false n rows ≤ high true n rows
high_weaker n [] = omega arith
high_weaker n (row ∷ rows) = by_tests (is_read row) (nat_le n (rank row)) (high_weaker n rows)
  where
    by_tests : (a b : Bool) → high false n rows ≤ high true n rows
        → (if (not a || false) && b then 1 else high false n rows) ≤ (if (not a || true) && b then 1 else high true n rows)
    by_tests true true rest = high_one false n rows
    by_tests true false rest = rest
    by_tests false true rest = omega arith
    by_tests false false rest = rest

high_changed : (old new : Bool) (n : ℕ) (rows : List Row) → (old ≡ false → new ≡ false) → high new n rows ≤ high old n rows
high_changed true true n rows stops = omega arith
high_changed true false n rows stops = high_weaker n rows
high_changed false true n rows stops = absurd (true_false (stops refl))
high_changed false false n rows stops = omega arith

-- a message that was taken is still to be heard
abbrev hears : Row → Bool
hears (Hear arrival) = true
hears row = false

abbrev heard : List Row → ℕ
heard [] = 0
heard (row ∷ rows) = if hears row then 1 else heard rows

heard_deaf : (rows later : List Row) → AreDeaf rows → heard (rows ++ later) ≡ heard later
heard_deaf [] later deaf = refl
heard_deaf (Hear arrival ∷ rows) later deaf = absurd deaf.0
heard_deaf (row ∷ rows) later deaf = heard_deaf rows later deaf.1

-- ---- what a poll may still do

-- so much, where there is something
abbrev cap : ℕ → ℕ → ℕ
cap zero t = 0
cap (suc n) t = t

cap_less : (n m s t : ℕ) → n ≤ m → s ≤ t → cap n s ≤ cap m t
cap_less zero m s t less fewer = omega arith
cap_less (suc n) zero s t less fewer = absurd (omega (arith, less))
cap_less (suc n) (suc m) s t less fewer = fewer

cap_within : (n t : ℕ) → cap n t ≤ t
cap_within zero t = omega arith
cap_within (suc n) t = omega arith

cap_some : (n t : ℕ) → 1 ≤ n → cap n t ≡ t
cap_some zero t some = absurd (omega (arith, some))
cap_some (suc n) t some = refl

cap_none : (n t : ℕ) → n ≡ 0 → cap n t ≡ 0
cap_none zero t none = refl
cap_none (suc n) t none = absurd (omega (arith, none))

-- a turn that is quiet so far may stir where a row looks for a message or starts a reader; after one that is not quiet there is another turn
abbrev credit : Bool → Bool → ℕ → List Row → ℕ
credit true reads t rows = cap (high reads 6 rows + heard rows) t + 2 * heard rows
credit false reads t rows = t + 1 + high reads 4 rows

-- at a phase
abbrev credit_at : Bool → LinkView → Phase → List Row → ℕ
credit_at quiet v phase rows = credit quiet (is_reading phase) (turns_left v phase) rows

abbrev pub measure : Bool → Position → LinkView → ℕ
measure quiet at v = 1024 * credit_at quiet v at.consumer.phase at.todo + weight_of at.todo

-- ---- it falls

-- behind a row that is not early no row starts anything
late_rest : (reads : Bool) (setup : OrderedSetup) (row : Row) (later : List Row) → is_early row ≡ false → is_turn setup (row ∷ later) ≡ true → (high reads 4 later ≡ 0) × (high reads 6 later ≡ 0) × (heard later ≡ 0)
late_rest reads setup row [] late turn = (refl, refl, refl)
late_rest reads setup row (Hold ∷ []) late turn = (refl, refl, refl)
late_rest reads setup row (Read later ∷ []) late turn = absurd (false_true (sym late ∙ wait_read setup row later turn))
late_rest reads setup row (later ∷ []) late turn = absurd (false_true turn)
late_rest reads setup row (later ∷ third ∷ rows) late turn = absurd (false_true turn)

-- and none behind the beginning of a recreation, after which no inbox is read
start_rest : (setup : OrderedSetup) (later : List Row) → is_turn setup (Start ∷ later) ≡ true → (high false 4 later ≡ 0) × (high false 6 later ≡ 0) × (heard later ≡ 0)
start_rest setup [] turn = (refl, refl, refl)
start_rest setup (Hold ∷ []) turn = (refl, refl, refl)
start_rest setup (Read later ∷ []) turn = (refl, refl, refl)
start_rest setup (later ∷ []) turn = absurd (false_true turn)
start_rest setup (later ∷ third ∷ rows) turn = absurd (false_true turn)

below_weaker : (m n : ℕ) → m ≤ n → (rows : List Row) → AreBelow m rows → AreBelow n rows
below_weaker m n less [] below = tt
below_weaker m n less (row ∷ rows) below = (let lower = below.0 in omega (arith, less, lower), below_weaker m n less rows below.1)

abbrev IfStart : Row → Type 0 → Type 0
IfStart Start holds = holds
IfStart row holds = ⊤

abbrev IfRead : Row → Type 0 → Type 0
IfRead (Read row) holds = holds
IfRead row holds = ⊤

-- a row of a reader does nothing where no inbox is read
record Dead (met : Met) (passed : Passed) : Type 0 where
  next : passed.next ≡ []
  reads : is_reading passed.consumer.phase ≡ false
  message : message_of met ≡ None

-- a row was passed, behind which these wait
record Step (setup : OrderedSetup) (v u : LinkView) (met : Met) (row : Row) (later : List Row) (before : Phase) (passed : Passed) : Type 0 where
  turn : is_turn setup (row ∷ later) ≡ true
  leaves : Leaves setup row passed
  below : AreBelow (rank row) passed.next
  effect : IsNoStart row → Effect v u met row before passed
  starts : IfStart row ((turns_left u passed.consumer.phase ≤ 1) × (stirring row met before passed.consumer.phase ≡ false) × (is_reading passed.consumer.phase ≡ false))
  dead : IfRead row (is_reading before ≡ false → Dead met passed)
  deaf : message_of met ≡ None → AreDeaf passed.next

start_calm : (g : ReplayInput) (met : Met) (v u : LinkView) (c : Consumer) → Meets (dropped c.phase) met v u → stirring Start met c.phase (start_row g c).consumer.phase ≡ false
start_calm g met v u c m =
    let none : message_of met ≡ None = (untaken (dropped c.phase) met v u (dropped_other c.phase) m).message in
    ap (λ (o : Option Message). is_some o || has_started c.phase (start_row g c).consumer.phase) none
    ∙ if_each (λ (passed : Passed). has_started c.phase passed.consumer.phase ≡ false) (c.core.stream_sequence == pull.u64_max) _ _ (λ _. and_false (not (is_reading c.phase))) (λ _. and_false (not (is_reading c.phase)))

step_of : (g : ReplayInput) (now : ℕ) (c : Consumer) (met : Met) (v u : LinkView) (row : Row) (later : List Row) → is_plain g.setup c.phase ≡ true → is_turn g.setup (row ∷ later) ≡ true → Meets (poll_wish_at g row c.phase) met v u
    → Step g.setup v u met row later c.phase (row_at g (row_input now met) (matter_of (poll_wish_at g row c.phase) met) row c.phase c)
step_of g now c met v u row later plain turn m = record {
  turn = turn;
  leaves = row_leaves g (row_input now met) (matter_of (poll_wish_at g row c.phase) met) row c.phase c (poll_unheld g row c.phase met (matter_of (poll_wish_at g row c.phase) met) refl) plain plain;
  below = row_falls g (row_input now met) (matter_of (poll_wish_at g row c.phase) met) row c.phase c;
  effect = λ other. row_effect g now row c.phase c met v u other refl plain m;
  starts = starts row m;
  dead = dead row m;
  deaf = λ none. deaf row none (row_leaves g (row_input now met) (matter_of (poll_wish_at g row c.phase) met) row c.phase c (poll_unheld g row c.phase met (matter_of (poll_wish_at g row c.phase) met) refl) plain plain).deaf;
}
  where
    starts : (row : Row) → Meets (poll_wish_at g row c.phase) met v u
        → IfStart row ((turns_left u (row_at g (row_input now met) (matter_of (poll_wish_at g row c.phase) met) row c.phase c).consumer.phase ≤ 1)
        × (stirring row met c.phase (row_at g (row_input now met) (matter_of (poll_wish_at g row c.phase) met) row c.phase c).consumer.phase ≡ false)
        × (is_reading (row_at g (row_input now met) (matter_of (poll_wish_at g row c.phase) met) row c.phase c).consumer.phase ≡ false))
    starts Start m = (start_turns u g c, start_calm g met v u c m, start_reads g c)
    starts row m = tt

    unread : (one : PullRow) (phase : Phase) → c.phase ≡ phase → Meets (poll_wish_at g (Read one) phase) met v u → is_reading phase ≡ false
        → Dead met (row_at g (row_input now met) (matter_of (poll_wish_at g (Read one) phase) met) (Read one) phase c)
    unread one (Pulls reader) is m none = absurd (true_false none)
    unread one (Pushes inbox timer) is m none = absurd (true_false none)
    unread one (Recreates r) is m none = record { next = refl; reads = ap is_reading is; message = (untaken Nothing met v u tt m).message }
    unread one Idle is m none = record { next = refl; reads = ap is_reading is; message = (untaken Nothing met v u tt m).message }
    unread one Ended is m none = record { next = refl; reads = ap is_reading is; message = (untaken Nothing met v u tt m).message }
    unread one Exhausted is m none = record { next = refl; reads = ap is_reading is; message = (untaken Nothing met v u tt m).message }

    dead : (row : Row) → Meets (poll_wish_at g row c.phase) met v u
        → IfRead row (is_reading c.phase ≡ false → Dead met (row_at g (row_input now met) (matter_of (poll_wish_at g row c.phase) met) row c.phase c))
    dead (Read one) m = λ none. unread one c.phase refl m none
    dead row m = tt

    deaf : (row : Row) → message_of met ≡ None → IfDeaf row (AreDeaf (row_at g (row_input now met) (matter_of (poll_wish_at g row c.phase) met) row c.phase c).next)
        → AreDeaf (row_at g (row_input now met) (matter_of (poll_wish_at g row c.phase) met) row c.phase c).next
    deaf CheckArrival none known = look_deaf g (row_input now met) met c.phase c none
    deaf row none known = known

-- it weighs more than what follows it
step_lighter : (setup : OrderedSetup) (v u : LinkView) (met : Met) (row : Row) (later : List Row) (before : Phase) (passed : Passed) → Step setup v u met row later before passed
    → weight_of (passed.next ++ later) < weight_of (row ∷ later)
step_lighter setup v u met row later before passed s =
    let less = next_lighter setup (rank row) passed.next s.leaves.turn s.below in
    let all = weight_append passed.next later in
    omega (arith, less, all)

or_left : (a b : Bool) → (a || b) ≡ false → a ≡ false
or_left true b e = e
or_left false b e = refl

none_some : (o : Option Message) → is_some o ≡ false → o ≡ None
none_some None e = refl
none_some (Some message) e = absurd (true_false e)

-- where no reader is started, none reads that did not
unstarted_reads : (a b : Bool) → (not a && b) ≡ false → a ≡ false → b ≡ false
unstarted_reads true b still none = absurd (true_false none)
unstarted_reads false b still none = still

-- then nothing that is left is of a rank that was not left before
live_falls : (setup : OrderedSetup) (v u : LinkView) (met : Met) (row : Row) (later : List Row) (before : Phase) (passed : Passed) (n : ℕ) → Step setup v u met row later before passed
    → is_live (is_reading before) row ≡ true → has_started before passed.consumer.phase ≡ false
    → high (is_reading passed.consumer.phase) n (passed.next ++ later) ≤ high (is_reading before) n (row ∷ later)
live_falls setup v u met row later before passed n s lives still =
    let changed = high_changed (is_reading before) (is_reading passed.consumer.phase) n (passed.next ++ later) (unstarted_reads (is_reading before) (is_reading passed.consumer.phase) still) in
    let falls = high_falls (is_reading before) n row passed.next later lives s.below in
    omega (arith, changed, falls)

dead_falls : (setup : OrderedSetup) (v u : LinkView) (met : Met) (one : PullRow) (later : List Row) (before : Phase) (passed : Passed) (n : ℕ) → Dead met passed → is_reading before ≡ false
    → high (is_reading passed.consumer.phase) n (passed.next ++ later) ≤ high (is_reading before) n (Read one ∷ later)
dead_falls setup v u met one later before passed n dead none =
    let after : high (is_reading passed.consumer.phase) n (passed.next ++ later) ≡ high false n later =
    ap (λ (rows : List Row). high (is_reading passed.consumer.phase) n (rows ++ later)) dead.next ∙ ap (λ (b : Bool). high b n later) dead.reads in
    let was : high (is_reading before) n (Read one ∷ later) ≡ high false n later = ap (λ (b : Bool). high b n (Read one ∷ later)) none in
    omega (arith, after, was)

falls_still : (setup : OrderedSetup) (v u : LinkView) (met : Met) (row : Row) (later : List Row) (before : Phase) (passed : Passed) (n : ℕ) → Step setup v u met row later before passed
    → has_started before passed.consumer.phase ≡ false → high (is_reading passed.consumer.phase) n (passed.next ++ later) ≤ high (is_reading before) n (row ∷ later)
falls_still setup v u met (Read one) later before passed n s still = by_reading (is_reading before) refl
  where
    by_reading : (b : Bool) → is_reading before ≡ b → high (is_reading passed.consumer.phase) n (passed.next ++ later) ≤ high (is_reading before) n (Read one ∷ later)
    by_reading true reads = live_falls setup v u met (Read one) later before passed n s reads still
    by_reading false none = dead_falls setup v u met one later before passed n (s.dead none) none
falls_still setup v u met row later before passed n s still = live_falls setup v u met row later before passed n s refl still

or_right : (a b : Bool) → (a || b) ≡ false → b ≡ false
or_right true b e = absurd (true_false e)
or_right false b e = e

-- a turn stays quiet
quiet_step : (setup : OrderedSetup) (v u : LinkView) (met : Met) (row : Row) (later : List Row) (before : Phase) (passed : Passed) → Step setup v u met row later before passed
    → stirring row met before passed.consumer.phase ≡ false → credit_at true u passed.consumer.phase (passed.next ++ later) ≤ credit_at true v before (row ∷ later)
quiet_step setup v u met Start later before passed s still =
    let rest = start_rest setup later s.turn in
    let six : high (is_reading passed.consumer.phase) 6 (passed.next ++ later) ≡ high false 6 later =
    none_high (is_reading passed.consumer.phase) 6 passed.next later (below_weaker 4 6 (omega arith) passed.next s.below) ∙ ap (λ (b : Bool). high b 6 later) s.starts.2 in
    let rest_six = rest.1 in
    let hear : heard (passed.next ++ later) ≡ heard later = heard_deaf passed.next later s.leaves.deaf in
    let rest_hear = rest.2 in
    let none = cap_none (high (is_reading passed.consumer.phase) 6 (passed.next ++ later) + heard (passed.next ++ later)) (turns_left u passed.consumer.phase) (omega (arith, six, rest_six, hear, rest_hear)) in
    omega (arith, none, hear, rest_hear)
quiet_step setup v u met (Hear arrival) later before passed s still = absurd (true_false still)
quiet_step setup v u met row later before passed s still =
    let none : message_of met ≡ None = none_some (message_of met) (or_left (is_some (message_of met)) (has_started before passed.consumer.phase) still) in
    let hear : heard (passed.next ++ later) ≡ heard later = heard_deaf passed.next later (s.deaf none) in
    let six = falls_still setup v u met row later before passed 6 s (or_right (is_some (message_of met)) (has_started before passed.consumer.phase) still) in
    let fewer = (s.effect tt).fewer in
    let caps = cap_less (high (is_reading passed.consumer.phase) 6 (passed.next ++ later) + heard (passed.next ++ later)) (high (is_reading before) 6 (row ∷ later) + heard later)
    (turns_left u passed.consumer.phase) (turns_left v before) (omega (arith, hear, six)) (omega (arith, fewer)) in
    omega (arith, caps, hear)

-- a row stirs it which does something
stirred_live : (setup : OrderedSetup) (v u : LinkView) (met : Met) (row : Row) (later : List Row) (before : Phase) (passed : Passed) → Step setup v u met row later before passed → IsNoStart row
    → is_live (is_reading before) row ≡ true → (is_some (message_of met) || has_started before passed.consumer.phase) ≡ true
    → credit_at false u passed.consumer.phase (passed.next ++ later) ≤ credit_at true v before (row ∷ later)
stirred_live setup v u met row later before passed s other lives stirs = by_message (message_of met) refl stirs
  where
    effect : Effect v u met row before passed
    effect = s.effect other

    all : rank row ≡ 6 → cap (high (is_reading before) 6 (row ∷ later) + heard (row ∷ later)) (turns_left v before) ≡ turns_left v before
    all six =
        let here : high (is_reading before) 6 (row ∷ later) ≡ 1 = high_here (is_reading before) 6 row later lives (omega (arith, six)) in
        cap_some (high (is_reading before) 6 (row ∷ later) + heard (row ∷ later)) (turns_left v before) (omega (arith, here))

    by_message : (o : Option Message) → message_of met ≡ o → (is_some o || has_started before passed.consumer.phase) ≡ true
        → credit_at false u passed.consumer.phase (passed.next ++ later) ≤ credit_at true v before (row ∷ later)
    by_message (Some message) is stirs =
        let some : taken met ≡ 1 = ap (λ (o : Option Message). number (is_some o)) is in
        let had = all (effect.taker (ap (λ (o : Option Message). is_some o) is)) in
        let fewer = effect.fewer in
        let one = high_one (is_reading passed.consumer.phase) 4 (passed.next ++ later) in
        omega (arith, some, had, fewer, one)
    by_message None is started =
        let starts = effect.starter started in
        let had = all starts.0 in
        let none : high (is_reading passed.consumer.phase) 4 (passed.next ++ later) ≡ high (is_reading passed.consumer.phase) 4 later = none_high (is_reading passed.consumer.phase) 4 passed.next later starts.1 in
        let rest = (late_rest (is_reading passed.consumer.phase) setup row later starts.2 s.turn).0 in
        let one : number (has_started before passed.consumer.phase) ≡ 1 = ap number started in
        let fewer = effect.fewer in
        omega (arith, had, none, rest, one, fewer)

-- a row stirs it
stirred_step : (setup : OrderedSetup) (v u : LinkView) (met : Met) (row : Row) (later : List Row) (before : Phase) (passed : Passed) → Step setup v u met row later before passed
    → stirring row met before passed.consumer.phase ≡ true → credit_at false u passed.consumer.phase (passed.next ++ later) ≤ credit_at true v before (row ∷ later)
stirred_step setup v u met Start later before passed s stirs = absurd (false_true (sym s.starts.1 ∙ stirs))
stirred_step setup v u met (Hear arrival) later before passed s stirs =
    let fewer = (s.effect tt).fewer in
    let one = high_one (is_reading passed.consumer.phase) 4 (passed.next ++ later) in
    let all = cap_some (high (is_reading before) 6 (Hear arrival ∷ later) + heard (Hear arrival ∷ later)) (turns_left v before) (omega arith) in
    omega (arith, fewer, one, all)
stirred_step setup v u met (Read row) later before passed s stirs = by_reading (is_reading before) refl
  where
    by_reading : (b : Bool) → is_reading before ≡ b → credit_at false u passed.consumer.phase (passed.next ++ later) ≤ credit_at true v before (Read row ∷ later)
    by_reading true reads = stirred_live setup v u met (Read row) later before passed s tt reads stirs
    by_reading false none =
        let dead : Dead met passed = s.dead none in
        let still : (is_some (message_of met) || has_started before passed.consumer.phase) ≡ false =
        ap (λ (o : Option Message). is_some o || has_started before passed.consumer.phase) dead.message ∙ ap (λ (b : Bool). not (is_reading before) && b) dead.reads ∙ and_false (not (is_reading before)) in
        absurd (false_true (sym still ∙ stirs))
stirred_step setup v u met row later before passed s stirs = stirred_live setup v u met row later before passed s tt refl stirs

-- a turn was stirred before
loud_step : (setup : OrderedSetup) (v u : LinkView) (met : Met) (row : Row) (later : List Row) (before : Phase) (passed : Passed) → Step setup v u met row later before passed
    → credit_at false u passed.consumer.phase (passed.next ++ later) ≤ credit_at false v before (row ∷ later)
loud_step setup v u met Start later before passed s =
    let rest = (start_rest setup later s.turn).0 in
    let none : high (is_reading passed.consumer.phase) 4 (passed.next ++ later) ≡ high false 4 later =
    none_high (is_reading passed.consumer.phase) 4 passed.next later s.below ∙ ap (λ (b : Bool). high b 4 later) s.starts.2 in
    let few = s.starts.0 in
    omega (arith, rest, none, few)
loud_step setup v u met row later before passed s = by_start (has_started before passed.consumer.phase) refl
  where
    by_start : (b : Bool) → has_started before passed.consumer.phase ≡ b → credit_at false u passed.consumer.phase (passed.next ++ later) ≤ credit_at false v before (row ∷ later)
    by_start true started =
        let starts = (s.effect tt).starter started in
        let fewer = (s.effect tt).fewer in
        let none : high (is_reading passed.consumer.phase) 4 (passed.next ++ later) ≡ high (is_reading passed.consumer.phase) 4 later = none_high (is_reading passed.consumer.phase) 4 passed.next later starts.1 in
        let rest = (late_rest (is_reading passed.consumer.phase) setup row later starts.2 s.turn).0 in
        omega (arith, none, rest, fewer)
    by_start false still =
        let fewer = (s.effect tt).fewer in
        let less = falls_still setup v u met row later before passed 4 s still in
        omega (arith, fewer, less)

-- a turn begins, which is quiet so far
event_step : (setup : OrderedSetup) (v u : LinkView) (met : Met) (before : Phase) (passed : Passed) → Step setup v u met Event [] before passed
    → (stirring Event met before passed.consumer.phase ≡ false) × (credit_at true u passed.consumer.phase (passed.next ++ []) + 1 ≤ credit_at false v before [])
event_step setup v u met before passed s =
    let deaf : heard (passed.next ++ []) ≡ 0 = heard_deaf passed.next [] s.leaves.deaf in
    let within = cap_within (high (is_reading passed.consumer.phase) 6 (passed.next ++ []) + heard (passed.next ++ [])) (turns_left u passed.consumer.phase) in
    let fewer = (s.effect tt).fewer in
    (still, omega (arith, deaf, within, fewer))
  where
    still : stirring Event met before passed.consumer.phase ≡ false
    still = by_test (is_some (message_of met)) (has_started before passed.consumer.phase) (s.effect tt).taker (s.effect tt).starter
      where
        by_test : (a b : Bool) → (a ≡ true → rank Event ≡ 6) → (b ≡ true → (rank Event ≡ 6) × AreBelow 4 passed.next × (is_early Event ≡ false)) → (a || b) ≡ false
        by_test true b taker starter = let e : rank Event ≡ 6 = taker refl in absurd (omega (arith, e))
        by_test false true taker starter = let e : rank Event ≡ 6 = (starter refl).0 in absurd (omega (arith, e))
        by_test false false taker starter = refl

falls : (g : ReplayInput) (now : ℕ) (quiet begins stirs : Bool) (c : Consumer) (todo : List Row) (met : Met) (new : Position) (v u : LinkView) → is_plain g.setup c.phase ≡ true → is_turn g.setup todo ≡ true
    → (begins ≡ true → todo ≡ []) → (begins ≡ false → is_left todo ≡ true) → (begins && quiet) ≡ false → PassesNext g now met (record { consumer = c; todo = todo }) new v u
    → stirs ≡ stirring (first_row todo) met c.phase new.consumer.phase → measure ((begins || quiet) && not stirs) new u < measure quiet (record { consumer = c; todo = todo }) v
falls g now quiet false stirs c [] met new v u plain turn rests lefts waits p stirred = absurd (false_true (lefts refl))
falls g now true true stirs c [] met new v u plain turn rests lefts waits p stirred = absurd (true_false waits)
falls g now false true stirs c [] met new v u plain turn rests lefts waits p stirred =
    let passed : Passed = row_at g (row_input now met) (matter_of (poll_wish_at g Event c.phase) met) Event c.phase c in
    let s : Step g.setup v u met Event [] c.phase passed = step_of g now c met v u Event [] plain refl p.meets in
    let one = event_step g.setup v u met c.phase passed s in
    let lighter = step_lighter g.setup v u met Event [] c.phase passed s in
    let fewer = one.1 in
    let still : stirs ≡ false = stirred ∙ ap (λ (x : Position). stirring Event met c.phase x.consumer.phase) p.leads ∙ one.0 in
    subst (λ (b : Bool). measure (not b) new u < measure false (record { consumer = c; todo = [] }) v) (sym still)
    (subst (λ (x : Position). measure true x u < measure false (record { consumer = c; todo = [] }) v) (sym p.leads) (omega (arith, fewer, lighter)))
falls g now quiet true stirs c (row ∷ later) met new v u plain turn rests lefts waits p stirred = absurd (let e = rests refl in cc)
falls g now quiet false stirs c (row ∷ later) met new v u plain turn rests lefts waits p stirred =
    let passed : Passed = row_at g (row_input now met) (matter_of (poll_wish_at g row c.phase) met) row c.phase c in
    let s : Step g.setup v u met row later c.phase passed = step_of g now c met v u row later plain turn p.meets in
    let same : stirs ≡ stirring row met c.phase passed.consumer.phase = stirred ∙ ap (λ (x : Position). stirring row met c.phase x.consumer.phase) p.leads in
    subst (λ (x : Position). measure (quiet && not stirs) x u < measure quiet (record { consumer = c; todo = row ∷ later }) v) (sym p.leads)
    (by_turn passed s (step_lighter g.setup v u met row later c.phase passed s) quiet stirs same)
  where
    by_turn : (passed : Passed) → Step g.setup v u met row later c.phase passed → weight_of (passed.next ++ later) < weight_of (row ∷ later) → (quiet stirs : Bool) → stirs ≡ stirring row met c.phase passed.consumer.phase
        → measure (quiet && not stirs) (record { consumer = passed.consumer; todo = passed.next ++ later }) u < measure quiet (record { consumer = c; todo = row ∷ later }) v
    by_turn passed s lighter true false same = let fewer = quiet_step g.setup v u met row later c.phase passed s (sym same) in omega (arith, fewer, lighter)
    by_turn passed s lighter true true same = let fewer = stirred_step g.setup v u met row later c.phase passed s (sym same) in omega (arith, fewer, lighter)
    by_turn passed s lighter false stirs same = let fewer = loud_step g.setup v u met row later c.phase passed s in omega (arith, fewer, lighter)

-- so it does with each row of a poll that hands nothing out
pub silent_smaller : (g : ReplayInput) (now : ℕ) (quiet begins stirs : Bool) (c : Consumer) (left : RemainingRows) (kept : Option Message) (new : Position) (v u : LinkView) → IsSteady g.setup c left → begins ≡ is_rested left.todo
    → (begins && quiet) ≡ false → ComesTo (turns.Silent stirs) kept g now (record { consumer = c; todo = left_rows left }) new v u
    → measure ((begins || quiet) && not stirs) new u < measure quiet (record { consumer = c; todo = left_rows left }) v
silent_smaller g now quiet begins stirs c left kept new v u steady is waits comes =
    falls g now quiet begins stirs c (left_rows left) comes.0 new v u steady.plain steady.turn (λ e. rested left begins is e) (λ e. sym (rows_left (read_in left.seen) left.todo begins steady.stands is e)) waits comes.1 comes.3
