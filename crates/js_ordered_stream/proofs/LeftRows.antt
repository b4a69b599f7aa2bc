-- Whether a row is left, and what the row that is left reads.
use Rattle.std.proofs.Common.{◌≡◌, ℕ, zero, suc, Bool, true, false, List, [], ◌∷◌, drop, length, Option, Some, None, refl, sym, ap, ◌∙◌}
use Rattle.std.proofs.Math.Dec.{ltb, leb-zero, leb-suc-zero, leb-suc-suc}
use Rattle.std.specs.Prelude.{◌<◌, ◌^◌, ◌==◌, ◌||◌, ◌&&◌, not, is_some, if◌then◌else◌}
use Rattle.js_base.specs.Clock.{has_come}
use Rattle.js_base.specs.declared.message.Message.{Message}
use Rattle.js_link.specs.LinkView.{LinkView}
use Rattle.js_ordered_table.specs.declared.consumer.Phase.{Phase}
use Rattle.js_ordered_table.specs.declared.consumer.Phase.TheVariants.{Pulls, Pushes, Recreates, Idle, Ended, Exhausted}
use Rattle.js_ordered_table.specs.declared.consumer.ReplayInput.{ReplayInput}
use Rattle.js_ordered_table.specs.declared.row.Row.{Row}
use Rattle.js_ordered_table.specs.declared.transitions.task.Held.{Held}
use Rattle.js_ordered_table.specs.declared.transitions.task.Task.{Task}
use Rattle.js_ordered_table.specs.declared.transitions.task.Task.TheVariants as task
use Rattle.js_ordered_table.specs.Fold.{is_over}
use Rattle.js_ordered_table.specs.Timers.{IsUnread, phase_due}
use Rattle.js_ordered_table.specs.Walk.{Position}
use Rattle.js_ordered_table.specs.Passes.{hearings}
use Rattle.js_ordered_table.specs.Recreation.{message_on}
use Rattle.js_ordered_table.specs.Tasks.{answered_rows, heard_rows, hearings_of, rows_of}
use Rattle.js_ordered_stream.specs.declared.remaining_rows.Seen.{Seen}
use Rattle.js_ordered_stream.specs.declared.remaining_rows.Seen.TheVariants as sight
use Rattle.js_ordered_stream.specs.Ordered.{SleepsUntil, something_due}
use Rattle.js_ordered_stream.specs.Rows.{answer_in, arrival_in, is_left, read_in}
use Rattle.js_pull.specs.Reader.{reply_to}

false_true : false ≡ true → ⊥
false_true e = cc

-- ---- a task that stands for a row

reply_left : (reply : Option (Option Message)) → is_some reply ≡ is_left (answered_rows reply)
reply_left None = refl
reply_left (Some reply) = refl

pub answer_stands : (one : Task) (request : ℕ) (seen : Seen) (b : Bool) → one ≡ task.Answered request → b ≡ is_some (reply_to request (answer_in seen)) → b ≡ is_left (rows_of (read_in seen) one)
answer_stands one request seen b is to =
    to ∙ reply_left (reply_to request (answer_in seen)) ∙ ap (λ (t : Task). is_left (rows_of (read_in seen) t)) (sym is)

-- a task that stands for a row reads the answer that was met
pub answer_met : (one : Task) (request : ℕ) (seen : Seen) → one ≡ task.Answered request → is_left (rows_of (read_in seen) one) ≡ true → is_some (reply_to request (answer_in seen)) ≡ true
answer_met one request seen is left = reply_left (reply_to request (answer_in seen)) ∙ ap (λ (t : Task). is_left (rows_of (read_in seen) t)) (sym is) ∙ left

arrival_left : (inbox : ℕ) (message : Option Message) → is_some message ≡ is_left (heard_rows inbox message)
arrival_left inbox None = refl
arrival_left inbox (Some message) = refl

pub arrival_stands : (one : Task) (inbox : ℕ) (seen : Seen) (b : Bool) → one ≡ task.Hear inbox → b ≡ is_some (message_on inbox (arrival_in seen)) → b ≡ is_left (rows_of (read_in seen) one)
arrival_stands one inbox seen b is to =
    to ∙ arrival_left inbox (message_on inbox (arrival_in seen)) ∙ ap (λ (t : Task). is_left (rows_of (read_in seen) t)) (sym is)

-- and hears the message that was taken
pub arrival_met : (one : Task) (inbox : ℕ) (seen : Seen) → one ≡ task.Hear inbox → is_left (rows_of (read_in seen) one) ≡ true → is_some (message_on inbox (arrival_in seen)) ≡ true
arrival_met one inbox seen is left = arrival_left inbox (message_on inbox (arrival_in seen)) ∙ ap (λ (t : Task). is_left (rows_of (read_in seen) t)) (sym is) ∙ left

held_in_list : (inbox place : ℕ) (messages : List Message) → ltb place (length messages) ≡ is_left (hearings inbox (drop place messages))
held_in_list inbox zero [] = leb-suc-zero zero
held_in_list inbox zero (x ∷ xs) = leb-suc-suc zero (length xs) ∙ leb-zero (length xs)
held_in_list inbox (suc place) [] = leb-suc-zero (suc place)
held_in_list inbox (suc place) (x ∷ xs) = leb-suc-suc (suc place) (length xs) ∙ held_in_list inbox place xs

pub held_stands : (held : Held) (messages : List Message) (b : Bool) → messages ≡ held.messages → b ≡ ltb held.place (length messages) → b ≡ is_left (hearings_of held)
held_stands held messages b is to =
    to ∙ ap (λ (ms : List Message). ltb held.place (length ms)) is ∙ held_in_list held.inbox held.place held.messages

-- ---- what was met

-- the message that was taken is heard
pub heard_here : (inbox : ℕ) (seen : Seen) (unheard : Option ℕ) (message : Message) → seen ≡ sight.Message unheard message → is_some (message_on inbox (arrival_in seen)) ≡ true
    → message_on inbox (arrival_in seen) ≡ Some message
heard_here inbox seen unheard message is there =
    ap (λ (s : Seen). message_on inbox (arrival_in s)) is ∙ by_inbox unheard (sym (ap (λ (s : Seen). is_some (message_on inbox (arrival_in s))) is) ∙ there)
  where
    by_test : (b : Bool) → is_some (if b then Some message else None) ≡ true → (if b then Some message else None) ≡ Some message
    by_test true e = refl
    by_test false e = absurd (false_true e)

    by_inbox : (u : Option ℕ) → is_some (message_on inbox (arrival_in (sight.Message u message))) ≡ true → message_on inbox (arrival_in (sight.Message u message)) ≡ Some message
    by_inbox None e = absurd (false_true e)
    by_inbox (Some current) e = by_test (inbox == current) e

-- ---- tasks that stand for no row

pub none_of : (rows : List Row) (left : Bool) → left ≡ is_left rows → left ≡ false → rows ≡ []
none_of [] left is e = refl
none_of (row ∷ rows) left is e = absurd (false_true (sym e ∙ is))

-- ---- when something is to be done

-- an ended consumer has nothing to do
pub over_due : (now : ℕ) (at : Position) (over : Bool) → over ≡ is_over at.consumer.phase → over ≡ true → has_come None now ≡ something_due now at
over_due now at over is e = ap (λ (b : Bool). not b && (is_left at.todo || phase_due now at.consumer.phase)) (sym e ∙ is)

-- a row that is left is passed at any moment
pub left_due : (now : ℕ) (at : Position) (over left : Bool) → over ≡ is_over at.consumer.phase → over ≡ false → left ≡ is_left at.todo → left ≡ true → has_come (Some 0) now ≡ something_due now at
left_due now at over left is e has f =
    leb-zero now
    ∙ ap (λ (b : Bool). not false && (b || phase_due now at.consumer.phase)) (sym f ∙ has)
    ∙ ap (λ (b : Bool). not b && (is_left at.todo || phase_due now at.consumer.phase)) (sym e ∙ is)

-- else a timer is looked at
pub timer_due : (now : ℕ) (at : Position) (over left due : Bool) → over ≡ is_over at.consumer.phase → over ≡ false → left ≡ is_left at.todo → left ≡ false → due ≡ phase_due now at.consumer.phase → due ≡ something_due now at
timer_due now at over left due is e has f to =
    to
    ∙ ap (λ (b : Bool). not false && (b || phase_due now at.consumer.phase)) (sym f ∙ has)
    ∙ ap (λ (b : Bool). not b && (is_left at.todo || phase_due now at.consumer.phase)) (sym e ∙ is)

-- ---- before that it may be left alone

true_false : true ≡ false → ⊥
true_false e = cc

early_rests : (todo : List Row) (b : Bool) → (is_left todo || b) ≡ false → (todo ≡ []) × (b ≡ false)
early_rests [] b e = (refl, e)
early_rests (row ∷ rows) b e = absurd (true_false e)

going_early : (phase : Phase) (v : LinkView) (b : Bool) → IsUnread phase v → (not (is_over phase) && b) ≡ false → b ≡ false
going_early (Pulls reader) v b unread e = e
going_early (Pushes inbox timer) v b unread e = e
going_early (Recreates r) v b unread e = e
going_early Idle v b unread e = e
going_early Ended v b unread e = absurd unread
going_early Exhausted v b unread e = absurd unread

pub sleeps_until : (g : ReplayInput) (wakes : Option ℕ) (at : Position) → ((now : ℕ) → now < 2 ^ 64 → has_come wakes now ≡ something_due now at) → SleepsUntil g wakes at
sleeps_until g wakes at value = λ now v small early stands unread.
    let none = early_rests at.todo (phase_due now at.consumer.phase)
    (going_early at.consumer.phase v (is_left at.todo || phase_due now at.consumer.phase) unread (sym (value now small) ∙ early)) in
    record { rests = none.0; early = none.1; connection = stands; unread = unread }
