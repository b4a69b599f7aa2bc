-- Where an ordered stream stands, and what its polls answer.
use Rattle.std.specs.Prelude.{◌≡◌, ◌<◌, ◌^◌, ℕ, Bool, true, false, not, ◌||◌, ◌&&◌, List, [], ◌∷◌, Option, Some, None, Result, Ok, Err, codes, is_some, option_map, refl, ⊤}
use Rattle.js_base.specs.Clock.{has_come, is_due}
use Rattle.js_base.specs.declared.clock.Timer.{Timer}
use Rattle.js_base.specs.declared.error.Error.{Error}
use Rattle.js_base.specs.declared.error.Source.{Source}
use Rattle.js_base.specs.declared.error.Source.TheVariants as source
use Rattle.js_base.specs.Error.{kind_of, source_of}
use Rattle.js_base.specs.declared.message.Message.{Message}
use Rattle.js_base.specs.declared.message.State.TheVariants.{Connected}
use Rattle.js_base.specs.declared.turn.Next.{Next}
use Rattle.js_base.specs.declared.turn.Next.TheVariants as next
use Rattle.js_link.specs.LinkView.{LinkView}
use Rattle.js_link.specs.Meets.{Meets}
use Rattle.js_link.specs.Wish.{row_input, watch_met, IsClosing, is_shut}
use Rattle.js_link.specs.declared.wish.Met.{Met}
use Rattle.js_ordered_stream.specs.declared.error.OrderedErrorKind.{OrderedErrorKind}
use Rattle.js_ordered_stream.specs.declared.error.OrderedErrorKind.TheVariants as error
use Rattle.js_ordered_stream.specs.declared.ordered.Ordered.{Ordered}
use Rattle.js_ordered_stream.specs.declared.ordered.RowOutcome.{RowOutcome}
use Rattle.js_ordered_stream.specs.declared.ordered.RowOutcome.TheVariants as turns
use Rattle.js_ordered_stream.specs.declared.rows.RowItem.{RowItem}
use Rattle.js_ordered_stream.specs.declared.rows.RowItem.TheVariants as hands
use Rattle.js_ordered_stream.specs.declared.remaining_rows.RemainingRows.{RemainingRows}
use Rattle.js_ordered_stream.specs.declared.remaining_rows.Seen.{Seen}
use Rattle.js_ordered_stream.specs.declared.rows.Stepped.{Stepped}
use Rattle.js_ordered_stream.specs.declared.rows.Stop.{Stop}
use Rattle.js_ordered_stream.specs.declared.rows.Stop.TheVariants as stop
use Rattle.js_ordered_stream.specs.Rows.{PassesRow, is_left, later_of, left_rows, seen_by}
use Rattle.js_ordered_table.specs.OrderedCore.{new_core}
use Rattle.js_ordered_table.specs.Consumer.{at_phase}
use Rattle.js_ordered_table.specs.Fold.{is_over}
use Rattle.js_ordered_table.specs.Timers.{IsLeftAlone, IsUnread, StandsStill, phase_due}
use Rattle.js_pull.specs.Poll.{description_of}
use Rattle.js_ordered_table.specs.declared.consumer.Consumer.{Consumer}
use Rattle.js_ordered_table.specs.declared.consumer.ReplayInput.{ReplayInput}
use Rattle.js_ordered_table.specs.declared.consumer.Phase.{Phase}
use Rattle.js_ordered_table.specs.declared.consumer.Phase.TheVariants.{Exhausted, Recreates}
use Rattle.js_ordered_table.specs.declared.consumer.Recreation.{Recreation}
use Rattle.js_ordered_table.specs.declared.consumer.Stage.TheVariants.{Between, Deleting}
use Rattle.js_ordered_table.specs.declared.row.Row.{Row}
use Rattle.js_ordered_table.specs.declared.row.Row.TheVariants.{Try}
use Rattle.js_ordered_table.specs.declared.run.ItemKind.{ItemKind}
use Rattle.js_ordered_table.specs.declared.run.ItemKind.TheVariants as item
use Rattle.js_ordered_table.specs.declared.setup.Settings.{Settings}
use Rattle.js_ordered_table.specs.Poll.{Answer, Yields, Tells, HandsEnd, Waits, Ends, Lacks, IsPoll, last_arrival, poll_wish, has_started, closed_at, handed_by}
use Rattle.js_ordered_table.specs.Walk.{Position, Stride, Moved, step, first_row, later_rows, handed}
use Rattle.js_ordered_table.specs.Wishes.{matter_of}

-- ---- errors

-- the error that an item of the table is
abbrev pub error_kind : ItemKind → OrderedErrorKind
error_kind item.MissingHeartbeat = error.MissingHeartbeat
error_kind item.RequestLimitExceeded = error.RequestLimitExceeded
error_kind item.PushBasedConsumer = error.PushBasedConsumer
error_kind item.Pull = error.Pull
error_kind item.Recreate = error.Recreate
error_kind item.Other = error.Other
error_kind item.StreamNotFound = error.StreamNotFound

-- what it comes from: a limit is told with the server's description, where it sent one
abbrev pub source_by : OrderedErrorKind → Option Message → Option Source
source_by error.RequestLimitExceeded message = option_map (λ text. source.Text text) (description_of message)
source_by kind message = None

-- how it is printed
abbrev pub kind_text : OrderedErrorKind → List ℕ
kind_text error.MissingHeartbeat = codes "missed idle heartbeat"
kind_text error.Pull = codes "pull request failed"
kind_text error.Other = codes "error"
kind_text error.Recreate = codes "consumer recreation failed"
kind_text error.RequestLimitExceeded = codes "pull request exceeded consumer limits"
kind_text error.PushBasedConsumer = codes "cannot use with push consumer"
kind_text error.StreamNotFound = codes "stream not found"
kind_text error.SequenceEnd = codes "sequence end"
kind_text error.ConsumerDeleted = codes "consumer deleted"
kind_text error.NoResponders = codes "no responders"
kind_text error.PullBasedConsumer = codes "cannot use with push consumer"

-- an error of this kind may come
abbrev pub is_given : OrderedErrorKind → Bool
is_given error.ConsumerDeleted = false
is_given error.NoResponders = false
is_given error.PullBasedConsumer = false
is_given kind = true

-- what an error answers. One of a kind that is never given would be any other error
abbrev pub told_of : OrderedErrorKind → Answer
told_of error.MissingHeartbeat = Tells item.MissingHeartbeat
told_of error.Pull = Tells item.Pull
told_of error.Other = Tells item.Other
told_of error.Recreate = Tells item.Recreate
told_of error.RequestLimitExceeded = Tells item.RequestLimitExceeded
told_of error.PushBasedConsumer = Tells item.PushBasedConsumer
told_of error.StreamNotFound = Tells item.StreamNotFound
told_of error.SequenceEnd = HandsEnd
told_of error.ConsumerDeleted = Tells item.Other
told_of error.NoResponders = Tells item.Other
told_of error.PullBasedConsumer = Tells item.Other

-- what a poll answers
abbrev pub poll_answer : Next (Result Message (Error OrderedErrorKind)) → Answer
poll_answer (next.Item (Ok message)) = Yields message
poll_answer (next.Item (Err e)) = told_of (kind_of e)
poll_answer next.Pending = Waits
poll_answer next.End = Ends
poll_answer next.OutOfMemory = Lacks

-- an error that a poll answers is of a kind that is given, whatever its messages are
abbrev pub IsGivenKind : {M : Type 0} → Next (Result M (Error OrderedErrorKind)) → Type 0
IsGivenKind (next.Item (Err e)) = is_given (kind_of e) ≡ true
IsGivenKind answer = ⊤

-- the message that was kept is handed out
abbrev pub handing : Option Message → Next (Result Message (Error OrderedErrorKind))
handing (Some message) = next.Item (Ok message)
handing None = next.OutOfMemory

-- an error is told with the source that it has where this is the message that the last row looked at
abbrev pub HasSource : {M : Type 0} → Next (Result M (Error OrderedErrorKind)) → Option Message → Type 0
HasSource (next.Item (Err e)) message = source_of e ≡ source_by (kind_of e) message
HasSource answer message = ⊤

-- a poll, and the source of the error that it answers
abbrev pub PollsWithSource : ReplayInput → ℕ → Position → Position → LinkView → LinkView → Next (Result Message (Error OrderedErrorKind)) → Type 0
PollsWithSource g now old new before after result =
    (poll : IsPoll g Meets now old new before after (poll_answer result)) × HasSource result (last_arrival g poll.strides old)

-- ---- where a stream stands

-- what it is made with
abbrev pub given_to : Ordered → ReplayInput
given_to o = o.given

abbrev pub position_of : Ordered → Position
position_of o = record { consumer = o.consumer; todo = left_rows o.left }

-- this row comes next, after which the others stay the same
abbrev pub IsNext : RemainingRows → (Row → Type 0) → Type 0
IsNext left holds =
    (row : Row) × (first_row (left_rows left) ≡ row) × (later_rows (left_rows left) ≡ later_of left.todo) × holds row

-- there is no sequence to go on from
abbrev pub is_spent : Phase → Bool
is_spent Exhausted = true
is_spent phase = false

-- ---- the next row of a position

abbrev pub stride_met : ReplayInput → ℕ → Met → Position → Stride
stride_met g now met at = record { passing = row_input now met; matter = matter_of (poll_wish g at) met }

abbrev pub step_met : ReplayInput → ℕ → Met → Position → Moved
step_met g now met at = step g (stride_met g now met at) at

-- a row looked at a message, or started a reader
abbrev pub stirring : Row → Met → Phase → Phase → Bool
stirring row met before after = is_some (seen_by row met) || has_started before after

-- the next row was passed with what it met
pub record PassesNext (g : ReplayInput) (now : ℕ) (met : Met) (old new : Position) (before after : LinkView) : Type 0 where
  pub meets : Meets (poll_wish g old) met before after
  pub is_open : is_shut met ≡ false
  pub leads : new ≡ (step_met g now met old).position

-- it hands this out
abbrev pub hands_out : ReplayInput → ℕ → Met → Position → Answer → Type 0
hands_out g now met at answer = handed (step_met g now met at).outputs ≡ handed_by answer

-- the next row of a position was passed, which has kept this message to be handed out, or looked at it and tells an error, or its inbox is closed, or there was no memory for it
abbrev pub ComesTo : RowOutcome → Option Message → ReplayInput → ℕ → Position → Position → LinkView → LinkView → Type 0
ComesTo (turns.Silent stirs) kept g now old new before after =
    (met : Met) × PassesNext g now met old new before after × (handed (step_met g now met old).outputs ≡ [])
    × (stirs ≡ stirring (first_row old.todo) met old.consumer.phase new.consumer.phase) × (is_spent new.consumer.phase ≡ false)
ComesTo turns.Hands kept g now old new before after =
    (message : Message) × (kept ≡ Some message) × (met : Met) × PassesNext g now met old new before after × hands_out g now met old (Yields message) × (seen_by (first_row old.todo) met ≡ Some message)
ComesTo (turns.Tells kind) kept g now old new before after =
    (met : Met) × PassesNext g now met old new before after × hands_out g now met old (Tells kind) × (kept ≡ seen_by (first_row old.todo) met)
ComesTo turns.Exhausted kept g now old new before after =
    (met : Met) × PassesNext g now met old new before after × (handed (step_met g now met old).outputs ≡ [])
    × (is_spent new.consumer.phase ≡ true)
ComesTo turns.Closed kept g now old new before after = (new ≡ closed_at true old) × IsClosing Meets (poll_wish g old) true before after
ComesTo turns.OutOfMemory kept g now old new before after = (new ≡ old) × (after ≡ before)

-- the first row that is left was passed over a link, and looked at this
abbrev pub PassesFirst : ReplayInput → ℕ → RemainingRows → Consumer → Consumer → LinkView → LinkView → Seen → Result Stepped Stop → Type 0
PassesFirst g now left old new before after kept (Ok done) = IsNext left (λ row. PassesRow g now row old new before after kept (Ok done))
PassesFirst g now left old new before after kept (Err stop.Closed) = IsNext left (λ row. PassesRow g now row old new before after kept (Err stop.Closed))
PassesFirst g now left old new before after kept (Err stop.OutOfMemory) = (new ≡ old) × (after ≡ before)

-- what a row comes to, by what it hands out
abbrev pub silent_by : Bool → Bool → RowOutcome
silent_by stirs true = turns.Exhausted
silent_by stirs false = turns.Silent stirs

abbrev pub outcome_by : RowItem → Option Message → Bool → Bool → RowOutcome
outcome_by hands.Nothing message stirs spent = silent_by stirs spent
outcome_by hands.Message None stirs spent = silent_by stirs spent
outcome_by hands.Message (Some message) stirs spent = turns.Hands
outcome_by (hands.Error kind) message stirs spent = turns.Tells kind

-- ---- the beginning of a stream

-- a consumer with this configured start and this name, and at this phase, which has yielded nothing yet
abbrev pub first_at : Option ℕ → List ℕ → Phase → Consumer
first_at configured name phase = record {
  phase = phase;
  core = new_core configured;
  name = name;
  missed = false;
  limited = false;
  stream_missing = false;
  connection = Connected;
}

-- a recreation is tried as often as a number counts
abbrev pub with_retries : Settings → Settings
with_retries settings = record settings { retries = 4294967295 }

-- ---- when it has something to do by itself

-- a row is left, or a timer of its consumer is due; one that has ended has nothing to do
abbrev pub something_due : ℕ → Position → Bool
something_due now at = not (is_over at.consumer.phase) && (is_left at.todo || phase_due now at.consumer.phase)

-- worked: the request that deletes the old consumer is still to be sent, at any moment, though no timer is set
worked_try : (now : ℕ) (c : Consumer) (r : Recreation) → something_due now (record { consumer = at_phase (Recreates (record r { stage = Between })) c; todo = Try ∷ [] }) ≡ true
worked_try now c r = refl

-- worked: once it was sent, nothing is to be done before the answer to it is overdue
worked_sent : (now request : ℕ) (timeout : Timer) (c : Consumer) (r : Recreation)
    → something_due now (record { consumer = at_phase (Recreates (record r { stage = Deleting request timeout })) c; todo = [] }) ≡ is_due timeout now
worked_sent now request timeout c r = refl

-- before this moment it may be left alone, where the connection stands and nothing has come for it
abbrev pub SleepsUntil : ReplayInput → Option ℕ → Position → Type 0
SleepsUntil g wakes at =
    (now : ℕ) (v : LinkView) → now < 2 ^ 64 → has_come wakes now ≡ false → StandsStill g.setup at.consumer.connection (watch_met v.watch) → IsUnread at.consumer.phase v → IsLeftAlone g now at v
