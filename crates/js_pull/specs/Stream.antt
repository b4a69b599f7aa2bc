-- What the functions of a stream say, of its position.
use Rattle.std.specs.Prelude.{◌≡◌, ℕ, Bool, true, false, List, [], ◌∷◌, ◌++◌, Option, Some, None, Result, Ok, Err, unwrap_or, is_some, ⊤}
use Rattle.js_base.specs.declared.error.Error.{Error}
use Rattle.js_base.specs.Error.{kind_of, source_of}
use Rattle.js_base.specs.declared.message.Message.{Message}
use Rattle.js_base.specs.declared.message.State.{State}
use Rattle.js_base.specs.declared.message.State.TheVariants.{Connected}
use Rattle.js_base.specs.declared.turn.Next.{Next}
use Rattle.js_json.specs.declared.pull.batch.BatchConfig.{BatchConfig}
use Rattle.js_link.specs.Calls.{OpensOwn, RefusedSend}
use Rattle.js_link.specs.declared.link.LinkError.{LinkError}
use Rattle.js_pull.specs.declared.stream.Consumer.{Consumer}
use Rattle.js_base.specs.declared.turn.Next.TheVariants as next
use Rattle.js_link.specs.LinkView.{LinkView}
use Rattle.js_link.specs.Wish.{message_of}
use Rattle.js_link.specs.declared.wish.Wish.TheVariants.{Watches, Reads}
use Rattle.js_link.specs.declared.wish.Met.{Met}
use Rattle.js_link.specs.declared.wish.Met.TheVariants.{Shut}
use Rattle.js_link.specs.Meets.{Meets}
use Rattle.js_pull.specs.declared.reader.Reader.{Reader}
use Rattle.js_pull.specs.declared.reader.Row.{Row}
use Rattle.js_pull.specs.declared.reader.Row.TheVariants.{CheckArrival}
use Rattle.js_pull.specs.declared.reader.MessagesErrorKind.{MessagesErrorKind}
use Rattle.js_pull.specs.declared.reader.ReaderOutput.{ReaderOutput}
use Rattle.js_pull.specs.declared.reader.ReaderOutput.TheVariants as tells
use Rattle.js_pull.specs.declared.stream.Advance.{Advance}
use Rattle.js_pull.specs.declared.stream.Advance.TheVariants as advance
use Rattle.js_pull.specs.declared.stream.Stream.{Stream}
use Rattle.js_pull.specs.declared.stream.RowOutcome.{RowOutcome}
use Rattle.js_pull.specs.declared.stream.RowOutcome.TheVariants as outcome
use Rattle.js_pull.specs.Passes.{publishing}
use Rattle.js_pull.specs.Reader.{wish, begin_row, new_reader, opening}
use Rattle.js_pull.specs.Poll.{Position, PollAnswer, HandsOut, Fails, Waits, Ends, Lacks, IsOpen, change_met, closed_at, later_rows, text_of}
use Rattle.js_pull.specs.Resilience.{none}
use Rattle.js_pull.specs.Rows.{met_row, row_of, rows_of, IsInformed, pin_brought}
use Rattle.js_pull.specs.declared.rows.Due.{Due}
use Rattle.js_pull.specs.declared.rows.Due.TheVariants as due_of
use Rattle.js_pull.specs.declared.rows.Notice.{Notice}
use Rattle.js_pull.specs.declared.rows.Notice.TheVariants as notice
use Rattle.js_pull.specs.declared.remaining_rows.RemainingRows.{RemainingRows}
use Rattle.js_pull.specs.declared.arrivals.Meeting.{Meeting}
use Rattle.js_pull.specs.HeldMessage.{seen}

-- the rows that are left
abbrev pub left_rows : RemainingRows → List Row
left_rows left = rows_of left.reply left.todo

-- nothing is left
abbrev pub rows_empty : List Row → Bool
rows_empty [] = true
rows_empty (row ∷ rows) = false

-- the next row, with the reply that it reads
abbrev pub FirstOf : Option Due → RemainingRows → Type 0
FirstOf None left = left_rows left ≡ []
FirstOf (Some due) left = left_rows left ≡ row_of left.reply due ∷ later_rows (left_rows left)

-- where a stream stands
abbrev pub position_of : Stream → Position
position_of s = record { reader = s.reader; todo = left_rows s.left; connection = s.connection }

-- the link as a stream sees it, for which a message that it holds is unread
abbrev pub seen_by : Stream → LinkView → LinkView
seen_by s v = seen s.held s.reader.source.inbox v

-- ---- an event begins

abbrev pub begun_with : ℕ → Option State → Reader → List Row → State → Position
begun_with now change r [] last =
    let passed = begin_row (publishing now false) change r in
    record { reader = passed.reader; todo = passed.next; connection = unwrap_or change last }
begun_with now change r todo last = record { reader = r; todo = todo; connection = last }

-- an event begins where the last one is over
abbrev pub begun : ℕ → Option State → Position → Position
begun now change at = begun_with now change at.reader at.todo at.connection

-- an event begins with the change that the connection shows
pub record BeginsAt (now : ℕ) (old new : Position) (before after : LinkView) : Type 0 where
  pub met : Met
  pub change : Option State
  pub is : change ≡ change_met old.connection met
  pub meets : Meets Watches met before after
  pub leads : new ≡ begun now change old

-- ---- a row is passed

-- a row met this, with what it needs: the reply that it reads was read, and an arrival's pin was taken
pub record IsMeeting (due : Due) (reply : Option Message) (r : Reader) (m : Meeting) (before after : LinkView) : Type 0 where
  pub meets : Meets (wish (row_of reply due) r) m.met before after
  pub informed : IsInformed (row_of reply due) m.spare.informed
  pub pin : due ≡ due_of.CheckArrival → m.spare.pin ≡ pin_brought r.source.pinned (message_of m.met)

-- a message was taken
abbrev pub is_took : Met → Bool
is_took met = is_some (message_of met)

-- an error is told with the text of its kind and of this message
abbrev pub IsText : ReaderOutput → Option (List ℕ) → Option Message → Type 0
IsText (tells.Tells kind) text message = text ≡ text_of kind message
IsText told text message = ⊤

-- what a row comes to, by what it tells and took
abbrev pub outcome_by : Notice → Option Message → RowOutcome
outcome_by notice.Nothing None = outcome.Silent
outcome_by notice.Nothing (Some message) = outcome.Took
outcome_by notice.Hands None = outcome.Silent
outcome_by notice.Hands (Some message) = outcome.Hands message
outcome_by (notice.Tells kind) message = outcome.Tells kind (text_of kind message)

-- the next row of a position was passed with what was met
pub record PassesNext (now : ℕ) (what : ReaderOutput) (words : Option (List ℕ)) (met : Met) (old new : Position) (before after : LinkView) : Type 0 where
  pub row : Row
  pub later : List Row
  pub todo : old.todo ≡ row ∷ later
  pub reader : new.reader ≡ (met_row now row met old.reader).reader
  pub left : new.todo ≡ (met_row now row met old.reader).next ++ later
  pub connection : new.connection ≡ old.connection
  pub is_open : IsOpen met
  pub told : what ≡ (met_row now row met old.reader).told
  pub text : IsText what words (message_of met)
  pub meets : Meets (wish row old.reader) met before after

-- the next row finds its inbox closed, which ends the stream
pub record ClosesAt (old new : Position) (before after : LinkView) : Type 0 where
  pub later : List Row
  pub todo : old.todo ≡ CheckArrival ∷ later
  pub leads : new ≡ closed_at true old
  pub meets : Meets (Reads old.reader.source.inbox) Shut before after

-- what a call of `pass` does
abbrev pub PassesAt : RowOutcome → ℕ → Position → Position → LinkView → LinkView → Type 0
PassesAt outcome.Silent now old new before after = (met : Met) × PassesNext now tells.Nothing None met old new before after × (is_took met ≡ false)
PassesAt outcome.Took now old new before after = (met : Met) × PassesNext now tells.Nothing None met old new before after × (is_took met ≡ true)
PassesAt (outcome.Hands message) now old new before after = (met : Met) × PassesNext now (tells.Hands message) None met old new before after
PassesAt (outcome.Tells kind text) now old new before after = (met : Met) × PassesNext now (tells.Tells kind) text met old new before after
PassesAt outcome.Closed now old new before after = ClosesAt old new before after
PassesAt outcome.OutOfMemory now old new before after = (new ≡ old) × (after ≡ before)

-- ---- answers

-- an error with its source
abbrev pub fails_by : Error MessagesErrorKind → PollAnswer
fails_by e = Fails (kind_of e) (source_of e)

-- what `advance` answers
abbrev pub advance_answer : Advance → PollAnswer
advance_answer (advance.Item e) = fails_by e
advance_answer (advance.Message message) = HandsOut message
advance_answer advance.Closed = Ends
advance_answer advance.Done = Waits
advance_answer advance.OutOfMemory = Lacks

-- what `poll_next` answers
abbrev pub poll_answer : Next (Result Message (Error MessagesErrorKind)) → PollAnswer
poll_answer (next.Item (Ok message)) = HandsOut message
poll_answer (next.Item (Err e)) = fails_by e
poll_answer next.Pending = Waits
poll_answer next.End = Ends
poll_answer next.OutOfMemory = Lacks

-- ---- the beginning of a stream

-- a stream that reads this inbox
abbrev pub opened_at : List ℕ → List ℕ → List ℕ → Option ℕ → BatchConfig → Bool → ℕ → List ℕ → Position
opened_at api stream name info_timeout config pinned inbox subject = record {
  reader = new_reader (record { api = api; stream = stream; name = name; inbox = inbox; subject = subject; info_timeout = info_timeout; config = config; pinned = pinned; resilience = none });
  todo = opening;
  connection = Connected;
}

-- what `open` does
abbrev pub OpensStream : Result Stream LinkError → (consumer : Consumer) → BatchConfig → Bool → LinkView → LinkView → Type 0
OpensStream (Ok stream) consumer config pinned old new =
    (inbox : ℕ) × (subject : List ℕ) × OpensOwn inbox subject old new × (stream.held ≡ None)
    × (position_of stream ≡ opened_at consumer.api.now consumer.stream.now consumer.name.now consumer.info_timeout config pinned inbox subject)
OpensStream (Err e) consumer config pinned old new = RefusedSend e old new
