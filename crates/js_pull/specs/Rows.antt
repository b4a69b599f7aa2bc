-- How a row is passed with what it met, whoever answered what it asked: a link, or an event of a replay.
use Rattle.std.specs.Prelude.{◌≡◌, ◌==◌, ℕ, Bool, true, false, List, [], ◌∷◌, Option, Some, None, is_some, ⊤, if◌then◌else◌}
use Rattle.js_base.specs.Clock.{is_due, is_any_due}
use Rattle.js_base.specs.declared.message.Message.{Message}
use Rattle.js_base.specs.declared.message.StatusCode.{StatusCode}
use Rattle.js_base.specs.Headers.{last_value, all_headers}
use Rattle.js_link.specs.RowInput.{RowInput}
use Rattle.js_link.specs.Wish.{row_input, message_of, reply_met}
use Rattle.js_link.specs.declared.wish.Met.{Met}
use Rattle.js_pull.specs.declared.reader.Reader.{Reader}
use Rattle.js_pull.specs.declared.replies.Finding.{Finding}
use Rattle.js_pull.specs.declared.replies.Finding.TheVariants as finds
use Rattle.js_pull.specs.declared.replies.InfoReply.{InfoReply}
use Rattle.js_pull.specs.declared.replies.InfoReply.TheVariants as says
use Rattle.js_pull.specs.declared.reader.Row.{Row}
use Rattle.js_pull.specs.declared.reader.Row.TheVariants as row
use Rattle.js_pull.specs.declared.reader.ReaderOutput.{ReaderOutput}
use Rattle.js_pull.specs.declared.reader.ReaderOutput.TheVariants as tells
use Rattle.js_pull.specs.Reader.{wish, answer_of, info_reply, is_gone, pin_header}
use Rattle.js_pull.specs.Reader as rows
use Rattle.js_pull.specs.Passes.{publishing}
use Rattle.js_pull.specs.declared.reader.InfoRequest.{InfoRequest}
use Rattle.js_pull.specs.declared.reader.InfoRequest.TheVariants.{NoInfoRequest, Asked, Resting}
use Rattle.js_pull.specs.declared.rows.Due.{Due}
use Rattle.js_pull.specs.declared.rows.Due.TheVariants as due
use Rattle.js_pull.specs.declared.rows.DueRows.{DueRows}
use Rattle.js_pull.specs.declared.rows.DueRows.TheVariants as todo
use Rattle.js_pull.specs.declared.rows.Notice.{Notice}
use Rattle.js_pull.specs.declared.rows.Notice.TheVariants as notice
use Rattle.js_pull.specs.declared.passed_row.PassedRow.{PassedRow}

-- ---- rows, as the code keeps them

-- the row that is due, with the reply that lies beside it
abbrev pub row_of : Option Message → Due → Row
row_of reply (due.Ask reason) = row.Ask reason
row_of reply due.Threshold = row.Threshold
row_of reply due.Arm = row.Arm
row_of reply (due.Inquire failures) = row.Inquire failures
row_of reply (due.FailInfoRequest failures) = row.FailInfoRequest failures
row_of reply due.CheckInfoRequest = row.CheckInfoRequest
row_of reply (due.Answered failures) = row.Answered reply failures
row_of reply due.CheckExpiry = row.CheckExpiry
row_of reply due.CheckArrival = row.CheckArrival
row_of reply due.CheckSilence = row.CheckSilence

-- at most one row
abbrev pub row_list : Option Message → Option Due → List Row
row_list reply None = []
row_list reply (Some due) = row_of reply due ∷ []

-- the rows that are left, with the reply that each may read
abbrev pub rows_with : Option Message → Option Message → DueRows → List Row
rows_with reply other todo.Nothing = []
rows_with reply other (todo.One due) = row_of reply due ∷ []
rows_with reply other (todo.Two due later) = row_of reply due ∷ row_of other later ∷ []

-- the same, of which only the first reads a reply
abbrev pub rows_of : Option Message → DueRows → List Row
rows_of reply todo = rows_with reply None todo

-- what is told, with the message that was taken
abbrev pub told_shown : Notice → Option Message → ReaderOutput
told_shown notice.Nothing message = tells.Nothing
told_shown notice.Hands None = tells.Nothing
told_shown notice.Hands (Some message) = tells.Hands message
told_shown (notice.Tells kind) message = tells.Tells kind

-- ---- a row that was passed

-- the row at what was met
abbrev pub met_row : ℕ → Row → Met → Reader → rows.Passed
met_row now row met r = rows.row (row_input now met) (answer_of (wish row r) met) (message_of met) row r

-- a step is a row of the table: the reader after it, what it tells of a message, and the row that follows at once, which may read a reply
pub record ReadsTo (reply message : Option Message) (passed : rows.Passed) (new : Reader) (step : PassedRow) : Type 0 where
  pub reader : new ≡ passed.reader
  pub told : told_shown step.told message ≡ passed.told
  pub next : row_list reply step.next ≡ passed.next

-- the same, of a row that met this
abbrev pub StepsTo : rows.Passed → Met → PassedRow → Reader → Type 0
StepsTo passed met step new = ReadsTo (reply_met met) (message_of met) passed new step

-- the one clause of a row
abbrev pub Steps : ℕ → Row → Met → PassedRow → Reader → Reader → Type 0
Steps now row met step old new = StepsTo (met_row now row met old) met step new

-- how a row is passed that met this, where only its moment is known
abbrev pub passing_at : ℕ → Met → RowInput
passing_at now met = record (row_input now met) { now = now }

-- a request has gone out under this number, or was refused
abbrev pub requesting : ℕ → Option ℕ → RowInput
requesting now None = publishing now false
requesting now (Some request) = record { now = now; up = true; request = request; inbox = 0; subject = [] }

-- the row that looks at an open info
abbrev pub inquiry_row : ℕ → Met → InfoRequest → Reader → rows.Passed
inquiry_row now met inquiry r = rows.check_inquiry (passing_at now met) (answer_of (rows.awaited inquiry) met) inquiry r

-- a row that tells nothing
abbrev pub quiet_step : Option Due → PassedRow
quiet_step next = record { told = notice.Nothing; next = next }

-- what follows from an open info: its answer is read, or else its clock may be over
abbrev pub inquiry_step : ℕ → Bool → InfoRequest → PassedRow
inquiry_step now answered NoInfoRequest = quiet_step None
inquiry_step now answered (Asked request timeout failures) =
    quiet_step (if answered then Some (due.Answered failures) else (if is_any_due timeout now then Some (due.FailInfoRequest failures) else None))
inquiry_step now answered (Resting wait failures) = quiet_step (if is_due wait now then Some (due.Inquire failures) else None)

-- the reply that an event brings, which is none where the replier is gone
abbrev pub brought : Option rows.Answer → Option Message
brought None = None
brought (Some answer) = answer.reply

-- an open info was asked for, and this is whether its answer is there
abbrev pub IsInquired : Option rows.Answer → InfoRequest → Bool → Type 0
IsInquired answer (Asked request timeout failures) answered = answered ≡ is_some (rows.reply_to request answer)
IsInquired answer _ answered = ⊤

-- ---- what a row needs beside what it met

-- what a row learns from an answer: whether requests wait at the consumer, or that it is gone
abbrev pub finding_of : InfoReply → Finding
finding_of (says.Info info) = finds.Found (info.num_waiting == 0)
finding_of (says.Error code) = if is_gone code then finds.Gone else finds.Nothing
finding_of says.Nothing = finds.Nothing

-- a reply was read by the row that reads one
abbrev pub IsInformed : Row → Finding → Type 0
IsInformed (row.Answered message failures) finding = finding ≡ finding_of (info_reply message)
IsInformed row finding = ⊤

-- the pin that a message without a status, or of status 200, names
abbrev pub pin_named : Message → Option StatusCode → Option (List ℕ)
pin_named message None = last_value pin_header (all_headers message.headers)
pin_named message (Some status) = if status.0 == 200 then last_value pin_header (all_headers message.headers) else None

-- the pin that an arrival brings, where clients are pinned
abbrev pub pin_brought : Bool → Option Message → Option (List ℕ)
pin_brought pinned None = None
pin_brought pinned (Some message) = if pinned then pin_named message message.status else None
