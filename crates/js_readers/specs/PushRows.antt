-- The rows of a reader of a push consumer: what a row asks of the link, and what it makes of what it meets there.
use Rattle.std.specs.Prelude.{ℕ, ◌≡◌, refl, ◌==◌, ◌*◌, ◌-◌, List, [], ◌∷◌, Option, Some, None, codes, if◌then◌else◌}
use Rattle.js_base.specs.Clock.{second, is_any_due}
use Rattle.js_base.specs.declared.headers.Header.{Header}
use Rattle.js_base.specs.declared.message.Message.{Message}
use Rattle.js_base.specs.declared.message.StatusCode.{StatusCode}
use Rattle.js_link.specs.declared.wish.Wish.{Wish}
use Rattle.js_link.specs.declared.wish.Wish.TheVariants.{Nothing, Publishes, Reads}
use Rattle.js_link.specs.declared.wish.Met.{Met}
use Rattle.js_link.specs.declared.wish.Met.TheVariants.{Took, Empty, Shut}
use Rattle.js_ordered_table.specs.Arrivals.{answer_subject}
use Rattle.js_pull.specs.Reader.{armed_silence}
use Rattle.js_readers.specs.declared.push.messages.Messages.{Messages}
use Rattle.js_readers.specs.declared.push.row.Row.{Row}
use Rattle.js_readers.specs.declared.push.row.Row.TheVariants.{Arm, CheckArrival, Answer, Ended}
use Rattle.js_readers.specs.declared.push.row.RowOutcome.{RowOutcome}
use Rattle.js_readers.specs.declared.push.row.RowOutcome.TheVariants.{Hands, MissesHeartbeat, Waits, Ends}
use Rattle.js_readers.specs.declared.push.row.RowOutcome.TheVariants as tells

-- a reader of an inbox, whose timer does not run yet
abbrev pub new_messages : ℕ → ℕ → ℕ → Messages
new_messages inbox heartbeat timeout = record { inbox = inbox; heartbeat = heartbeat; heartbeat_timer = None; next = Arm; timeout = timeout }

-- ---- what a row asks

-- an empty message there
abbrev pub answer_wish : Option (List ℕ) → Wish
answer_wish None = Nothing
answer_wish (Some subject) = Publishes subject None []

-- what a row asks of the link
abbrev pub wish : Row → ℕ → Wish
wish Arm inbox = Nothing
wish CheckArrival inbox = Reads inbox
wish (Answer m) inbox = answer_wish (answer_subject m)
wish Ended inbox = Nothing

-- ---- what it makes of what it meets

-- what a row tells, and the reader after it
pub record Passed : Type 0 where
  pub told : RowOutcome
  pub messages : Messages

-- twice the heartbeat from now on
abbrev pub armed : ℕ → Messages → Messages
armed now r = record r { heartbeat_timer = armed_silence now r.heartbeat }

-- this is done next
abbrev pub next_row : Row → Messages → Messages
next_row row r = record r { next = row }

-- nothing is told
abbrev pub silent_row : Messages → Passed
silent_row r = record { told = tells.Nothing; messages = r }

-- a message without a status is handed out; a heartbeat, of status 100, is answered next; any other status is passed over
abbrev pub hear : Option StatusCode → Message → Messages → Passed
hear None m r = record { told = Hands m; messages = r }
hear (Some status) m r = if status.0 == 100 then silent_row (next_row (Answer m) r) else silent_row r

-- where nothing has come, a heartbeat that is missing is told, and the timer begins anew
abbrev pub silence_row : ℕ → Messages → Passed
silence_row now r =
    if is_any_due r.heartbeat_timer now then record { told = MissesHeartbeat; messages = armed now r } else record { told = Waits; messages = r }

-- each message that comes begins the timer anew; a closed inbox is the end
abbrev pub arrival_row : ℕ → Met → Messages → Passed
arrival_row now (Took m) r = hear m.status m (armed now r)
arrival_row now Shut r = record { told = Ends; messages = next_row Ended r }
arrival_row now met r = silence_row now r

-- the table
abbrev pub pass : ℕ → Met → Row → Messages → Passed
pass now met Arm r = silent_row (next_row CheckArrival (armed now r))
pass now met CheckArrival r = arrival_row now met r
pass now met (Answer m) r = silent_row (next_row CheckArrival r)
pass now met Ended r = record { told = Ends; messages = r }

-- ---- worked rows

abbrev example_reader : Messages
example_reader = record { inbox = 3; heartbeat = 5 * second; heartbeat_timer = armed_silence 0 (5 * second); next = CheckArrival; timeout = 5 * second }

abbrev example_message : Option StatusCode → Option (List ℕ) → Option (List Header) → Message
example_message status reply headers = record { subject = codes "d.in"; reply = reply; payload = []; headers = headers; status = status; description = None; length = 4 }

abbrev heartbeat_status : Option StatusCode
heartbeat_status = Some (record { 0 = 100 })

-- worked: a flow-control message is answered next, by an empty message to its reply subject. Refused: it is handed out, or passed over
flow_control_is_answered : (pass 7 (Took (example_message heartbeat_status (Some (codes "$JS.FC.x")) None)) CheckArrival example_reader).messages.next ≡ Answer (example_message heartbeat_status (Some (codes "$JS.FC.x")) None)
flow_control_is_answered = refl

answers_there : wish (Answer (example_message heartbeat_status (Some (codes "$JS.FC.x")) None)) 3 ≡ Publishes (codes "$JS.FC.x") None []
answers_there = refl

-- worked: a stalled consumer names the subject in a header. Refused: it is not answered
stalled_is_answered : wish (Answer (example_message heartbeat_status None (Some (record { name = codes "Nats-Consumer-Stalled"; value = codes "$JS.FC.y" } ∷ [])))) 3 ≡ Publishes (codes "$JS.FC.y") None []
stalled_is_answered = refl

-- worked: a heartbeat that asks for nothing. Refused: it is answered to no subject
nothing_is_answered : wish (Answer (example_message heartbeat_status None None)) 3 ≡ Nothing
nothing_is_answered = refl

-- worked: a status of 409 is passed over. Refused: it is an item
another_status_is_passed_over : (pass 7 (Took (example_message (Some (record { 0 = 409 })) None None)) CheckArrival example_reader).told ≡ tells.Nothing
another_status_is_passed_over = refl

-- worked: an empty inbox before twice the heartbeat, and then. Refused: silence is one heartbeat, or the timer stays as it was
waits_before : pass (10 * second - 1) Empty CheckArrival example_reader ≡ record { told = Waits; messages = example_reader }
waits_before = refl

misses_then : pass (10 * second) Empty CheckArrival example_reader ≡ record { told = MissesHeartbeat; messages = record example_reader { heartbeat_timer = armed_silence (10 * second) (5 * second) } }
misses_then = refl

-- worked: no heartbeat is configured. Refused: it is missing at once
none_is_configured : (pass (100 * second) Empty CheckArrival (record example_reader { heartbeat = 0; heartbeat_timer = armed_silence 0 0 })).told ≡ Waits
none_is_configured = refl
