-- The rows of a recreation.
use Rattle.std.specs.Prelude.{ℕ, ◌+◌, ◌&&◌, Bool, true, false, not, List, [], ◌∷◌, ◌++◌, map, Option, Some, None, is_some, nat_lt, ◌==◌, codes, if◌then◌else◌}
use Rattle.js_base.specs.declared.message.Message.{Message}
use Rattle.js_base.specs.declared.clock.Timer.{Timer}
use Rattle.js_base.specs.Clock.{is_due}
use Rattle.js_json.specs.declared.consumer.info.Info.{Info}
use Rattle.js_link.specs.RowInput.{RowInput}
use Rattle.js_pull.specs.Reader as pull
use Rattle.js_pull.specs.declared.replies.InfoReply.{InfoReply}
use Rattle.js_pull.specs.declared.replies.InfoReply.TheVariants as says
use Rattle.js_pull.specs.Reader.{Answer, reply_to, info_in, retry_wait, stream_not_found, u64_max}
use Rattle.js_pull.specs.Reader.{new_reader}
use Rattle.js_ordered_table.specs.declared.consumer.Consumer.{Consumer}
use Rattle.js_ordered_table.specs.Consumer.{Matter, Passed, silent_row, at_phase}
use Rattle.js_ordered_table.specs.declared.row.Arrival.{Arrival}
use Rattle.js_ordered_table.specs.declared.row.Row.{Row}
use Rattle.js_ordered_table.specs.declared.row.Row.TheVariants.{Try, Create, Ask, Await, Answered, Hold, Succeed, Fail, Hear, Arm, Read}
use Rattle.js_ordered_table.specs.declared.consumer.Recreation.{Recreation}
use Rattle.js_ordered_table.specs.declared.consumer.Opened.{Opened}
use Rattle.js_ordered_table.specs.declared.consumer.ReplayInput.{ReplayInput}
use Rattle.js_ordered_table.specs.declared.consumer.Stage.{Stage}
use Rattle.js_ordered_table.specs.declared.consumer.Stage.TheVariants.{Between, Deleting, Creating, Waiting}
use Rattle.js_ordered_table.specs.declared.consumer.Phase.TheVariants.{Pulls, Pushes, Recreates, Idle, Exhausted}
use Rattle.js_ordered_table.specs.OrderedCore.{after_restart, restart_at}
use Rattle.js_ordered_table.specs.Texts.{consumer_name, delete_subject, create_subject, create_body, recreation_timeout, pull_source}
use Rattle.js_ordered_table.specs.declared.setup.OrderedSetup.{OrderedSetup}
use Rattle.js_ordered_table.specs.declared.setup.OrderedSetup.TheVariants.{Pull, Push}
use Rattle.js_ordered_table.specs.declared.run.ItemKind.TheVariants as item
use Rattle.js_ordered_table.specs.declared.run.Output.{Output}
use Rattle.js_ordered_table.specs.declared.run.Output.TheVariants as out

-- ---- Start

-- a recreation begins with no tries
abbrev pub recreation : ReplayInput → Consumer → Recreation
recreation g c = record {
  old_name = c.name;
  new_name = consumer_name g (after_restart c.core).recreation_count;
  start = restart_at c.core;
  failures = 0;
  opened = None;
  stage = Between;
}

-- the current inbox is dropped, and the first try follows
abbrev pub start_row : ReplayInput → Consumer → Passed
start_row g c =
    if c.core.stream_sequence == u64_max then silent_row (at_phase Exhausted c) [] else
    (let core = after_restart c.core in
    record {
      consumer = record c { phase = Recreates (recreation g c); core = core; name = consumer_name g core.recreation_count };
      outputs = out.Recreate core.recreation_count (restart_at c.core) ∷ [];
      next = Try ∷ [];
    })

-- ---- Try and Create

-- the bound on an answer
abbrev pub timer : ReplayInput → RowInput → Timer
timer g p = record { set = p.now; wait = recreation_timeout g.settings }

-- the recreation at another stage
abbrev pub at_stage : Stage → Recreation → Consumer → Consumer
at_stage stage r c = at_phase (Recreates (record r { stage = stage })) c

-- the delete request for the old name, passed over without the link
abbrev pub try_row : ReplayInput → RowInput → Recreation → Consumer → Passed
try_row g p r c =
    if p.up
    then record {
      consumer = at_stage (Deleting p.request (timer g p)) r c;
      outputs = out.Request p.request (delete_subject g r) (codes "{}") ∷ [];
      next = [];
    }
    else silent_row c (Create ∷ [])

-- an inbox that holds nothing yet
abbrev pub opened_by : RowInput → Opened
opened_by p = record { inbox = p.inbox; subject = p.subject; held = [] }

-- push subscribes its inbox before the create request
abbrev pub create_row : OrderedSetup → RowInput → Recreation → Consumer → Passed
create_row (Pull setup) p r c = silent_row c (Ask ∷ [])
create_row (Push setup) p r c =
    if p.up
    then record {
      consumer = at_phase (Recreates (record r { opened = Some (opened_by p) })) c;
      outputs = out.Subscribe p.inbox p.subject ∷ [];
      next = Ask ∷ [];
    }
    else silent_row c (Fail ∷ [])

-- the create request
abbrev pub ask_row : ReplayInput → RowInput → Recreation → Consumer → Passed
ask_row g p r c =
    if p.up
    then record {
      consumer = at_stage (Creating p.request (timer g p)) r c;
      outputs = out.Request p.request (create_subject g r) (create_body g r) ∷ [];
      next = [];
    }
    else silent_row c (Fail ∷ [])

-- ---- Fail

-- after more failures than retries an item closes the recreation; otherwise the next try waits
abbrev pub fail_row : ReplayInput → RowInput → Recreation → Consumer → Passed
fail_row g p r c =
    let n = r.failures + 1 in
    if nat_lt g.settings.retries n
    then record { consumer = at_phase Idle c; outputs = out.Item item.Recreate ∷ []; next = [] }
    else silent_row (at_phase (Recreates (record r {
      failures = n;
      opened = None;
      stage = Waiting (record { set = p.now; wait = retry_wait n });
    })) c) []

-- ---- Success

-- pull subscribes the next inbox, and reads it
abbrev pub succeed_pull : ReplayInput → RowInput → Info → Consumer → Passed
succeed_pull g p info c =
    if p.up
    then record {
      consumer = at_phase (Pulls (new_reader (pull_source g c.core.recreation_count p.inbox p.subject info))) c;
      outputs = out.Subscribe p.inbox p.subject ∷ [];
      next = map Read pull.opening;
    }
    else silent_row c (Fail ∷ [])

-- push hears what it held, and then arms its heartbeat
abbrev pub succeed_push : RowInput → Option Opened → Consumer → Passed
succeed_push p None c = silent_row c []
succeed_push p (Some opened) c =
    silent_row (at_phase (Pushes opened.inbox (record { set = p.now; wait = 10_000_000_000 })) c) (map (λ message. Hear (record { inbox = opened.inbox; message = message })) opened.held ++ Arm ∷ [])

-- a create was answered well
abbrev pub succeed_row : OrderedSetup → ReplayInput → RowInput → Info → Recreation → Consumer → Passed
succeed_row (Pull setup) g p info r c = succeed_pull g p info c
succeed_row (Push setup) g p info r c = succeed_push p r.opened c

-- ---- an open recreation

-- the message that arrives on this inbox
abbrev pub message_on : ℕ → Option Arrival → Option Message
message_on inbox None = None
message_on inbox (Some arrival) = if inbox == arrival.inbox then Some arrival.message else None

-- a message is held
abbrev pub hold : Option Message → Opened → Opened
hold None opened = opened
hold (Some message) opened = record opened { held = opened.held ++ message ∷ [] }

-- an arrival on the creating inbox is held
abbrev pub held_in : Option Arrival → Option Opened → Option Opened
held_in arrival None = None
held_in arrival (Some opened) = Some (hold (message_on opened.inbox arrival) opened)

-- push needs a subject that is delivered to
abbrev pub has_subject : OrderedSetup → Info → Bool
has_subject (Pull setup) info = true
has_subject (Push setup) info = is_some info.config.deliver_subject

-- a create was answered well or not
abbrev pub answered : OrderedSetup → Option Info → Row
answered setup None = Fail
answered setup (Some info) = if has_subject setup info then Succeed info else Fail

-- an answer to a create says that the stream is not found
abbrev pub is_stream_missing : InfoReply → Bool
is_stream_missing (says.Info info) = false
is_stream_missing (says.Error code) = code.0 == stream_not_found
is_stream_missing says.Nothing = false

-- whether the stream is missing, as it is kept where that is told
abbrev pub missing_after : Bool → InfoReply → Bool → Bool
missing_after tells reply was_missing = if tells then is_stream_missing reply else was_missing

-- it is told where it was not missing before
abbrev pub missing_outputs : Bool → Bool → List Output
missing_outputs missing was_missing = if missing && not was_missing then out.Item item.StreamNotFound ∷ [] else []

-- an answer to a create
abbrev pub answered_row : ReplayInput → InfoReply → Consumer → Passed
answered_row g reply c =
    let missing = missing_after g.settings.resilience.tells_missing_stream reply c.stream_missing in
    record {
      consumer = record c { stream_missing = missing };
      outputs = missing_outputs missing c.stream_missing;
      next = answered g.setup (info_in reply) ∷ [];
    }

-- a create looks at its answer before its clock
abbrev pub created : ReplayInput → RowInput → Timer → Option (Option Message) → List Row
created g p timeout (Some reply) = Answered reply ∷ []
created g p timeout None = if is_due timeout p.now then Fail ∷ [] else []

-- the rows that a stage goes on with
abbrev pub stage_rows : ReplayInput → RowInput → Matter → Stage → List Row
stage_rows g p m Between = []
stage_rows g p m (Deleting request timeout) =
    if is_some (reply_to request m.answer) then Create ∷ [] else (if is_due timeout p.now then Create ∷ [] else [])
stage_rows g p m (Creating request timeout) = created g p timeout (reply_to request m.answer)
stage_rows g p m (Waiting wait) = if is_due wait p.now then Try ∷ [] else []

-- an arrival is held
abbrev pub hold_row : Matter → Recreation → Consumer → Passed
hold_row m r c = silent_row (at_phase (Recreates (record r { opened = held_in m.arrival r.opened })) c) []

-- an event looks at what a stage waits for, and holds an arrival where push has an inbox
abbrev pub recreation_rows : Option Opened → List Row
recreation_rows None = Await ∷ []
recreation_rows (Some opened) = Await ∷ Hold ∷ []
