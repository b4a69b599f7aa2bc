-- A row that is passed, where a case is not computed.
use Rattle.std.proofs.Common.{◌≡◌, ℕ, Bool, true, false, List, [], ◌∷◌, refl, sym, ap, ◌∙◌, subst, arith}
use Rattle.std.proofs.lemmas.Bool.{ne_eqb}
use Rattle.std.proofs.lemmas.Bool.Decides.{nat_tests}
use Rattle.std.specs.Prelude.{◌==◌, ◌+◌, Option, Some, None, is_some, map, if◌then◌else◌}
use Rattle.js_base.specs.declared.clock.Timer.{Timer}
use Rattle.js_base.specs.declared.message.Message.{Message}
use Rattle.js_base.specs.declared.message.State.{State}
use Rattle.js_base.specs.declared.message.State.TheVariants.{Pending, Connected, Disconnected}
use Rattle.js_pull.specs.declared.reader.Reader.{Reader}
use Rattle.js_pull.specs.declared.reader.Row.TheVariants as read
use Rattle.js_pull.specs.Reader as pull
use Rattle.js_json.specs.declared.pull.OrderedConfig as pull_config
use Rattle.js_link.specs.RowInput.{RowInput}
use Rattle.js_message.specs.AckSubject as ack
use Rattle.js_message.specs.AckSubject.{readable_as}
use Rattle.js_ordered_table.specs.declared.transitions.task.Heard.{Heard}
use Rattle.js_ordered_table.specs.declared.transitions.task.Heard.TheVariants as hears
use Rattle.js_ordered_table.specs.declared.transitions.task.NextTasks.{NextTasks}
use Rattle.js_ordered_table.specs.declared.transitions.task.NextTasks.TheVariants as next
use Rattle.js_ordered_table.specs.declared.transitions.task.PassedTask.{PassedTask}
use Rattle.js_ordered_table.specs.declared.transitions.task.Task.TheVariants as task
use Rattle.js_ordered_table.specs.declared.transitions.task.RowOutput.TheVariants as tells
use Rattle.js_ordered_table.specs.Tasks.{StepsTo, goes_on, IsAnswered, IsHeardFrom, IsHeardAs, IsOfStream, answered_rows, handing, heard_row, next_rows, told_outputs, is_lost}
use Rattle.js_pull.specs.Reader.{reply_to}
use Rattle.js_ordered_table.specs.declared.consumer.Consumer.{Consumer}
use Rattle.js_ordered_table.specs.declared.consumer.ReplayInput.{ReplayInput}
use Rattle.js_ordered_table.specs.declared.consumer.Phase.{Phase}
use Rattle.js_ordered_table.specs.declared.consumer.Phase.TheVariants.{Pulls, Pushes, Recreates, Idle, Ended, Exhausted}
use Rattle.js_ordered_table.specs.declared.consumer.Stage.{Stage}
use Rattle.js_ordered_table.specs.declared.consumer.Stage.TheVariants.{Creating}
use Rattle.js_ordered_table.specs.declared.kind.PushKind.{PushKind}
use Rattle.js_ordered_table.specs.declared.kind.PushKind.TheVariants as kind
use Rattle.js_ordered_table.specs.declared.place.Place.{Place}
use Rattle.js_ordered_table.specs.declared.row.Row.{Row}
use Rattle.js_ordered_table.specs.declared.row.Row.TheVariants as row
use Rattle.js_ordered_table.specs.declared.setup.OrderedSetup.{OrderedSetup}
use Rattle.js_ordered_table.specs.declared.setup.OrderedSetup.TheVariants.{Pull}
use Rattle.js_ordered_table.specs.Fold.{is_over}
use Rattle.js_ordered_table.specs.Passes.{listens_to, place_shown, yielding}
use Rattle.js_ordered_table.specs.Arrivals.{accepted, armed, hear_kind, message_row, push_kind, read_row, restart}
use Rattle.js_ordered_table.specs.Recreation.{created, stage_rows}
use Rattle.js_ordered_table.specs.Consumer.{Matter, Change, Unchanged, Becomes, WatcherEnds, Passed, silent_row, at_phase}
use Rattle.js_ordered_table.specs.Table.{row_at, reader_row, go_on, changed, watcher_ended, event_change, event_row}
use Rattle.js_pull.specs.Poll.{same_state}

-- nothing is put out
pub steps_quietly : (m : Matter) (passed : Passed) (c d : Consumer) (rest : NextTasks) → passed ≡ silent_row c (next_rows m rest) → d ≡ c → StepsTo m passed [] d rest
steps_quietly m passed c d rest is same =
    subst (λ (p : Passed). StepsTo m p [] d rest) (sym is) (record { consumer = same; outputs = refl; next = refl })

abbrev connected_to : State → Consumer → Consumer
connected_to state c = record c { connection = state }

as_before : (g : ReplayInput) (p : RowInput) (m : Matter) (phase : Phase) (c : Consumer) → go_on g p m phase c ≡ goes_on g p m None phase c
as_before g p m (Pulls reader) c = refl
as_before g p m (Pushes inbox heartbeat_timer) c = refl
as_before g p m (Recreates r) c = refl
as_before g p m Idle c = refl
as_before g p m Ended c = refl
as_before g p m Exhausted c = refl

changed_as : (g : ReplayInput) (p : RowInput) (m : Matter) (old new : State) (phase : Phase) (c : Consumer)
    → changed g p m old new phase c ≡ (if is_lost phase old new then restart (connected_to new c) else goes_on g p m (Some new) phase (connected_to new c))
changed_as g p m old new (Pulls reader) c = refl
changed_as g p m old new (Pushes inbox heartbeat_timer) c = refl
changed_as g p m old new (Recreates r) c = refl
changed_as g p m old new Idle c = refl
changed_as g p m old new Ended c = refl
changed_as g p m old new Exhausted c = refl

changed_by : (g : ReplayInput) (p : RowInput) (m : Matter) (new : State) (c : Consumer) (lost : Bool) → is_lost c.phase c.connection new ≡ lost
    → changed g p m c.connection new c.phase c ≡ (if lost then restart (connected_to new c) else goes_on g p m (Some new) c.phase (connected_to new c))
changed_by g p m new c lost is =
    changed_as g p m c.connection new c.phase c ∙ ap (λ (b : Bool). if b then restart (connected_to new c) else goes_on g p m (Some new) c.phase (connected_to new c)) is

pub change_restarts : (g : ReplayInput) (p : RowInput) (m : Matter) (new : State) (c d : Consumer) → is_lost c.phase c.connection new ≡ true → d ≡ connected_to new c
    → StepsTo m (changed g p m c.connection new c.phase c) [] d (next.One task.Start)
change_restarts g p m new c d lost same =
    steps_quietly m (changed g p m c.connection new c.phase c) (connected_to new c) d (next.One task.Start) (changed_by g p m new c true lost) same

pub change_goes_on : (g : ReplayInput) (p : RowInput) (m : Matter) (new : State) (c d : Consumer) (rest : NextTasks) → is_lost c.phase c.connection new ≡ false
    → StepsTo m (goes_on g p m (Some new) c.phase (connected_to new c)) [] d rest
    → StepsTo m (changed g p m c.connection new c.phase c) [] d rest
change_goes_on g p m new c d rest lost steps = subst (λ (passed : Passed). StepsTo m passed [] d rest) (sym (changed_by g p m new c false lost)) steps

-- a reader begins
begin_is : (r : Reader) (ended asking : Bool) (p : RowInput) (change : Option State)
    → (let after : pull.Passed = (if ended then pull.silent_row r [] else (if asking then pull.silent_row r (read.CheckInfoRequest ∷ read.CheckArrival ∷ []) else pull.begin_change p change r)) in after ≡ pull.silent_row after.reader after.next)
begin_is r true asking p change = refl
begin_is r false true p change = refl
begin_is r false false p None = refl
begin_is r false false p (Some Connected) = refl
begin_is r false false p (Some Pending) = refl
begin_is r false false p (Some Disconnected) = refl

pub reader_begins : (p : RowInput) (m : Matter) (change : Option State) (r s : Reader) (c d : Consumer) (rest : NextTasks) → s ≡ (pull.begin_row p change r).reader → next_rows m rest ≡ map row.Read (pull.begin_row p change r).next
    → d ≡ at_phase (Pulls s) c → StepsTo m (reader_row p m (read.Begin change) r c) [] d rest
reader_begins p m change r s c d rest reader rows same =
    let passed : pull.Passed = pull.begin_row p change r in
    let quiet : passed ≡ pull.silent_row passed.reader passed.next = begin_is r r.ended (pull.is_asking r.inquiry) p change in
    steps_quietly m (read_row passed c) (at_phase (Pulls passed.reader) c) d rest
    (ap (λ (x : pull.Passed). read_row x c) quiet ∙ ap (λ (rows : List Row). silent_row (at_phase (Pulls passed.reader) c) rows) (sym rows)) (same ∙ ap (λ (x : Reader). at_phase (Pulls x) c) reader)

-- where the phase is known
pub goes_at : (g : ReplayInput) (p : RowInput) (m : Matter) (change : Option State) (phase : Phase) (c d : Consumer) (rest : NextTasks) → c.phase ≡ phase
    → StepsTo m (goes_on g p m change phase c) [] d rest → StepsTo m (goes_on g p m change c.phase c) [] d rest
goes_at g p m change phase c d rest is steps = subst (λ (q : Phase). StepsTo m (goes_on g p m change q c) [] d rest) (sym is) steps

-- ---- an event

event_as : (g : ReplayInput) (p : RowInput) (m : Matter) (phase : Phase) (c : Consumer) → is_over phase ≡ false → event_row g p m phase c ≡ event_change g p m m.change c
event_as g p m (Pulls reader) c over = refl
event_as g p m (Pushes inbox heartbeat_timer) c over = refl
event_as g p m (Recreates r) c over = refl
event_as g p m Idle c over = refl
event_as g p m Ended c over = absurd (never over)
  where
    never : true ≡ false → ⊥
    never e = cc
event_as g p m Exhausted c over = absurd (never over)
  where
    never : true ≡ false → ⊥
    never e = cc

event_by : (g : ReplayInput) (p : RowInput) (m : Matter) (change : Change) (c : Consumer) → is_over c.phase ≡ false → m.change ≡ change → event_row g p m c.phase c ≡ event_change g p m change c
event_by g p m change c over is = event_as g p m c.phase c over ∙ ap (λ (k : Change). event_change g p m k c) is

-- a step that puts nothing out
quiet_step : (m : Matter) (passed : Passed) (d : Consumer) (rest : NextTasks) (step : PassedTask) → StepsTo m passed [] d rest → step ≡ record { told = tells.Nothing; next = rest }
    → StepsTo m passed (told_outputs step.told) d step.next
quiet_step m passed d rest step steps to = subst (λ (s : PassedTask). StepsTo m passed (told_outputs s.told) d s.next) (sym to) steps

-- the connection is as it was
event_still : (g : ReplayInput) (p : RowInput) (m : Matter) (c d : Consumer) (rest : NextTasks) (step : PassedTask) → event_row g p m c.phase c ≡ go_on g p m c.phase c
    → StepsTo m (goes_on g p m None c.phase c) [] d rest → step ≡ record { told = tells.Nothing; next = rest }
    → StepsTo m (event_row g p m c.phase c) (told_outputs step.told) d step.next
event_still g p m c d rest step is steps to =
    quiet_step m (event_row g p m c.phase c) d rest step (subst (λ (passed : Passed). StepsTo m passed [] d rest) (sym (is ∙ as_before g p m c.phase c)) steps) to

pub event_goes_on : (g : ReplayInput) (p : RowInput) (m : Matter) (c d : Consumer) (rest : NextTasks) (step : PassedTask) → is_over c.phase ≡ false → m.change ≡ Unchanged
    → StepsTo m (goes_on g p m None c.phase c) [] d rest → step ≡ record { told = tells.Nothing; next = rest }
    → StepsTo m (event_row g p m c.phase c) (told_outputs step.told) d step.next
event_goes_on g p m c d rest step over is steps to = event_still g p m c d rest step (event_by g p m Unchanged c over is) steps to

event_if : (g : ReplayInput) (p : RowInput) (m : Matter) (state : State) (c : Consumer) (same : Bool) → is_over c.phase ≡ false → m.change ≡ Becomes state → same_state c.connection state ≡ same
    → event_row g p m c.phase c ≡ (if same then go_on g p m c.phase c else changed g p m c.connection state c.phase c)
event_if g p m state c same over is test =
    event_by g p m (Becomes state) c over is ∙ ap (λ (b : Bool). if b then go_on g p m c.phase c else changed g p m c.connection state c.phase c) test

pub event_same : (g : ReplayInput) (p : RowInput) (m : Matter) (state : State) (c d : Consumer) (rest : NextTasks) (step : PassedTask) → is_over c.phase ≡ false → m.change ≡ Becomes state → same_state c.connection state ≡ true
    → StepsTo m (goes_on g p m None c.phase c) [] d rest → step ≡ record { told = tells.Nothing; next = rest }
    → StepsTo m (event_row g p m c.phase c) (told_outputs step.told) d step.next
event_same g p m state c d rest step over is same steps to = event_still g p m c d rest step (event_if g p m state c true over is same) steps to

pub event_changes : (g : ReplayInput) (p : RowInput) (m : Matter) (state : State) (c d : Consumer) (rest : NextTasks) (step : PassedTask) → is_over c.phase ≡ false → m.change ≡ Becomes state → same_state c.connection state ≡ false
    → StepsTo m (changed g p m c.connection state c.phase c) [] d rest → step ≡ record { told = tells.Nothing; next = rest }
    → StepsTo m (event_row g p m c.phase c) (told_outputs step.told) d step.next
event_changes g p m state c d rest step over is other steps to =
    quiet_step m (event_row g p m c.phase c) d rest step (subst (λ (passed : Passed). StepsTo m passed [] d rest) (sym (event_if g p m state c false over is other)) steps) to

pub watcher_pulls : (g : ReplayInput) (p : RowInput) (m : Matter) (setup : pull_config.OrderedConfig) (c : Consumer) → g.setup ≡ Pull setup → watcher_ended g p m g.setup c ≡ go_on g p m c.phase c
watcher_pulls g p m setup c is = ap (λ (s : OrderedSetup). watcher_ended g p m s c) is

pub event_unwatched : (g : ReplayInput) (p : RowInput) (m : Matter) (c d : Consumer) (rest : NextTasks) (step : PassedTask) → is_over c.phase ≡ false → m.change ≡ WatcherEnds
    → watcher_ended g p m g.setup c ≡ go_on g p m c.phase c
    → StepsTo m (goes_on g p m None c.phase c) [] d rest → step ≡ record { told = tells.Nothing; next = rest }
    → StepsTo m (event_row g p m c.phase c) (told_outputs step.told) d step.next
event_unwatched g p m c d rest step over is pulls steps to = event_still g p m c d rest step (event_by g p m WatcherEnds c over is ∙ pulls) steps to

-- ---- an answer to the create

-- the reply is there
pub create_answered : (g : ReplayInput) (p : RowInput) (m : Matter) (request : ℕ) (timeout : Timer) → true ≡ is_some (reply_to request m.answer)
    → next_rows m (next.One (task.Answered request)) ≡ stage_rows g p m (Creating request timeout)
create_answered g p m request timeout is = replied (reply_to request m.answer) is
  where
    replied : (reply : Option (Option Message)) → true ≡ is_some reply → answered_rows reply ≡ created g p timeout reply
    replied None some = cc
    replied (Some reply) some = refl

-- ---- what push hears

eqb_same : (n : ℕ) → (n == n) ≡ true
eqb_same n = grind (arith, nat_tests)

-- the next message is accepted
yields_next : (place : Place) (message : Message) (c : Consumer) → (place.number == c.core.consumer_sequence + 1) ≡ true
    → yielding (place_shown place) c ≡ (accepted (place_shown place) message c).consumer
yields_next place message c here = ap (λ (b : Bool). if b then (accepted (place_shown place) message c).consumer else c) here

pub from_stream : (stalled : Bool) (p : RowInput) (message : Message) (heard : Heard) (c : Consumer) → IsHeardFrom c.core.consumer_sequence message heard
    → message_row (readable_as message.reply) message c ≡ heard_row stalled p message heard c
from_stream stalled p message hears.Unreadable c none = ap (λ (place : Option ack.Place). message_row place message c) none
from_stream stalled p message (hears.Yields place) c (there, next) =
    let here : (place.number == c.core.consumer_sequence + 1) ≡ true = rw next (eqb_same (c.core.consumer_sequence + 1)) in
    ap (λ (place : Option ack.Place). message_row place message c) there
    ∙ ap (λ (b : Bool). if b then accepted (place_shown place) message c else restart c) here
    ∙ sym (ap (handing place message) (yields_next place message c here))
from_stream stalled p message hears.Gap c (place, there, other) =
    let here : (place.number == c.core.consumer_sequence + 1) ≡ false = ne_eqb place.number (c.core.consumer_sequence + 1) other in
    ap (λ (place : Option ack.Place). message_row place message c) there
    ∙ ap (λ (b : Bool). if b then accepted (place_shown place) message c else restart c) here
from_stream stalled p message (hears.Beat last) c heard = absurd heard
from_stream stalled p message hears.OtherStatus c heard = absurd heard

-- an arrival is what its kind says
pub hears_as : (stalled : Bool) (p : RowInput) (message : Message) (k : PushKind) (heard : Heard) (c : Consumer) → IsHeardAs c.core.consumer_sequence message k heard → hear_kind stalled p message k c ≡ heard_row stalled p message heard c
hears_as stalled p message kind.Delivered heard c is = from_stream stalled p message heard c is
hears_as stalled p message (kind.Beat last) heard c is = ap (λ (h : Heard). heard_row stalled p message h c) (sym is)
hears_as stalled p message kind.Bad heard c is = ap (λ (h : Heard). heard_row stalled p message h c) (sym is)
hears_as stalled p message kind.OtherStatus heard c is = ap (λ (h : Heard). heard_row stalled p message h c) (sym is)

-- where the consumer listens
pub hears_here : (g : ReplayInput) (p : RowInput) (m : Matter) (inbox : ℕ) (message : Message) (phase : Phase) (c : Consumer) → listens_to inbox phase ≡ true
    → row_at g p m (row.Hear (record { inbox = inbox; message = message })) phase c ≡ hear_kind g.settings.resilience.answers_stalled p message (push_kind message) (at_phase (Pushes inbox (armed p.now)) c)
hears_here g p m inbox message (Pushes current heartbeat_timer) c here =
    let same : inbox ≡ current = grind (arith, nat_tests) in
    rw here (ap (λ (i : ℕ). hear_kind g.settings.resilience.answers_stalled p message (push_kind message) (at_phase (Pushes i (armed p.now)) c)) (sym same))
hears_here g p m inbox message (Pulls reader) c here = cc
hears_here g p m inbox message (Recreates r) c here = cc
hears_here g p m inbox message Idle c here = cc
hears_here g p m inbox message Ended c here = cc
hears_here g p m inbox message Exhausted c here = cc

-- and elsewhere
pub hears_nowhere : (g : ReplayInput) (p : RowInput) (m : Matter) (inbox : ℕ) (message : Message) (phase : Phase) (c : Consumer) → listens_to inbox phase ≡ false
    → row_at g p m (row.Hear (record { inbox = inbox; message = message })) phase c ≡ silent_row c []
hears_nowhere g p m inbox message (Pushes current heartbeat_timer) c other = rw other refl
hears_nowhere g p m inbox message (Pulls reader) c other = refl
hears_nowhere g p m inbox message (Recreates r) c other = refl
hears_nowhere g p m inbox message Idle c other = refl
hears_nowhere g p m inbox message Ended c other = refl
hears_nowhere g p m inbox message Exhausted c other = refl

-- what follows a stage that is known
pub staged : (g : ReplayInput) (p : RowInput) (m : Matter) (stage known : Stage) (replied : Bool) (rows : List Row) → stage ≡ known → (IsAnswered m known replied → rows ≡ stage_rows g p m known)
    → IsAnswered m stage replied → rows ≡ stage_rows g p m stage
staged g p m stage known replied rows is leads there = subst (λ (s : Stage). IsAnswered m s replied → rows ≡ stage_rows g p m s) (sym is) leads there

-- a message of the stream was heard
pub of_stream : (consumer_sequence : ℕ) (message : Message) (heard_is : Heard) → IsHeardFrom consumer_sequence message heard_is → IsOfStream heard_is
of_stream consumer_sequence message (hears.Yields place) is = tt
of_stream consumer_sequence message hears.Unreadable is = tt
of_stream consumer_sequence message hears.Gap is = tt
of_stream consumer_sequence message (hears.Beat last) is = is
of_stream consumer_sequence message hears.OtherStatus is = is
