-- A row that was passed over a link is the row of the table at what it met.
use Rattle.std.proofs.Common.{◌≡◌, ℕ, Bool, true, false, List, [], ◌∷◌, ◌++◌, drop, map, Option, Some, None, refl, sym, ap, ◌∙◌, subst}
use Rattle.std.specs.Prelude.{◌&&◌, codes, is_some, option_map, Ok, if◌then◌else◌}
use Rattle.js_base.specs.declared.message.Message.{Message}
use Rattle.js_json.specs.declared.consumer.info.Info.{Info}
use Rattle.js_json.specs.declared.pull.OrderedConfig as pull_config
use Rattle.js_link.specs.LinkView.{LinkView}
use Rattle.js_link.specs.Meets.{Meets}
use Rattle.js_link.specs.Wish.{message_of, row_input, reply_of, GoesAs}
use Rattle.js_link.specs.declared.wish.Wish.{Wish}
use Rattle.js_link.specs.declared.wish.Wish.TheVariants.{Nothing, OpensInbox, Watches, Requests}
use Rattle.js_link.specs.declared.wish.Met.{Met}
use Rattle.js_link.specs.declared.wish.Met.TheVariants.{Unasked}
use Rattle.js_link.specs.RowInput.{RowInput as Sends}
use Rattle.js_ordered_table.specs.declared.transitions.task.Inbox.{Inbox}
use Rattle.js_ordered_table.specs.declared.transitions.task.Held.{Held}
use Rattle.js_ordered_table.specs.declared.transitions.task.NextTasks.{NextTasks}
use Rattle.js_ordered_table.specs.declared.transitions.task.NextTasks.TheVariants as next
use Rattle.js_ordered_table.specs.declared.transitions.task.RowOutput.{RowOutput}
use Rattle.js_ordered_table.specs.declared.transitions.task.Task.{Task}
use Rattle.js_ordered_table.specs.declared.transitions.task.Task.TheVariants as task
use Rattle.js_ordered_table.specs.Tasks.{IsAnswered, Listens, StepsTo, answered_rows, at_moment, create_outputs, held_rows, next_rows, opening_to, requested, requesting, rows_of, subscribed, told_outputs}
use Rattle.js_ordered_stream.specs.declared.remaining_rows.Seen.{Seen}
use Rattle.js_ordered_stream.specs.declared.remaining_rows.Seen.TheVariants as sight
use Rattle.js_ordered_stream.specs.declared.rows.RowItem.{RowItem}
use Rattle.js_ordered_stream.specs.declared.rows.RowItem.TheVariants as hands
use Rattle.js_ordered_stream.specs.declared.rows.Stepped.{Stepped}
use Rattle.js_ordered_stream.specs.Rows.{IfAlone, IfLook, PassesRow, PassesRows, answer_in, arming, arrival_in, handed_list, has_message, hold_none, inbox_in, is_something, message_in, met_row, read_by, replied, seen_by, seen_met}
use Rattle.js_ordered_stream.specs.Polled.{is_bare, is_none_held, is_push}
use Rattle.js_pull.specs.Reader.{Answer, info_reply, reply_to}
use Rattle.js_pull.specs.declared.replies.InfoReply.{InfoReply}
use Rattle.js_ordered_table.specs.declared.answer.Change.{Change as CodeChange}
use Rattle.js_ordered_table.specs.declared.consumer.Consumer.{Consumer}
use Rattle.js_ordered_table.specs.declared.consumer.Opened.{Opened}
use Rattle.js_ordered_table.specs.declared.consumer.Phase.{Phase}
use Rattle.js_ordered_table.specs.declared.consumer.Phase.TheVariants.{Pulls, Pushes, Recreates, Idle, Ended, Exhausted}
use Rattle.js_ordered_table.specs.declared.consumer.Recreation.{Recreation}
use Rattle.js_ordered_table.specs.declared.consumer.ReplayInput.{ReplayInput}
use Rattle.js_ordered_table.specs.declared.consumer.Stage.{Stage}
use Rattle.js_ordered_table.specs.declared.consumer.Stage.TheVariants.{Between, Deleting, Creating, Waiting}
use Rattle.js_ordered_table.specs.declared.row.Arrival.{Arrival}
use Rattle.js_ordered_table.specs.declared.row.Row.{Row}
use Rattle.js_ordered_table.specs.declared.row.Row.TheVariants as row
use Rattle.js_ordered_table.specs.declared.run.Output.{Output}
use Rattle.js_ordered_table.specs.declared.setup.OrderedSetup.{OrderedSetup}
use Rattle.js_ordered_table.specs.declared.setup.OrderedSetup.TheVariants.{Pull, Push}
use Rattle.js_ordered_table.specs.Fold.{is_over}
use Rattle.js_ordered_table.specs.Invariant.{IsPull, IsPush}
use Rattle.js_ordered_table.specs.Passes.{change_shown, hearings}
use Rattle.js_ordered_table.specs.Recreation.{answered_row, ask_row, create_row, fail_row, held_in, stage_rows, start_row, succeed_pull, succeed_push, succeed_row, try_row}
use Rattle.js_ordered_table.specs.Consumer.{Change, Matter, Passed, at_phase, silent_row}
use Rattle.js_ordered_table.specs.Texts.{create_body, create_subject, delete_subject}
use Rattle.js_ordered_table.specs.Table.{event_row, row_at}
use Rattle.js_ordered_table.specs.Poll.{poll_wish_at}
use Rattle.js_ordered_table.specs.Walk.{handed}
use Rattle.js_ordered_table.proofs.Walk.{eqb_same}
use Rattle.js_ordered_table.specs.Wishes.{awaited, change_of, create_wish, dropped, matter_of, opened_dropped, succeed_wish}
use Rattle.js_ordered_stream.proofs.RowMet.{IsUntaken, answer_seen, any_seen, if_error, looked_as, message_seen, untaken, opened_other, dropped_other, awaited_other, moment_met, requesting_met, opening_met, no_request, no_inbox}

pub none_held : (held : List Message) → is_none_held held ≡ true → held ≡ []
none_held [] e = refl
none_held (message ∷ held) e = absurd (let h = e in cc)

pub and_right : (a b : Bool) → (a && b) ≡ true → b ≡ true
and_right true b e = e
and_right false b e = absurd (let h = e in cc)

abbrev done_by : RowItem → NextTasks → Stepped
done_by handed rest = record { handed = handed; looked = false; next = rest }

-- ---- a row that takes nothing

pub row_passes : (g : ReplayInput) (now : ℕ) (row : Row) (c d : Consumer) (met : Met) (passed : Passed) (outputs : List Output) (hand : RowItem) (rest : NextTasks) (done : Stepped) (v u : LinkView)
    → Meets (poll_wish_at g row c.phase) met v u → IsUntaken met → seen_by row met ≡ message_of met → met_row g now row met c ≡ passed
    → StepsTo (read_by None None) passed outputs d rest → handed outputs ≡ handed_list hand None → IfLook row (hold_none rest ≡ true) → done ≡ done_by hand rest
    → PassesRow g now row c d v u sight.Nothing (Ok done)
row_passes g now row c d met passed outputs hand rest done v u meets none sees is steps hands held to =
    subst (λ (x : Stepped). PassesRow g now row c d v u sight.Nothing (Ok x)) (sym to) (
      met,
      meets,
      none.is_open,
      record {
        consumer = steps.consumer ∙ ap (λ (p : Passed). p.consumer) (sym is);
        shown = ap (λ (p : Passed). handed p.outputs) is ∙ ap handed steps.outputs ∙ hands;
        next = steps.next ∙ ap (λ (p : Passed). p.next) (sym is);
        looked = refl;
        seen = ap (λ (o : Option Message). is_some o) (sym (sees ∙ none.message));
        message = tt;
        errors = if_error hand (None ≡ seen_by row met) (sym (sees ∙ none.message));
        held = held;
      },
    )

-- what a row tells is handed out
pub row_tells : (g : ReplayInput) (now : ℕ) (row : Row) (c d : Consumer) (met : Met) (passed : Passed) (told : RowOutput) (rest : NextTasks) (done : Stepped) (v u : LinkView)
    → Meets (poll_wish_at g row c.phase) met v u → IsUntaken met → seen_by row met ≡ message_of met → met_row g now row met c ≡ passed
    → StepsTo (read_by None None) passed (told_outputs told) d rest → handed_list done.handed None ≡ handed (told_outputs told)
    → IfLook row (hold_none rest ≡ true) → done ≡ record done { looked = false; next = rest }
    → PassesRow g now row c d v u sight.Nothing (Ok done)
row_tells g now row c d met passed told rest done v u meets none sees is steps hands held to =
    row_passes g now row c d met passed (told_outputs told) done.handed rest done v u meets none sees is steps (sym hands) held to

-- ---- a recreation starts

pub start_passes : (g : ReplayInput) (now : ℕ) (c d : Consumer) (met : Met) (told : RowOutput) (rest : NextTasks) (done : Stepped) (v u : LinkView)
    → Meets (dropped c.phase) met v u → StepsTo (read_by None None) (start_row g c) (told_outputs told) d rest
    → handed_list done.handed None ≡ handed (told_outputs told) → done ≡ record done { looked = false; next = rest }
    → PassesRow g now row.Start c d v u sight.Nothing (Ok done)
start_passes g now c d met told rest done v u meets steps hands to =
    row_tells g now row.Start c d met (start_row g c) told rest done v u meets (untaken (dropped c.phase) met v u (dropped_other c.phase) meets) refl refl steps hands tt to

-- ---- a try

pub try_passes : (g : ReplayInput) (now : ℕ) (r : Recreation) (c d : Consumer) (met : Met) (request : Option ℕ) (rest : NextTasks) (done : Stepped) (v u : LinkView)
    → Meets (Requests (delete_subject g r) (codes "{}")) met v u → GoesAs request met
    → StepsTo (read_by None None) (try_row g (requesting now request (row_input now met)) r (at_phase (Recreates r) c)) (requested (delete_subject g r) (codes "{}") request) d rest
    → done ≡ done_by hands.Nothing rest → PassesRow g now row.Try (at_phase (Recreates r) c) d v u sight.Nothing (Ok done)
try_passes g now r c d met request rest done v u meets goes steps to =
    row_passes g now row.Try (at_phase (Recreates r) c) d met (try_row g (requesting now request (row_input now met)) r (at_phase (Recreates r) c)) (requested (delete_subject g r) (codes "{}") request) hands.Nothing rest done v u meets
    (untaken (Requests (delete_subject g r) (codes "{}")) met v u tt meets) refl
    (ap (λ (p : Sends). try_row g p r (at_phase (Recreates r) c)) (sym (requesting_met now met request (delete_subject g r) (codes "{}") v u meets goes)))
    steps (no_request (delete_subject g r) (codes "{}") request) tt to

pub ask_passes : (g : ReplayInput) (now : ℕ) (r : Recreation) (c d : Consumer) (met : Met) (request : Option ℕ) (rest : NextTasks) (done : Stepped) (v u : LinkView)
    → Meets (Requests (create_subject g r) (create_body g r)) met v u → GoesAs request met
    → StepsTo (read_by None None) (ask_row g (requesting now request (row_input now met)) r (at_phase (Recreates r) c)) (requested (create_subject g r) (create_body g r) request) d rest
    → done ≡ done_by hands.Nothing rest → PassesRow g now row.Ask (at_phase (Recreates r) c) d v u sight.Nothing (Ok done)
ask_passes g now r c d met request rest done v u meets goes steps to =
    row_passes g now row.Ask (at_phase (Recreates r) c) d met (ask_row g (requesting now request (row_input now met)) r (at_phase (Recreates r) c)) (requested (create_subject g r) (create_body g r) request) hands.Nothing rest done v u meets
    (untaken (Requests (create_subject g r) (create_body g r)) met v u tt meets) refl
    (ap (λ (p : Sends). ask_row g p r (at_phase (Recreates r) c)) (sym (requesting_met now met request (create_subject g r) (create_body g r) v u meets goes)))
    steps (no_request (create_subject g r) (create_body g r) request) tt to

-- pull opens nothing before its create
pub create_passes : (g : ReplayInput) (now : ℕ) (setup : pull_config.OrderedConfig) (r : Recreation) (c d : Consumer) (rest : NextTasks) (done : Stepped) (v : LinkView) → g.setup ≡ Pull setup
    → StepsTo (read_by None None) (create_row g.setup (opening_to now None (row_input now Unasked)) r (at_phase (Recreates r) c)) (create_outputs g.setup None) d rest
    → done ≡ done_by hands.Nothing rest → PassesRow g now row.Create (at_phase (Recreates r) c) d v v sight.Nothing (Ok done)
create_passes g now setup r c d rest done v pulls steps to =
    row_passes g now row.Create (at_phase (Recreates r) c) d Unasked (create_row g.setup (opening_to now None (row_input now Unasked)) r (at_phase (Recreates r) c)) (create_outputs g.setup None) hands.Nothing rest done v v
    (subst (λ (s : OrderedSetup). Meets (create_wish s) Unasked v v) (sym pulls) refl)
    (record { message = refl; is_open = refl }) refl
    (subst (λ (s : OrderedSetup). create_row s (row_input now Unasked) r (at_phase (Recreates r) c) ≡ create_row s (opening_to now None (row_input now Unasked)) r (at_phase (Recreates r) c)) (sym pulls) refl)
    steps (subst (λ (s : OrderedSetup). handed (create_outputs s None) ≡ []) (sym pulls) refl) tt to

-- push opens its inbox before its create
pub create_push_passes : (g : ReplayInput) (now : ℕ) (r : Recreation) (c d : Consumer) (met : Met) (inbox : Option Inbox) (rest : NextTasks) (done : Stepped) (v u : LinkView) → IsPush g.setup
    → Meets OpensInbox met v u → inbox ≡ inbox_in met
    → StepsTo (read_by None None) (create_row g.setup (opening_to now inbox (row_input now met)) r (at_phase (Recreates r) c)) (create_outputs g.setup inbox) d rest
    → done ≡ done_by hands.Nothing rest → PassesRow g now row.Create (at_phase (Recreates r) c) d v u sight.Nothing (Ok done)
create_push_passes g now r c d met inbox rest done v u pushes meets opens steps to =
    row_passes g now row.Create (at_phase (Recreates r) c) d met (create_row g.setup (opening_to now inbox (row_input now met)) r (at_phase (Recreates r) c)) (create_outputs g.setup inbox) hands.Nothing rest done v u
    (wished g.setup pushes)
    (untaken OpensInbox met v u tt meets) refl
    (ap (λ (p : Sends). create_row g.setup p r (at_phase (Recreates r) c)) (sym (ap (λ (o : Option Inbox). opening_to now o (row_input now met)) opens ∙ opening_met now met v u meets)))
    steps (silent g.setup pushes) tt to
  where
    wished : (setup : OrderedSetup) → IsPush setup → Meets (create_wish setup) met v u
    wished (Pull setup) is = absurd is
    wished (Push setup) is = meets

    silent : (setup : OrderedSetup) → IsPush setup → handed (create_outputs setup inbox) ≡ []
    silent (Pull setup) is = absurd is
    silent (Push setup) is = no_inbox inbox

pub fail_passes : (g : ReplayInput) (now : ℕ) (r : Recreation) (c d : Consumer) (met : Met) (told : RowOutput) (rest : NextTasks) (done : Stepped) (v u : LinkView)
    → Meets (opened_dropped r.opened) met v u
    → StepsTo (read_by None None) (fail_row g (at_moment now (row_input now met)) r (at_phase (Recreates r) c)) (told_outputs told) d rest
    → handed_list done.handed None ≡ handed (told_outputs told) → done ≡ record done { looked = false; next = rest }
    → PassesRow g now row.Fail (at_phase (Recreates r) c) d v u sight.Nothing (Ok done)
fail_passes g now r c d met told rest done v u meets steps hands to =
    row_tells g now row.Fail (at_phase (Recreates r) c) d met (fail_row g (at_moment now (row_input now met)) r (at_phase (Recreates r) c)) told rest done v u meets
    (untaken (opened_dropped r.opened) met v u (opened_other r.opened) meets) refl
    (ap (λ (p : Sends). fail_row g p r (at_phase (Recreates r) c)) (sym (moment_met now met))) steps hands tt to

-- ---- an open recreation

abbrev replying : ℕ → Option (Option Message) → Option Answer
replying request reply = option_map (λ (message : Option Message). record { request = request; reply = message }) reply

replies : (request : ℕ) (reply : Option (Option Message)) → is_some reply ≡ is_some (reply_to request (replying request reply))
replies request None = refl
replies request (Some message) = ap (λ (b : Bool). is_some (if b then Some message else None)) (sym (eqb_same request))

met_answered : (stage : Stage) (met : Met) → IsAnswered (matter_of (awaited stage) met) stage (is_some (reply_of met))
met_answered Between met = tt
met_answered (Deleting request timeout) met = replies request (reply_of met)
met_answered (Creating request timeout) met = replies request (reply_of met)
met_answered (Waiting wait) met = tt

none_replied : (met : Met) (v u : LinkView) → Meets Nothing met v u → reply_of met ≡ None
none_replied Unasked v u m = refl
none_replied met v u m = absurd m

-- the answer that was met is kept for the row that reads it
met_reply : (stage : Stage) (met : Met) (v u : LinkView) → Meets (awaited stage) met v u → replying (replied stage) (reply_of met) ≡ (matter_of (awaited stage) met).answer
met_reply Between met v u m = ap (replying 0) (none_replied met v u m)
met_reply (Deleting request timeout) met v u m = refl
met_reply (Creating request timeout) met v u m = refl
met_reply (Waiting wait) met v u m = ap (replying 0) (none_replied met v u m)

task_same : (k : Change) (a : Option Answer) (one : Task) → rows_of (record { change = k; answer = a; arrival = None }) one ≡ rows_of (read_by a None) one
task_same k a task.Event = refl
task_same k a task.Start = refl
task_same k a task.Try = refl
task_same k a task.Create = refl
task_same k a task.Ask = refl
task_same k a task.Await = refl
task_same k a (task.Answered request) = refl
task_same k a task.Hold = refl
task_same k a (task.Succeed info) = refl
task_same k a task.Fail = refl
task_same k a task.CheckArrival = refl
task_same k a (task.Hear inbox) = refl
task_same k a (task.HearHeld held) = refl
task_same k a task.CheckSilence = refl
task_same k a task.Arm = refl
task_same k a (task.Read due) = refl

-- the change of the connection is read by no row that follows
next_same : (k : Change) (a : Option Answer) (rest : NextTasks) → next_rows (record { change = k; answer = a; arrival = None }) rest ≡ next_rows (read_by a None) rest
next_same k a next.Nothing = refl
next_same k a (next.One one) = task_same k a one
next_same k a (next.Two one second) = ap (λ (rows : List Row). rows ++ rows_of (record { change = k; answer = a; arrival = None }) second) (task_same k a one) ∙ ap (λ (rows : List Row). rows_of (read_by a None) one ++ rows) (task_same k a second)

stage_same : (g : ReplayInput) (p : Sends) (m : Matter) (a : Option Answer) (o : Option Arrival) (stage : Stage) → m.answer ≡ a → stage_rows g p (read_by a o) stage ≡ stage_rows g p m stage
stage_same g p m a o stage is = by_stage stage
  where
    by_stage : (stage : Stage) → stage_rows g p (read_by a o) stage ≡ stage_rows g p m stage
    by_stage Between = refl
    by_stage (Deleting request timeout) = ap (λ (x : Option Answer). stage_rows g p (read_by x o) (Deleting request timeout)) (sym is)
    by_stage (Creating request timeout) = ap (λ (x : Option Answer). stage_rows g p (read_by x o) (Creating request timeout)) (sym is)
    by_stage (Waiting wait) = refl

answered_same : (m : Matter) (a : Option Answer) (o : Option Arrival) (stage : Stage) (replied : Bool) → m.answer ≡ a → IsAnswered m stage replied → IsAnswered (read_by a o) stage replied
answered_same m a o Between replied is there = tt
answered_same m a o (Deleting request timeout) replied is there = there ∙ ap (λ (x : Option Answer). is_some (reply_to request x)) is
answered_same m a o (Creating request timeout) replied is there = there ∙ ap (λ (x : Option Answer). is_some (reply_to request x)) is
answered_same m a o (Waiting wait) replied is there = tt

pub await_passes : (g : ReplayInput) (now : ℕ) (r : Recreation) (c d : Consumer) (met : Met) (request : ℕ) (replied_is : Bool) (rest : NextTasks) (seen : Seen) (done : Stepped) (v u : LinkView)
    → Meets (awaited r.stage) met v u → replied_is ≡ is_some (reply_of met) → request ≡ replied r.stage
    → ((m : Matter) (p : Sends) → IsAnswered m r.stage replied_is → StepsTo m (silent_row (at_phase (Recreates r) c) (stage_rows g (at_moment now p) m r.stage)) [] d rest)
    → seen ≡ seen_met request met → done ≡ record { handed = hands.Nothing; looked = is_something seen; next = rest } → PassesRow g now row.Await (at_phase (Recreates r) c) d v u seen (Ok done)
await_passes g now r c d met request replied_is rest seen done v u meets there number steps looks to =
    let w : Wish = awaited r.stage in
    let m : Matter = matter_of w met in
    let a : Option Answer = answer_in seen in
    let o : Option Arrival = arrival_in seen in
    let same : m.answer ≡ a = sym (ap answer_in looks ∙ answer_seen request met ∙ ap (λ (n : ℕ). replying n (reply_of met)) number ∙ met_reply r.stage met v u meets) in
    let none : IsUntaken met = untaken w met v u (awaited_other r.stage) meets in
    let answers : IsAnswered (read_by a o) r.stage replied_is = subst (λ (b : Bool). IsAnswered (read_by a o) r.stage b) (sym there) (answered_same m a o r.stage (is_some (reply_of met)) same (met_answered r.stage met)) in
    let s = steps (read_by a o) (row_input now met) answers in
    subst (λ (x : Stepped). PassesRow g now row.Await (at_phase (Recreates r) c) d v u seen (Ok x)) (sym to) (
      met,
      meets,
      none.is_open,
      record {
        consumer = s.consumer;
        shown = refl;
        next = s.next ∙ stage_same g (at_moment now (row_input now met)) m a o r.stage same ∙ ap (λ (p : Sends). stage_rows g p m r.stage) (moment_met now met);
        looked = refl;
        seen = ap has_message looks ∙ any_seen request met;
        message = looked_as (message_in seen) (message_of met) (ap message_in looks ∙ message_seen request met);
        errors = tt;
        held = tt;
      },
    )

-- the answer to a create was read, of which the user may be told
pub answered_passes : (g : ReplayInput) (now : ℕ) (r : Recreation) (c d : Consumer) (request : ℕ) (a : Option Answer) (said : InfoReply) (told : RowOutput) (rest : NextTasks) (done : Stepped) (v : LinkView)
    → option_map info_reply (reply_to request a) ≡ Some said
    → StepsTo (read_by None None) (answered_row g said (at_phase (Recreates r) c)) (told_outputs told) d rest
    → handed_list done.handed None ≡ handed (told_outputs told) → done ≡ record done { looked = false; next = rest }
    → PassesRows g now (rows_of (read_by a None) (task.Answered request)) (at_phase (Recreates r) c) d v v sight.Nothing (Ok done)
answered_passes g now r c d request a said told rest done v reads steps hands to = by_reply (reply_to request a) reads
  where
    by_reply : (reply : Option (Option Message)) → option_map info_reply reply ≡ Some said → IfAlone (answered_rows reply) (λ (one : Row). PassesRow g now one (at_phase (Recreates r) c) d v v sight.Nothing (Ok done))
    by_reply None e = cc
    by_reply (Some message) e =
        let same : info_reply message ≡ said = cc in
        row_tells g now (row.Answered message) (at_phase (Recreates r) c) d Unasked (answered_row g said (at_phase (Recreates r) c)) told rest done v v refl (record { message = refl; is_open = refl }) refl
        (ap (λ (x : InfoReply). answered_row g x (at_phase (Recreates r) c)) same) steps hands tt to

-- pull reads its next inbox
pub succeed_passes : (g : ReplayInput) (now : ℕ) (info : Info) (r : Recreation) (c d : Consumer) (met : Met) (inbox : Option Inbox) (rest : NextTasks) (done : Stepped) (v u : LinkView) → IsPull g.setup
    → Meets OpensInbox met v u → inbox ≡ inbox_in met
    → StepsTo (read_by None None) (succeed_pull g (opening_to now inbox (row_input now met)) info (at_phase (Recreates r) c)) (subscribed inbox) d rest
    → done ≡ done_by hands.Nothing rest → PassesRow g now (row.Succeed info) (at_phase (Recreates r) c) d v u sight.Nothing (Ok done)
succeed_passes g now info r c d met inbox rest done v u pulls meets opens steps to =
    row_passes g now (row.Succeed info) (at_phase (Recreates r) c) d met (succeed_pull g (opening_to now inbox (row_input now met)) info (at_phase (Recreates r) c)) (subscribed inbox) hands.Nothing rest done v u
    (wished g.setup pulls)
    (untaken OpensInbox met v u tt meets) refl
    (passed g.setup pulls ∙ ap (λ (p : Sends). succeed_pull g p info (at_phase (Recreates r) c)) (sym (ap (λ (o : Option Inbox). opening_to now o (row_input now met)) opens ∙ opening_met now met v u meets)))
    steps (no_inbox inbox) tt to
  where
    wished : (setup : OrderedSetup) → IsPull setup → Meets (succeed_wish setup) met v u
    wished (Pull setup) is = meets
    wished (Push setup) is = absurd is

    passed : (setup : OrderedSetup) → IsPull setup → succeed_row setup g (row_input now met) info r (at_phase (Recreates r) c) ≡ succeed_pull g (row_input now met) info (at_phase (Recreates r) c)
    passed (Pull setup) is = refl
    passed (Push setup) is = absurd is

-- push listens to the inbox that it has opened, for which nothing is held
hearings_arm : (inbox : ℕ) (messages : List Message) → hearings inbox messages ++ row.Arm ∷ [] ≡ [] → ⊥
hearings_arm inbox [] e = cc
hearings_arm inbox (message ∷ messages) e = cc

arms_behind : (p : Sends) (c : Consumer) (setup : OrderedSetup) (opened : Option Opened) (held : Option Held) → is_bare setup opened ≡ true → held_rows held ≡ (succeed_push p opened c).next
    → next_rows (read_by None None) (arming held) ≡ (succeed_push p opened c).next
arms_behind p c setup None None bare is = refl
arms_behind p c setup None (Some held) bare is = absurd (hearings_arm held.inbox (drop held.place held.messages) is)
arms_behind p c setup (Some opened) held bare is = by_held held (is ∙ alone) ∙ sym alone
  where
    alone : (succeed_push p (Some opened) c).next ≡ row.Arm ∷ []
    alone = ap (λ (held : List Message). map (λ (message : Message). row.Hear (record { inbox = opened.inbox; message = message })) held ++ row.Arm ∷ [])
        (none_held opened.held (and_right (is_push setup) (is_none_held opened.held) bare))

    by_held : (held : Option Held) → held_rows held ≡ row.Arm ∷ [] → next_rows (read_by None None) (arming held) ≡ row.Arm ∷ []
    by_held None e = absurd (let h = e in cc)
    by_held (Some held) e = refl

pub succeed_push_passes : (g : ReplayInput) (now : ℕ) (info : Info) (r : Recreation) (c d : Consumer) (held : Option Held) (rest : NextTasks) (done : Stepped) (v : LinkView) → IsPush g.setup → is_bare g.setup r.opened ≡ true
    → ((p : Sends) → Listens (succeed_push (at_moment now p) r.opened (at_phase (Recreates r) c)) d held)
    → rest ≡ arming held → done ≡ done_by hands.Nothing rest → PassesRow g now (row.Succeed info) (at_phase (Recreates r) c) d v v sight.Nothing (Ok done)
succeed_push_passes g now info r c d held rest done v pushes bare steps is to =
    let p : Sends = row_input now Unasked in
    let s = steps p in
    row_passes g now (row.Succeed info) (at_phase (Recreates r) c) d Unasked (succeed_push p r.opened (at_phase (Recreates r) c)) [] hands.Nothing rest done v v
    (wished g.setup pushes)
    (record { message = refl; is_open = refl }) refl
    (passed g.setup pushes)
    (record { consumer = s.consumer; outputs = s.outputs; next = ap (next_rows (read_by None None)) is ∙ arms_behind p (at_phase (Recreates r) c) g.setup r.opened held bare s.next }) refl tt to
  where
    wished : (setup : OrderedSetup) → IsPush setup → Meets (succeed_wish setup) Unasked v v
    wished (Pull setup) is = absurd is
    wished (Push setup) is = refl

    passed : (setup : OrderedSetup) → IsPush setup → succeed_row setup g (row_input now Unasked) info r (at_phase (Recreates r) c) ≡ succeed_push (row_input now Unasked) r.opened (at_phase (Recreates r) c)
    passed (Pull setup) is = absurd is
    passed (Push setup) is = refl

-- a poll holds nothing
pub hold_passes : (g : ReplayInput) (now : ℕ) (c : Consumer) (done : Stepped) (v : LinkView) → done ≡ done_by hands.Nothing next.Nothing → PassesRow g now row.Hold c c v v sight.Nothing (Ok done)
hold_passes g now c done v to =
    row_passes g now row.Hold c c Unasked (silent_row c []) [] hands.Nothing next.Nothing done v v refl (record { message = refl; is_open = refl }) refl (stays c.phase refl) (record { consumer = refl; outputs = refl; next = refl }) refl tt to
  where
    same : (opened : Option Opened) → held_in None opened ≡ opened
    same None = refl
    same (Some opened) = refl

    stays : (phase : Phase) → phase ≡ c.phase → row_at g (row_input now Unasked) (matter_of Nothing Unasked) row.Hold phase c ≡ silent_row c []
    stays (Recreates r) is = ap (λ (o : Option Opened). silent_row (at_phase (Recreates (record r { opened = o })) c) []) (same r.opened) ∙ ap (λ (x : Phase). silent_row (at_phase x c) []) is
    stays (Pulls reader) is = refl
    stays (Pushes inbox heartbeat_timer) is = refl
    stays Idle is = refl
    stays Ended is = refl
    stays Exhausted is = refl

-- ---- a turn begins

event_watches : (g : ReplayInput) (phase : Phase) → is_over phase ≡ false → poll_wish_at g row.Event phase ≡ Watches
event_watches g (Pulls reader) going = refl
event_watches g (Pushes inbox heartbeat_timer) going = refl
event_watches g (Recreates r) going = refl
event_watches g Idle going = refl
event_watches g Ended going = absurd (never going)
  where
    never : true ≡ false → ⊥
    never e = cc
event_watches g Exhausted going = absurd (never going)
  where
    never : true ≡ false → ⊥
    never e = cc

pub event_passes : (g : ReplayInput) (now : ℕ) (c d : Consumer) (met : Met) (change : CodeChange) (told : RowOutput) (rest : NextTasks) (done : Stepped) (v u : LinkView)
    → is_over c.phase ≡ false → Meets Watches met v u → change_shown change ≡ change_of met
    → ((p : Sends) (m : Matter) → m.change ≡ change_shown change → StepsTo m (event_row g (at_moment now p) m c.phase c) (told_outputs told) d rest)
    → handed_list done.handed None ≡ handed (told_outputs told) → done ≡ record done { looked = false; next = rest }
    → PassesRow g now row.Event c d v u sight.Nothing (Ok done)
event_passes g now c d met change told rest done v u going meets shown steps hands to =
    let w : Wish = poll_wish_at g row.Event c.phase in
    let is : w ≡ Watches = event_watches g c.phase going in
    let s = steps (row_input now met) (matter_of Watches met) (sym shown) in
    row_tells g now row.Event c d met (event_row g (at_moment now (row_input now met)) (matter_of Watches met) c.phase c) told rest done v u
    (subst (λ (x : Wish). Meets x met v u) (sym is) meets) (untaken Watches met v u tt meets) refl
    (ap (λ (x : Wish). event_row g (row_input now met) (matter_of x met) c.phase c) is ∙ ap (λ (p : Sends). event_row g p (matter_of Watches met) c.phase c) (sym (moment_met now met)))
    (record { consumer = s.consumer; outputs = s.outputs; next = sym (next_same (change_of met) None rest) ∙ s.next }) hands tt to

-- ---- what the code asks is what the row asks

pub meets_as : (w x : Wish) (met : Met) (v u : LinkView) → w ≡ x → Meets w met v u → Meets x met v u
meets_as w x met v u is meets = subst (λ (y : Wish). Meets y met v u) is meets
