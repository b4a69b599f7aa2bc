-- A replay passes row after row, each with what its event gives: so it comes to what the fold comes to.
use Rattle.std.proofs.Common.{◌≡◌, ℕ, ◌+◌, ◌<◌, Bool, true, false, List, [], ◌∷◌, ◌++◌, drop, length, Option, Some, None, refl, sym, ap, ◌∙◌, subst, arith, append_assoc, append-nil, count_by, get_or}
use Rattle.std.proofs.lemmas.List.{drop_more, drop_all}
use Rattle.std.specs.Prelude.{◌≤◌, option_map, Result, Ok, IfOk}
use Rattle.js_base.specs.declared.message.Message.{Message}
use Rattle.js_json.specs.declared.consumer.info.Info.{Info}
use Rattle.js_link.specs.RowInput.{RowInput}
use Rattle.js_ordered_table.specs.declared.transitions.task.Heard.{Heard}
use Rattle.js_ordered_table.specs.declared.transitions.task.Heard.TheVariants as hears
use Rattle.js_ordered_table.specs.declared.transitions.task.Inbox.{Inbox}
use Rattle.js_ordered_table.specs.declared.transitions.task.NextTasks.{NextTasks}
use Rattle.js_ordered_table.specs.declared.transitions.task.NextTasks.TheVariants as next
use Rattle.js_ordered_table.specs.declared.transitions.task.Task.{Task}
use Rattle.js_ordered_table.specs.declared.transitions.task.RowOutput.{RowOutput}
use Rattle.js_ordered_table.specs.declared.transitions.task.RowOutput.TheVariants as tells
use Rattle.js_ordered.specs.Drive.{Leads, Passes, PassesTo, numbered, heard_first, left_rows, row_count}
use Rattle.js_ordered.specs.Give.{IsInbox, IsNumber, Sends, Subscribes}
use Rattle.js_ordered_table.specs.Tasks.{IsHeard, StepsTo, answered_rows, create_outputs, heard_outputs, heard_row, heard_rows, next_rows, opening_to, requested, requesting, rows_of, subscribed, told_outputs}
use Rattle.js_pull.specs.Reader.{info_reply}
use Rattle.js_pull.specs.declared.replies.InfoReply.{InfoReply}
use Rattle.js_ordered_table.specs.declared.consumer.Consumer.{Consumer}
use Rattle.js_ordered_table.specs.declared.consumer.ReplayInput.{ReplayInput}
use Rattle.js_ordered_table.specs.declared.consumer.Phase.{Phase}
use Rattle.js_ordered_table.specs.declared.consumer.Phase.TheVariants.{Pulls, Pushes, Recreates, Idle, Ended, Exhausted}
use Rattle.js_ordered_table.specs.declared.consumer.Recreation.{Recreation}
use Rattle.js_ordered_table.specs.declared.row.Row.{Row}
use Rattle.js_ordered_table.specs.declared.row.Row.TheVariants as row
use Rattle.js_ordered_table.specs.declared.run.Output.{Output}
use Rattle.js_ordered_table.specs.declared.setup.OrderedSetup.{OrderedSetup}
use Rattle.js_ordered_table.specs.declared.setup.OrderedSetup.TheVariants.{Pull, Push}
use Rattle.js_ordered.specs.declared.event_context.EventContext.{EventContext}
use Rattle.js_ordered_table.specs.declared.replay_state.ReplayState.{ReplayState}
use Rattle.js_ordered_table.specs.Fold.{Ran, after, and_then, is_over, is_request, is_subscribe, pass_each, passing}
use Rattle.js_ordered_table.specs.Invariant.{IsPull, IsPush}
use Rattle.js_ordered_table.specs.Passes.{at, from, heard, hearings, holding, listens_to, ran}
use Rattle.js_ordered_table.specs.Arrivals.{armed, beat_answer, beat_subject, push_kind, told}
use Rattle.js_ordered_table.specs.Recreation.{answered_row, create_row, start_row, succeed_pull, succeed_push, succeed_row}
use Rattle.js_ordered_table.specs.Consumer.{Matter, Passed, silent_row, at_phase}
use Rattle.js_ordered_table.specs.Texts.{inbox_subject}
use Rattle.js_ordered_table.specs.Table.{event_row, pass, row_at}
use Rattle.js_ordered.proofs.RowRuns.{no_more, ran_from}
use Rattle.js_ordered.proofs.RowCounts.{counts_from, counts_more}
use Rattle.js_ordered_table.proofs.PassedRows.{hears_as, hears_here, hears_nowhere}

-- ---- one row

joined : (earlier outputs : List Output) (r : Ran) → and_then earlier (and_then outputs r) ≡ and_then (earlier ++ outputs) r
joined earlier outputs r = ap (λ (o : List Output). record { state = r.state; outputs = o }) (sym (append_assoc earlier outputs r.outputs))

-- a row that was passed with what its event gave
pub leads_by : (g : ReplayInput) (now : ℕ) (m : Matter) (one : Row) (w u : ReplayState) (passed : Passed) (outputs earlier later : List Output) (d : Consumer) (rest : NextTasks)
    → pass g (passing g now w) m one w.consumer ≡ passed → StepsTo m passed outputs d rest
    → later ≡ earlier ++ outputs → u ≡ record (numbered outputs w) { consumer = d }
    → Passes g now m (one ∷ []) w earlier (next_rows m rest) u later
unfolding from
leads_by g now m one w u passed outputs earlier later d rest is steps put to =
    let onto : List Output → List Row → ReplayState → Ran = λ o rows v. and_then o (pass_each (ran g now m) rows v) in
    let there : after w passed ≡ u =
    ap (λ (o : List Output). record (numbered o w) { consumer = passed.consumer }) steps.outputs
    ∙ ap (λ (c : Consumer). record (numbered outputs w) { consumer = c }) (sym steps.consumer) ∙ sym to in
    record {
      leads = ap (λ (r : Ran). and_then earlier r) (no_more (ran g now m one w) ∙ ran_from g now m one w passed is)
          ∙ joined earlier passed.outputs (pass_each (ran g now m) passed.next (after w passed))
          ∙ ap (λ (o : List Output). onto (earlier ++ o) passed.next (after w passed)) steps.outputs
          ∙ ap (λ (o : List Output). onto o passed.next (after w passed)) (sym put)
          ∙ ap (λ (rows : List Row). onto later rows (after w passed)) (sym steps.next)
          ∙ ap (λ (v : ReplayState). onto later (next_rows m rest) v) there;
      fewer = counts_from g now m one w passed is
          ∙ ap (λ (rows : List Row). 1 + row_count g now m rows (after w passed)) (sym steps.next)
          ∙ ap (λ (v : ReplayState). 1 + row_count g now m (next_rows m rest) v) there;
    }

-- where the phase is known
pub leads_at : (g : ReplayInput) (now : ℕ) (m : Matter) (one : Row) (phase : Phase) (w u : ReplayState) (p : RowInput) (outputs earlier later : List Output) (d : Consumer) (rest : NextTasks)
    → passing g now w ≡ p → StepsTo m (row_at g p m one phase (at_phase phase w.consumer)) outputs d rest
    → later ≡ earlier ++ outputs → u ≡ record (numbered outputs w) { consumer = d }
    → Passes g now m (one ∷ []) (at phase w) earlier (next_rows m rest) u later
leads_at g now m one phase w u p outputs earlier later d rest is steps put to =
    leads_by g now m one (at phase w) u (row_at g p m one phase (at_phase phase w.consumer)) outputs earlier later d rest
    (ap (λ (q : RowInput). row_at g q m one phase (at_phase phase w.consumer)) is) steps put to

-- nothing is numbered
pub unnumbered : (w : ReplayState) (d : Consumer) (outputs : List Output) → count_by is_request outputs ≡ 0 → count_by is_subscribe outputs ≡ 0
    → record w { consumer = d } ≡ record (numbered outputs w) { consumer = d }
unnumbered w d outputs none neither =
    let requests_sent : w.requests_sent ≡ w.requests_sent + count_by is_request outputs = omega arith in
    let inboxes_opened : w.inboxes_opened ≡ w.inboxes_opened + count_by is_subscribe outputs = omega arith in
    ap (λ (n : ℕ). record w { consumer = d; requests_sent = n }) requests_sent
    ∙ ap (λ (n : ℕ). record w { consumer = d; requests_sent = w.requests_sent + count_by is_request outputs; inboxes_opened = n }) inboxes_opened

no_request : (told : RowOutput) → count_by is_request (told_outputs told) ≡ 0
no_request tells.Nothing = refl
no_request (tells.Recreates recreation_count start) = refl
no_request (tells.Tells kind) = refl

no_inbox : (told : RowOutput) → count_by is_subscribe (told_outputs told) ≡ 0
no_inbox tells.Nothing = refl
no_inbox (tells.Recreates recreation_count start) = refl
no_inbox (tells.Tells kind) = refl

pub told_unnumbered : (w : ReplayState) (d : Consumer) (told : RowOutput) → record w { consumer = d } ≡ record (numbered (told_outputs told) w) { consumer = d }
told_unnumbered w d told = unnumbered w d (told_outputs told) (no_request told) (no_inbox told)

pub quiet_unnumbered : (w : ReplayState) (d : Consumer) → record w { consumer = d } ≡ record (numbered [] w) { consumer = d }
quiet_unnumbered w d = unnumbered w d [] refl refl

beat_request : (up : Bool) (reply : Option (List ℕ)) → count_by is_request (beat_answer up reply) ≡ 0
beat_request up None = refl
beat_request true (Some reply) = refl
beat_request false (Some reply) = refl

beat_inbox : (up : Bool) (reply : Option (List ℕ)) → count_by is_subscribe (beat_answer up reply) ≡ 0
beat_inbox up None = refl
beat_inbox true (Some reply) = refl
beat_inbox false (Some reply) = refl

heard_request : (stalled up : Bool) (message : Message) (heard : Heard) → count_by is_request (heard_outputs stalled up message heard) ≡ 0
heard_request stalled up message (hears.Yields place) = refl
heard_request stalled up message hears.Unreadable = refl
heard_request stalled up message hears.Gap = refl
heard_request stalled up message (hears.Beat last) = beat_request up (beat_subject stalled message)
heard_request stalled up message hears.OtherStatus = refl

heard_inbox : (stalled up : Bool) (message : Message) (heard : Heard) → count_by is_subscribe (heard_outputs stalled up message heard) ≡ 0
heard_inbox stalled up message (hears.Yields place) = refl
heard_inbox stalled up message hears.Unreadable = refl
heard_inbox stalled up message hears.Gap = refl
heard_inbox stalled up message (hears.Beat last) = beat_inbox up (beat_subject stalled message)
heard_inbox stalled up message hears.OtherStatus = refl

pub heard_unnumbered : (w : ReplayState) (d : Consumer) (stalled up : Bool) (message : Message) (heard : Heard)
    → record w { consumer = d } ≡ record (numbered (heard_outputs stalled up message heard) w) { consumer = d }
heard_unnumbered w d stalled up message heard = unnumbered w d (heard_outputs stalled up message heard) (heard_request stalled up message heard) (heard_inbox stalled up message heard)

-- ---- a send

abbrev pub with_request : RowInput → Bool → ℕ → RowInput
with_request p up request = record p { up = up; request = request }

pub request_is : (g : ReplayInput) (now : ℕ) (w : ReplayState) (number : Option ℕ) → IsNumber w.link_up w.requests_sent number → passing g now w ≡ requesting now number (passing g now w)
request_is g now w None refused = ap (λ (up : Bool). with_request (passing g now w) up (w.requests_sent + 1)) refused
request_is g now w (Some number) (up, is) =
    ap (λ (b : Bool). with_request (passing g now w) b (w.requests_sent + 1)) up ∙ ap (λ (n : ℕ). with_request (passing g now w) true n) (sym is)

pub inbox_is : (g : ReplayInput) (now : ℕ) (w : ReplayState) (inbox : Option Inbox) → IsInbox w.link_up w.inboxes_opened (inbox_subject g w.inboxes_opened) inbox → passing g now w ≡ opening_to now inbox (passing g now w)
inbox_is g now w None refused = ap (λ (up : Bool). with_request (passing g now w) up (w.requests_sent + 1)) refused
inbox_is g now w (Some inbox) (up, is) =
    ap (λ (b : Bool). with_request (passing g now w) b (w.requests_sent + 1)) up
    ∙ ap (λ (i : Inbox). record (passing g now w) { up = true; inbox = i.number; subject = i.subject }) (sym is)

-- ---- rows in order

-- some rows, and then others
each_append : (one : Row → ReplayState → Ran) (rows more : List Row) (w : ReplayState)
    → pass_each one (rows ++ more) w ≡ (let first = pass_each one rows w in and_then first.outputs (pass_each one more first.state))
each_append one [] more w = refl
each_append one (next ∷ rows) more w =
    let first : Ran = one next w in
    let some : Ran = pass_each one rows first.state in
    ap (λ (r : Ran). and_then first.outputs r) (each_append one rows more first.state) ∙ joined first.outputs some.outputs (pass_each one more some.state)

abbrev onward : (Row → ReplayState → Ran) → List Row → Ran → Ran
onward one more r = and_then r.outputs (pass_each one more r.state)

after_rows : (one : Row → ReplayState → Ran) (rows more : List Row) (w : ReplayState) (earlier : List Output)
    → and_then earlier (pass_each one (rows ++ more) w) ≡ onward one more (and_then earlier (pass_each one rows w))
after_rows one rows more w earlier =
    let first : Ran = pass_each one rows w in
    ap (λ (r : Ran). and_then earlier r) (each_append one rows more w) ∙ joined earlier first.outputs (pass_each one more first.state)

-- with more rows behind
pub leads_more : (g : ReplayInput) (now : ℕ) (m : Matter) (rows rest more : List Row) (w u : ReplayState) (earlier later : List Output)
    → Leads g now m rows w earlier rest u later → Leads g now m (rows ++ more) w earlier (rest ++ more) u later
leads_more g now m rows rest more w u earlier later leads =
    after_rows (ran g now m) rows more w earlier ∙ ap (onward (ran g now m) more) leads ∙ sym (after_rows (ran g now m) rest more u later)

-- the first task lies last
pub left_first : (m : Matter) (tasks : List Task) (one : Task) → left_rows m (tasks ++ one ∷ []) ≡ rows_of m one ++ left_rows m tasks
left_first m [] one = sym (append-nil (rows_of m one))
left_first m (x ∷ tasks) one =
    ap (λ (rows : List Row). rows ++ rows_of m x) (left_first m tasks one) ∙ append_assoc (rows_of m one) (left_rows m tasks) (rows_of m x)

-- a task was passed: its first row, what is left of it, and what is left besides
pub leads_on : (g : ReplayInput) (now : ℕ) (m : Matter) (one : Task) (first : List Row) (left rest : NextTasks) (tasks middle after : List Task) (w u : ReplayState) (earlier later : List Output)
    → Passes g now m first w earlier (next_rows m rest) u later → rows_of m one ≡ first ++ next_rows m left
    → left_rows m middle ≡ next_rows m left ++ left_rows m tasks → left_rows m after ≡ next_rows m rest ++ left_rows m middle
    → Leads g now m (left_rows m (tasks ++ one ∷ [])) w earlier (left_rows m after) u later
leads_on g now m one first left rest tasks middle after w u earlier later leads is between last =
    let all : left_rows m (tasks ++ one ∷ []) ≡ first ++ left_rows m middle =
    left_first m tasks one ∙ ap (λ (rows : List Row). rows ++ left_rows m tasks) is ∙ append_assoc first (next_rows m left) (left_rows m tasks)
    ∙ ap (λ (rows : List Row). first ++ rows) (sym between) in
    ap (λ (rows : List Row). and_then earlier (pass_each (ran g now m) rows w)) all
    ∙ leads_more g now m first (next_rows m rest) (left_rows m middle) w u earlier later leads.leads
    ∙ ap (λ (rows : List Row). and_then later (pass_each (ran g now m) rows u)) (sym last)

-- and so fewer rows are left
pub fewer_on : (g : ReplayInput) (now : ℕ) (m : Matter) (one : Task) (first : List Row) (left rest : NextTasks) (tasks middle after : List Task) (w u : ReplayState) (earlier later : List Output)
    → Passes g now m first w earlier (next_rows m rest) u later → rows_of m one ≡ first ++ next_rows m left
    → left_rows m middle ≡ next_rows m left ++ left_rows m tasks → left_rows m after ≡ next_rows m rest ++ left_rows m middle
    → row_count g now m (left_rows m (tasks ++ one ∷ [])) w ≡ length first + row_count g now m (left_rows m after) u
fewer_on g now m one first left rest tasks middle after w u earlier later passes is between last =
    let all : left_rows m (tasks ++ one ∷ []) ≡ first ++ left_rows m middle =
    left_first m tasks one ∙ ap (λ (rows : List Row). rows ++ left_rows m tasks) is ∙ append_assoc first (next_rows m left) (left_rows m tasks)
    ∙ ap (λ (rows : List Row). first ++ rows) (sym between) in
    ap (λ (rows : List Row). row_count g now m rows w) all
    ∙ counts_more g now m first (next_rows m rest) (left_rows m middle) w u earlier later (length first) passes.leads passes.fewer
    ∙ ap (λ (rows : List Row). length first + row_count g now m rows u) (sym last)

-- ---- what was held

heard_rest : (inbox : ℕ) (messages rest : List Message) (message : Message) → messages ≡ message ∷ rest → hearings inbox messages ≡ heard_first inbox messages ++ hearings inbox rest
heard_rest inbox messages rest message is =
    ap (hearings inbox) is ∙ sym (ap (λ (ms : List Message). heard_first inbox ms ++ hearings inbox rest) is)

-- one is heard after the other
pub held_goes_on : (inbox : ℕ) (messages : List Message) (place : ℕ) → place < length messages
    → hearings inbox (drop place messages) ≡ heard_first inbox (drop place messages) ++ hearings inbox (drop (place + 1) messages)
held_goes_on inbox [] place below =
    let none : drop place [] ≡ [] = drop_all place [] (omega arith) in
    let more : drop (place + 1) [] ≡ [] = drop_all (place + 1) [] (omega arith) in
    ap (hearings inbox) none
    ∙ sym (ap (λ (ms : List Message). heard_first inbox ms ++ hearings inbox (drop (place + 1) [])) none ∙ ap (hearings inbox) more)
held_goes_on inbox (x ∷ xs) place below =
    heard_rest inbox (drop place (x ∷ xs)) (drop (place + 1) (x ∷ xs)) (get_or (x ∷ xs) place x) (drop_more (x ∷ xs) place x below)

pub held_ends : (inbox : ℕ) (messages : List Message) (place : ℕ) → length messages ≤ place
    → hearings inbox (drop place messages) ≡ heard_first inbox (drop place messages) ++ []
held_ends inbox messages place over =
    let none : drop place messages ≡ [] = drop_all place messages over in
    ap (hearings inbox) none ∙ sym (ap (λ (ms : List Message). heard_first inbox ms ++ []) none)

-- the first of them
pub held_first : (inbox : ℕ) (messages : List Message) (place : ℕ) (message : Message) → place < length messages → message ≡ get_or messages place message
    → heard_first inbox (drop place messages) ≡ row.Hear (record { inbox = inbox; message = message }) ∷ []
held_first inbox messages place message below is =
    ap (heard_first inbox) (drop_more messages place message below) ∙ ap (λ (x : Message). row.Hear (record { inbox = inbox; message = x }) ∷ []) (sym is)

pub idle_row : (g : ReplayInput) (now : ℕ) (m : Matter) (one : Row) (w u : ReplayState) (outputs : List Output) (phase : Phase) → w.consumer.phase ≡ phase → u ≡ at phase w
    → row_at g (passing g now w) m one phase w.consumer ≡ silent_row w.consumer [] → Passes g now m (one ∷ []) w outputs [] u outputs
idle_row g now m one w u outputs phase is to none =
    let same : u ≡ w = to ∙ ap (λ (q : Phase). at q w) (sym is) in
    leads_by g now m one w u (silent_row w.consumer []) [] outputs outputs w.consumer next.Nothing
    (ap (λ (q : Phase). row_at g (passing g now w) m one q w.consumer) is ∙ none) (record { consumer = refl; outputs = refl; next = refl })
    (sym (append-nil outputs)) (same ∙ quiet_unnumbered w w.consumer)

-- ---- what is known of a call

-- a call that went well
pub ok_holds : {T E : Type 0} (P : T → Type 0) (result : Result T E) (value : T) → result ≡ Ok value → IfOk result P → P value
ok_holds {T} {E} P result value is held = subst (λ (r : Result T E). IfOk r P) is held

-- a row that sends a request
pub leads_sent : (g : ReplayInput) (now : ℕ) (m : Matter) (one : Row) (r : Recreation) (w u : ReplayState) (subject payload : List ℕ) (number : Option ℕ) (requests_sent' : ℕ) (earlier later : List Output) (d : Consumer) (rest : NextTasks)
    → Sends w.link_up w.requests_sent requests_sent' subject payload earlier later number
    → StepsTo m (row_at g (requesting now number (passing g now w)) m one (Recreates r) (at_phase (Recreates r) w.consumer)) (requested subject payload number) d rest
    → u ≡ record w { consumer = d; requests_sent = requests_sent' }
    → Passes g now m (one ∷ []) (at (Recreates r) w) earlier (next_rows m rest) u later
leads_sent g now m one r w u subject payload number requests_sent' earlier later d rest sends steps to =
    leads_at g now m one (Recreates r) w u (requesting now number (passing g now w)) (requested subject payload number) earlier later d rest
    (request_is g now w number sends.number) steps sends.outputs
    (to ∙ ap (λ (n : ℕ). record w { consumer = d; requests_sent = n }) sends.requests_sent
    ∙ ap (λ (n : ℕ). record w { consumer = d; requests_sent = w.requests_sent + count_by is_request (requested subject payload number); inboxes_opened = n }) (inboxes_opened number))
  where
    inboxes_opened : (number : Option ℕ) → w.inboxes_opened ≡ w.inboxes_opened + count_by is_subscribe (requested subject payload number)
    inboxes_opened None = omega arith
    inboxes_opened (Some n) = omega arith

pub no_made : (subject payload : List ℕ) (number : Option ℕ) (n : ℕ) → n ≡ n + count_by is_subscribe (requested subject payload number)
no_made subject payload None n = omega arith
no_made subject payload (Some number) n = omega arith

-- a row that opens an inbox
pub leads_opened : (g : ReplayInput) (now : ℕ) (m : Matter) (one : Row) (r : Recreation) (w u : ReplayState) (inbox : Option Inbox) (inboxes_opened' : ℕ) (earlier later : List Output) (d : Consumer) (rest : NextTasks)
    → Subscribes w.link_up w.inboxes_opened inboxes_opened' (inbox_subject g w.inboxes_opened) earlier later inbox
    → StepsTo m (row_at g (opening_to now inbox (passing g now w)) m one (Recreates r) (at_phase (Recreates r) w.consumer)) (subscribed inbox) d rest
    → u ≡ record w { consumer = d; inboxes_opened = inboxes_opened' }
    → Passes g now m (one ∷ []) (at (Recreates r) w) earlier (next_rows m rest) u later
leads_opened g now m one r w u inbox inboxes_opened' earlier later d rest opens steps to =
    leads_at g now m one (Recreates r) w u (opening_to now inbox (passing g now w)) (subscribed inbox) earlier later d rest
    (inbox_is g now w inbox opens.inbox) steps opens.outputs
    (to ∙ ap (λ (n : ℕ). record w { consumer = d; inboxes_opened = n }) opens.inboxes_opened
    ∙ ap (λ (n : ℕ). record w { consumer = d; requests_sent = n; inboxes_opened = w.inboxes_opened + count_by is_subscribe (subscribed inbox) }) (requests_sent inbox))
  where
    requests_sent : (inbox : Option Inbox) → w.requests_sent ≡ w.requests_sent + count_by is_request (subscribed inbox)
    requests_sent None = omega arith
    requests_sent (Some i) = omega arith

-- a row of a recreation that tells something
pub leads_told : (g : ReplayInput) (now : ℕ) (m : Matter) (one : Row) (phase : Phase) (w u : ReplayState) (told : RowOutput) (earlier later : List Output) (d : Consumer) (rest : NextTasks)
    → StepsTo m (row_at g (passing g now w) m one phase (at_phase phase w.consumer)) (told_outputs told) d rest
    → later ≡ earlier ++ told_outputs told → u ≡ record w { consumer = d }
    → Passes g now m (one ∷ []) (at phase w) earlier (next_rows m rest) u later
leads_told g now m one phase w u told earlier later d rest steps put to =
    leads_at g now m one phase w u (passing g now w) (told_outputs told) earlier later d rest refl steps put (to ∙ told_unnumbered w d told)

-- and one that puts nothing out
pub leads_quietly : (g : ReplayInput) (now : ℕ) (m : Matter) (one : Row) (phase : Phase) (w u : ReplayState) (outputs : List Output) (d : Consumer) (rest : NextTasks)
    → StepsTo m (row_at g (passing g now w) m one phase (at_phase phase w.consumer)) [] d rest → u ≡ record w { consumer = d }
    → Passes g now m (one ∷ []) (at phase w) outputs (next_rows m rest) u outputs
leads_quietly g now m one phase w u outputs d rest steps to = leads_told g now m one phase w u tells.Nothing outputs outputs d rest steps (sym (append-nil outputs)) to

-- the same where the consumer's phase is known
pub told_here : (g : ReplayInput) (now : ℕ) (m : Matter) (one : Row) (phase : Phase) (w u : ReplayState) (told : RowOutput) (earlier later : List Output) (d : Consumer) (rest : NextTasks) → w.consumer.phase ≡ phase
    → StepsTo m (row_at g (passing g now w) m one phase (at_phase phase w.consumer)) (told_outputs told) d rest
    → later ≡ earlier ++ told_outputs told → u ≡ record w { consumer = d }
    → Passes g now m (one ∷ []) w earlier (next_rows m rest) u later
told_here g now m one phase w u told earlier later d rest is steps put to =
    subst (λ (q : Phase). Passes g now m (one ∷ []) (at q w) earlier (next_rows m rest) u later) (sym is)
    (leads_told g now m one phase w u told earlier later d rest steps put to)

-- an answer that was read
pub reply_read : (g : ReplayInput) (now : ℕ) (m : Matter) (reply : Option Message) (r : Recreation) (w u : ReplayState) (said : InfoReply) (told : RowOutput) (earlier later : List Output) (d : Consumer) (rest : NextTasks)
    → said ≡ info_reply reply
    → StepsTo m (answered_row g said (at_phase (Recreates r) w.consumer)) (told_outputs told) d rest
    → later ≡ earlier ++ told_outputs told → u ≡ record w { consumer = d }
    → Passes g now m (row.Answered reply ∷ []) (at (Recreates r) w) earlier (next_rows m rest) u later
reply_read g now m reply r w u said told earlier later d rest is steps put to =
    leads_told g now m (row.Answered reply) (Recreates r) w u told earlier later d rest
    (subst (λ (x : InfoReply). StepsTo m (answered_row g x (at_phase (Recreates r) w.consumer)) (told_outputs told) d rest) is steps) put to

-- where it came
pub reply_came : (g : ReplayInput) (now : ℕ) (m : Matter) (reply : Option (Option Message)) (w u : ReplayState) (said : InfoReply) (earlier later : List Output) (rest : List Row)
    → Some said ≡ option_map info_reply reply
    → ((message : Option Message) → said ≡ info_reply message → Passes g now m (row.Answered message ∷ []) w earlier rest u later)
    → Passes g now m (answered_rows reply) w earlier rest u later
reply_came g now m None w u said earlier later rest is passes = cc
reply_came g now m (Some message) w u said earlier later rest is passes =
    let told : said ≡ info_reply message = cc in
    passes message told

-- a message that was heard, where stalled consumers are answered by the option
pub hears_on : (g : ReplayInput) (now : ℕ) (m : Matter) (inbox : ℕ) (message : Message) (heard : Heard) (w u : ReplayState) (earlier later : List Output) (d : Consumer) (rest : NextTasks)
    → listens_to inbox w.consumer.phase ≡ true → IsHeard w.consumer.core.consumer_sequence message heard
    → StepsTo m (heard_row g.settings.resilience.answers_stalled (passing g now w) message heard (at_phase (Pushes inbox (armed now)) w.consumer)) (heard_outputs g.settings.resilience.answers_stalled w.link_up message heard) d rest
    → later ≡ earlier ++ heard_outputs g.settings.resilience.answers_stalled w.link_up message heard → u ≡ record w { consumer = d }
    → Passes g now m (row.Hear (record { inbox = inbox; message = message }) ∷ []) w earlier (next_rows m rest) u later
hears_on g now m inbox message heard w u earlier later d rest here is steps put to =
    let stalled : Bool = g.settings.resilience.answers_stalled in
    leads_by g now m (row.Hear (record { inbox = inbox; message = message })) w u (heard_row stalled (passing g now w) message heard (at_phase (Pushes inbox (armed now)) w.consumer)) (heard_outputs stalled w.link_up message heard) earlier later d rest
    (hears_here g (passing g now w) m inbox message w.consumer.phase w.consumer here
    ∙ hears_as stalled (passing g now w) message (push_kind message) heard (at_phase (Pushes inbox (armed now)) w.consumer) is)
    steps put (to ∙ heard_unnumbered w d stalled w.link_up message heard)

pub heard_elsewhere : (g : ReplayInput) (now : ℕ) (m : Matter) (inbox : ℕ) (message : Message) (w : ReplayState) (outputs : List Output) → listens_to inbox w.consumer.phase ≡ false
    → Passes g now m (row.Hear (record { inbox = inbox; message = message }) ∷ []) w outputs [] w outputs
heard_elsewhere g now m inbox message w outputs other =
    leads_by g now m (row.Hear (record { inbox = inbox; message = message })) w w (silent_row w.consumer []) [] outputs outputs w.consumer next.Nothing
    (hears_nowhere g (passing g now w) m inbox message w.consumer.phase w.consumer other) (record { consumer = refl; outputs = refl; next = refl })
    (sym (append-nil outputs)) (quiet_unnumbered w w.consumer)

-- an event of a consumer that has ended
pub event_over : (g : ReplayInput) (now : ℕ) (m : Matter) (w : ReplayState) (outputs : List Output) → is_over w.consumer.phase ≡ true → Passes g now m (row.Event ∷ []) w outputs [] w outputs
event_over g now m w outputs over =
    leads_by g now m row.Event w w (silent_row w.consumer []) [] outputs outputs w.consumer next.Nothing (none w.consumer.phase over) (record { consumer = refl; outputs = refl; next = refl })
    (sym (append-nil outputs)) (quiet_unnumbered w w.consumer)
  where
    none : (phase : Phase) → is_over phase ≡ true → event_row g (passing g now w) m phase w.consumer ≡ silent_row w.consumer []
    none Ended e = refl
    none Exhausted e = refl
    none (Pulls reader) e = cc
    none (Pushes inbox heartbeat_timer) e = cc
    none (Recreates r) e = cc
    none Idle e = cc

-- an event
pub event_passed : (g : ReplayInput) (now : ℕ) (m : Matter) (w u : ReplayState) (told : RowOutput) (earlier later : List Output) (d : Consumer) (rest : NextTasks)
    → StepsTo m (event_row g (passing g now w) m w.consumer.phase w.consumer) (told_outputs told) d rest
    → later ≡ earlier ++ told_outputs told → u ≡ record w { consumer = d }
    → Passes g now m (row.Event ∷ []) w earlier (next_rows m rest) u later
event_passed g now m w u told earlier later d rest steps put to =
    leads_by g now m row.Event w u (event_row g (passing g now w) m w.consumer.phase w.consumer) (told_outputs told) earlier later d rest refl steps put (to ∙ told_unnumbered w d told)

-- a row that begins wherever the consumer is
pub starts : (g : ReplayInput) (now : ℕ) (m : Matter) (w u : ReplayState) (told : RowOutput) (earlier later : List Output) (d : Consumer) (rest : NextTasks)
    → StepsTo m (start_row g w.consumer) (told_outputs told) d rest
    → later ≡ earlier ++ told_outputs told → u ≡ record w { consumer = d }
    → Passes g now m (row.Start ∷ []) w earlier (next_rows m rest) u later
starts g now m w u told earlier later d rest steps put to =
    leads_by g now m row.Start w u (start_row g w.consumer) (told_outputs told) earlier later d rest refl steps put (to ∙ told_unnumbered w d told)

holds : (g : ReplayInput) (p : RowInput) (m : Matter) (phase : Phase) (c : Consumer) → row_at g p m row.Hold phase (at_phase phase c) ≡ silent_row (at_phase (holding m.arrival phase) c) []
holds g p m (Pulls reader) c = refl
holds g p m (Pushes inbox heartbeat_timer) c = refl
holds g p m (Recreates r) c = refl
holds g p m Idle c = refl
holds g p m Ended c = refl
holds g p m Exhausted c = refl

-- what arrives is held
pub holds_on : (g : ReplayInput) (now : ℕ) (m : Matter) (w u : ReplayState) (outputs : List Output) → u ≡ at (holding m.arrival w.consumer.phase) w → Passes g now m (row.Hold ∷ []) w outputs [] u outputs
holds_on g now m w u outputs to =
    let passed : Passed = silent_row (at_phase (holding m.arrival w.consumer.phase) w.consumer) [] in
    leads_by g now m row.Hold w u passed [] outputs outputs passed.consumer next.Nothing (holds g (passing g now w) m w.consumer.phase w.consumer)
    (record { consumer = refl; outputs = refl; next = refl }) (sym (append-nil outputs)) (to ∙ quiet_unnumbered w passed.consumer)

-- a row of push where it does not listen
pub look_nowhere : (g : ReplayInput) (now : ℕ) (m : Matter) (one : Row) (w : ReplayState) (outputs : List Output) (phase : Phase) → w.consumer.phase ≡ phase
    → row_at g (passing g now w) m one phase w.consumer ≡ silent_row w.consumer [] → Passes g now m (one ∷ []) w outputs [] w outputs
look_nowhere g now m one w outputs phase is none = idle_row g now m one w w outputs phase is (sym (ap (λ (q : Phase). at q w) (sym is))) none

-- ---- by the mode

create_of : (setup : OrderedSetup) (p : RowInput) (r : Recreation) (c : Consumer) → IsPush setup → (m : Matter) (inbox : Option Inbox) (d : Consumer) (rest : NextTasks)
    → StepsTo m (create_row setup p r c) (create_outputs setup inbox) d rest → StepsTo m (create_row setup p r c) (subscribed inbox) d rest
create_of (Pull setup) p r c pushes m inbox d rest steps = absurd pushes
create_of (Push setup) p r c pushes m inbox d rest steps = steps

create_none : (setup : OrderedSetup) (p q : RowInput) (r : Recreation) (c : Consumer) → IsPull setup → (m : Matter) (inbox : Option Inbox) (d : Consumer) (rest : NextTasks)
    → StepsTo m (create_row setup p r c) (create_outputs setup inbox) d rest → StepsTo m (create_row setup q r c) [] d rest
create_none (Push setup) p q r c pulls m inbox d rest steps = absurd pulls
create_none (Pull setup) p q r c pulls m inbox d rest steps = steps

-- push has opened its inbox, or could not
pub creates_push : (g : ReplayInput) (now : ℕ) (m : Matter) (r : Recreation) (w u : ReplayState) (inbox : Option Inbox) (inboxes_opened' : ℕ) (earlier later : List Output) (d : Consumer) (rest : NextTasks) → IsPush g.setup
    → Subscribes w.link_up w.inboxes_opened inboxes_opened' (inbox_subject g w.inboxes_opened) earlier later inbox
    → StepsTo m (create_row g.setup (opening_to now inbox (passing g now w)) r (at_phase (Recreates r) w.consumer)) (create_outputs g.setup inbox) d rest
    → u ≡ record w { consumer = d; inboxes_opened = inboxes_opened' }
    → Passes g now m (row.Create ∷ []) (at (Recreates r) w) earlier (next_rows m rest) u later
creates_push g now m r w u inbox inboxes_opened' earlier later d rest pushes opens steps to =
    leads_opened g now m row.Create r w u inbox inboxes_opened' earlier later d rest opens
    (create_of g.setup (opening_to now inbox (passing g now w)) r (at_phase (Recreates r) w.consumer) pushes m inbox d rest steps) to

-- pull opens none
pub creates_pull : (g : ReplayInput) (now : ℕ) (m : Matter) (r : Recreation) (w u : ReplayState) (outputs : List Output) (d : Consumer) (rest : NextTasks) → IsPull g.setup
    → StepsTo m (create_row g.setup (opening_to now None (passing g now w)) r (at_phase (Recreates r) w.consumer)) (create_outputs g.setup None) d rest
    → u ≡ record w { consumer = d }
    → Passes g now m (row.Create ∷ []) (at (Recreates r) w) outputs (next_rows m rest) u outputs
creates_pull g now m r w u outputs d rest pulls steps to =
    leads_quietly g now m row.Create (Recreates r) w u outputs d rest
    (create_none g.setup (opening_to now None (passing g now w)) (passing g now w) r (at_phase (Recreates r) w.consumer) pulls m None d rest steps) to

succeed_of_pull : (setup : OrderedSetup) (g : ReplayInput) (p : RowInput) (info : Info) (r : Recreation) (c : Consumer) → IsPull setup → (m : Matter) (outputs : List Output) (d : Consumer) (rest : NextTasks)
    → StepsTo m (succeed_pull g p info c) outputs d rest → StepsTo m (succeed_row setup g p info r c) outputs d rest
succeed_of_pull (Pull setup) g p info r c pulls m outputs d rest steps = steps
succeed_of_pull (Push setup) g p info r c pulls m outputs d rest steps = absurd pulls

succeed_of_push : (setup : OrderedSetup) (g : ReplayInput) (p : RowInput) (info : Info) (r : Recreation) (c : Consumer) → IsPush setup → (m : Matter) (outputs : List Output) (d : Consumer) (rest : NextTasks)
    → StepsTo m (succeed_push p r.opened c) outputs d rest → StepsTo m (succeed_row setup g p info r c) outputs d rest
succeed_of_push (Pull setup) g p info r c pushes m outputs d rest steps = absurd pushes
succeed_of_push (Push setup) g p info r c pushes m outputs d rest steps = steps

pub succeeds_pull : (g : ReplayInput) (now : ℕ) (m : Matter) (info : Info) (r : Recreation) (w u : ReplayState) (inbox : Option Inbox) (inboxes_opened' : ℕ) (earlier later : List Output) (d : Consumer) (rest : NextTasks) → IsPull g.setup
    → Subscribes w.link_up w.inboxes_opened inboxes_opened' (inbox_subject g w.inboxes_opened) earlier later inbox
    → StepsTo m (succeed_pull g (opening_to now inbox (passing g now w)) info (at_phase (Recreates r) w.consumer)) (subscribed inbox) d rest
    → u ≡ record w { consumer = d; inboxes_opened = inboxes_opened' }
    → Passes g now m (row.Succeed info ∷ []) (at (Recreates r) w) earlier (next_rows m rest) u later
succeeds_pull g now m info r w u inbox inboxes_opened' earlier later d rest pulls opens steps to =
    leads_opened g now m (row.Succeed info) r w u inbox inboxes_opened' earlier later d rest opens
    (succeed_of_pull g.setup g (opening_to now inbox (passing g now w)) info r (at_phase (Recreates r) w.consumer) pulls m (subscribed inbox) d rest steps) to

pub succeeds_push : (g : ReplayInput) (now : ℕ) (m : Matter) (info : Info) (r : Recreation) (w u : ReplayState) (outputs : List Output) (d : Consumer) (rest : NextTasks) → IsPush g.setup
    → StepsTo m (succeed_push (passing g now w) r.opened (at_phase (Recreates r) w.consumer)) [] d rest → u ≡ record w { consumer = d }
    → Passes g now m (row.Succeed info ∷ []) (at (Recreates r) w) outputs (next_rows m rest) u outputs
succeeds_push g now m info r w u outputs d rest pushes steps to =
    leads_quietly g now m (row.Succeed info) (Recreates r) w u outputs d rest
    (succeed_of_push g.setup g (passing g now w) info r (at_phase (Recreates r) w.consumer) pushes m [] d rest steps) to

-- push looks, and stays where it was
pub looks_on : (g : ReplayInput) (now : ℕ) (m : Matter) (one : Row) (phase : Phase) (w : ReplayState) (told : RowOutput) (earlier later : List Output) (rest : NextTasks) → w.consumer.phase ≡ phase
    → StepsTo m (row_at g (passing g now w) m one phase (at_phase phase w.consumer)) (told_outputs told) (at_phase phase w.consumer) rest
    → later ≡ earlier ++ told_outputs told
    → Passes g now m (one ∷ []) w earlier (next_rows m rest) w later
looks_on g now m one phase w told earlier later rest is steps put =
    told_here g now m one phase w w told earlier later (at_phase phase w.consumer) rest is steps put (ap (λ (q : Phase). at q w) is)

-- no row was passed
pub nothing_passed : (g : ReplayInput) (now : ℕ) (m : Matter) (w : ReplayState) (outputs : List Output) → Passes g now m [] w outputs [] w outputs
nothing_passed g now m w outputs = record { leads = refl; fewer = omega arith }

-- nothing is left of what was held
pub held_nothing : (g : ReplayInput) (now : ℕ) (m : Matter) (inbox : ℕ) (messages : List Message) (place : ℕ) (w : ReplayState) (outputs : List Output) → length messages ≤ place
    → Passes g now m (heard_first inbox (drop place messages)) w outputs [] w outputs
held_nothing g now m inbox messages place w outputs over =
    let none : drop place messages ≡ [] = drop_all place messages over in
    subst (λ (ms : List Message). Passes g now m (heard_first inbox ms) w outputs [] w outputs) (sym none) (nothing_passed g now m w outputs)

-- nothing arrived
pub brought_nothing : (g : ReplayInput) (now : ℕ) (m : Matter) (inbox : ℕ) (message : Option Message) (w : ReplayState) (outputs : List Output) → None ≡ message
    → Passes g now m (heard_rows inbox message) w outputs [] w outputs
brought_nothing g now m inbox message w outputs none =
    subst (λ (o : Option Message). Passes g now m (heard_rows inbox o) w outputs [] w outputs) none (nothing_passed g now m w outputs)

-- the message that was brought was heard
pub brought_heard : {E : Type 0} (context : EventContext) (inbox : ℕ) (brings : Option Message) (message : Message) (w u : ReplayState) (before after : List Output) (result : Result NextTasks E) → Some message ≡ brings
    → PassesTo context (row.Hear (record { inbox = inbox; message = message }) ∷ []) w u before after result → PassesTo context (heard_rows inbox brings) w u before after result
brought_heard context inbox brings message w u before after result is passes = subst (λ (o : Option Message). PassesTo context (heard_rows inbox o) w u before after result) is passes

-- and the first of what was held
pub held_heard : {E : Type 0} (context : EventContext) (inbox : ℕ) (messages same : List Message) (place : ℕ) (message : Message) (w u : ReplayState) (before after : List Output) (result : Result NextTasks E) → same ≡ messages
    → place < length messages → message ≡ get_or same place message
    → PassesTo context (row.Hear (record { inbox = inbox; message = message }) ∷ []) w u before after result → PassesTo context (heard_first inbox (drop place messages)) w u before after result
held_heard context inbox messages same place message w u before after result are below is passes =
    subst (λ (rows : List Row). PassesTo context rows w u before after result)
    (sym (held_first inbox messages place message below (is ∙ ap (λ (ms : List Message). get_or ms place message) are))) passes
