-- Push's rows of reading over a link: what is looked for, and what is heard.
use Rattle.std.proofs.Common.{◌≡◌, ℕ, Bool, true, false, List, [], Option, Some, None, refl, sym, ap, ◌∙◌, subst}
use Rattle.std.specs.Prelude.{IfSome, is_some, Result, Ok, Err, if◌then◌else◌}
use Rattle.js_base.specs.declared.clock.Timer.{Timer}
use Rattle.js_base.specs.declared.message.Message.{Message}
use Rattle.js_link.specs.LinkView.{LinkView}
use Rattle.js_link.specs.Meets.{Meets}
use Rattle.js_link.specs.Wish.{row_input, message_of}
use Rattle.js_link.specs.declared.wish.Wish.{Wish}
use Rattle.js_link.specs.declared.wish.Wish.TheVariants.{Nothing, Publishes}
use Rattle.js_link.specs.declared.wish.Met.{Met}
use Rattle.js_link.specs.declared.wish.Met.TheVariants.{Unasked}
use Rattle.js_link.specs.RowInput.{RowInput as Sends}
use Rattle.js_ordered_table.specs.declared.transitions.task.Heard.{Heard}
use Rattle.js_ordered_table.specs.declared.transitions.task.Heard.TheVariants as hears
use Rattle.js_ordered_table.specs.declared.transitions.task.NextTasks.{NextTasks}
use Rattle.js_ordered_table.specs.declared.transitions.task.NextTasks.TheVariants as next
use Rattle.js_ordered_table.specs.declared.transitions.task.RowOutput.{RowOutput}
use Rattle.js_ordered_table.specs.declared.transitions.task.Task.TheVariants as task
use Rattle.js_ordered_table.specs.Tasks.{IsHeard, IsHeardAs, StepsTo, at_moment, heard_outputs, heard_row, heard_rows, told_outputs}
use Rattle.js_ordered_table.proofs.PassedRows.{hears_as, hears_here}
use Rattle.js_ordered_stream.specs.declared.remaining_rows.Seen.{Seen}
use Rattle.js_ordered_stream.specs.declared.remaining_rows.Seen.TheVariants as sight
use Rattle.js_ordered_stream.specs.declared.rows.RowItem.{RowItem}
use Rattle.js_ordered_stream.specs.declared.rows.RowItem.TheVariants as hands
use Rattle.js_ordered_stream.specs.declared.rows.Stepped.{Stepped}
use Rattle.js_ordered_stream.specs.declared.rows.Stop.{Stop}
use Rattle.js_ordered_stream.specs.declared.rows.Stop.TheVariants as stop
use Rattle.js_ordered_stream.specs.Rows.{AnswersBeat, IfError, Looked, LooksInto, PassesRow, PassesRows, arrival_in, handed_by_heard, handed_list, has_message, kept_if, message_in, met_row, read_by, unheard_on}
use Rattle.js_ordered_table.specs.declared.consumer.Consumer.{Consumer}
use Rattle.js_ordered_table.specs.declared.consumer.Phase.{Phase}
use Rattle.js_ordered_table.specs.declared.consumer.Phase.TheVariants.{Pulls, Pushes, Recreates, Idle, Ended, Exhausted}
use Rattle.js_ordered_table.specs.declared.consumer.ReplayInput.{ReplayInput}
use Rattle.js_ordered_table.specs.declared.kind.PushKind.{PushKind}
use Rattle.js_ordered_table.specs.declared.kind.PushKind.TheVariants as kind
use Rattle.js_ordered_table.specs.declared.row.Arrival.{Arrival}
use Rattle.js_ordered_table.specs.declared.row.Row.TheVariants as row
use Rattle.js_ordered_table.specs.Passes.{listens_to}
use Rattle.js_ordered_table.specs.Arrivals.{armed, beat_answer, beat_subject, push_kind, silence_row}
use Rattle.js_ordered_table.specs.Recreation.{message_on}
use Rattle.js_ordered_table.specs.Consumer.{Matter, Passed, at_phase, silent_row}
use Rattle.js_ordered_table.specs.Table.{push_rows}
use Rattle.js_ordered_table.specs.Poll.{poll_wish_at}
use Rattle.js_ordered_table.specs.Walk.{handed}
use Rattle.js_ordered_table.specs.Wishes.{beat_wish, matter_of}
use Rattle.js_ordered_stream.proofs.KeptSeen.{row_alone}
use Rattle.js_ordered_stream.proofs.LeftRows.{heard_here}
use Rattle.js_ordered_stream.proofs.ReaderRows.{yields_handed}
use Rattle.js_ordered_stream.proofs.RowMet.{IsOther, if_error, moment_met, untaken}
use Rattle.js_ordered_table.proofs.Walk.{arrives_here, eqb_same}
use Rattle.js_ordered_stream.proofs.PassedRows.{row_passes, row_tells}

-- ---- what is looked for

-- what was taken is the message that is heard next
pub taken_here : (inbox : ℕ) (message : Message) → message_on inbox (arrival_in (unheard_on inbox (Some message))) ≡ Some message
taken_here inbox message = ap (λ (b : Bool). if b then Some message else None) (eqb_same inbox)

-- a look that takes nothing
pub looked_none : (inbox : ℕ) (seen : Seen) (done : Stepped)
    → done ≡ record { handed = hands.Nothing; looked = false; next = next.One task.CheckSilence } → Looked inbox None (kept_if done.looked seen) done
looked_none inbox seen done to =
    subst (λ (x : Stepped). Looked inbox None (kept_if x.looked seen) x) (sym to) (record { handed = refl; looked = refl; seen = refl; next = refl; held = refl })

-- and one that takes a message
pub looked_some : (inbox : ℕ) (taken : Message) → Looked inbox (Some taken) (sight.Message (Some inbox) taken) (record { handed = hands.Nothing; looked = true; next = next.One (task.Hear inbox) })
looked_some inbox taken = record {
  handed = refl;
  looked = refl;
  seen = refl;
  next = ap (heard_rows inbox) (taken_here inbox taken);
  held = refl;
}

some_unheard : (inbox : ℕ) (taken : Option Message) → has_message (unheard_on inbox taken) ≡ is_some taken
some_unheard inbox None = refl
some_unheard inbox (Some message) = refl

none_unheard : (inbox : ℕ) (taken : Option Message) → message_in (unheard_on inbox taken) ≡ None
none_unheard inbox None = refl
none_unheard inbox (Some message) = refl

pub looks_at : (g : ReplayInput) (now inbox : ℕ) (timer : Timer) (c : Consumer) (v u : LinkView) (kept : Seen) (result : Result Stepped Stop) → c.phase ≡ Pushes inbox timer
    → LooksInto result inbox kept v u → PassesRow g now row.CheckArrival c c v u kept result
looks_at g now inbox timer c v u kept result is looks =
    subst (λ (q : Phase). PassesRow g now row.CheckArrival (at_phase q c) (at_phase q c) v u kept result) (sym is) (by_result result looks)
  where
    by_result : (result : Result Stepped Stop) → LooksInto result inbox kept v u → PassesRow g now row.CheckArrival (at_phase (Pushes inbox timer) c) (at_phase (Pushes inbox timer) c) v u kept result
    by_result (Err stop.Closed) shut = (refl, shut)
    by_result (Err stop.OutOfMemory) same = (refl, same)
    by_result (Ok done) (met, meets, is_open, l) =
        let none : message_in kept ≡ None = ap message_in l.seen ∙ none_unheard inbox (message_of met) in (
          met,
          meets,
          is_open,
          record {
            consumer = refl;
            shown = sym (ap (λ (h : RowItem). handed_list h (message_in kept)) l.handed);
            next = l.next ∙ ap (push_rows inbox) (sym (arrives_here inbox met));
            looked = l.looked;
            seen = ap has_message l.seen ∙ some_unheard inbox (message_of met);
            message = subst (λ (o : Option Message). IfSome o (λ x. message_of met ≡ Some x)) (sym none) tt;
            errors = subst (λ (h : RowItem). IfError h (message_in kept ≡ message_of met)) (sym l.handed) tt;
            held = l.held;
          },
        )

-- the heartbeat
pub silence_passes : (g : ReplayInput) (now inbox : ℕ) (timer : Timer) (c : Consumer) (told : RowOutput) (rest : NextTasks) (done : Stepped) (v : LinkView) → c.phase ≡ Pushes inbox timer
    → ((m : Matter) (p : Sends) (x : Consumer) → StepsTo m (silence_row (at_moment now p) timer x) (told_outputs told) x rest)
    → handed_list done.handed None ≡ handed (told_outputs told) → done ≡ record done { looked = false; next = rest }
    → PassesRow g now row.CheckSilence c c v v sight.Nothing (Ok done)
silence_passes g now inbox timer c told rest done v is steps hands to =
    subst (λ (q : Phase). PassesRow g now row.CheckSilence (at_phase q c) (at_phase q c) v v sight.Nothing (Ok done)) (sym is)
    (row_tells g now row.CheckSilence (at_phase (Pushes inbox timer) c) (at_phase (Pushes inbox timer) c) Unasked (silence_row (at_moment now (row_input now Unasked)) timer (at_phase (Pushes inbox timer) c)) told rest done v v refl
    (record { message = refl; is_open = refl }) refl refl (steps (read_by None None) (row_input now Unasked) (at_phase (Pushes inbox timer) c)) hands tt to)

pub arm_passes : (g : ReplayInput) (now inbox : ℕ) (timer : Timer) (c d : Consumer) (done : Stepped) (v : LinkView) → c.phase ≡ Pushes inbox timer
    → d ≡ at_phase (Pushes inbox (armed now)) c → done ≡ record { handed = hands.Nothing; looked = false; next = next.Nothing }
    → PassesRow g now row.Arm c d v v sight.Nothing (Ok done)
arm_passes g now inbox timer c d done v is leads to =
    subst (λ (q : Phase). PassesRow g now row.Arm (at_phase q c) d v v sight.Nothing (Ok done)) (sym is)
    (row_passes g now row.Arm (at_phase (Pushes inbox timer) c) d Unasked (silent_row (at_phase (Pushes inbox (armed now)) c) []) [] hands.Nothing next.Nothing done v v refl
    (record { message = refl; is_open = refl }) refl refl (record { consumer = leads; outputs = refl; next = refl }) refl tt to)

-- ---- what an arrival asks

-- by what is heard
abbrev asked_by : Heard → Option (List ℕ) → Wish
asked_by (hears.Beat last) (Some reply) = Publishes reply None []
asked_by _ _ = Nothing

asks_as : (number : ℕ) (message : Message) (k : PushKind) (heard : Heard) (reply : Option (List ℕ)) → IsHeardAs number message k heard → asked_by heard reply ≡ beat_wish k reply
asks_as number message kind.Delivered (hears.Yields place) reply is = refl
asks_as number message kind.Delivered hears.Unreadable reply is = refl
asks_as number message kind.Delivered hears.Gap reply is = refl
asks_as number message kind.Delivered (hears.Beat last) reply is = absurd is
asks_as number message kind.Delivered hears.OtherStatus reply is = absurd is
asks_as number message (kind.Beat last) heard None is = ap (λ (h : Heard). asked_by h None) is
asks_as number message (kind.Beat last) heard (Some reply) is = ap (λ (h : Heard). asked_by h (Some reply)) is
asks_as number message kind.Bad heard reply is = ap (λ (h : Heard). asked_by h reply) is
asks_as number message kind.OtherStatus heard reply is = ap (λ (h : Heard). asked_by h reply) is

pub asks_nothing : (number : ℕ) (message : Message) (asked : Option (List ℕ)) (heard known : Heard) → heard ≡ known → asked_by known asked ≡ Nothing → IsHeard number message heard → Nothing ≡ beat_wish (push_kind message) asked
asks_nothing number message asked heard known is none heard_is = sym none ∙ ap (λ (h : Heard). asked_by h asked) (sym is) ∙ asks_as number message (push_kind message) heard asked heard_is

pub asks_answer : (number : ℕ) (message : Message) (asked : Option (List ℕ)) (heard : Heard) (last : Option ℕ) (reply subject payload : List ℕ) → heard ≡ hears.Beat last → asked ≡ Some reply → subject ≡ reply → payload ≡ [] → IsHeard number message heard
    → Publishes subject None payload ≡ beat_wish (push_kind message) asked
asks_answer number message asked heard last reply subject payload is replies same empty heard_is =
    ap (λ (s : List ℕ). Publishes s None payload) same ∙ ap (λ (p : List ℕ). Publishes reply None p) empty ∙ ap (λ (o : Option (List ℕ)). asked_by (hears.Beat last) o) (sym replies)
    ∙ ap (λ (h : Heard). asked_by h asked) (sym is) ∙ asks_as number message (push_kind message) heard asked heard_is

pub asks_no_reply : (number : ℕ) (message : Message) (asked : Option (List ℕ)) (heard : Heard) (last : Option ℕ) → heard ≡ hears.Beat last → asked ≡ None → IsHeard number message heard → Nothing ≡ beat_wish (push_kind message) asked
asks_no_reply number message asked heard last is none heard_is =
    asks_nothing number message asked heard (hears.Beat last) is (ap (λ (o : Option (List ℕ)). asked_by (hears.Beat last) o) none) heard_is

beat_other : (k : PushKind) (reply : Option (List ℕ)) → IsOther (beat_wish k reply)
beat_other (kind.Beat last) (Some reply) = tt
beat_other (kind.Beat last) None = tt
beat_other kind.Delivered reply = tt
beat_other kind.Bad reply = tt
beat_other kind.OtherStatus reply = tt

-- ---- what is heard

none_answered : (up : Bool) (reply : Option (List ℕ)) → handed (beat_answer up reply) ≡ []
none_answered up None = refl
none_answered true (Some reply) = refl
none_answered false (Some reply) = refl

heard_shown : (number : ℕ) (message : Message) (stalled up : Bool) (k : PushKind) (heard : Heard) → IsHeardAs number message k heard
    → handed (heard_outputs stalled up message heard) ≡ handed_list (handed_by_heard heard) (Some message)
heard_shown number message stalled up kind.Delivered heard is = sym (yields_handed number message stalled up heard (handed_by_heard heard) is refl)
heard_shown number message stalled up (kind.Beat last) heard is =
    subst (λ (h : Heard). handed (heard_outputs stalled up message h) ≡ handed_list (handed_by_heard h) (Some message)) (sym is) (none_answered up (beat_subject stalled message))
heard_shown number message stalled up kind.Bad heard is = subst (λ (h : Heard). handed (heard_outputs stalled up message h) ≡ handed_list (handed_by_heard h) (Some message)) (sym is) refl
heard_shown number message stalled up kind.OtherStatus heard is = subst (λ (h : Heard). handed (heard_outputs stalled up message h) ≡ handed_list (handed_by_heard h) (Some message)) (sym is) refl

-- a reader with this input answers stalled consumers
abbrev answers_stalled : ReplayInput → Bool
answers_stalled g = g.settings.resilience.answers_stalled

-- what an arrival asks for there
abbrev beat_asked : ReplayInput → Message → Wish
beat_asked g message = beat_wish (push_kind message) (beat_subject (answers_stalled g) message)

hear_wish : (g : ReplayInput) (arrival : Arrival) (phase : Phase) → listens_to arrival.inbox phase ≡ true → poll_wish_at g (row.Hear arrival) phase ≡ beat_asked g arrival.message
hear_wish g arrival (Pushes current timer) here = ap (λ (b : Bool). if b then beat_asked g arrival.message else Nothing) here
hear_wish g arrival (Pulls reader) here = absurd (let h = here in cc)
hear_wish g arrival (Recreates r) here = absurd (let h = here in cc)
hear_wish g arrival Idle here = absurd (let h = here in cc)
hear_wish g arrival Ended here = absurd (let h = here in cc)
hear_wish g arrival Exhausted here = absurd (let h = here in cc)

now_met : (now : ℕ) (met : Met) → (row_input now met).now ≡ now
now_met now met = ap (λ (p : Sends). p.now) (sym (moment_met now met))

pub hear_passes : (g : ReplayInput) (now : ℕ) (arrival : Arrival) (heard : Heard) (c d : Consumer) (hand : RowItem) (rest : NextTasks) (v u : LinkView) → listens_to arrival.inbox c.phase ≡ true
    → IsHeard c.core.consumer_sequence arrival.message heard
    → ((m : Matter) (p : Sends) (message : Message) → StepsTo m (heard_row (answers_stalled g) p message heard (at_phase (Pushes arrival.inbox (armed now)) c)) (heard_outputs (answers_stalled g) p.up message heard) d rest)
    → hand ≡ handed_by_heard heard → AnswersBeat (answers_stalled g) arrival.message v u
    → PassesRow g now (row.Hear arrival) c d v u (sight.Message None arrival.message) (Ok (record { handed = hand; looked = true; next = rest }))
hear_passes g now arrival heard c d hand rest v u here is steps hands (met, meets) =
    let message : Message = arrival.message in
    let stalled : Bool = answers_stalled g in
    let w : Wish = beat_asked g message in
    let p : Sends = row_input now met in
    let m : Matter = matter_of (poll_wish_at g (row.Hear arrival) c.phase) met in
    let s = steps (read_by None None) p message in
    let same : met_row g now (row.Hear arrival) met c ≡ heard_row stalled p message heard (at_phase (Pushes arrival.inbox (armed now)) c) =
    hears_here g p m arrival.inbox message c.phase c here
    ∙ hears_as stalled p message (push_kind message) heard (at_phase (Pushes arrival.inbox (armed p.now)) c) is
    ∙ ap (λ (n : ℕ). heard_row stalled p message heard (at_phase (Pushes arrival.inbox (armed n)) c)) (now_met now met) in (
      met,
      subst (λ (x : Wish). Meets x met v u) (sym (hear_wish g arrival c.phase here)) meets,
      (untaken w met v u (beat_other (push_kind message) (beat_subject stalled message)) meets).is_open,
      record {
        consumer = s.consumer ∙ ap (λ (x : Passed). x.consumer) (sym same);
        shown = ap (λ (x : Passed). handed x.outputs) same ∙ ap handed s.outputs ∙ heard_shown c.core.consumer_sequence message stalled p.up (push_kind message) heard is
            ∙ ap (λ (h : RowItem). handed_list h (Some message)) (sym hands);
        next = s.next ∙ ap (λ (x : Passed). x.next) (sym same);
        looked = refl;
        seen = refl;
        message = refl;
        errors = if_error hand (Some message ≡ Some message) refl;
        held = tt;
      },
    )

-- a message of the stream is not answered
pub unanswered : (number : ℕ) (message : Message) (stalled : Bool) (heard known : Heard) (v : LinkView) → heard ≡ known → asked_by known (beat_subject stalled message) ≡ Nothing → IsHeard number message heard
    → AnswersBeat stalled message v v
unanswered number message stalled heard known v is none heard_is =
    (Unasked, subst (λ (w : Wish). Meets w Unasked v v) (asks_nothing number message (beat_subject stalled message) heard known is none heard_is) refl)

-- what was taken is heard
pub heard_alone : (g : ReplayInput) (now inbox : ℕ) (seen kept : Seen) (unheard : Option ℕ) (message : Message) (c d : Consumer) (result : Result Stepped Stop) (v u : LinkView) → seen ≡ sight.Message unheard message
    → is_some (message_on inbox (arrival_in seen)) ≡ true → PassesRow g now (row.Hear (record { inbox = inbox; message = message })) c d v u kept result
    → PassesRows g now (heard_rows inbox (message_on inbox (arrival_in seen))) c d v u kept result
heard_alone g now inbox seen kept unheard message c d result v u is there passes =
    subst (λ (o : Option Message). PassesRows g now (heard_rows inbox o) c d v u kept result) (sym (heard_here inbox seen unheard message is there))
    (row_alone g now (row.Hear (record { inbox = inbox; message = message })) c d v u kept result passes)
