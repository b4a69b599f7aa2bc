-- A row of a pull reader that was passed over a link, with what the consumer makes of what the reader tells.
use Rattle.std.proofs.Common.{◌≡◌, ℕ, Bool, false, List, [], ◌∷◌, ◌++◌, map, Option, Some, None, refl, sym, ap, ◌∙◌, subst}
use Rattle.std.specs.Prelude.{is_some, Result, Ok, IfOk}
use Rattle.js_base.specs.declared.message.Message.{Message}
use Rattle.js_link.specs.LinkView.{LinkView}
use Rattle.js_link.specs.Meets.{Meets}
use Rattle.js_link.specs.Wish.{row_input, message_of, is_shut, reply_met}
use Rattle.js_link.specs.declared.wish.Met.{Met}
use Rattle.js_link.specs.RowInput.{RowInput as Sends}
use Rattle.js_message.specs.AckSubject.{Place}
use Rattle.js_ordered_table.specs.declared.transitions.task.Heard.{Heard}
use Rattle.js_ordered_table.specs.declared.transitions.task.Heard.TheVariants as hears
use Rattle.js_ordered_table.specs.declared.transitions.task.NextTasks.TheVariants as next
use Rattle.js_ordered_table.specs.declared.transitions.task.RowOutput.{RowOutput}
use Rattle.js_pull.specs.Rows.{ReadsTo, brought}
use Rattle.js_ordered_table.specs.Tasks.{IsHeardFrom, StepsTo, heard_outputs, heard_row, reader_rows, told_outputs}
use Rattle.js_ordered_table.proofs.ReaderSteps.{reads_row}
use Rattle.js_ordered_table.proofs.PassedRows.{from_stream}
use Rattle.js_ordered_stream.specs.declared.remaining_rows.Seen.{Seen}
use Rattle.js_ordered_stream.specs.declared.pull_rows.ReaderStep.{ReaderStep}
use Rattle.js_ordered_stream.specs.declared.rows.RowItem.{RowItem}
use Rattle.js_ordered_stream.specs.declared.rows.RowItem.TheVariants as hands
use Rattle.js_ordered_stream.specs.declared.rows.Stepped.{Stepped}
use Rattle.js_ordered_stream.specs.Rows.{PassesRow, TakesIn, answer_in, handed_by_heard, handed_list, has_message, is_something, message_in, read_in}
use Rattle.js_pull.specs.Reader as pull
use Rattle.js_pull.specs.Rows.{IsInformed, met_row as reader_met, quiet_step, row_list, row_of, told_shown}
use Rattle.js_pull.specs.Rows.{StepsTo as ReaderStepsTo}
use Rattle.js_pull.specs.declared.reader.Reader.{Reader}
use Rattle.js_pull.specs.declared.reader.ReaderOutput.{ReaderOutput}
use Rattle.js_pull.specs.declared.reader.ReaderOutput.TheVariants as telling
use Rattle.js_pull.specs.declared.reader.Row.{Row as PullRow}
use Rattle.js_pull.specs.declared.replies.Finding.{Finding}
use Rattle.js_pull.specs.declared.rows.Due.{Due}
use Rattle.js_pull.specs.declared.rows.Notice.{Notice}
use Rattle.js_pull.specs.declared.passed_row.PassedRow.{PassedRow as Read}
use Rattle.js_ordered_table.specs.declared.consumer.Consumer.{Consumer}
use Rattle.js_ordered_table.specs.declared.consumer.Phase.TheVariants.{Pulls}
use Rattle.js_ordered_table.specs.declared.consumer.ReplayInput.{ReplayInput}
use Rattle.js_ordered_table.specs.declared.row.Row.{Row}
use Rattle.js_ordered_table.specs.declared.row.Row.TheVariants as row
use Rattle.js_ordered_table.specs.Arrivals.{read_row, told, with_sent}
use Rattle.js_ordered_table.specs.Recreation.{message_on}
use Rattle.js_ordered_table.specs.Consumer.{Matter, Passed, at_phase, output_of}
use Rattle.js_ordered_table.specs.Poll.{yielded}
use Rattle.js_ordered_table.specs.Walk.{handed}
use Rattle.js_ordered_table.specs.Wishes.{arrival_of}
use Rattle.js_ordered_stream.proofs.RowMet.{arrives, if_error, looked_as, none_sent}

-- ---- what is handed out of a message

pub yields_handed : (number : ℕ) (message : Message) (stalled up : Bool) (heard : Heard) (hand : RowItem) → IsHeardFrom number message heard → hand ≡ handed_by_heard heard → handed_list hand (Some message) ≡ handed (heard_outputs stalled up message heard)
yields_handed number message stalled up (hears.Yields place) hand is to =
    ap (λ (h : RowItem). handed_list h (Some message)) to ∙ ap (λ (o : Option Place). yielded o message ∷ []) is.0
yields_handed number message stalled up hears.Unreadable hand is to = ap (λ (h : RowItem). handed_list h (Some message)) to
yields_handed number message stalled up hears.Gap hand is to = ap (λ (h : RowItem). handed_list h (Some message)) to
yields_handed number message stalled up (hears.Beat last) hand is to = absurd is
yields_handed number message stalled up hears.OtherStatus hand is to = absurd is

-- ---- what the consumer makes of it

-- a step that tells nothing, which no row follows, leaves the consumer as it is
pub takes_nothing : (m : Matter) (c : Consumer) (step : Read) → step ≡ quiet_step None
    → TakesIn m (told_shown step.told None) (reader_rows m step.next) None c c (record { handed = hands.Nothing; next = next.Nothing })
takes_nothing m c step is = subst (λ (s : Read). TakesIn m (told_shown s.told None) (reader_rows m s.next) None c c (record { handed = hands.Nothing; next = next.Nothing })) (sym is)
    (record { outputs = []; steps = record { consumer = refl; outputs = refl; next = refl }; shown = refl })

pub takes_told : (m : Matter) (tells silent : ReaderOutput) (rows : List Row) (message : Option Message) (c d : Consumer) (said : RowOutput) (taken : ReaderStep) → tells ≡ silent
    → StepsTo m (with_sent [] rows (told silent c)) (told_outputs said) d taken.next → handed_list taken.handed message ≡ handed (told_outputs said)
    → TakesIn m tells rows message c d taken
takes_told m tells silent rows message c d said taken is steps hands = record {
  outputs = told_outputs said;
  steps = subst (λ (t : ReaderOutput). StepsTo m (with_sent [] rows (told t c)) (told_outputs said) d taken.next) (sym is) steps;
  shown = hands;
}

pub takes_handed : (m : Matter) (p : Sends) (rows : List Row) (message : Message) (heard : Heard) (c d : Consumer) (taken : ReaderStep) → IsHeardFrom c.core.consumer_sequence message heard
    → StepsTo m (with_sent [] rows (heard_row false p message heard (record c { missed = false }))) (heard_outputs false p.up message heard) d taken.next
    → handed_list taken.handed (Some message) ≡ handed (heard_outputs false p.up message heard)
    → TakesIn m (telling.Hands message) rows (Some message) c d taken
takes_handed m p rows message heard c d taken is steps hands = record {
  outputs = heard_outputs false p.up message heard;
  steps = subst (λ (x : Passed). StepsTo m (with_sent [] rows x) (heard_outputs false p.up message heard) d taken.next) (sym (from_stream false p message heard (record c { missed = false }) is)) steps;
  shown = hands;
}

pub takes_known : (m : Matter) (tells known : Notice) (message other : Option Message) (rows : List Row) (c d : Consumer) (taken : ReaderStep) → tells ≡ known → message ≡ other
    → TakesIn m (told_shown known other) rows other c d taken → TakesIn m (told_shown tells message) rows message c d taken
takes_known m tells known message other rows c d taken is same takes =
    subst (λ (n : Notice). TakesIn m (told_shown n message) rows message c d taken) (sym is)
    (subst (λ (o : Option Message). TakesIn m (told_shown known o) rows o c d taken) (sym same) takes)

-- ---- a row

-- a row of a reader was passed with what it met
pub read_passes : (g : ReplayInput) (now : ℕ) (one : PullRow) (r s : Reader) (c d : Consumer) (met : Met) (step : Read) (taken : ReaderStep) (seen : Seen) (done : Stepped) (v u : LinkView)
    → Meets (pull.wish one r) met v u → is_shut met ≡ false → ReaderStepsTo (reader_met now one met r) met step s
    → message_in seen ≡ message_of met → has_message seen ≡ is_some (message_of met) → brought (answer_in seen) ≡ reply_met met
    → TakesIn (read_in seen) (told_shown step.told (message_in seen)) (reader_rows (read_in seen) step.next) (message_in seen) (at_phase (Pulls s) c) d taken
    → done ≡ record { handed = taken.handed; looked = is_something seen; next = taken.next }
    → PassesRow g now (row.Read one) (at_phase (Pulls r) c) d v u seen (Ok done)
read_passes g now one r s c d met step taken seen done v u meets is_open steps took any kept takes to =
    let m : Matter = read_in seen in
    let passed : pull.Passed = reader_met now one met r in
    let reads : ReadsTo (brought m.answer) (message_of met) passed s step = record {
      reader = steps.reader;
      told = steps.told;
      next = subst (λ (x : Option Message). row_list x step.next ≡ passed.next) (sym kept) steps.next;
    } in
    let t : TakesIn m (told_shown step.told (message_of met)) (reader_rows m step.next) (message_of met) (at_phase (Pulls s) c) d taken =
    subst (λ (o : Option Message). TakesIn m (told_shown step.told o) (reader_rows m step.next) o (at_phase (Pulls s) c) d taken) took takes in
    let all : StepsTo m (read_row passed (at_phase (Pulls r) c)) (map output_of passed.sent ++ t.outputs) d taken.next =
    reads_row m (message_of met) passed passed.sent s step (at_phase (Pulls r) c) d t.outputs taken.next reads refl t.steps in
    let same : read_row (pull.row (row_input now met) (pull.answer_of (pull.wish one r) met) (message_on r.source.inbox (arrival_of (pull.wish one r) met)) one r) (at_phase (Pulls r) c) ≡ read_row passed (at_phase (Pulls r) c) =
    ap (λ (o : Option Message). read_row (pull.row (row_input now met) (pull.answer_of (pull.wish one r) met) o one r) (at_phase (Pulls r) c)) (arrives one r met v u meets) in
    subst (λ (x : Stepped). PassesRow g now (row.Read one) (at_phase (Pulls r) c) d v u seen (Ok x)) (sym to) (
      met,
      meets,
      is_open,
      record {
        consumer = all.consumer ∙ ap (λ (p : Passed). p.consumer) (sym same);
        shown = ap (λ (p : Passed). handed p.outputs) same ∙ ap handed all.outputs ∙ none_sent passed.sent t.outputs ∙ sym t.shown ∙ ap (λ (o : Option Message). handed_list taken.handed o) (sym took);
        next = all.next ∙ ap (λ (p : Passed). p.next) (sym same);
        looked = refl;
        seen = any;
        message = looked_as (message_in seen) (message_of met) took;
        errors = if_error taken.handed (message_in seen ≡ message_of met) took;
        held = tt;
      },
    )

-- ---- what a row needs and meets

pub informed_as : {E : Type 0} (one : Due) (a b : Option Message) (told : Result Finding E) → a ≡ b → IfOk told (λ finding. IsInformed (row_of a one) finding)
    → IfOk told (λ finding. IsInformed (row_of b one) finding)
informed_as one a b told is holds = subst (λ (m : Option Message). IfOk told (λ finding. IsInformed (row_of m one) finding)) is holds
