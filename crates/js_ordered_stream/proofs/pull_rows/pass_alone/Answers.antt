use Rattle.std.proofs.Common.{None, false, refl, sym}
use Rattle.std.specs.Prelude.{Ok}
use Rattle.js_link.specs.declared.wish.Met.TheVariants.{Unasked}
use Rattle.js_ordered_table.specs.declared.transitions.task.NextTasks.TheVariants as next
use Rattle.js_ordered_stream.specs.declared.remaining_rows.Seen.TheVariants as sight
use Rattle.js_ordered_stream.specs.declared.pull_rows.ReaderStep.{ReaderStep}
use Rattle.js_ordered_stream.specs.declared.rows.RowItem.TheVariants as hands
use Rattle.js_ordered_stream.specs.declared.rows.Stepped.{Stepped}
use Rattle.js_ordered_stream.specs.Rows.{read_by}
use Rattle.js_pull.specs.Rows.{row_of}
use Rattle.js_ordered_table.specs.Passes.{input_of}
use Rattle.js_ordered_table.specs.declared.consumer.Phase.TheVariants.{Pulls}
use Rattle.js_ordered_table.specs.declared.row.Row.TheVariants as row
use Rattle.js_ordered_table.specs.Consumer.{at_phase}
use Rattle.js_ordered_stream.proofs.Elsewhere.{reads_nowhere}
use Rattle.js_ordered_stream.proofs.ReaderRows.{read_passes, takes_nothing}
use Rattle.js_ordered_stream.proofs.KeptSeen.{row_at_phase}
use Rattle.js_ordered_stream.proofs.PassedRows.{meets_as}
use Rattle.js_ordered_stream.proofs.pull_rows.pass_alone.Goals as goal

pub returns : goal.returns
returns c = λ reply v.
    let given = input_of c.args.context.now in
    let now = c.args.context.now.moment in
    let one = row_of reply c.args.due in
    let asks = c.requires reply c.in-Pulls.reader in
    let done : Stepped = record { handed = c.take_without_message-handed.result.handed; looked = false; next = c.take_without_message-handed.result.next } in
    row_at_phase given now (row.Read one) (Pulls c.in-Pulls.reader) c.args.consumer.now c.take_without_message-handed.new.consumer v v sight.Nothing (Ok done) c.in-Pulls.is
    (read_passes given now one c.in-Pulls.reader c.alone-step.new.reader c.args.consumer.now c.take_without_message-handed.new.consumer Unasked c.alone-step.result c.take_without_message-handed.result sight.Nothing done v v
    (meets_as _ _ Unasked v v (sym asks.0) refl) refl (c.alone-step.ensures reply) refl refl refl (c.take_without_message-handed.ensures (read_by None None) None refl) refl)

pub returns-then-is_quiet : goal.returns-then-is_quiet
returns-then-is_quiet c = λ reply v.
    let given = input_of c.args.context.now in
    let now = c.args.context.now.moment in
    let one = row_of reply c.args.due in
    let asks = c.requires reply c.in-Pulls.reader in
    let same = at_phase (Pulls c.alone-step.new.reader) c.args.consumer.now in
    let taken : ReaderStep = record { handed = hands.Nothing; next = next.Nothing } in
    row_at_phase given now (row.Read one) (Pulls c.in-Pulls.reader) c.args.consumer.now same v v sight.Nothing (Ok c.followed_by.result) c.in-Pulls.is
    (read_passes given now one c.in-Pulls.reader c.alone-step.new.reader c.args.consumer.now same Unasked c.alone-step.result taken sight.Nothing c.followed_by.result v v
    (meets_as _ _ Unasked v v (sym asks.0) refl) refl (c.alone-step.ensures reply) refl refl refl (takes_nothing (read_by None None) same c.alone-step.result (c.is_quiet.ensures c.if-is_quiet.true)) c.followed_by.ensures)

pub returns-in_default : goal.returns-in_default
returns-in_default c = λ reply v.
    reads_nowhere (input_of c.args.context.now) c.args.context.now.moment (row_of reply c.args.due) c.args.consumer.now c.passed_over.result v c.in_default.not-Pulls c.passed_over.ensures
