use Rattle.std.proofs.Common.{ap, ◌∙◌}
use Rattle.std.specs.Prelude.{Ok}
use Rattle.js_ordered_stream.specs.declared.rows.Stepped.{Stepped}
use Rattle.js_ordered_stream.specs.Rows.{answer_in, has_message, message_in, read_in}
use Rattle.js_ordered_stream.specs.declared.remaining_rows.Seen.{Seen}
use Rattle.js_pull.specs.Rows.{brought, row_of}
use Rattle.js_ordered_table.specs.Passes.{input_of}
use Rattle.js_ordered_table.specs.declared.consumer.Phase.TheVariants.{Pulls}
use Rattle.js_ordered_table.specs.declared.row.Row.TheVariants as row
use Rattle.js_ordered_stream.proofs.Elsewhere.{reads_nowhere}
use Rattle.js_ordered_stream.proofs.ReaderRows.{read_passes}
use Rattle.js_ordered_stream.proofs.KeptSeen.{passes_blind, row_at_phase, seen_kept}
use Rattle.js_ordered_stream.proofs.RowMet.{any_seen, message_seen, reply_seen}
use Rattle.js_ordered_stream.proofs.pull_rows.pass_asking.Goals as goal

pub pass-step-requires : goal.pass-step-requires
pass-step-requires g c = record { pin = λ is. absurd (c.requires is) }

pub returns-clause-passes : goal.returns-clause-passes
returns-clause-passes g c =
    let old = g.L.Link.view c.args.link.now in
    let new = g.L.Link.view c.read_met.new.link in
    let given = input_of c.args.context.now in
    let now = c.args.context.now.moment in
    let reply = brought (answer_in c.args.seen.now) in
    let one = row_of reply c.args.due in
    let met = c.in_ok-found.found.met in
    let seen = c.replace_with.new.place in
    let done : Stepped = record { handed = c.take_in-handed.result.handed; looked = c.is_something.result; next = c.take_in-handed.result.next } in
    let is = c.replace_with.ensures ∙ c.seen_of.ensures in
    row_at_phase given now (row.Read one) (Pulls c.in-Pulls.reader) c.args.consumer.now c.take_in-handed.new.consumer old new _ (Ok done) c.in-Pulls.is
    (seen_kept given now (row.Read one) _ c.take_in-handed.new.consumer old new seen done
    (read_passes given now one c.in-Pulls.reader c.pass-step.new.self c.args.consumer.now c.take_in-handed.new.consumer met c.pass-step.result c.take_in-handed.result seen done old new
    c.in_ok-found.ensures.meets c.in_ok-found.ensures.is_open (c.pass-step.ensures reply c.in_ok-found.ensures.informed)
    (ap message_in is ∙ message_seen 0 met) (ap has_message is ∙ any_seen 0 met) (ap (λ (s : Seen). brought (answer_in s)) is ∙ reply_seen 0 met)
    (c.take_in-handed.ensures (read_in seen)) (ap (λ b. record done { looked = b }) c.is_something.ensures)))

pub returns-in_default-clause-passes : goal.returns-in_default-clause-passes
returns-in_default-clause-passes g c =
    let v = g.L.Link.view c.args.link.now in
    let given = input_of c.args.context.now in
    let now = c.args.context.now.moment in
    let same = c.args.consumer.now in
    let one = (row_of (brought (answer_in c.args.seen.now)) c.args.due) in
    passes_blind given now (row.Read one) same same v v c.args.seen.now (Ok c.passed_over.result) (reads_nowhere given now one same c.passed_over.result v c.in_default.not-Pulls c.passed_over.ensures)
