use Rattle.std.proofs.Common.{None, true, false, refl, sym, ap, subst}
use Rattle.std.specs.Prelude.{Ok, Err}
use Rattle.js_link.specs.declared.wish.Met.TheVariants.{Empty, Took}
use Rattle.js_ordered_stream.specs.declared.remaining_rows.Seen.{Seen}
use Rattle.js_ordered_stream.specs.declared.remaining_rows.Seen.TheVariants as sight
use Rattle.js_ordered_stream.specs.declared.rows.Stop.TheVariants as stop
use Rattle.js_ordered_stream.specs.declared.rows.Stepped.{Stepped}
use Rattle.js_ordered_stream.specs.Rows.{answer_in, has_message, is_something, message_in, read_by, read_in}
use Rattle.js_pull.specs.Passes.{publishing}
use Rattle.js_pull.specs.Reader as reads
use Rattle.js_pull.specs.Rows.{ReadsTo, brought}
use Rattle.js_pull.specs.declared.reader.Row.TheVariants as read
use Rattle.js_ordered_table.specs.Passes.{input_of}
use Rattle.js_ordered_table.specs.declared.consumer.Phase.TheVariants.{Pulls}
use Rattle.js_ordered_table.specs.declared.row.Row.TheVariants as row
use Rattle.js_ordered_stream.proofs.Elsewhere.{reads_nowhere}
use Rattle.js_ordered_stream.proofs.FollowingRows.{unpinned}
use Rattle.js_ordered_stream.proofs.ReaderRows.{read_passes}
use Rattle.js_ordered_stream.proofs.KeptSeen.{passes_blind, row_at_phase}
use Rattle.js_ordered_stream.proofs.pull_rows.pass_arrival.Goals as goal

pub returns-in-Closed-clause-passes : goal.returns-in-Closed-clause-passes
returns-in-Closed-clause-passes g c =
    let view = g.L.Link.view in
    row_at_phase (input_of c.args.context.now) c.args.context.now.moment (row.Read read.CheckArrival) (Pulls c.in-Pulls.reader) c.args.consumer.now _ (view c.args.link.now) (view c.take.new.self) c.args.seen.now (Err stop.Closed) c.in-Pulls.is (refl, c.in-Closed.ensures)

pub returns-in-Empty-clause-passes : goal.returns-in-Empty-clause-passes
returns-in-Empty-clause-passes g c =
    let old = g.L.Link.view c.args.link.now in
    let new = g.L.Link.view c.take.new.self in
    let given = input_of c.args.context.now in
    let now = c.args.context.now.moment in
    let done : Stepped = record { handed = c.take_without_message-handed.result.handed; looked = false; next = c.take_without_message-handed.result.next } in
    row_at_phase given now (row.Read read.CheckArrival) (Pulls c.in-Pulls.reader) c.args.consumer.now c.take_without_message-handed.new.consumer old new sight.Nothing (Ok done) c.in-Pulls.is
    (read_passes given now read.CheckArrival c.in-Pulls.reader c.pass_check_arrival-step.new.self c.args.consumer.now c.take_without_message-handed.new.consumer Empty c.pass_check_arrival-step.result c.take_without_message-handed.result sight.Nothing done old new
    c.in-Empty.ensures refl c.pass_check_arrival-step.ensures refl refl refl (c.take_without_message-handed.ensures (read_by None None) None refl) refl)

pub returns-in-Message-clause-passes : goal.returns-in-Message-clause-passes
returns-in-Message-clause-passes g c =
    let old = g.L.Link.view c.args.link.now in
    let new = g.L.Link.view c.take.new.self in
    let given = input_of c.args.context.now in
    let now = c.args.context.now.moment in
    let message = c.in-Message.message in
    let seen = c.replace_with.new.place in
    let is = c.replace_with.ensures in
    let done : Stepped = record { handed = c.take_in-handed.result.handed; looked = true; next = c.take_in-handed.result.next } in
    let heard = subst (λ (s : Seen). ReadsTo None (message_in s) (reads.check_arrival (publishing now false) (message_in s) c.in-Pulls.reader) c.hear_taken-step.new.reader c.hear_taken-step.result) is c.hear_taken-step.ensures in
    row_at_phase given now (row.Read read.CheckArrival) (Pulls c.in-Pulls.reader) c.args.consumer.now c.take_in-handed.new.consumer old new seen (Ok done) c.in-Pulls.is
    (read_passes given now read.CheckArrival c.in-Pulls.reader c.hear_taken-step.new.reader c.args.consumer.now c.take_in-handed.new.consumer (Took message) c.hear_taken-step.result c.take_in-handed.result seen done old new
    c.in-Message.ensures refl heard (ap message_in is) (ap has_message is) (ap (λ (s : Seen). brought (answer_in s)) is) (c.take_in-handed.ensures (read_in seen)) (ap (λ b. record done { looked = b }) (sym (ap is_something is))))

pub returns-in_default-clause-passes : goal.returns-in_default-clause-passes
returns-in_default-clause-passes g c =
    let v = g.L.Link.view c.args.link.now in
    let given = input_of c.args.context.now in
    let now = c.args.context.now.moment in
    let same = c.args.consumer.now in
    let one = read.CheckArrival in
    passes_blind given now (row.Read one) same same v v c.args.seen.now (Ok c.passed_over.result) (reads_nowhere given now one same c.passed_over.result v c.in_default.not-Pulls c.passed_over.ensures)

pub hear_taken-step-requires : goal.hear_taken-step-requires
hear_taken-step-requires g c = unpinned c.args.context.now.setup.now c.args.consumer.now.phase c.in-Pulls.reader c.in-Pulls.is c.requires
