use Rattle.std.proofs.Common.{refl}
use Rattle.js_ordered_table.specs.Tasks.{at_moment}
use Rattle.js_ordered_table.specs.Passes.{input_of}
use Rattle.js_ordered_table.proofs.PassedRows.{reader_begins, goes_at}
use Rattle.js_ordered_table.proofs.transitions.event.go_on.Goals as goal

pub returns-in-Pulls : goal.returns-in-Pulls
returns-in-Pulls c = λ p m.
    goes_at (input_of c.args.context.now) (at_moment c.args.context.now.moment p) m c.args.change _ c.args.consumer.now _ _ c.in-Pulls.is
    (reader_begins (at_moment c.args.context.now.moment p) m c.args.change _ _ c.args.consumer.now _ _ (c.begin.ensures.reader p) (c.begin.ensures.next m p) refl)
