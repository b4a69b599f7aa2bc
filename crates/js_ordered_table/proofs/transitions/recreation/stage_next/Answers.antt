use Rattle.js_ordered_table.specs.Tasks.{at_moment, next_rows}
use Rattle.js_ordered_table.specs.declared.consumer.Stage.TheVariants.{Deleting, Waiting}
use Rattle.js_ordered_table.specs.Passes.{input_of}
use Rattle.js_ordered_table.proofs.PassedRows.{staged}
use Rattle.js_ordered_table.proofs.transitions.recreation.stage_next.Goals as goal

pub returns-in-Deleting : goal.returns-in-Deleting
returns-in-Deleting c = λ m p.
    staged (input_of c.args.context.now) (at_moment c.args.context.now.moment p) m c.args.stage (Deleting c.in-Deleting.request c.in-Deleting.timeout) c.args.is_answered (next_rows m c.delete_next.result) c.in-Deleting.is
    (c.delete_next.ensures m p c.in-Deleting.request)

pub returns-in-Waiting : goal.returns-in-Waiting
returns-in-Waiting c = λ m p.
    staged (input_of c.args.context.now) (at_moment c.args.context.now.moment p) m c.args.stage (Waiting c.in-Waiting.wait) c.args.is_answered (next_rows m c.wait_next.result) c.in-Waiting.is (λ _. c.wait_next.ensures m p)
