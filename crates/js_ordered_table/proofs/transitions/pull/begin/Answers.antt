use Rattle.std.proofs.Common.{List, ap, ◌∙◌}
use Rattle.std.specs.Prelude.{map}
use Rattle.js_pull.specs.Rows.{brought}
use Rattle.js_pull.specs.declared.reader.Row.{Row}
use Rattle.js_ordered_table.specs.declared.row.Row.TheVariants as row
use Rattle.js_ordered_table.proofs.transitions.pull.begin.Goals as goal

pub returns-clause-next : goal.returns-clause-next
returns-clause-next c = λ m p. c.tasks_of.ensures m ∙ ap (λ (rows : List Row). map row.Read rows) (c.begin.ensures.next (brought m.answer) (brought m.answer))
