use Rattle.std.proofs.Common.{Some, true, refl, sym, subst}
use Rattle.js_link.specs.declared.wish.Met.TheVariants.{Empty, Took}
use Rattle.js_ordered_table.specs.declared.transitions.task.NextTasks.TheVariants as next
use Rattle.js_ordered_table.specs.declared.transitions.task.Task.TheVariants as task
use Rattle.js_ordered_stream.specs.declared.remaining_rows.Seen.{Seen}
use Rattle.js_ordered_stream.specs.declared.rows.RowItem.TheVariants as hands
use Rattle.js_ordered_stream.specs.Rows.{Looked}
use Rattle.js_ordered_stream.proofs.PushRows.{looked_none, looked_some}
use Rattle.js_ordered_stream.proofs.push_rows.look_into.Goals as goal

pub returns-in-Empty-clause-looks : goal.returns-in-Empty-clause-looks
returns-in-Empty-clause-looks g c = (Empty, c.in-Empty.ensures, refl, looked_none c.args.inbox c.args.seen.now c.followed_by.result c.followed_by.ensures)

pub returns-in-Message-clause-looks : goal.returns-in-Message-clause-looks
returns-in-Message-clause-looks g c = (
  Took c.in-Message.message,
  c.in-Message.ensures,
  refl,
  subst (λ (s : Seen). Looked c.args.inbox (Some c.in-Message.message) s (record { handed = hands.Nothing; looked = true; next = next.One (task.Hear c.args.inbox) })) (sym c.replace_with.ensures) (looked_some c.args.inbox c.in-Message.message),
)
