use Rattle.std.proofs.Common.{sym, ◌∙◌}
use Rattle.js_ordered_stream.specs.Rows.{later_of, read_in, todo_rows}
use Rattle.js_ordered_stream.proofs.NextRow.{follows_none, unheld_first}
use Rattle.js_ordered_stream.proofs.remaining_rows.TaskQueue.follow_one.Goals as goal

pub replace_first-requires : goal.replace_first-requires
replace_first-requires c = unheld_first (read_in c.args.seen.now) c.args.one c.requires (sym c.stands.ensures ∙ c.if-stands.true)

pub returns-then-stands-clause-stands : goal.returns-then-stands-clause-stands
returns-then-stands-clause-stands c = c.replace_first.ensures.stands (read_in c.args.seen.now) (sym c.stands.ensures ∙ c.if-stands.true)

pub returns-else-stands-clause-rows : goal.returns-else-stands-clause-rows
returns-else-stands-clause-rows c =
    let m = read_in c.args.seen.now in
    follows_none m c.args.one (later_of c.args.self.now) (todo_rows m c.advance.new.self) c.stands.result c.stands.ensures c.if-stands.false (c.advance.ensures.rows m)
