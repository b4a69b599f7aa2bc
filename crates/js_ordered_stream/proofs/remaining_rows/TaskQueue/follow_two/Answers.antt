use Rattle.std.proofs.Common.{sym, ◌∙◌}
use Rattle.js_ordered_stream.specs.Rows.{later_of, read_in, todo_rows}
use Rattle.js_ordered_stream.proofs.NextRow.{follows_second, unheld_first}
use Rattle.js_ordered_stream.proofs.remaining_rows.TaskQueue.follow_two.Goals as goal

pub follow_both-requires-clause-stands : goal.follow_both-requires-clause-stands
follow_both-requires-clause-stands c = sym c.stands.ensures ∙ c.if-stands.true

pub follow_both-requires-clause-held : goal.follow_both-requires-clause-held
follow_both-requires-clause-held c = unheld_first (read_in c.args.seen.now) c.args.one c.requires.first (sym c.stands.ensures ∙ c.if-stands.true)

pub returns-else-stands-clause-rows : goal.returns-else-stands-clause-rows
returns-else-stands-clause-rows c =
    let m = read_in c.args.seen.now in
    follows_second m c.args.one c.args.second (later_of c.args.self.now) (todo_rows m c.follow_one.new.self) c.stands.result c.stands.ensures c.if-stands.false c.follow_one.ensures.rows
