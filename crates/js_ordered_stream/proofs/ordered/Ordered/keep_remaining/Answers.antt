use Rattle.std.proofs.Common.{◌++◌}
use Rattle.js_ordered_table.specs.Tasks.{next_rows}
use Rattle.js_ordered_stream.specs.Rows.{kept_if, later_of, read_in}
use Rattle.js_ordered_stream.specs.Ordered.{given_to}
use Rattle.js_ordered_stream.proofs.NextRow.{turn_short}
use Rattle.js_ordered_stream.proofs.SteadyStates.{settled_steady}
use Rattle.js_ordered_stream.proofs.ordered.Ordered.keep_remaining.Goals as goal

pub follow-requires-clause-short : goal.follow-requires-clause-short
follow-requires-clause-short c =
    let kept = kept_if c.args.done.looked c.args.self.now.left.seen in
    turn_short (given_to c.args.self.now).setup (next_rows (read_in kept) c.args.done.next ++ later_of c.args.self.now.left.todo) c.requires.turn

pub returns-in-Nothing-clause-steady : goal.returns-in-Nothing-clause-steady
returns-in-Nothing-clause-steady c = settled_steady (given_to c.args.self.now).setup c.args.self.now.consumer c.args.self.now.left c.follow.new.self c.args.done c.requires.plain c.requires.turn c.follow.ensures.rows c.follow.ensures.stands c.follow.ensures.held

pub returns-in-Message-clause-steady : goal.returns-in-Message-clause-steady
returns-in-Message-clause-steady c = settled_steady (given_to c.args.self.now).setup c.args.self.now.consumer c.args.self.now.left c.follow.new.self c.args.done c.requires.plain c.requires.turn c.follow.ensures.rows c.follow.ensures.stands c.follow.ensures.held

pub returns-in-Error-clause-steady : goal.returns-in-Error-clause-steady
returns-in-Error-clause-steady c = settled_steady (given_to c.args.self.now).setup c.args.self.now.consumer c.args.self.now.left c.follow.new.self c.args.done c.requires.plain c.requires.turn c.follow.ensures.rows c.follow.ensures.stands c.follow.ensures.held
