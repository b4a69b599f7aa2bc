use Rattle.js_ordered_stream.specs.Ordered.{given_to, position_of}
use Rattle.js_ordered_stream.specs.Rows.{read_in}
use Rattle.js_ordered_stream.proofs.LeftRows.{sleeps_until}
use Rattle.js_ordered_stream.proofs.ordered.Ordered.wakes_at.Goals as goal

pub returns-clause-value : goal.returns-clause-value
returns-clause-value c = λ now small. c.wakes_at.ensures now (read_in c.args.self.now.left.seen) small c.requires.stands

pub returns-clause-sleeps : goal.returns-clause-sleeps
returns-clause-sleeps c = sleeps_until (given_to c.args.self.now) c.wakes_at.result (position_of c.args.self.now) (λ now small. c.wakes_at.ensures now (read_in c.args.self.now.left.seen) small c.requires.stands)
