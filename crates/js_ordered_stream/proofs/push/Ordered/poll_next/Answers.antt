use Rattle.js_ordered_table.proofs.Sleep.{poll_sleeps}
use Rattle.js_ordered_stream.proofs.push.Ordered.poll_next.Goals as goal

pub returns-clause-sleeps : goal.returns-clause-sleeps
returns-clause-sleeps g c = λ alone. poll_sleeps _ _ _ _ _ _ _ c.poll_next.ensures.polls alone
