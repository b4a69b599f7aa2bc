use Rattle.js_readers.proofs.BatchReads.{sleeps}
use Rattle.js_readers.proofs.pull.batch.Batch.poll_next.Goals as goal

pub returns-clause-sleeps : goal.returns-clause-sleeps
returns-clause-sleeps g c = λ quiet early. sleeps _ _ _ _ _ _ c.poll.ensures quiet early
