use Rattle.js_readers.proofs.BatchCounts.{stays_ended}
use Rattle.js_readers.proofs.pull.batch.ended_batches_stay_ended.Goals as goal

pub returns : goal.returns
returns c = stays_ended
