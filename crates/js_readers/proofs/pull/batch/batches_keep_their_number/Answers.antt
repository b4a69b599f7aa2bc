use Rattle.js_readers.proofs.BatchCounts.{keeps_its_number}
use Rattle.js_readers.proofs.pull.batch.batches_keep_their_number.Goals as goal

pub returns : goal.returns
returns c = keeps_its_number
