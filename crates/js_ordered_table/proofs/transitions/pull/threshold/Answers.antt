use Rattle.js_ordered_table.proofs.ReaderSteps.{steps_read}
use Rattle.js_ordered_table.proofs.transitions.pull.threshold.Goals as goal

pub returns : goal.returns
returns c = λ reply message. steps_read _ _ _ c.pass_threshold.ensures reply message
