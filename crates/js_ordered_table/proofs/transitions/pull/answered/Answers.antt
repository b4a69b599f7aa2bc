use Rattle.js_ordered_table.proofs.ReaderSteps.{steps_read}
use Rattle.js_ordered_table.proofs.transitions.pull.answered.Goals as goal

pub returns : goal.returns
returns c = λ reply message is. steps_read _ _ _ (λ met. c.pass_answered.ensures reply met is) reply message
