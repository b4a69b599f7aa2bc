use Rattle.js_ordered_table.proofs.ReaderSteps.{steps_read}
use Rattle.js_ordered_table.proofs.transitions.pull.ask.Goals as goal

pub returns : goal.returns
returns c = λ p reply message.
    let read = steps_read _ _ _ c.pass_ask.ensures reply message in
    record { reader = read.reader; told = read.told; next = read.next }
