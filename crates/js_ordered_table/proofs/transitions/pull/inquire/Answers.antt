use Rattle.js_ordered_table.proofs.ReaderSteps.{inquired}
use Rattle.js_ordered_table.proofs.transitions.pull.inquire.Goals as goal

pub returns : goal.returns
returns c = λ p reply message. inquired c.args.now c.args.request c.args.failures c.args.reader.now _ c.pass_inquire.result c.pass_inquire.ensures p reply message
