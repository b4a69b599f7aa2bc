use Rattle.std.proofs.Common.{◌∙◌, sym}
use Rattle.js_message.proofs.Digits.{u64_of-digits}
use Rattle.js_message.proofs.ReadNumbers.{u64_of-parse}
use Rattle.js_message.proofs.numbers.read_u64.Goals as goal

pub returns-in-Some : goal.returns-in-Some
returns-in-Some c = sym (u64_of-digits c.args.text.now c.in-Some.number c.in-Some.ensures)

pub returns-in-None : goal.returns-in-None
returns-in-None c = c.ok.ensures.value ∙ u64_of-parse c.args.text.now c.parse.result c.parse.ensures.value.0
