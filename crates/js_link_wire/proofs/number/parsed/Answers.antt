use Rattle.std.proofs.Common.{◌∙◌}
use Rattle.js_base.proofs.Numeral.{unsigned_of-parse}
use Rattle.js_link_wire.proofs.number.parsed.Goals as goal

pub returns : goal.returns
returns c = c.ok.ensures.value ∙ unsigned_of-parse 64 c.args.word.now c.parse.result c.parse.ensures.value.0
