use Rattle.std.proofs.Common.{◌∙◌}
use Rattle.js_base.proofs.Numeral.{unsigned_of-parse}
use Rattle.js_json_members.proofs.kinds.u8_of.Goals as goal

pub returns : goal.returns
returns c = c.ok.ensures.value ∙ unsigned_of-parse 8 c.args.text.now c.parse.result c.parse.ensures.value.0
