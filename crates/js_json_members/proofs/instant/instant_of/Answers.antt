use Rattle.std.proofs.Common.{◌∙◌}
use Rattle.js_json_members.proofs.InstantAt.{read_instant}
use Rattle.js_json_members.proofs.instant.instant_of.Goals as goal

pub returns : goal.returns
returns c = c.ok.ensures.value ∙ read_instant c.args.text.now c.parse.result c.parse.ensures.value
