use Rattle.std.proofs.Common.{codes}
use Rattle.std.proofs.lemmas.Str.Pattern.{starts_text}
use Rattle.js_pull.proofs.kind.is_limit.Goals as goal

pub returns : goal.returns
returns c = starts_text c.starts_with.result (codes "Exceeded MaxRequest") c.args.description.now c.starts_with.ensures.cases
