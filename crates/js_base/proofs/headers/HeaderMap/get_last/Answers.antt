use Rattle.std.proofs.Common.{◌∙◌, ap, reverse}
use Rattle.js_base.specs.Headers.{first_found}
use Rattle.js_base.proofs.FirstValue.{found_is}
use Rattle.js_base.proofs.headers.HeaderMap.get_last.Goals as goal

pub returns : goal.returns
returns c =
    c.last_named.ensures ∙ ap (λ headers. first_found c.args.name.now (reverse headers)) (c.as_slice.ensures ∙ c.self.view_is)
    ∙ found_is c.args.name.now (reverse c.args.self.now)
