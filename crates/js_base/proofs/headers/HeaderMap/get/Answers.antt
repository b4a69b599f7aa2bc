use Rattle.std.proofs.Common.{◌∙◌, ap}
use Rattle.js_base.specs.Headers.{first_found}
use Rattle.js_base.proofs.FirstValue.{found_is}
use Rattle.js_base.proofs.headers.HeaderMap.get.Goals as goal

pub returns : goal.returns
returns c =
    c.first_named.ensures ∙ ap (λ headers. first_found c.args.name.now headers) (c.as_slice.ensures ∙ c.self.view_is)
    ∙ found_is c.args.name.now c.args.self.now
