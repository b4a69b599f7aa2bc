-- How a refusal by a link is printed.
use Rattle.std.specs.Prelude.{ℕ, List, codes}
use Rattle.js_link.specs.declared.link.LinkError.{LinkError}
use Rattle.js_link.specs.declared.link.LinkError.TheVariants.{Failed, OutOfMemory}

-- why a call of a link was refused
abbrev pub link_text : LinkError → List ℕ
link_text Failed = codes "link failed"
link_text OutOfMemory = codes "out of memory"
