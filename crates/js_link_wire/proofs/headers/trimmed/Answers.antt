use Rattle.std.proofs.lemmas.Str.Ascii.{trim_ascii_start_is}
use Rattle.js_link_wire.specs.Headers.{trimmed}
use Rattle.js_link_wire.proofs.headers.trimmed.Goals as goal

pub returns : goal.returns
unfolding trimmed
returns c = trim_ascii_start_is c.args.bytes.now c.trim_ascii_start.result.now c.trim_ascii_start.ensures.value
