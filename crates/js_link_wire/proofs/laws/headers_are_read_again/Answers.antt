use Rattle.js_link_wire.proofs.HeadersAgain.{block_again}
use Rattle.js_link_wire.proofs.laws.headers_are_read_again.Goals as goal

pub returns : goal.returns
returns c = block_again
