use Rattle.js_link_wire.proofs.Again.{read_again}
use Rattle.js_link_wire.proofs.laws.frames_are_read_again.Goals as goal

pub returns : goal.returns
returns c = read_again
