use Rattle.js_link_wire.proofs.Pieces.{read_as_one}
use Rattle.js_link_wire.proofs.laws.pieces_are_read_as_one.Goals as goal

pub returns : goal.returns
returns c = read_as_one
