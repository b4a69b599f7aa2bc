use Rattle.js_link_wire.proofs.Pieces.{read_as_one}
use Rattle.js_link_connection.proofs.Frames.{takes_as_one, read_alone}
use Rattle.js_link_connection.proofs.laws.pieces_are_received_as_one.Goals as goal

pub returns-clause-read : goal.returns-clause-read
returns-clause-read c = read_as_one

pub returns-clause-takes : goal.returns-clause-takes
returns-clause-takes c = takes_as_one

pub returns-clause-alone : goal.returns-clause-alone
returns-clause-alone c = read_alone
