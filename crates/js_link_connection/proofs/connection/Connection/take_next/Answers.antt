use Rattle.std.proofs.Common.{length}
use Rattle.js_link_connection.proofs.Frames.{place_same}
use Rattle.js_link_connection.proofs.connection.Connection.take_next.Goals as goal

pub returns-in-Ok-More-clause-place : goal.returns-in-Ok-More-clause-place
returns-in-Ok-More-clause-place c = place_same c.args.self.now.place (length c.args.self.now.came)

pub returns-in-Ok-Damaged-clause-place : goal.returns-in-Ok-Damaged-clause-place
returns-in-Ok-Damaged-clause-place c = place_same c.args.self.now.place (length c.args.self.now.came)

pub returns-in-Err-clause-place : goal.returns-in-Err-clause-place
returns-in-Err-clause-place c = place_same c.args.self.now.place (length c.args.self.now.came)
