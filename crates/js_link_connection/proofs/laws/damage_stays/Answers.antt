use Rattle.js_link_connection.proofs.Frames.{stays_damaged}
use Rattle.js_link_connection.proofs.laws.damage_stays.Goals as goal

pub returns : goal.returns
returns c = stays_damaged
