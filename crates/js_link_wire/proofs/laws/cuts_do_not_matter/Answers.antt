use Rattle.js_link_wire.proofs.Stable.{whole_stays, damaged_stays}
use Rattle.js_link_wire.proofs.laws.cuts_do_not_matter.Goals as goal

pub returns-clause-whole : goal.returns-clause-whole
returns-clause-whole c = whole_stays

pub returns-clause-damaged : goal.returns-clause-damaged
returns-clause-damaged c = damaged_stays
