use Rattle.js_link_wire.proofs.InLine.{line_stays_one, headers_stay_one}
use Rattle.js_link_wire.proofs.laws.lines_stay_whole.Goals as goal

pub returns-clause-line : goal.returns-clause-line
returns-clause-line c = line_stays_one

pub returns-clause-headers : goal.returns-clause-headers
returns-clause-headers c = headers_stay_one
