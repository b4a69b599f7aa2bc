use Rattle.js_link_wire.proofs.HeaderSteps.{cut_found, cut_none}
use Rattle.js_link_wire.proofs.headers.cut_at.Goals as goal

pub returns-in-Some-clause-value : goal.returns-in-Some-clause-value
returns-in-Some-clause-value c = cut_found c.args.byte c.args.damage c.args.bytes.now c.in-Some.end c.in-Some.ensures

pub returns-in-None-clause-value : goal.returns-in-None-clause-value
returns-in-None-clause-value c = cut_none c.args.byte c.args.damage c.args.bytes.now c.in-None.ensures
