use Rattle.js_link_wire.proofs.Cuts.{parts_cut, parts_last}
use Rattle.js_link_wire.proofs.words.cut.Goals as goal

pub returns-in-Some-clause-parts : goal.returns-in-Some-clause-parts
returns-in-Some-clause-parts c = parts_cut c.args.text.now (c.in-Some.part, c.in-Some.rest) c.in-Some.ensures.cases

pub returns-in-None-clause-parts : goal.returns-in-None-clause-parts
returns-in-None-clause-parts c = parts_last c.args.text.now c.in-None.ensures.cases
