use Rattle.js_base.proofs.CutTokens.{tokens_cut, tokens_last}
use Rattle.js_base.proofs.subject_tokens.cut.Goals as goal

pub returns-in-Some : goal.returns-in-Some
returns-in-Some c = tokens_cut c.args.text.now (c.in-Some.token, c.in-Some.rest) c.in-Some.ensures.cases

pub returns-in-None : goal.returns-in-None
returns-in-None c = tokens_last c.args.text.now c.in-None.ensures.cases
