use Rattle.js_base.proofs.CutTokens.{tokens_left-empty}
use Rattle.js_base.proofs.subject_tokens.Tokens.is_empty.Goals as goal

pub returns : goal.returns
returns c = rw (← c.self.view_is) (tokens_left-empty c.self.inside.rest c.is_none.result c.is_none.ensures)
