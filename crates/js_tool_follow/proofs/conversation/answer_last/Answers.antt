use Rattle.std.proofs.Common.{◌++◌, ◌∷◌, [], Some}
use Rattle.js_tool_follow.proofs.conversation.answer_last.Goals as goal

pub returns-in-None-clause-ended : goal.returns-in-None-clause-ended
returns-in-None-clause-ended g c = λ asked from told before stands cut.
    c.answer_end.ensures.ended asked from (told ++ c.args.line.now ∷ []) (Some []) (c.in-None.ensures.told asked from told before (Some []) stands cut) cut

pub returns-in-None-clause-punctual : goal.returns-in-None-clause-punctual
returns-in-None-clause-punctual g c = λ asked was. c.answer_end.ensures.punctual asked (c.in-None.ensures.punctual asked was)
