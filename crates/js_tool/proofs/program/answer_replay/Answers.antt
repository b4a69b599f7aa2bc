use Rattle.js_tool.proofs.RunsTold.{as_run}
use Rattle.js_tool.proofs.program.answer_replay.Goals as goal

pub returns-clause-answers : goal.returns-clause-answers
returns-clause-answers g c = as_run _ _ _ _ _ _ _ _ c.answer_text.ensures.answers
