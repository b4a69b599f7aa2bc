use Rattle.js_tool.proofs.Reruns.{as_transcript}
use Rattle.js_tool.proofs.RunsTold.{as_run}
use Rattle.js_tool.proofs.program.rerun.Goals as goal

pub returns-clause-answers : goal.returns-clause-answers
returns-clause-answers g c = as_run _ _ _ _ _ _ _ _ c.answer_text.ensures.answers

pub returns-clause-replay : goal.returns-clause-replay
returns-clause-replay g c = λ bytes t is reads.
    as_run _ _ _ _ _ _ _ _ (as_transcript _ _ _ _ _ _ c.answer_text.result bytes _ t is reads c.answer_text.ensures.answers)
