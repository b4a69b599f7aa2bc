use Rattle.js_tool.proofs.Reruns.{as_transcript}
use Rattle.js_tool_explain.proofs.answer.explain.Goals as goal

pub returns-clause-plain : goal.returns-clause-plain
returns-clause-plain g c = λ bytes t is reads. as_transcript _ _ _ _ _ _ c.answer_text.result bytes _ t is reads c.answer_text.ensures.answers
