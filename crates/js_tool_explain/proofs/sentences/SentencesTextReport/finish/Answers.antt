use Rattle.js_tool_explain.proofs.Steps.{text_done}
use Rattle.js_tool_explain.proofs.sentences.SentencesTextReport.finish.Goals as goal

pub returns : goal.returns
returns c = λ g start es has. text_done g start es c.args.ended c.args.events _ _ has.ends has.counted has.told c.in_ok-push_last.ensures
