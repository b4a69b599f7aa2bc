use Rattle.std.proofs.Common.{◌∙◌}
use Rattle.js_tool_explain.proofs.Steps.{text_opens}
use Rattle.js_tool_explain.proofs.sentences.SentencesStepReport.open.Goals as goal

pub returns : goal.returns
returns c = λ come.
    text_opens _ _ c.state.result.now c.outputs.result.now _ (c.state.ensures ∙ come.state) (c.outputs.ensures ∙ come.outputs) (rw c.new-text.ensures.items at c.in_ok-push_opening.ensures)
