use Rattle.std.proofs.Common.{refl, ap, ◌∙◌}
use Rattle.js_ordered_table.specs.declared.replay_state.ReplayState.{ReplayState}
use Rattle.js_tool_explain.proofs.Steps.{text_passes}
use Rattle.js_tool_explain.proofs.sentences.SentencesStepReport.pass.Goals as goal

pub returns-clause-told : goal.returns-clause-told
returns-clause-told c = λ start es was told.
    let come = c.in_ok-advance.ensures.passed _ start es was in
    text_passes _ start es c.args.event.now _ _ _ c.state-2.result.now c.outputs.result.now _ _ _ refl
    (ap (λ (w : ReplayState). w.consumer) (c.state.ensures ∙ was.state)) (c.state-2.ensures ∙ come.state) (c.outputs.ensures ∙ come.outputs)
    c.standing_before-before.ensures told c.in_ok-push_causes.ensures c.in_ok-push_results.ensures
