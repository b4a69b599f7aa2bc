use Rattle.std.proofs.Common.{◌≡◌, ◌++◌, [], sym, ap, ◌∙◌, subst, append-nil, take, take_all, arith}
use Rattle.js_ordered_table.specs.Gapless.{joined, all_outputs, IsHonest}
use Rattle.js_ordered_table.specs.declared.run.Run.{Run}
use Rattle.js_event_log.specs.Projection.{RisesAbove}
use Rattle.js_event_log.specs.RunProjection.{yielded, projected, IsProjected}
use Rattle.js_event_log.specs.LogTable.{HasLogsTable}
use Rattle.js_event_log.proofs.AppliedYields.{is_projected, applied_all, none_refuses, one_step_more}
use Rattle.js_event_log.proofs.HonestLog.{run_has_table, run_rises}
use Rattle.js_event_log.proofs.run_projection.project.Goals as goal

pub loop-step-init : goal.loop-step-init
loop-step-init c =
    c.in_ok-advance.ensures.advanced [] c.new-projection.ensures
    ∙ ap (λ outputs. projected (yielded outputs)) (c.as_slice.ensures ∙ sym (append-nil c.args.run.now.opening.outputs))

pub loop-step-preserved : goal.loop-step-preserved
loop-step-preserved c =
    let opening = c.args.run.now.opening.outputs in
    let steps = c.as_slice-step-items.result.now in
    let i = c.loop-step.step-index in
    c.in_ok-advance-2.ensures.advanced (opening ++ joined (take i steps)) c.loop-step.invariant
    ∙ ap (λ outputs. projected (yielded ((opening ++ joined (take i steps)) ++ outputs))) c.as_slice-in-loop-step.ensures
    ∙ ap (λ outputs. projected (yielded outputs)) (one_step_more opening steps i c.step-item.result (omega (arith, c.loop-step-test.true)) c.step-item.is)

-- all outputs were applied
is_whole : (c : goal.After-end) → c.end.result ≡ projected (yielded (all_outputs c.args.run.now))
is_whole c =
    let all : take c.loop-step.step-index c.as_slice-step-items.result.now ≡ c.args.run.now.steps =
    take_all c.loop-step.step-index c.as_slice-step-items.result.now c.loop-step-test.false ∙ c.as_slice-step-items.ensures in
    c.end.ensures ∙ c.loop-step.invariant ∙ ap (λ steps. projected (yielded (c.args.run.now.opening.outputs ++ joined steps))) all

applied : (c : goal.After-end) → IsProjected (yielded (all_outputs c.args.run.now)) c.end.result
applied c = is_projected (yielded (all_outputs c.args.run.now)) c.end.result (is_whole c)

pub returns-clause-applied : goal.returns-clause-applied
returns-clause-applied c = applied c

pub returns-clause-log : goal.returns-clause-log
returns-clause-log c g start es same =
    applied_all (yielded (all_outputs c.args.run.now)) c.end.result (applied c) (HasLogsTable g.setup es c.args.run.now)
    (subst (λ (run : Run). HasLogsTable g.setup es run (yielded (all_outputs run))) (sym same) (run_has_table g start es))

pub returns-clause-risen : goal.returns-clause-risen
returns-clause-risen c g start es s same honest last refused =
    none_refuses (yielded (all_outputs c.args.run.now)) c.end.result (applied c)
    (subst (λ (run : Run). RisesAbove 0 (yielded (all_outputs run))) (sym same) (run_rises g start es s (subst (λ (run : Run). IsHonest s g.setup es run) same honest)))
    last refused
