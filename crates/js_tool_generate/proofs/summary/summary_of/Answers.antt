use Rattle.std.proofs.Common.{◌≡◌, ◌++◌, [], length, take, subst}
use Rattle.js_ordered_table.specs.Gapless.{joined}
use Rattle.js_tool_generate.specs.Summary.{counts}
use Rattle.js_tool_generate.proofs.Tallies.{counted_opening, counted_step}
use Rattle.js_tool_generate.proofs.summary.summary_of.Goals as goal

pub loop-step-init : goal.loop-step-init
loop-step-init c =
    let opening = c.args.run.now.opening.outputs in
    let steps = c.as_slice-steps.result.now in
    let summary = c.count_all.new.self in
    let more = c.in_ok-count_all.ensures (length steps) [] c.new-summary.ensures in
    counted_opening opening steps (length steps) summary (subst (λ outputs. summary ≡ counts (length steps) outputs) c.as_slice.ensures more)

pub loop-step-preserved : goal.loop-step-preserved
loop-step-preserved c =
    let opening = c.args.run.now.opening.outputs in
    let steps = c.as_slice-steps.result.now in
    let i = c.loop-step.step-index in
    let summary = c.count_all-in-loop-step.new.self in
    let more = c.in_ok-count_all-2.ensures (length steps) (opening ++ joined (take i steps)) c.loop-step.invariant in
    counted_step opening steps i c.step-item.result (length steps) summary c.loop-step-test.true c.step-item.is
    (subst (λ outputs. summary ≡ counts (length steps) ((opening ++ joined (take i steps)) ++ outputs)) c.as_slice-in-loop-step.ensures more)
