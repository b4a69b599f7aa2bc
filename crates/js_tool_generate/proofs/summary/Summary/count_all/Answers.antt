use Rattle.std.proofs.Common.{◌++◌, take}
use Rattle.js_tool_generate.proofs.Tallies.{counted_next, counted_all}
use Rattle.js_tool_generate.proofs.summary.Summary.count_all.Goals as goal

pub loop-output-preserved : goal.loop-output-preserved
loop-output-preserved c = λ events before was.
    let seen = c.loop-output.invariant events before was in
    let more = c.in_ok-count.ensures events (before ++ take c.loop-output.output-index c.args.step.now) seen in
    counted_next before c.args.step.now c.loop-output.output-index c.output-item.result events c.count.new.self c.loop-output-test.true c.output-item.is more

pub returns : goal.returns
returns c = λ events before was.
    counted_all before c.args.step.now c.loop-output.output-index events c.loop-output.self c.loop-output-test.false (c.loop-output.invariant events before was)
