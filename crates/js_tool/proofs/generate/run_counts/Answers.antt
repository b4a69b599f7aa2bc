use Rattle.js_tool_generate.proofs.WholeRun.{if_ok}
use Rattle.js_tool.proofs.generate.run_counts.Goals as goal

pub returns : goal.returns
returns c = if_ok c.summary_of.result (λ s counts. (c.in_ok-run.run', c.in_ok-run.ensures, counts)) c.summary_of.ensures
