use Rattle.std.proofs.Common.{◌≡◌, ◌≤◌, ◌+◌, length}
use Rattle.js_tool_io.specs.Lines.{lines_of}
use Rattle.js_tool.specs.Progress.{PassesTo, event_error}
use Rattle.js_tool.proofs.progress.pass_lines.Given as goal

abbrev pub invariant-loop-rest : goal.invariant-loop-rest
invariant-loop-rest g l = record {
  passes : PassesTo g.R.StepReport.tells l.form l.initial.progress (lines_of l.bytes) l.progress (lines_of l.rest);
  counted : l.progress.replay.count + length l.rest ≤ l.initial.progress.replay.count + length l.bytes;
  told : event_error l.form (lines_of l.bytes) ≡ event_error l.form (lines_of l.rest);
}

abbrev pub decreases-loop-rest : goal.decreases-loop-rest
decreases-loop-rest g l = length l.rest
