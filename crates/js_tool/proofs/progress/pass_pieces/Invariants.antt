use Rattle.std.proofs.Common.{◌≡◌, ◌≤◌, ◌+◌, ◌++◌, length}
use Rattle.js_tool_io.specs.Lines.{lines_of}
use Rattle.js_tool.specs.Progress.{PassesTo, event_error}
use Rattle.js_tool.proofs.progress.pass_pieces.Given as goal

abbrev pub invariant-loop-piece : goal.invariant-loop-piece
invariant-loop-piece g l = record {
  passes : PassesTo g.R.StepReport.tells l.fn.form l.fn.progress (lines_of l.fn.piece ++ lines_of l.fn.bytes) l.progress (lines_of l.bytes);
  counted : l.progress.replay.count + length l.bytes ≤ 67_108_864;
  told : event_error l.fn.form (lines_of l.fn.piece ++ lines_of l.fn.bytes) ≡ event_error l.fn.form (lines_of l.bytes);
}

abbrev pub decreases-loop-piece : goal.decreases-loop-piece
decreases-loop-piece g l = length l.bytes
