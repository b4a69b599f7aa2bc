use Rattle.std.proofs.Common.{length}
use Rattle.js_tool_event_log.specs.SessionProgress.{HasRoom}
use Rattle.js_tool_event_log.proofs.SessionRuns.{HasRun}
use Rattle.js_tool_event_log.proofs.sessions.report.run_all.Given as goal

abbrev pub invariant-loop-so_far : goal.invariant-loop-so_far
invariant-loop-so_far l = record {
  run : HasRun l.next l.fn.first l.fn.reader l.ended l.setup l.reader;
  room : HasRoom l.reader;
}

abbrev pub decreases-loop-so_far : goal.decreases-loop-so_far
decreases-loop-so_far l = length l.reader.lines.left
