use Rattle.std.proofs.Common.{◌≤◌, length}
use Rattle.js_tool_event_log.specs.SessionProgress.{HasRoom}
use Rattle.js_tool_event_log.proofs.LinesLeft.{Going}
use Rattle.js_tool_event_log.proofs.sessions.session.SessionText.pass_lines.Given as goal

abbrev pub invariant-loop-said : goal.invariant-loop-said
invariant-loop-said l = record {
  going : Going l.initial.self l.initial.reader l.self l.reader;
  left : length l.reader.lines.left ≤ length l.initial.reader.lines.left;
  room : HasRoom l.reader;
}

abbrev pub decreases-loop-said : goal.decreases-loop-said
decreases-loop-said l = length l.reader.lines.left
