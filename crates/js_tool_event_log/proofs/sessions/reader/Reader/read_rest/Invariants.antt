use Rattle.std.proofs.Common.{length}
use Rattle.js_tool_event_log.specs.SessionProgress.{HasRoom}
use Rattle.js_tool_event_log.proofs.LinesLeft.{HasRead}
use Rattle.js_tool_event_log.proofs.sessions.reader.Reader.read_rest.Given as goal

abbrev pub invariant-loop-said : goal.invariant-loop-said
invariant-loop-said l = record {
  read : HasRead l.initial.self l.self;
  room : HasRoom l.self;
}

abbrev pub decreases-loop-said : goal.decreases-loop-said
decreases-loop-said l = length l.self.lines.left
