use Rattle.js_tool_event_log.proofs.LinesLeft.{read_next}
use Rattle.js_tool_event_log.proofs.sessions.reader.Reader.read_rest.Goals as goal

pub loop-said-preserved : goal.loop-said-preserved
loop-said-preserved c = record {
  read = read_next c.args.self.now c.loop-said.self c.next.new.self c.in_ok-said.field-0 c.in-Some.said c.loop-said.invariant.read c.in-Some.is c.in_ok-said.ensures.reads;
  room = c.in_ok-said.ensures.room;
}
