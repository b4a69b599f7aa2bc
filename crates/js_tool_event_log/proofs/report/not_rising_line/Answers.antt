use Rattle.js_tool_event_log.proofs.report.not_rising_line.Goals as goal

pub returns : goal.returns
returns c = rw c.new-out.ensures.items at c.in_ok-push_line.ensures
