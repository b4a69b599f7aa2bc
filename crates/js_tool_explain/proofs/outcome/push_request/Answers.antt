use Rattle.js_tool_explain.proofs.outcome.push_request.Goals as goal

pub returns-in-Delete : goal.returns-in-Delete
returns-in-Delete c = rw (← c.in-Delete.ensures) c.push_numbered.ensures

pub returns-in-Info : goal.returns-in-Info
returns-in-Info c = rw (← c.in-Info.ensures) c.push_numbered-in-Info.ensures
