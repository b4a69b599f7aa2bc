use Rattle.js_tool_explain.proofs.step.push_end_of.Goals as goal

pub returns-then-not-was_over : goal.returns-then-not-was_over
returns-then-not-was_over c = rw (← c.is_over.ensures, c.if-is_over.true, c.if-not-was_over.true) c.push_line.ensures
