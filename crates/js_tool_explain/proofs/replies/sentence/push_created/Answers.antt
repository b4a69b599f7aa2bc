use Rattle.js_tool_explain.proofs.replies.sentence.push_created.Goals as goal

pub returns-in-All : goal.returns-in-All
returns-in-All c = rw c.in-All.is (rw c.as_bytes.ensures.value at c.push_line.ensures)

pub returns-in-From : goal.returns-in-From
returns-in-From c = rw c.in-From.is (rw c.as_bytes-in-From.ensures.value at c.push_line-in-From.ensures)
