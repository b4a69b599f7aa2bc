use Rattle.js_tool_explain.proofs.replies.sentence.push_awaited.Goals as goal

pub returns-in-Expired : goal.returns-in-Expired
returns-in-Expired c = rw c.in-Expired.is c.push_wait.ensures

pub returns-in-InfoDue : goal.returns-in-InfoDue
returns-in-InfoDue c = rw c.in-InfoDue.is c.push_wait-in-InfoDue.ensures

pub returns-in-NotCreated : goal.returns-in-NotCreated
returns-in-NotCreated c = rw c.in-NotCreated.is c.push_answered-in-NotCreated.ensures

pub returns-in-CreateLate : goal.returns-in-CreateLate
returns-in-CreateLate c = rw c.in-CreateLate.is c.push_late-in-CreateLate.ensures

pub returns-in-TryDue : goal.returns-in-TryDue
returns-in-TryDue c = rw c.in-TryDue.is c.push_wait-in-TryDue.ensures
