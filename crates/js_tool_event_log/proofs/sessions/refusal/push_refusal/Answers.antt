use Rattle.js_tool_event_log.proofs.sessions.refusal.push_refusal.Goals as goal

pub returns-in-WrongFilter : goal.returns-in-WrongFilter
returns-in-WrongFilter c = rw c.in-WrongFilter.is c.push_named.ensures

pub returns-in-BookmarkEnd : goal.returns-in-BookmarkEnd
returns-in-BookmarkEnd c = rw c.in-BookmarkEnd.is c.push_named-in-BookmarkEnd.ensures

pub returns-in-OutOfMemory : goal.returns-in-OutOfMemory
returns-in-OutOfMemory c = rw c.in-OutOfMemory.is c.push_line.ensures
