use Rattle.js_tool_event_log.proofs.sessions.refusal.push_replay.Goals as goal

pub returns-in-SequenceEnd : goal.returns-in-SequenceEnd
returns-in-SequenceEnd c = rw c.in-SequenceEnd.is c.push_numbered-in-SequenceEnd.ensures

pub returns-in-OutOfMemory : goal.returns-in-OutOfMemory
returns-in-OutOfMemory c = rw c.in-OutOfMemory.is c.push_named-in-OutOfMemory.ensures
