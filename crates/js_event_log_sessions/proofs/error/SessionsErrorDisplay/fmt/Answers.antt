use Rattle.js_event_log_sessions.proofs.error.SessionsErrorDisplay.fmt.Goals as goal

pub returns-in-BadSettings-clause-writes : goal.returns-in-BadSettings-clause-writes
returns-in-BadSettings-clause-writes g c = rw (c.in-Replay.is, c.in-BadSettings.is, ← c.field_text-field.ensures) c.write-in-BadSettings.ensures.writes

pub returns-in-SequenceEnd-clause-writes : goal.returns-in-SequenceEnd-clause-writes
returns-in-SequenceEnd-clause-writes g c = rw (c.in-Replay.is, c.in-SequenceEnd.is) c.write-in-SequenceEnd.ensures.writes
