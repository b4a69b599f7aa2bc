use Rattle.js_tool_event_log.proofs.sessions.refusal.push_bad_settings.Goals as goal

pub returns : goal.returns
returns c = rw (← c.field_text.ensures) c.push_line.ensures
