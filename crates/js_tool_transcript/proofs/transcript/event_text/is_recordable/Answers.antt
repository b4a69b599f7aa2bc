use Rattle.std.proofs.Common.{◌∙◌}
use Rattle.js_tool_transcript.proofs.RecordableRead.{said_is_recordable}
use Rattle.js_tool_transcript.proofs.transcript.event_text.is_recordable.Goals as goal

pub returns-clause-said : goal.returns-clause-said
returns-clause-said c = λ line says. c.is_recordable_kind.ensures ∙ said_is_recordable c.args.event.now line says
