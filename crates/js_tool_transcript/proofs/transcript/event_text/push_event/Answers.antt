use Rattle.js_tool_transcript.proofs.EventLine.{event_cut}
use Rattle.js_tool_transcript.proofs.EventRead.{event_reads}
use Rattle.js_tool_transcript.proofs.transcript.event_text.push_event.Goals as goal

pub returns-clause-line : goal.returns-clause-line
returns-clause-line c = λ rest. event_cut c.args.event.now c.in_ok-push_number_member.ensures.small c.in_ok-push_what.ensures.typed rest

pub returns-clause-reads : goal.returns-clause-reads
returns-clause-reads c = λ is. event_reads c.args.event.now c.in_ok-push_number_member.ensures.small c.in_ok-push_what.ensures.typed is
