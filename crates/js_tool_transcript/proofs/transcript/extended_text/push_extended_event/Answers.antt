use Rattle.std.proofs.Common.{ℕ, List, ◌++◌, ap, ◌∙◌}
use Rattle.js_tool_transcript.proofs.ExtendedRead.{extended_reads, extended_cut, plain_text, refused_plain}
use Rattle.js_tool_transcript.proofs.transcript.extended_text.push_extended_event.Goals as goal

pub returns-clause-line : goal.returns-clause-line
returns-clause-line c = λ rest. extended_cut c.args.event.now c.in_ok-push_line.ensures.small c.in_ok-push_line.ensures.typed c.in_ok-push_line.ensures.written rest

pub returns-clause-reads : goal.returns-clause-reads
returns-clause-reads c = extended_reads c.args.event.now c.in_ok-push_line.ensures.small c.in_ok-push_line.ensures.typed c.in_ok-push_line.ensures.written

pub returns-clause-plain : goal.returns-clause-plain
returns-clause-plain c = λ is. c.in_ok-push_line.ensures.text ∙ ap (λ (s : List ℕ). c.args.out.now.items ++ s) (plain_text c.args.event.now is)

pub returns-clause-refused : goal.returns-clause-refused
returns-clause-refused c = λ not. refused_plain c.args.event.now c.in_ok-push_line.ensures.small c.in_ok-push_line.ensures.typed c.in_ok-push_line.ensures.written not
