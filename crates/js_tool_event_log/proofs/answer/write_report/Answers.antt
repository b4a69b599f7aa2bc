use Rattle.std.proofs.Common.{Ok, ap, ◌∙◌}
use Rattle.js_tool_event_log.proofs.Answered.{writes_unless_fault, writes_done, writes_front, writes_refused}
use Rattle.js_tool_event_log.proofs.answer.write_report.Goals as goal

pub returns-in-Ok-clause-writes : goal.returns-in-Ok-clause-writes
returns-in-Ok-clause-writes g c =
    writes_done _ _ _ _ c.args.made c.in-Ok-Done.text (c.in-Ok-Done.is ∙ ap Ok c.in-Ok-Done.field-0-is) (rw c.as_slice.ensures at c.in-Ok.ensures.ok)

pub returns-in-Ok-Done-clause-writes : goal.returns-in-Ok-Done-clause-writes
returns-in-Ok-Done-clause-writes g c =
    writes_front _ _ _ _ c.args.made c.in-Ok-Done.text (c.in-Ok-Done.is ∙ ap Ok c.in-Ok-Done.field-0-is) (rw c.as_slice.ensures at c.in-Err.ensures.err)

pub returns-in-Ok-Refused-clause-writes : goal.returns-in-Ok-Refused-clause-writes
returns-in-Ok-Refused-clause-writes g c =
    let line = c.in-Ok-Refused.line in
    writes_refused _ _ _ _ c.args.made line (c.in-Ok-Refused.is ∙ ap Ok c.in-Ok-Refused.field-0-is)
    (writes_unless_fault _ _ _ _ line c.write_all-in-Ok-Refused.result (rw c.as_slice-in-Ok-Refused.ensures at c.write_all-in-Ok-Refused.ensures.ok)
    (rw c.as_slice-in-Ok-Refused.ensures at c.write_all-in-Ok-Refused.ensures.err) c.write_all-in-Ok-Refused.ensures.cause)
