use Rattle.std.proofs.Common.{sym}
use Rattle.js_ordered_table.specs.Texts.{config_of}
use Rattle.js_tool_event_log.proofs.LogsShown.{start_above}
use Rattle.js_tool_event_log.proofs.report.report_ending.Goals as goal

pub log_report-requires-clause-above : goal.log_report-requires-clause-above
log_report-requires-clause-above c = start_above (config_of c.args.setup.now).deliver_policy c.in-Some.start (sym c.in-Some.ensures)
