use Rattle.js_event_log.proofs.WorkedServers.{is_the_logs, is_another}
use Rattle.js_event_log.proofs.worked_runs.worked_tables.Goals as goal

pub returns-clause-overtaken : goal.returns-clause-overtaken
returns-clause-overtaken c = is_the_logs

pub returns-clause-left_behind : goal.returns-clause-left_behind
returns-clause-left_behind c = is_another
