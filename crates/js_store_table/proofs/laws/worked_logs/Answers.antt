use Rattle.js_store_table.proofs.WorkedBuckets.{has_its_rows, lacks_an_entry}
use Rattle.js_store_table.proofs.laws.worked_logs.Goals as goal

pub returns-clause-overtaken : goal.returns-clause-overtaken
returns-clause-overtaken c = has_its_rows

pub returns-clause-left_behind : goal.returns-clause-left_behind
returns-clause-left_behind c = lacks_an_entry
