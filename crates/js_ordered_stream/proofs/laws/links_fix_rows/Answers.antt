use Rattle.js_ordered_stream.proofs.FixedMet.{memory_tells, rows_fixed}
use Rattle.js_ordered_stream.proofs.laws.links_fix_rows.Goals as goal

pub returns-clause-rows : goal.returns-clause-rows
returns-clause-rows c = rows_fixed

pub returns-clause-memory : goal.returns-clause-memory
returns-clause-memory c = memory_tells
