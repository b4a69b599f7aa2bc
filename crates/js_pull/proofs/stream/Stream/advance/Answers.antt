use Rattle.std.proofs.Common.{false}
use Rattle.js_pull.proofs.NextRow.{begun_seen}
use Rattle.js_pull.proofs.Calls.{none_left, advanced_more, advance_hands, advance_tells, advance_done, advance_lacks, advance_closes}
use Rattle.js_pull.proofs.Measure.{silent_smaller, heard_smaller}
use Rattle.js_pull.proofs.stream.Stream.advance.Goals as goal

pub rows-init : goal.rows-init
rows-init g c = record { advanced = begun_seen _ _ _ _ _ _ _ c.begin.ensures.leads c.begin.ensures.held }

pub returns-in_default : goal.returns-in_default
returns-in_default g c = advance_done _ _ _ _ _ _ c.rows.invariant.advanced (none_left _ _ c.first.ensures c.in_default.is)

pub rows-smaller-in-Silent : goal.rows-smaller-in-Silent
rows-smaller-in-Silent g c = silent_smaller false _ _ _ _ _ _ _ _ c.in-Silent.ensures.1 c.in-Silent.ensures.2

pub rows-preserved-in-Silent : goal.rows-preserved-in-Silent
rows-preserved-in-Silent g c = record {
  advanced = advanced_more _ _ _ _ _ _ _ _ _ _ c.rows.invariant.advanced c.in-Silent.ensures.1;
}

pub rows-smaller : goal.rows-smaller
rows-smaller g c = heard_smaller false _ _ _ _ _ _ _ _ c.in-Took.ensures.1 c.in-Took.ensures.2

pub rows-preserved : goal.rows-preserved
rows-preserved g c = record {
  advanced = advanced_more _ _ _ _ _ _ _ _ _ _ c.rows.invariant.advanced c.in-Took.ensures.1;
}

pub returns-in-Hands : goal.returns-in-Hands
returns-in-Hands g c = advance_hands _ _ _ _ _ _ _ _ _ _ c.rows.invariant.advanced c.in-Hands.ensures.1

pub returns-in-Tells : goal.returns-in-Tells
returns-in-Tells g c = advance_tells _ _ _ _ _ _ _ _ _ _ _ _ c.error_of.ensures c.rows.invariant.advanced c.in-Tells.ensures.1

pub returns-in-Closed : goal.returns-in-Closed
returns-in-Closed g c = advance_closes _ _ _ _ _ _ _ _ c.rows.invariant.advanced c.in-Closed.ensures

pub returns-in-OutOfMemory : goal.returns-in-OutOfMemory
returns-in-OutOfMemory g c = advance_lacks _ _ _ _ _ _ _ _ c.rows.invariant.advanced c.in-OutOfMemory.ensures
