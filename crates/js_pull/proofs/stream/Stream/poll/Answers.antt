use Rattle.js_pull.proofs.Calls.{none_left, polled_none, polled_begun, polled_silent, polled_took, poll_hands, poll_tells, poll_ends, poll_closes, poll_lacks, poll_waits}
use Rattle.js_pull.proofs.NextRow.{begins_seen}
use Rattle.js_pull.proofs.Measure.{begun_smaller, silent_smaller, heard_smaller}
use Rattle.js_pull.proofs.stream.Stream.poll.Goals as goal

pub rows-init : goal.rows-init
rows-init g c = record { polled = polled_none _ _ _ }

pub returns-then-self : goal.returns-then-self
returns-then-self g c = poll_ends _ _ _ _ _ _ c.rows.invariant.polled c.if-self.true

pub returns-then-quiet : goal.returns-then-quiet
returns-then-quiet g c = poll_waits _ _ _ _ _ _ c.rows.invariant.polled c.if-quiet.true (none_left _ _ c.first.ensures c.in_default.is) c.if-self.false

pub rows-smaller-in_default : goal.rows-smaller-in_default
rows-smaller-in_default g c = begun_smaller _ _ _ _ _ _ c.if-quiet.false (none_left _ _ c.first.ensures c.in_default.is) (begins_seen _ _ _ _ _ _ _ c.watch.ensures.begins c.watch.ensures.held)

pub rows-preserved-in_default : goal.rows-preserved-in_default
rows-preserved-in_default g c = record {
  polled = polled_begun _ _ _ _ _ _ _ _ c.rows.invariant.polled (none_left _ _ c.first.ensures c.in_default.is) (begins_seen _ _ _ _ _ _ _ c.watch.ensures.begins c.watch.ensures.held);
}

pub rows-smaller-in-Silent : goal.rows-smaller-in-Silent
rows-smaller-in-Silent g c = silent_smaller _ _ _ _ _ _ _ _ _ c.in-Silent.ensures.1 c.in-Silent.ensures.2

pub rows-preserved-in-Silent : goal.rows-preserved-in-Silent
rows-preserved-in-Silent g c = record {
  polled = polled_silent _ _ _ _ _ _ _ _ _ _ c.rows.invariant.polled c.in-Silent.ensures.1 c.in-Silent.ensures.2;
}

pub rows-smaller : goal.rows-smaller
rows-smaller g c = heard_smaller _ _ _ _ _ _ _ _ _ c.in-Took.ensures.1 c.in-Took.ensures.2

pub rows-preserved : goal.rows-preserved
rows-preserved g c = record {
  polled = polled_took _ _ _ _ _ _ _ _ _ _ c.rows.invariant.polled c.in-Took.ensures.1;
}

pub returns-in-Hands : goal.returns-in-Hands
returns-in-Hands g c = poll_hands _ _ _ _ _ _ _ _ _ _ c.rows.invariant.polled c.in-Hands.ensures.1

pub returns-in-Tells : goal.returns-in-Tells
returns-in-Tells g c = poll_tells _ _ _ _ _ _ _ _ _ _ _ _ c.error_of.ensures c.rows.invariant.polled c.in-Tells.ensures.1

pub returns-in-Closed : goal.returns-in-Closed
returns-in-Closed g c = poll_closes _ _ _ _ _ _ _ _ c.rows.invariant.polled c.in-Closed.ensures

pub returns-in-OutOfMemory : goal.returns-in-OutOfMemory
returns-in-OutOfMemory g c = poll_lacks _ _ _ _ _ _ _ _ c.rows.invariant.polled c.in-OutOfMemory.ensures
