use Rattle.std.proofs.Common.{refl}
use Rattle.js_readers.proofs.PushPolls.{polled_none, polled_more, poll_hands, poll_misses, poll_waits, poll_ends, poll_lacks, smaller}
use Rattle.js_readers.proofs.push.messages.Messages.poll.Goals as goal

pub rows-init : goal.rows-init
rows-init g c = record { polled = polled_none _ _ _ }

pub rows-preserved : goal.rows-preserved
rows-preserved g c = record {
  polled = polled_more _ _ _ _ _ _ _ _ c.in-Ok-Nothing.field-0-is c.rows.invariant.polled c.in-Ok-Nothing.ensures;
}

pub rows-smaller : goal.rows-smaller
rows-smaller g c = smaller _ _ _ _ _ _ c.in-Ok-Nothing.field-0-is c.in-Ok-Nothing.ensures

pub returns-in-Ok-Hands : goal.returns-in-Ok-Hands
returns-in-Ok-Hands g c = poll_hands _ _ _ _ _ _ _ _ _ _ c.in-Ok-Hands.field-0-is refl c.rows.invariant.polled c.in-Ok-Hands.ensures

pub returns-in-Ok-MissesHeartbeat : goal.returns-in-Ok-MissesHeartbeat
returns-in-Ok-MissesHeartbeat g c = poll_misses _ _ _ _ _ _ _ _ _ c.in-Ok-MissesHeartbeat.field-0-is c.missing_heartbeat.ensures c.rows.invariant.polled c.in-Ok-MissesHeartbeat.ensures

pub returns-in-Ok-Waits : goal.returns-in-Ok-Waits
returns-in-Ok-Waits g c = poll_waits _ _ _ _ _ _ _ _ c.in-Ok-Waits.field-0-is c.rows.invariant.polled c.in-Ok-Waits.ensures

pub returns-in-Ok-Ends : goal.returns-in-Ok-Ends
returns-in-Ok-Ends g c = poll_ends _ _ _ _ _ _ _ _ c.in-Ok-Ends.field-0-is c.rows.invariant.polled c.in-Ok-Ends.ensures

pub returns-in-Err : goal.returns-in-Err
returns-in-Err g c = poll_lacks _ _ _ _ _ _ _ c.rows.invariant.polled c.in-Err.ensures
