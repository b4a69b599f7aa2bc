use Rattle.std.proofs.Common.{sym}
use Rattle.js_store.proofs.bucket_call.BucketCallState.poll.Goals as goal

-- the other call was polled, and its turn is told
pub returns-in-Asking-clause-polled : goal.returns-in-Asking-clause-polled
returns-in-Asking-clause-polled g c =
    rw (c.in-Asking.is, sym c.refusal.ensures, c.in_default.is) (c.poll-asked.result, c.poll-asked.ensures.polled, c.turn.ensures)
