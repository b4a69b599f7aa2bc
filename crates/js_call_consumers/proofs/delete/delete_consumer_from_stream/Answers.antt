use Rattle.js_call_consumers.proofs.delete.delete_consumer_from_stream.Goals as goal

pub returns : goal.returns
returns c = rw c.in_ok-row.ensures at c.call_on.ensures
