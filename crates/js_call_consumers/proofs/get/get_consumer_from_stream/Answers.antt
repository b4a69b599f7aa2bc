use Rattle.js_call_consumers.proofs.get.get_consumer_from_stream.Goals as goal

pub returns : goal.returns
returns g c = rw c.in_ok-row.ensures at c.call_on.ensures
