use Rattle.js_call_streams.proofs.get_or_create.lookup_call.Goals as goal

pub returns : goal.returns
returns c = rw c.in_ok-row.ensures at c.call_on.ensures
