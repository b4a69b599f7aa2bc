use Rattle.js_call_streams.proofs.delete.delete_stream.Goals as goal

pub returns : goal.returns
returns c = rw c.in_ok-kept.ensures at c.call_on.ensures
