use Rattle.js_call_consumers.proofs.Rows.{request_written}
use Rattle.js_call_consumers.proofs.laws.instants_alone_are_refused.Goals as goal

pub returns : goal.returns
returns c = request_written
