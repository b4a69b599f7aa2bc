use Rattle.js_call_streams.proofs.HasText.{names_request_written}
use Rattle.js_call_streams.proofs.find.find_body.Goals as goal

pub body_of-body-requires : goal.body_of-body-requires
body_of-body-requires c = names_request_written _
