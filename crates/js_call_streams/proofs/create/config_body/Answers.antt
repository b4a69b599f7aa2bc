use Rattle.js_call_streams.proofs.HasText.{config_written}
use Rattle.js_call_streams.proofs.create.config_body.Goals as goal

pub body_of-requires : goal.body_of-requires
body_of-requires c = config_written c.args.config.now
