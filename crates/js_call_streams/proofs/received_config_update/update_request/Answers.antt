use Rattle.js_call_streams.proofs.KeptAsRead.{asks_with}
use Rattle.js_call_streams.proofs.received_config_update.update_request.Goals as goal

pub returns : goal.returns
returns c =
    asks_with c.args.scope.now c.args.handle.now c.args.config.now c.as_str.result.now c.in_ok-body.body c.ask_named.result
    c.as_str.ensures c.in_ok-body.ensures c.ask_named.ensures
