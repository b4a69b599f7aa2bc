use Rattle.js_call_streams.proofs.HasText.{config_written, value_only_memory, value_of_written}
use Rattle.js_call_streams.proofs.received_config_update.config_value.Goals as goal

pub written-requires : goal.written-requires
written-requires c = value_only_memory _ _ (config_written c.args.config.now) c.to_value.ensures

pub returns : goal.returns
returns c = value_of_written _ _ _ c.to_value.ensures c.written.ensures
