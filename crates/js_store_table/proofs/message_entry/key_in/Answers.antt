use Rattle.js_store_table.proofs.KeyCuts.{key_cut}
use Rattle.js_store_table.proofs.message_entry.key_in.Goals as goal

pub returns : goal.returns
returns c = key_cut c.args.prefix.now c.args.subject.now c.strip_prefix.result c.strip_prefix.ensures.cases
