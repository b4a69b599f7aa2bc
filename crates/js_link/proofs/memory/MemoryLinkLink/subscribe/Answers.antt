use Rattle.std.proofs.Common.{rules}
use Rattle.js_link.proofs.Views.{opens_push}
use Rattle.js_link.proofs.memory.MemoryLinkLink.subscribe.Goals as goal

pub returns : goal.returns
returns c = opens_push c.args.self.now c.push_reserved.new.self c.push.new.self c.new.result c.len-inbox.result _ _ (search rules) (search rules) (search rules) (search rules) (search rules)
