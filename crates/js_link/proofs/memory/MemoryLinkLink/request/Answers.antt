use Rattle.std.proofs.Common.{rules, arith}
use Rattle.js_link.specs.declared.memory.Request.TheVariants as requests
use Rattle.js_link.proofs.Views.{asks_push, waits_push}
use Rattle.js_link.proofs.memory.MemoryLinkLink.request.Goals as goal

pub returns-clause-call : goal.returns-clause-call
returns-clause-call c = asks_push c.args.self.now c.push_reserved.new.self c.push.new.self requests.Waits _ _ _ _ (search rules) (search rules) (search rules) (omega arith)

pub returns-clause-waits : goal.returns-clause-waits
returns-clause-waits c = waits_push c.args.self.now.requests.items c.push_reserved.new.self.items _ (search rules) (omega arith)
