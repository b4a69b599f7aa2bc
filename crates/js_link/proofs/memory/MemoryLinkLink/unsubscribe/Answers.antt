use Rattle.std.proofs.Common.{arith}
use Rattle.js_link.proofs.Views.{closes_set, closes_none}
use Rattle.js_link.proofs.memory.MemoryLinkLink.unsubscribe.Goals as goal

pub returns-then-i-len : goal.returns-then-i-len
returns-then-i-len c = closes_set c.args.self.now c.args.inbox.0 (omega arith)

pub returns-else-i-len : goal.returns-else-i-len
returns-else-i-len c = closes_none c.args.self.now c.args.inbox.0 (omega arith)
