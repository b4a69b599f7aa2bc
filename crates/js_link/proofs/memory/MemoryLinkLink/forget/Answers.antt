use Rattle.std.proofs.Common.{arith}
use Rattle.js_link.proofs.Views.{ends_at}
use Rattle.js_link.proofs.memory.MemoryLinkLink.forget.Goals as goal

pub returns : goal.returns
returns c = ends_at c.args.self.now c.args.request.0 c.replace.new.dest c.replace.ensures.after (omega arith) (omega arith)
