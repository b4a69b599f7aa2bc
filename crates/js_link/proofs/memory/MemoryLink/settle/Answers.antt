use Rattle.std.proofs.Common.{arith, ◌∙◌}
use Rattle.js_link.proofs.Views.{responds_at}
use Rattle.js_link.proofs.memory.MemoryLink.settle.Goals as goal

pub returns-in-Some : goal.returns-in-Some
returns-in-Some c =
    let waits = c.in-Some.ensures in
    responds_at c.args.self.now c.args.request.0 c.in-Some.i c.replace.new.dest c.args.reply (c.replace.ensures.after ∙ c.answered.ensures) (omega (arith, waits.numbered)) waits.within waits.waits
