use Rattle.js_context.proofs.AckLooks.{Going}
use Rattle.js_context.proofs.context.Context.reap_first.Given as goal

abbrev pub invariant-loop-look : goal.invariant-loop-look
invariant-loop-look g l = Going l.look l.now l.fn.self l.self (g.L.Link.view l.fn.link) (g.L.Link.view l.link) l.settled
