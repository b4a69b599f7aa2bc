use Rattle.js_pull.proofs.Meetings.{asked_for}
use Rattle.js_pull.proofs.arrivals.ask_for.Goals as goal

pub returns-clause-met : goal.returns-clause-met
returns-clause-met g c =
    asked_for c.args.due c.args.reply.now _ _ _ _ _ c.requires (c.in_ok-wish.ensures c.args.reply.now) c.in_ok-informed.ensures c.in_ok-met.ensures.met
