use Rattle.std.proofs.Common.{sym}
use Rattle.js_context.proofs.Sleep.{sleeps}
use Rattle.js_context.proofs.ack_future.PublishAckFuture.poll.Goals as goal

pub returns-in-None-clause-sleeps : goal.returns-in-None-clause-sleeps
returns-in-None-clause-sleeps g c =
    sleeps _ _ _ _ _ _ _ _ _ _ _ (sym c.in-None.ensures.value) c.take.ensures.after c.started-clock.ensures c.look-shown.ensures c.turn.ensures.turns
