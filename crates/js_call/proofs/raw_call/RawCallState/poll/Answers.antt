use Rattle.std.proofs.Common.{refl}
use Rattle.js_call.proofs.Sleeps.{sleeps}
use Rattle.js_call.proofs.raw_call.RawCallState.poll.Goals as goal

pub returns-clause-sleeps : goal.returns-clause-sleeps
returns-clause-sleeps g c = sleeps _ _ _ _ _ _ _ refl c.progress-met.ensures c.turn.ensures
