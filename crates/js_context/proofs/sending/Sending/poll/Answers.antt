use Rattle.std.proofs.Common.{ap}
use Rattle.js_context.proofs.Permits.{gets_none_if_full}
use Rattle.js_context.specs.declared.context.Settings.{Settings}
use Rattle.js_context.proofs.sending.Sending.poll.Goals as goal

pub returns-clause-full : goal.returns-clause-full
returns-clause-full g c = gets_none_if_full _ _ _ _ _ _ _ _ (ap (λ (s : Settings). s.backpressure) c.settings-backpressure.ensures) c.try_to_send-met.ensures.tries c.answer_to.ensures
