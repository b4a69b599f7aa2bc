use Rattle.js_readers.proofs.PushPolls.{poll_sleeps}
use Rattle.js_readers.proofs.push.messages.Messages.poll_next.Goals as goal

pub returns-clause-sleeps : goal.returns-clause-sleeps
returns-clause-sleeps g c = λ alone. poll_sleeps _ _ _ _ _ _ c.poll.ensures alone
