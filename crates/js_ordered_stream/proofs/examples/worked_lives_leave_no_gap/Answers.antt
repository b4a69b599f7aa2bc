use Rattle.js_ordered_stream.proofs.WorkedAgain.{again_life, again_opens, stale_refused}
use Rattle.js_ordered_stream.proofs.WorkedPull.{pull_life, pull_opens}
use Rattle.js_ordered_stream.proofs.WorkedPush.{push_life, push_opens}
use Rattle.js_ordered_stream.proofs.examples.worked_lives_leave_no_gap.Goals as goal

pub returns-clause-pull : goal.returns-clause-pull
returns-clause-pull c = pull_life

pub returns-clause-again : goal.returns-clause-again
returns-clause-again c = again_life

pub returns-clause-push : goal.returns-clause-push
returns-clause-push c = push_life

pub returns-clause-opened : goal.returns-clause-opened
returns-clause-opened c = record { pull = pull_opens; again = again_opens; push = push_opens }

pub returns-clause-stale : goal.returns-clause-stale
returns-clause-stale c = stale_refused
