use Rattle.std.proofs.Common.{Some, None, arith}
use Rattle.js_tool_follow.proofs.WakeMoments.{is_wake, none_small, some_small}
use Rattle.js_tool_follow.proofs.wakes.wake_of.Goals as goal

pub returns-in-Some-clause-value : goal.returns-in-Some-clause-value
returns-in-Some-clause-value c = is_wake c.args.phase.now (Some c.in-Some.moment) (some_small c.in-Some.moment (omega arith)) c.in-Some.ensures

pub returns-in-None-clause-value : goal.returns-in-None-clause-value
returns-in-None-clause-value c = is_wake c.args.phase.now None none_small c.in-None.ensures
