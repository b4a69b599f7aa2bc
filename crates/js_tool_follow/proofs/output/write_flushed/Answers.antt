use Rattle.js_tool_follow.proofs.Calls.{flushes_punctually}
use Rattle.js_tool_follow.proofs.ConversationEnds.{whole_before_error}
use Rattle.js_tool_follow.proofs.output.write_flushed.Goals as goal

pub returns-clause-err : goal.returns-clause-err
returns-clause-err g c = whole_before_error _ _ _ _ c.args.text.now c.in_ok-write_all.ensures.ok c.flush.ensures.taken

pub returns-clause-punctual : goal.returns-clause-punctual
returns-clause-punctual g c = λ asked was. flushes_punctually asked _ _ _ c.flush.ensures (c.write_all.ensures.punctual asked was)
