use Rattle.std.proofs.Common.{arith}
use Rattle.std.proofs.lemmas.List.{length-take, length-drop}
use Rattle.js_tool_io.proofs.Streams.{Appends-more}
use Rattle.js_tool_follow.proofs.ConversationEnds.{wrote_twice}
use Rattle.js_tool_follow.proofs.Calls.{wrote_more, writes_punctually}
use Rattle.js_tool_follow.proofs.output.write_all.Goals as goal

pub loop-at-preserved : goal.loop-at-preserved
loop-at-preserved g c = record {
  so_far = Appends-more _ _ _ c.args.text.now c.loop-at.at c.in_ok-count.count c.loop-at.invariant.so_far c.in_ok-count.ensures.bytes;
  within = omega (arith, simp (length-take, length-drop) at c.in_ok-count.ensures.bound);
  said = λ asked lines held before passed has. wrote_more asked lines held before passed c.args.text.now c.loop-at.at c.in_ok-count.count _ _ c.in_ok-count.ensures.call (c.loop-at.invariant.said asked lines held before passed has);
  punctual = λ asked was. writes_punctually asked _ _ _ _ c.in_ok-count.ensures (c.loop-at.invariant.punctual asked was);
  writes = wrote_twice _ _ _ _ _ c.loop-at.invariant.writes c.in_ok-count.ensures;
}

pub returns-in_err-count-clause-punctual : goal.returns-in_err-count-clause-punctual
returns-in_err-count-clause-punctual g c = λ asked was. writes_punctually asked _ _ _ _ c.write.ensures (c.loop-at.invariant.punctual asked was)

pub returns-then-count-eq0-clause-punctual : goal.returns-then-count-eq0-clause-punctual
returns-then-count-eq0-clause-punctual g c = λ asked was. writes_punctually asked _ _ _ _ c.write.ensures (c.loop-at.invariant.punctual asked was)
