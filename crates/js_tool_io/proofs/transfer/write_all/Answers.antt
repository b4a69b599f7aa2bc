use Rattle.std.proofs.Common.{arith}
use Rattle.std.proofs.lemmas.List.{length-take, length-drop}
use Rattle.js_tool_io.proofs.Streams.{Appends-more}
use Rattle.js_tool_io.proofs.transfer.write_all.Goals as goal

pub loop-at-preserved : goal.loop-at-preserved
loop-at-preserved g c = record {
  so_far = Appends-more _ _ _ c.args.text.now c.loop-at.at c.in_ok-count.count c.loop-at.invariant.so_far c.in_ok-count.ensures.bytes;
  within = omega (arith, simp (length-take, length-drop) at c.in_ok-count.ensures.bound);
  later = omega arith;
}
