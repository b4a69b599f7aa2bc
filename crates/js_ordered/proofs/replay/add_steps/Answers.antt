use Rattle.std.proofs.Common.{arith, sym, ◌∙◌}
use Rattle.js_ordered_table.specs.Passes.{input_of}
use Rattle.js_ordered.proofs.ReplayRuns.{goes_on}
use Rattle.js_ordered.proofs.replay.add_steps.Goals as goal

pub loop-place-preserved : goal.loop-place-preserved
loop-place-preserved c = record {
  goes =
      goes_on (input_of c.args.context.now) c.args.events.now c.args.state.now c.loop-place.place c.loop-place.state c.step.new.state c.loop-place.steps.items c.push_reserved.new.self.items
      c.index-events-place.result c.in-Ok.step c.loop-place.invariant.goes (omega arith) c.index-events-place.is
      c.in-Ok.ensures.step c.in-Ok.ensures.state (sym c.is_exhausted.ensures ∙ c.if-is_exhausted.false) c.push_reserved.ensures.items;
  outputs = c.in-Ok.ensures.emptied;
  rested = c.in-Ok.ensures.rested;
  room = omega (arith, c.loop-place.invariant.room, c.push_reserved.ensures.len, c.push_reserved.ensures.capacity);
}
