use Rattle.std.proofs.Common.{◌≡◌}
use Rattle.js_context.specs.AckWait.{Waited}
use Rattle.js_context.proofs.context.Context.wait_for_acks.Given as goal

abbrev pub invariant-loop : goal.invariant-loop
invariant-loop g l = record {
  can_next : (goal.iterator-loop g).can_next l.iterator';
  is_finite : (goal.iterator-loop g).is_finite l.iterator';
  waited : Waited l.fn.self.pass l.self.pass;
  same : l.self ≡ record l.fn.self { pass = l.self.pass };
}
