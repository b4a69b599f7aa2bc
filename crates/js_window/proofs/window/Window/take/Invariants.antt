use Rattle.js_window.specs.Caller.{Watches}
use Rattle.js_window.proofs.window.Window.take.Given as goal

abbrev pub invariant-loop : goal.invariant-loop
invariant-loop g l = record {
  can_next : (goal.iterator-loop g).can_next l.iterator';
  is_finite : (goal.iterator-loop g).is_finite l.iterator';
  watches : Watches l.fn.pass l.pass;
}
