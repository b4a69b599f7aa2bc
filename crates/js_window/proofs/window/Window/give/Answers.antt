use Rattle.js_window.proofs.Callers.{watches-trans, makes_after}
use Rattle.js_window.proofs.window.Window.give.Goals as goal

pub returns-then-given : goal.returns-then-given
returns-then-given g c = makes_after _ _ _ _ (watches-trans _ _ _ c.loop.invariant.watches c.look_to_give-free.ensures.look) c.if-given.ensures

pub loop-preserved : goal.loop-preserved
loop-preserved g c = record {
  can_next = tt;
  is_finite = tt;
  watches = watches-trans _ _ _ (watches-trans _ _ _ c.loop.invariant.watches c.look_to_give-free.ensures.look) c.if-given.ensures;
}
