use Rattle.std.proofs.Common.{◌<◌, arith}
use Rattle.js_window.proofs.Callers.{watches-trans, makes_after}
use Rattle.js_window.proofs.window.Window.take.Goals as goal

pub returns-then-none_free-clause-call : goal.returns-then-none_free-clause-call
returns-then-none_free-clause-call g c = makes_after _ _ _ _ c.loop.invariant.watches (c.look_to_take-free.ensures.none (let none = c.if-none_free.true in omega arith))

pub returns-then-taken-clause-call : goal.returns-then-taken-clause-call
returns-then-taken-clause-call g c =
    let some : 0 < c.look_to_take-free.result = let no = c.if-none_free.false in omega arith in
    makes_after _ _ _ _ (watches-trans _ _ _ c.loop.invariant.watches (c.look_to_take-free.ensures.some some)) c.if-taken.ensures

pub loop-preserved : goal.loop-preserved
loop-preserved g c =
    let some : 0 < c.look_to_take-free.result = let no = c.if-none_free.false in omega arith in
    record {
      can_next = tt;
      is_finite = tt;
      watches = watches-trans _ _ _ (watches-trans _ _ _ c.loop.invariant.watches (c.look_to_take-free.ensures.some some)) c.if-taken.ensures;
    }
