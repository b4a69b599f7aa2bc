use Rattle.std.proofs.Common.{◌∙◌, arith}
use Rattle.js_context.specs.declared.context.Detached.{Detached}
use Rattle.js_context.proofs.Ring.{rest_alike}
use Rattle.js_context.proofs.context.Context.settle_first.Goals as goal

pub invariant_of-self : goal.invariant_of-self
invariant_of-self g c = record {
  own = c.give.ensures.goes_on.window ∙ c.self.invariant.own;
  counted = omega (arith, c.self.invariant.counted, c.give.ensures.holds, c.in-Some.ensures.cases);
  room = omega (arith, c.self.invariant.room, c.in-Some.ensures.cases, c.pop_front.ensures.capacity);
  bear = rest_alike (λ (d : Detached). d.permit) _ _ _ _ c.pop_front.ensures.rest c.give.ensures.goes_on.number c.self.invariant.bear;
  given = rest_alike (λ (d : Detached). d.window.value) _ _ _ _ c.pop_front.ensures.rest c.give.ensures.goes_on.window c.self.invariant.given;
}
