use Rattle.std.proofs.Common.{ap, ◌∙◌, List, ◌++◌, ◌∷◌, []}
use Rattle.js_context_queue.specs.declared.in_flight.InFlight.{InFlight}
use Rattle.js_context_queue.proofs.AwaitedAcks.{over, went}
use Rattle.js_context_queue.proofs.queue.PublishQueue.send_first.Goals as goal

pub invariant_of-self-in-Went : goal.invariant_of-self-in-Went
invariant_of-self-in-Went g c = went _ _ _ _ _ _ _ _ _ _ c.in-Some.ensures.items c.reserve.ensures.items c.push_back_reserved.ensures.items c.into_tag-tag.ensures c.in-Went.ensures.tries.caller c.in-Went.ensures.tries.awaited c.in-Went.ensures.tries.bears c.self.invariant

pub invariant_of-self-in-Fails : goal.invariant_of-self-in-Fails
invariant_of-self-in-Fails g c = over _ _ _ _ _ _ _ _ c.in-Some.ensures.items c.reserve.ensures.items c.in-Fails.ensures.tries.0.caller c.in-Fails.ensures.tries.0.awaited c.self.invariant

pub invariant_of-self-then-is_over : goal.invariant_of-self-then-is_over
invariant_of-self-then-is_over g c = over _ _ _ _ _ _ _ _ c.in-Some.ensures.items c.reserve.ensures.items c.in-Stays.ensures.tries.0.caller c.in-Stays.ensures.tries.0.awaited c.self.invariant

pub returns-in-Went-clause-sends : goal.returns-in-Went-clause-sends
returns-in-Went-clause-sends g c = rw (← c.self.view_is) (record {
  first = c.in-Some.first;
  ack = record { tag = c.into_tag-tag.result; future = c.in-Went.future };
  was = c.in-Some.ensures.items;
  is = c.push_back_reserved.ensures.items ∙ ap (λ (in_flight : List InFlight). in_flight ++ record { tag = c.into_tag-tag.result; future = c.in-Went.future } ∷ []) c.reserve.ensures.items;
  tag = c.into_tag-tag.ensures;
  sends = c.in-Went.ensures.tries.sends;
})
