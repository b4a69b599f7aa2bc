use Rattle.std.proofs.Common.{◌≡◌, List, [], ◌∷◌, ◌++◌, length, sym, ap, ◌∙◌, arith, append_assoc}
use Rattle.js_context.specs.Context.{ContextView}
use Rattle.js_context.specs.declared.context.Detached.{Detached}
use Rattle.js_context_queue.specs.declared.in_flight.InFlight.{InFlight}
use Rattle.js_context_queue.specs.InFlight.{detached_ack, detached_acks}
use Rattle.js_context_queue.proofs.AwaitedAcks.{detached_rest}
use Rattle.js_context_queue.proofs.in_flight.detach_all.Goals as goal

-- one more ack was detached
one_more : (c e : ContextView) (f : InFlight) (rest in_flight : List InFlight) (all : List Detached) → in_flight ≡ f ∷ rest → c.detached ++ detached_acks in_flight ≡ all → e.detached ≡ c.detached ++ detached_ack f.future ∷ [] → e.detached ++ detached_acks rest ≡ all
one_more c e f rest in_flight all is before more =
    ap (λ (xs : List Detached). xs ++ detached_acks rest) more ∙ append_assoc c.detached (detached_ack f.future ∷ []) (detached_acks rest)
    ∙ ap (λ (fs : List InFlight). c.detached ++ detached_acks fs) (sym is) ∙ before

pub loop-future-preserved : goal.loop-future-preserved
loop-future-preserved c =
    let before = c.loop-future.invariant in
    let items = c.in-Some.ensures.items in
    let pass : c.detach.new.context.pass ≡ c.loop-future.context.pass = ap (λ x. x.pass) c.detach.ensures.list in
    record {
      awaited = detached_rest c.in-Some.field-0 c.pop_front.new.self.items c.loop-future.context c.detach.new.context c.detach.ensures.awaited pass (rw items at before.awaited);
      same = c.detach.ensures.list ∙ ap (λ (x : ContextView). record x { awaited = c.detach.new.context.awaited; detached = c.loop-future.context.detached ++ detached_ack c.in-Some.field-0.future ∷ [] }) before.same
          ∙ ap (λ (xs : List Detached). record c.args.context.now { awaited = c.detach.new.context.awaited; detached = xs }) (sym (ap (λ (x : ContextView). x.detached) c.detach.ensures.list));
      counted = omega (arith, before.counted, c.detach.ensures.awaited, ap length items);
      list = one_more c.loop-future.context c.detach.new.context c.in-Some.field-0 c.pop_front.new.self.items _ _ items before.list (ap (λ (x : ContextView). x.detached) c.detach.ensures.list);
    }
