use Rattle.std.proofs.Common.{◌≡◌, ◌<◌, length, arith, ap, subst}
use Rattle.js_context.specs.DetachedAcks.{GoesRound, one_if}
use Rattle.js_context.proofs.AckLooks.{none_looked, some_left, next_look}
use Rattle.js_context.proofs.context.Context.reap_first.Goals as goal
use Rattle.js_context.proofs.context.Context.reap_first.Goals.{then-reap_one, else-reap_one}

pub loop-look-init : goal.loop-look-init
loop-look-init g c = none_looked _ _ _

pub reap_one-requires : goal.reap_one-requires
reap_one-requires g c = some_left _ _ _ _ _ _ _ c.loop-look.invariant (omega (arith, c.requires, c.loop-look-test.true))

pub overflow_add-settled : goal.overflow_add-settled
overflow_add-settled g c = omega (arith, c.loop-look.invariant.within, c.loop-look-test.true, c.ranges.count)

pub loop-look-preserved : goal.loop-look-preserved
loop-look-preserved g c =
    let below : c.loop-look.look < length c.args.self.now.detached = omega (arith, c.requires, c.loop-look-test.true) in
    elim c.if-reap_one.branch [
      | then-reap_one w ↦ next_look _ _ _ _ _ _ _ _ _ _ c.reap_one.result c.loop-look.invariant below c.reap_one.ensures
          (omega (arith, w.settled-is, ap one_if w.if-reap_one.true))
      | else-reap_one w ↦ next_look _ _ _ _ _ _ _ _ _ _ c.reap_one.result c.loop-look.invariant below c.reap_one.ensures
          (omega (arith, w.settled-is, ap one_if w.if-reap_one.false))
    ]

pub returns : goal.returns
returns g c =
    let all : c.loop-look.look ≡ c.args.count = omega (arith, c.loop-look.auto.look-end, c.loop-look-test.false) in
    subst (λ k. GoesRound k c.args.now c.args.self.now c.loop-look.self (g.L.Link.view c.args.link.now) (g.L.Link.view c.loop-look.link) c.loop-look.settled) all c.loop-look.invariant.round
