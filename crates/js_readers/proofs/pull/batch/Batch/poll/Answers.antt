use Rattle.std.proofs.Common.{refl, sym, ap, arith}
use Rattle.js_readers.specs.declared.pull.batch.Batch.{Batch}
use Rattle.js_readers.proofs.BatchReads.{passed_none, passed_next, fewer_left, reads_found, polls_by}
use Rattle.js_readers.proofs.pull.batch.Batch.poll.Goals as goal

pub arrivals-init : goal.arrivals-init
arrivals-init g c = record { same = refl; passed = passed_none _ _ }

pub arrivals-preserved : goal.arrivals-preserved
arrivals-preserved g c = record {
  same = c.arrivals.invariant.same;
  passed = passed_next c.args.now _ c.arrivals.self c.take-taken.result _ _ _ (sym c.in-Skips.ensures) c.take-taken.ensures c.arrivals.invariant.passed;
}

pub arrivals-smaller : goal.arrivals-smaller
arrivals-smaller g c = fewer_left c.args.now _ c.arrivals.self c.take-taken.result _ _ (sym c.in-Skips.ensures) c.take-taken.ensures

pub count-requires : goal.count-requires
count-requires g c = omega (arith, ap (λ (b : Batch). b.left) c.arrivals.invariant.same, c.if-self-eq0.false)

pub returns-in-Waits : goal.returns-in-Waits
returns-in-Waits g c =
    polls_by _ _ _ _ _ _ _ _ c.arrivals.invariant.same c.in-Some.is c.if-self-eq0.false
    (reads_found _ _ _ _ _ _ _ _ _ _ _ c.arrivals.invariant.passed c.take-taken.ensures c.in-Waits.ensures (refl, refl, refl))

pub returns-in-Hands : goal.returns-in-Hands
returns-in-Hands g c =
    polls_by _ _ _ _ _ _ _ _ c.arrivals.invariant.same c.in-Some.is c.if-self-eq0.false
    (reads_found _ _ _ _ _ _ _ _ _ _ _ c.arrivals.invariant.passed c.take-taken.ensures c.in-Hands.ensures (refl, c.count.ensures.batch, c.count.ensures.link))

pub returns-in-Refuses : goal.returns-in-Refuses
returns-in-Refuses g c =
    polls_by _ _ _ _ _ _ _ _ c.arrivals.invariant.same c.in-Some.is c.if-self-eq0.false
    (reads_found _ _ _ _ _ _ _ _ _ _ _ c.arrivals.invariant.passed c.take-taken.ensures c.in-Refuses.ensures (refl, c.end-in-Refuses.ensures.batch, c.end-in-Refuses.ensures.link))

pub returns-in-Ends : goal.returns-in-Ends
returns-in-Ends g c =
    polls_by _ _ _ _ _ _ _ _ c.arrivals.invariant.same c.in-Some.is c.if-self-eq0.false
    (reads_found _ _ _ _ _ _ _ _ _ _ _ c.arrivals.invariant.passed c.take-taken.ensures c.in-Ends.ensures (refl, c.end-in-Ends.ensures.batch, c.end-in-Ends.ensures.link))
