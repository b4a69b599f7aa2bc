use Rattle.std.proofs.Common.{◌≡◌, ◌+◌, ◌++◌, length, arith, ◌∙◌, sym, ap}
use mathlib.Core.List.{IsPrefix}
use Rattle.js_window_workers.specs.declared.worker.Ended.{Ended}
use Rattle.js_window_workers.specs.Worker.{HasEnded}
use Rattle.js_window_workers.proofs.Collected.{sum_by-push, length-push-times, All-middle, All-whole, next_rest, joined_more}
use Rattle.js_window_workers.proofs.workers.collect.Goals as goal

pub loop-worker-preserved : goal.loop-worker-preserved
loop-worker-preserved g c =
    let i = c.loop-worker.invariant in
    let worker : Ended = c.in-Some.worker in
    let rest = next_rest _ _ worker _ _ i.rest c.in-Some.ensures.steps.0 in
    let ended : HasEnded c.args.window.now c.args.calls worker = All-middle (HasEnded c.args.window.now c.args.calls) c.loop-worker.yielded worker _ _ (ap (λ l. c.loop-worker.yielded ++ l) (sym c.in-Some.ensures.steps.0) ∙ i.rest) c.requires.ended in
    record {
      can_next = tt;
      is_finite = tt;
      rest = rest;
      own = c.join.ensures.goes_on.window ∙ i.own;
      got = ap (λ n. n + worker.got) i.got ∙ sym (sum_by-push (λ (e : Ended). e.got) c.loop-worker.yielded worker);
      full = ap (λ n. n + worker.full) i.full ∙ sym (sum_by-push (λ (e : Ended). e.full) c.loop-worker.yielded worker);
      sum = omega (arith, i.sum, ended.sum, length-push-times c.loop-worker.yielded worker c.args.calls);
      joined = joined_more _ worker _ _ c.join.ensures.goes_on.grows c.join.ensures.grows_other i.joined;
    }

pub returns-clause-joined : goal.returns-clause-joined
returns-clause-joined g c =
    let i = c.loop-worker.invariant in
    let none : length c.loop-worker.worker-iterator.rest.items ≡ 0 = let e = c.in-None.ensures.steps.0 in omega (arith, c.loop-worker.worker-iterator.rest.ok) in
    All-whole (λ (e : Ended). IsPrefix e.pass.seen c.loop-worker.first.seen) c.loop-worker.yielded _ _ i.rest none i.joined
