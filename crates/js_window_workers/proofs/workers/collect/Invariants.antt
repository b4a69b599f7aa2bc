use mathlib.Core.List.{IsPrefix}
use Rattle.std.proofs.Common.{◌≡◌, ◌+◌, ◌*◌, ◌++◌, All, length, sum_by}
use Rattle.js_window_workers.specs.declared.worker.Ended.{Ended}
use Rattle.js_window_workers.proofs.workers.collect.Given as goal

abbrev pub invariant-loop-worker : goal.invariant-loop-worker
invariant-loop-worker g l = record {
  can_next : (goal.iterator-loop-worker g).can_next l.worker-iterator;
  is_finite : (goal.iterator-loop-worker g).is_finite l.worker-iterator;
  rest : l.yielded ++ l.worker-iterator.rest.items ≡ l.fn.ended.items;
  own : l.first.window ≡ l.window;
  got : l.got ≡ sum_by (λ (e : Ended). e.got) l.yielded;
  full : l.full ≡ sum_by (λ (e : Ended). e.full) l.yielded;
  sum : l.got + l.full ≡ length l.yielded * l.calls;
  joined : All (λ (e : Ended). IsPrefix e.pass.seen l.first.seen) l.yielded;
}
