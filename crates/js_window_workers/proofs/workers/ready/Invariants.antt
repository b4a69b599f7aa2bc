use Rattle.std.proofs.Common.{◌≡◌, ◌<◌, All, vec_len}
use Rattle.js_window_workers.specs.Worker.{AreNumbered, HaveOwnPasses, IsReady}
use Rattle.js_window_workers.proofs.workers.ready.Given as goal

abbrev pub invariant-loop-worker : goal.invariant-loop-worker
invariant-loop-worker g l = record {
  first : l.first ≡ l.fn.first;
  len : vec_len l.jobs ≡ l.worker;
  small : All (λ job. job.worker < l.fn.threads) l.jobs.items;
  numbers : AreNumbered l.jobs.items;
  apart : HaveOwnPasses l.jobs.items;
  below : All (λ job. job.pass.number < l.next.number) l.jobs.items;
  next : IsReady l.window (record { pass = l.next; worker = 0 });
  ready : All (IsReady l.window) l.jobs.items;
}
