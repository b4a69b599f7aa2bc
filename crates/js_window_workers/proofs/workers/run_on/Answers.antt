use Rattle.std.proofs.Common.{◌≡◌, ℕ, ap, sym, subst, ◌∙◌, rules}
use Rattle.js_window_workers.specs.declared.worker.Ended.{Ended}
use Rattle.js_window_workers.specs.declared.worker.Job.{Job}
use Rattle.js_window_workers.proofs.Collected.{worked_apart}
use Rattle.js_window_workers.proofs.workers.run_on.Goals as goal

pub returns-clause-counts : goal.returns-clause-counts
returns-clause-counts g c = record {
  workers = c.in_ok-ended.ended.items;
  many = search rules;
  each = search rules;
  apart = worked_apart c.in_ok-jobs.jobs.items c.in_ok-ended.ended.items (search rules) c.in_ok-jobs.ensures.apart
      (λ i d lt. let given = c.in_ok-ended.ensures.each i d lt in (given.1.job, given.1.job_is, given.1.call.met.1.0));
  got = c.collect-got.ensures.got;
  full = c.collect-got.ensures.full;
  joined = c.collect-got.new.first;
  own = c.collect-got.ensures.own;
  seen = c.collect-got.ensures.joined;
  asked = c.all_free-all_free.ensures;
}

pub returns-clause-gate : goal.returns-clause-gate
returns-clause-gate g c some worker lt =
    let none : Ended = record { pass = c.args.first.now; got = 0; full = 0 } in
    let given = c.in_ok-ended.ensures.each worker none (search rules) in
    let own : given.1.job.worker ≡ worker = sym (ap (λ (j : Job). j.worker) (given.1.job_is given.1.job)) ∙ c.in_ok-jobs.ensures.numbers worker given.1.job (search rules) in
    subst (λ (n : ℕ). g.G.Gate.passed c.args.gate.now n) own (given.1.call.met.1.1 some)
