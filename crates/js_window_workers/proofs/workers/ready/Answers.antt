use Rattle.std.proofs.Common.{◌≡◌, ◌<◌, ℕ, List, length, All, arith, ap, sym, subst, ◌∙◌, rules}
use Rattle.std.proofs.lemmas.List.Elements.{All-push}
use Rattle.js_window.specs.Caller.{Caller}
use Rattle.js_window_workers.specs.declared.worker.Job.{Job}
use Rattle.js_window_workers.specs.Worker.{IsReady}
use Rattle.js_window_workers.proofs.Collected.{apart_more, below_more, numbered_more, ready_by, ready_new}
use Rattle.js_window_workers.proofs.workers.ready.Goals as goal

pub loop-worker-init : goal.loop-worker-init
loop-worker-init g c = record {
  first = search rules;
  len = search rules;
  small = search rules;
  numbers = search rules;
  apart = search rules;
  below = search rules;
  next = ready_new c.args.window.now _ _ 0 c.split-next.ensures.new c.requires;
  ready = search rules;
}

pub loop-worker-preserved : goal.loop-worker-preserved
loop-worker-preserved g c =
    let i = c.loop-worker.invariant in
    let pushed = c.in_ok-push.ensures.items in
    let at : c.loop-worker.worker ≡ length c.loop-worker.jobs.items = omega (arith, i.len, c.loop-worker.jobs.ok.0) in
    let pass : c.replace-pass.result ≡ c.loop-worker.next = c.replace-pass.ensures.value ∙ c.split-later.ensures.same in
    let job : Job = record { pass = c.replace-pass.result; worker = c.loop-worker.worker } in
    let ready : IsReady c.args.window.now job = subst (λ (p : Caller). IsReady c.args.window.now (record { pass = p; worker = c.loop-worker.worker })) (sym pass) (ready_by c.args.window.now c.loop-worker.next 0 c.loop-worker.worker i.next) in
    let below : All (λ (j : Job). j.pass.number < job.pass.number) c.loop-worker.jobs.items = subst (λ (p : Caller). All (λ (j : Job). j.pass.number < p.number) c.loop-worker.jobs.items) (sym pass) i.below in
    let later : job.pass.number < c.split-later.result.number = subst (λ (p : Caller). p.number < c.split-later.result.number) (sym pass) c.split-later.ensures.later in
    record {
      first = search rules;
      len = search rules;
      small = search rules;
      numbers = numbered_more c.loop-worker.jobs.items _ job pushed i.numbers at;
      apart = apart_more c.loop-worker.jobs.items _ job pushed i.apart below;
      below = subst (λ (z : List Job × Caller). All (λ (j : Job). j.pass.number < z.1.number) z.0) (λ k. (sym pushed k, sym c.replace-pass.ensures.after k)) (below_more c.loop-worker.jobs.items job c.split-later.result.number later below);
      next = subst (λ (p : Caller). IsReady c.args.window.now (record { pass = p; worker = 0 })) (sym c.replace-pass.ensures.after) (ready_new c.args.window.now _ _ 0 c.split-later.ensures.new i.next.own);
      ready = subst (λ jobs. All (IsReady c.args.window.now) jobs) (sym pushed) (All-push (IsReady c.args.window.now) c.loop-worker.jobs.items job i.ready ready);
    }
