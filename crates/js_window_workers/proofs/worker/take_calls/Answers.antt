use Rattle.std.proofs.Common.{◌<◌, sym, subst}
use Rattle.js_window_workers.specs.Worker.{AdmitsAfterTake}
use Rattle.js_window_workers.proofs.worker.take_calls.Goals as goal

pub take_calls_through-requires-clause-admitted : goal.take_calls_through-requires-clause-admitted
take_calls_through-requires-clause-admitted g c =
    subst (λ gate. 0 < c.args.calls → AdmitsAfterTake (g.G.Gate.admits gate.now c.args.worker) c.args.pass.now) (sym c.new.ensures.gate) c.requires.admitted
