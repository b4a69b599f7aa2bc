use Rattle.std.proofs.Common.{◌≡◌, ◌<◌, ◌+◌, option_map}
use Rattle.js_window_workers.specs.Worker.{TookCalls, PassedGate}
use Rattle.js_window_workers.proofs.worker.take_calls_through.Given as goal

abbrev pub invariant-loop-call : goal.invariant-loop-call
invariant-loop-call g l = record {
  sum : l.got + l.full ≡ l.call;
  took : TookCalls l.got l.full l.fn.pass l.pass;
  start : l.call ≡ 0 → l.pass ≡ l.fn.pass;
  called : 0 < l.call → g.G.Gate.passed l.fn.passage.gate.now l.fn.worker;
  passage : l.passage.gate ≡ l.fn.passage.gate;
  gate : PassedGate l.call l.fn.pass (option_map (λ s. s.value) l.passage.passed);
}
