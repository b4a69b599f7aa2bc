use Rattle.std.proofs.Common.{◌≡◌, ℕ, ◌+◌, Option, Some, option_map, arith, rules, refl, sym, subst, ◌∙◌}
use Rattle.js_window.specs.Caller.{Caller}
use Rattle.js_window_workers.specs.declared.gate.GatePassage.{GatePassage}
use Rattle.js_window_workers.specs.Worker.{TookCalls, PassedGate}
use Rattle.js_window_workers.proofs.Takes.{first_take, took_none, took_got, took_full, passed_first, passed_before}
use Rattle.js_window_workers.proofs.worker.take_calls_through.Goals as goal
use Rattle.js_window_workers.proofs.worker.take_calls_through.Goals.{in-Got, in-Full, then-call-eq0, else-call-eq0}

pub give-requires-clause-holds : goal.give-requires-clause-holds
give-requires-clause-holds g c = let h = c.in-Got.ensures.call.holds in omega arith

pub pass_gate-requires-clause-admitted : goal.pass_gate-requires-clause-admitted
pass_gate-requires-clause-admitted g c =
    let i = c.loop-call.invariant in
    subst (λ gate. g.G.Gate.admits gate.now c.args.worker) (sym i.passage)
    (c.requires.admitted (search rules) c.take-taken.new.pass (first_take c.args.pass.now c.loop-call.pass c.take-taken.new.pass c.take-taken.result (i.start c.if-call-eq0.true) c.take-taken.ensures.call))

pub loop-call-init : goal.loop-call-init
loop-call-init g c = record {
  sum = refl;
  took = took_none c.args.pass.now;
  start = λ none. refl;
  called = λ some. absurd (omega arith);
  passage = refl;
  gate = search rules;
}

pub loop-call-preserved : goal.loop-call-preserved
loop-call-preserved g c =
    let i = c.loop-call.invariant in
    let passed : Option Caller = option_map (λ s. s.value) c.if-call-eq0.passage.passed in
    let gate : PassedGate (c.loop-call.call + 1) c.args.pass.now passed =
    elim c.if-call-eq0.branch [
      | then-call-eq0 w ↦ passed_first c.loop-call.call c.args.pass.now c.loop-call.pass c.take-taken.new.pass c.take-taken.result passed
          (i.start w.if-call-eq0.true) c.take-taken.ensures.call (subst (λ (passage : GatePassage _). option_map (λ s. s.value) passage.passed ≡ Some c.take-taken.new.pass) (sym w.passage-is) w.pass_gate.ensures.passed)
      | else-call-eq0 w ↦ subst (λ (passage : GatePassage _). PassedGate (c.loop-call.call + 1) c.args.pass.now (option_map (λ s. s.value) passage.passed)) (sym w.passage-is)
          (passed_before c.loop-call.call c.args.pass.now _ w.if-call-eq0.false i.gate)
    ] in
    let called : g.G.Gate.passed c.args.passage.now.gate.now c.args.worker =
    elim c.if-call-eq0.branch [
      | then-call-eq0 w ↦ subst (λ gate. g.G.Gate.passed gate.now c.args.worker) i.passage w.pass_gate.ensures.called
      | else-call-eq0 w ↦ i.called (omega (arith, w.if-call-eq0.false))
    ] in
    let passage : c.if-call-eq0.passage.gate ≡ c.args.passage.now.gate =
    elim c.if-call-eq0.branch [
      | then-call-eq0 w ↦ subst (λ (passage : GatePassage _). passage.gate ≡ c.args.passage.now.gate) (sym w.passage-is) (w.pass_gate.ensures.gate ∙ i.passage)
      | else-call-eq0 w ↦ subst (λ (passage : GatePassage _). passage.gate ≡ c.args.passage.now.gate) (sym w.passage-is) i.passage
    ] in
    elim c.match-taken.branch [
      | in-Got w ↦
          record {
            sum = omega (arith, i.sum, w.got-is, w.full-is);
            took = subst (λ (z : ℕ × ℕ × Caller). TookCalls z.0 z.1 c.args.pass.now z.2) (λ k. (sym w.got-is k, sym w.full-is k, sym w.pass-is k))
                (took_got _ _ _ _ _ _ i.took w.in-Got.ensures.call w.give.ensures);
            start = λ none. absurd (omega arith);
            called = λ some. called;
            passage = passage;
            gate = gate;
          }
      | in-Full w ↦
          record {
            sum = omega (arith, i.sum, w.got-is, w.full-is);
            took = subst (λ (z : ℕ × ℕ × Caller). TookCalls z.0 z.1 c.args.pass.now z.2) (λ k. (sym w.got-is k, sym w.full-is k, sym w.pass-is k))
                (took_full _ _ _ _ _ i.took w.in-Full.ensures.call);
            start = λ none. absurd (omega arith);
            called = λ some. called;
            passage = passage;
            gate = gate;
          }
    ]
