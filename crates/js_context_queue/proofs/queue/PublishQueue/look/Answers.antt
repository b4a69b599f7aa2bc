use Rattle.std.proofs.Common.{◌≡◌, ◌<◌, [], length, refl, arith}
use Rattle.js_context_queue.specs.declared.step_result.StepResult.TheVariants.{Made}
use Rattle.js_context_queue.specs.Steps.{outcome_of}
use Rattle.js_context_queue.proofs.Counts.{each_then, keeps_same, keeps_then, looks_each}
use Rattle.js_context_queue.proofs.Rounds.{clocks_at, looks_made, rests_all, rests_more, rests_none}
use Rattle.js_context_queue.proofs.StepRuns.{runs_looks, runs_none}
use Rattle.js_context_queue.proofs.Tried.{have_clocks, looked_all, looked_at, looked_more, looked_none}
use Rattle.js_context_queue.proofs.queue.PublishQueue.look.Goals as goal

pub loop-looked-init : goal.loop-looked-init
loop-looked-init g c = record { each = λ tag. refl; keeps = keeps_same _; runs = runs_none c.args.now _; looked = looked_none c.args.now _ _; rests = λ alone. rests_none _ _ _ alone }

pub returns-in_default : goal.returns-in_default
returns-in_default g c =
    let below : c.loop-looked.looked < length c.args.self.now.in_flight = omega (arith, c.in_flight-count.ensures.count, c.loop-looked-test.true) in
    record {
      each = each_then (outcome_of c.look_first.result) c.args.self.now c.loop-looked.self c.look_first.new.self c.loop-looked.invariant.each (looks_each c.args.now c.look_first.result c.loop-looked.self c.look_first.new.self _ _ c.look_first.ensures.looks);
      runs = runs_looks c.args.now c.look_first.result _ _ _ c.loop-looked.invariant.runs c.look_first.ensures.keeps c.look_first.ensures.looks;
      keeps = keeps_then c.args.self.now c.loop-looked.self c.look_first.new.self c.loop-looked.invariant.keeps c.look_first.ensures.keeps;
      sleeps = λ alone. absurd (c.in_default.not-Made (looks_made _ _ _ _ _ _ _ _ _ (c.loop-looked.invariant.rests alone) below c.look_first.ensures.sleeps));
      clocks = clocks_at _ _ _ c.in_default.not-Made c.look_first.ensures.on;
      looked = looked_at c.loop-looked.looked c.args.now c.look_first.result c.args.self.now c.loop-looked.self c.look_first.new.self (g.L.Link.view c.args.link.now) (g.L.Link.view c.loop-looked.link)
          (g.L.Link.view c.look_first.new.link) c.loop-looked.invariant.looked c.in_default.not-Made c.look_first.ensures.looks;
    }

pub loop-looked-preserved : goal.loop-looked-preserved
loop-looked-preserved g c =
    let below : c.loop-looked.looked < length c.args.self.now.in_flight = omega (arith, c.in_flight-count.ensures.count, c.loop-looked-test.true) in
    record {
      each = each_then [] c.args.self.now c.loop-looked.self c.look_first.new.self c.loop-looked.invariant.each (looks_each c.args.now Made c.loop-looked.self c.look_first.new.self _ _ c.in-Made.ensures.looks);
      keeps = keeps_then c.args.self.now c.loop-looked.self c.look_first.new.self c.loop-looked.invariant.keeps c.look_first.ensures.keeps;
      runs = runs_looks c.args.now Made _ _ _ c.loop-looked.invariant.runs c.look_first.ensures.keeps c.in-Made.ensures.looks;
      looked = looked_more c.loop-looked.looked c.args.now c.args.self.now c.loop-looked.self c.look_first.new.self (g.L.Link.view c.args.link.now) (g.L.Link.view c.loop-looked.link)
          (g.L.Link.view c.look_first.new.link) c.loop-looked.invariant.looked below c.in-Made.ensures.looks;
      rests = λ alone. rests_more _ _ _ _ _ _ _ _ Made (c.loop-looked.invariant.rests alone) below c.in-Made.ensures.sleeps;
    }

pub returns : goal.returns
returns g c =
    let all : c.loop-looked.looked ≡ length c.args.self.now.in_flight = omega (arith, c.in_flight-count.ensures.count, c.loop-looked.auto.looked-end, c.loop-looked-test.false) in
    let found = looked_all c.loop-looked.looked c.args.now c.args.self.now c.loop-looked.self (g.L.Link.view c.args.link.now) (g.L.Link.view c.loop-looked.link) c.loop-looked.invariant.looked all in
    record {
      each = c.loop-looked.invariant.each;
      runs = c.loop-looked.invariant.runs;
      keeps = c.loop-looked.invariant.keeps;
      sleeps = λ alone. let (link, same) = rests_all _ _ _ _ _ _ (c.loop-looked.invariant.rests alone) all in (refl, link, same);
      clocks = have_clocks c.args.now c.loop-looked.self.in_flight (g.L.Link.view c.loop-looked.link) found.acks;
      looked = found;
    }
