use Rattle.std.proofs.Common.{◌≡◌, ◌<◌, [], length, refl, arith}
use Rattle.js_context_queue.specs.declared.step_result.StepResult.TheVariants.{Made}
use Rattle.js_context_queue.specs.QueuePoll.{place}
use Rattle.js_context_queue.specs.Steps.{outcome_of}
use Rattle.js_context_queue.proofs.Counts.{each_then, keeps_same, keeps_then, sends_each}
use Rattle.js_context_queue.proofs.StepRuns.{runs_none, runs_sends}
use Rattle.js_context_queue.proofs.Sleep.{goes_not_on, steps_on, untouched}
use Rattle.js_context_queue.proofs.Tried.{all_sent, sent_more, sent_none, tried_at}
use Rattle.js_context_queue.proofs.queue.PublishQueue.send.Goals as goal

pub loop-tried-init : goal.loop-tried-init
loop-tried-init g c = record { each = λ tag. refl; keeps = keeps_same _; runs = runs_none c.args.now _; sent = sent_none c.args.now _; stays = λ none early. (refl, refl) }

pub returns-in_default : goal.returns-in_default
returns-in_default g c =
    let below : c.loop-tried.tried < length c.args.self.now.unsent = omega (arith, c.unsent_len-count.ensures, c.loop-tried-test.true) in
    record {
      each = each_then (outcome_of c.send_first.result) c.args.self.now c.loop-tried.self c.send_first.new.self c.loop-tried.invariant.each (sends_each c.args.now c.send_first.result c.loop-tried.self c.send_first.new.self _ _ c.send_first.ensures.sends);
      runs = runs_sends c.args.now c.send_first.result _ _ _ c.loop-tried.invariant.runs c.send_first.ensures.keeps c.send_first.ensures.sends;
      keeps = keeps_then c.args.self.now c.loop-tried.self c.send_first.new.self c.loop-tried.invariant.keeps c.send_first.ensures.keeps;
      sleeps = λ none early. let (same, link) = c.loop-tried.invariant.stays none early in steps_on c.args.now _ _ _ _ _ _ _ same link c.send_first.ensures.sleeps none early;
      tried = tried_at c.loop-tried.tried c.args.now c.send_first.result (place c.args.self.now (g.L.Link.view c.args.link.now)) (place c.loop-tried.self (g.L.Link.view c.loop-tried.link))
          (place c.send_first.new.self (g.L.Link.view c.send_first.new.link)) c.loop-tried.invariant.sent below c.loop-tried.invariant.keeps c.in_default.not-Made c.send_first.ensures.sends c.send_first.ensures.stays;
    }

pub loop-tried-preserved : goal.loop-tried-preserved
loop-tried-preserved g c = record {
  each = each_then [] c.args.self.now c.loop-tried.self c.send_first.new.self c.loop-tried.invariant.each (sends_each c.args.now Made c.loop-tried.self c.send_first.new.self _ _ c.in-Made.ensures.sends);
  keeps = keeps_then c.args.self.now c.loop-tried.self c.send_first.new.self c.loop-tried.invariant.keeps c.send_first.ensures.keeps;
  runs = runs_sends c.args.now Made _ _ _ c.loop-tried.invariant.runs c.send_first.ensures.keeps c.in-Made.ensures.sends;
  sent = sent_more c.loop-tried.tried c.args.now (place c.args.self.now (g.L.Link.view c.args.link.now)) (place c.loop-tried.self (g.L.Link.view c.loop-tried.link))
      (place c.send_first.new.self (g.L.Link.view c.send_first.new.link)) c.loop-tried.invariant.sent c.in-Made.ensures.sends;
  stays = λ none early.
      let (same, link) = c.loop-tried.invariant.stays none early in
      absurd (goes_not_on c.args.now _ _ _ _ _ _ same link c.in-Made.ensures.sends c.in-Made.ensures.sleeps none early);
}

pub returns : goal.returns
returns g c =
    let all : c.loop-tried.tried ≡ length c.args.self.now.unsent = omega (arith, c.unsent_len-count.ensures, c.loop-tried.auto.tried-end, c.loop-tried-test.false) in
    record {
      each = c.loop-tried.invariant.each;
      runs = c.loop-tried.invariant.runs;
      keeps = c.loop-tried.invariant.keeps;
      sleeps = λ none early. let (same, link) = c.loop-tried.invariant.stays none early in (refl, link, untouched _ _ _ same);
      tried = all_sent c.loop-tried.tried c.args.now (place c.args.self.now (g.L.Link.view c.args.link.now)) (place c.loop-tried.self (g.L.Link.view c.loop-tried.link)) c.loop-tried.invariant.sent all;
    }
