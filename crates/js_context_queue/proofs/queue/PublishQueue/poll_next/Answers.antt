use Rattle.std.proofs.Common.{◌≡◌, []}
use Rattle.js_context_queue.specs.declared.published.Published.{Published}
use Rattle.js_context_queue.specs.declared.step_result.StepResult.TheVariants.{Made, Over, Stays}
use Rattle.js_context_queue.specs.Queue.{handed}
use Rattle.js_context_queue.specs.Steps.{outcome_of}
use Rattle.js_context_queue.proofs.Counts.{each_then}
use Rattle.js_context_queue.proofs.StepRuns.{polls_of, runs_left, runs_then}
use Rattle.js_context_queue.proofs.Sleep.{first_early, sleeps_on}
use Rattle.js_context_queue.proofs.Tried.{all_tried, pends_in_vain, unsent_left}
use Rattle.js_context_queue.specs.QueuePoll.{place}
use Rattle.js_context_queue.proofs.queue.PublishQueue.poll_next.Goals as goal

pub returns-in-Made-clause-each : goal.returns-in-Made-clause-each
returns-in-Made-clause-each g c = each_then (handed c.look_on.result) c.args.self.now c.send.new.self c.look_on.new.self c.in-Made.ensures.each c.look_on.ensures.each

pub returns-in-Stays-clause-each : goal.returns-in-Stays-clause-each
returns-in-Stays-clause-each g c = each_then (handed c.look_on-in-Stays.result) c.args.self.now c.send.new.self c.look_on-in-Stays.new.self c.in-Stays.ensures.each c.look_on-in-Stays.ensures.each

pub returns-in-Made-clause-left : goal.returns-in-Made-clause-left
returns-in-Made-clause-left g c = runs_left _ _ _ _ (runs_then _ _ _ _ _ c.in-Made.ensures.runs c.look_on.ensures.runs)

pub returns-in-Stays-clause-left : goal.returns-in-Stays-clause-left
returns-in-Stays-clause-left g c = runs_left _ _ _ _ (runs_then _ _ _ _ _ c.in-Stays.ensures.runs c.look_on-in-Stays.ensures.runs)

pub returns-in-Over-clause-left : goal.returns-in-Over-clause-left
returns-in-Over-clause-left g c = runs_left _ _ _ _ c.in-Over.ensures.runs

pub returns-in-NoMemory-clause-left : goal.returns-in-NoMemory-clause-left
returns-in-NoMemory-clause-left g c = runs_left _ _ _ _ c.in-NoMemory.ensures.runs

pub returns-in-Made-clause-own : goal.returns-in-Made-clause-own
returns-in-Made-clause-own g c = polls_of _ _ _ _ (runs_then _ _ _ _ _ c.in-Made.ensures.runs c.look_on.ensures.runs)

pub returns-in-Stays-clause-own : goal.returns-in-Stays-clause-own
returns-in-Stays-clause-own g c = polls_of _ _ _ _ (runs_then _ _ _ _ _ c.in-Stays.ensures.runs c.look_on-in-Stays.ensures.runs)

pub returns-in-Over-clause-own : goal.returns-in-Over-clause-own
returns-in-Over-clause-own g c = polls_of _ _ _ _ c.in-Over.ensures.runs

pub returns-in-NoMemory-clause-own : goal.returns-in-NoMemory-clause-own
returns-in-NoMemory-clause-own g c = polls_of _ _ _ _ c.in-NoMemory.ensures.runs

pub returns-in-Made-clause-sleeps : goal.returns-in-Made-clause-sleeps
returns-in-Made-clause-sleeps g c = λ alone. sleeps_on _ Made _ _ _ _ _ _ _ alone c.in-Made.ensures.sleeps c.look_on.ensures.sleeps

pub returns-in-Stays-clause-sleeps : goal.returns-in-Stays-clause-sleeps
returns-in-Stays-clause-sleeps g c = λ alone. sleeps_on _ Stays _ _ _ _ _ _ _ alone c.in-Stays.ensures.sleeps c.look_on-in-Stays.ensures.sleeps

pub returns-in-Over-clause-sleeps : goal.returns-in-Over-clause-sleeps
returns-in-Over-clause-sleeps g c = λ alone. absurd (never c.in-Over.published (c.in-Over.ensures.sleeps alone.sends_none (first_early _ _ _ alone)).0)
  where
    never : (published : Published) → outcome_of (Over published) ≡ [] → ⊥
    never published e = cc

pub returns-in-NoMemory-clause-sleeps : goal.returns-in-NoMemory-clause-sleeps
returns-in-NoMemory-clause-sleeps g c = λ alone.
    let (none, link, stays) = c.in-NoMemory.ensures.sleeps alone.sends_none (first_early _ _ _ alone) in
    record { quiet = tt; link = link; same = stays }

pub returns-in-NoMemory-clause-end : goal.returns-in-NoMemory-clause-end
returns-in-NoMemory-clause-end g c = unsent_left c.send.new.self c.in-NoMemory.ensures.tried

pub returns-in-Made-clause-pending : goal.returns-in-Made-clause-pending
returns-in-Made-clause-pending g c =
    let first = place c.args.self.now (g.L.Link.view c.args.link.now) in
    let mid = place c.send.new.self (g.L.Link.view c.send.new.link) in
    pends_in_vain c.args.now c.look_on.result first mid (place c.look_on.new.self (g.L.Link.view c.look_on.new.link)) (all_tried c.args.now first mid c.in-Made.ensures.tried) c.look_on.ensures.pending

pub returns-in-Stays-clause-pending : goal.returns-in-Stays-clause-pending
returns-in-Stays-clause-pending g c =
    let first = place c.args.self.now (g.L.Link.view c.args.link.now) in
    let mid = place c.send.new.self (g.L.Link.view c.send.new.link) in
    pends_in_vain c.args.now c.look_on-in-Stays.result first mid (place c.look_on-in-Stays.new.self (g.L.Link.view c.look_on-in-Stays.new.link)) c.in-Stays.ensures.tried c.look_on-in-Stays.ensures.pending
