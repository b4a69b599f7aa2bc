use Rattle.std.proofs.Common.{◌≡◌, ℕ, ◌+◌, ◌∙◌, Option, None, refl, sym, ap, subst, arith, rules}
use Rattle.std.specs.Box.{with_value}
use Rattle.js_ordered.specs.IncrementalReplay.{IsWithin}
use Rattle.js_ordered.specs.declared.incremental_replay.IncrementalReplay.{IncrementalReplay}
use Rattle.js_ordered_table.specs.declared.event.Event.{Event}
use Rattle.js_ordered_recorder.specs.Acts.{Passes, Stops}
use Rattle.js_ordered_recorder.specs.declared.recorder.Recorder.{Recorder}
use Rattle.js_ordered_recorder.proofs.ActSequences.{goes_one, world}
use Rattle.js_ordered_recorder.proofs.recorder.Recorder.pass_event.Goals as goal

pub returns-in_err-advance-clause-goes : goal.returns-in_err-advance-clause-goes
returns-in_err-advance-clause-goes c = λ now v.
    let old : IncrementalReplay = c.args.self.now.replay.value in
    let same : old ≡ c.deref_mut.result.now = cc in
    let new : Recorder = record c.args.self.now { replay = with_value c.args.self.now.replay c.advance.new.self } in
    goes_one now Stops (world c.args.self.now v) (world new v) tt (record {
      event = c.in-Some.event;
      is = c.in-Some.is;
      stays = λ g start es within. c.in_err-advance.ensures.kept g start es (subst (λ (x : IncrementalReplay). IsWithin g start es c.in-Some.event x) same within);
      kept = refl;
      link = refl;
    })

pub returns-clause-goes : goal.returns-clause-goes
returns-clause-goes c = λ now v.
    let old : IncrementalReplay = c.args.self.now.replay.value in
    let same : old ≡ c.deref_mut.result.now = cc in
    let to : Option Event → Recorder = λ e. record c.args.self.now { event = e; replay = with_value c.args.self.now.replay c.advance.new.self; worked = 0 } in
    goes_one now Passes (world c.args.self.now v) (world (to c.replace_with.new.place) v) tt (record {
      event = c.in-Some.event;
      is = c.in-Some.is;
      passed = λ g start es within. c.in_ok-advance.ensures.resumed g start es (subst (λ (x : IncrementalReplay). IsWithin g start es c.in-Some.event x) same within);
      kept = ap to c.replace_with.ensures;
      link = refl;
    })

pub returns-clause-counted : goal.returns-clause-counted
returns-clause-counted c = λ some.
    let old : IncrementalReplay = c.args.self.now.replay.value in
    let same : old ≡ c.deref_mut.result.now = cc in
    let number : c.count-count.result ≡ c.args.self.now.replay.value.count = cc in
    (c.in_ok-advance.ensures.counted ∙ ap (λ (x : IncrementalReplay). x.count + 1) (sym same), first_of (omega arith, omega (arith, c.count-count.type_inv), search (rules, c.count-count.type_inv), grind arith))
