use Rattle.std.proofs.Common.{◌∙◌, refl, ap}
use Rattle.std.specs.Prelude.{Bool, Some, None, if◌then◌else◌, nat_lt}
use Rattle.js_ordered.specs.declared.incremental_replay.IncrementalReplay.{IncrementalReplay}
use Rattle.js_ordered.specs.IncrementalReplay.{replay_given}
use Rattle.js_ordered_table.specs.Refusal.{first_of, is_exhausted}
use Rattle.js_ordered.proofs.EventByEvent.{comes_on, within_first}
use Rattle.js_ordered.proofs.incremental_replay.IncrementalReplay.advance.Goals as goal

pub returns-clause-resumed : goal.returns-clause-resumed
returns-clause-resumed c = λ g start es within.
    let old : IncrementalReplay = c.args.self.now in
    let passed : IncrementalReplay = c.pass.new.self in
    let kept = c.in_ok-pass.ensures.kept in
    comes_on g start es c.args.event.now old _ within (ap replay_given kept) c.in_ok-count.ensures.next refl
    (c.first_place-self.ensures ∙ ap (λ (s : IncrementalReplay). first_of s.early (if nat_lt c.args.event.now.at old.moment then Some old.count else None)) kept)
    (c.first_place-self-2.ensures
    ∙ ap (λ (b : Bool). first_of passed.exhausted (if b then Some old.count else None)) c.is_exhausted-is_last.ensures
    ∙ ap (λ (s : IncrementalReplay). first_of s.exhausted (if is_exhausted passed.state.consumer.phase then Some old.count else None)) kept)
    c.in_ok-pass.ensures.passed c.in_ok-pass.ensures.rested

pub returns-clause-passed : goal.returns-clause-passed
returns-clause-passed c = λ g start es come.
    let old : IncrementalReplay = c.args.self.now in
    let passed : IncrementalReplay = c.pass.new.self in
    let kept = c.in_ok-pass.ensures.kept in
    comes_on g start es c.args.event.now old _ (within_first g start es c.args.event.now old come) (ap replay_given kept) c.in_ok-count.ensures.next refl
    (c.first_place-self.ensures ∙ ap (λ (s : IncrementalReplay). first_of s.early (if nat_lt c.args.event.now.at old.moment then Some old.count else None)) kept)
    (c.first_place-self-2.ensures
    ∙ ap (λ (b : Bool). first_of passed.exhausted (if b then Some old.count else None)) c.is_exhausted-is_last.ensures
    ∙ ap (λ (s : IncrementalReplay). first_of s.exhausted (if is_exhausted passed.state.consumer.phase then Some old.count else None)) kept)
    c.in_ok-pass.ensures.passed c.in_ok-pass.ensures.rested
