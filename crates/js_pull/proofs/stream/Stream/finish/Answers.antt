use Rattle.std.proofs.Common.{Option, ap}
use Rattle.js_base.specs.declared.message.Message.{Message}
use Rattle.js_pull.proofs.NextRow.{passes_closed, passes_step}
use Rattle.js_pull.proofs.stream.Stream.finish.Goals as goal

pub returns-then-is_shut-clause-passes : goal.returns-then-is_shut-clause-passes
returns-then-is_shut-clause-passes c = λ before after m. passes_closed _ _ _ _ _ _ _ before after c.requires.first c.is_shut.ensures c.if-is_shut.true c.end.ensures.place m.meets

pub returns-clause-passes : goal.returns-clause-passes
returns-clause-passes c = λ before after m.
    passes_step _ _ c.args.now c.args.due _ _ _ _ _ _ _ _ _ _ _ before after c.requires.first c.is_shut.ensures c.if-is_shut.false (c.pass-step.ensures c.args.self.now.left.reply m.informed)
    (ap (λ (x : Option Message × Option Message). x.0) c.into_parts-message.ensures) (ap (λ (x : Option Message × Option Message). x.1) c.into_parts-message.ensures) c.follow.ensures c.outcome_of.ensures m.meets
