use Rattle.js_base.specs.declared.message.Entry.{Entry}
use Rattle.js_event_log.specs.MirrorJoin.{lacking, joined}
use Rattle.std.proofs.Common.{List, sym, ap, ◌∙◌, subst, arith}
use Rattle.js_event_log.specs.Mirror.{RisesFrom}
use Rattle.js_event_log.proofs.MirrorLookup.{weaker}
use Rattle.js_event_log.proofs.MirrorJoin.{merged_view, rises_merged}
use Rattle.js_event_log.proofs.mirror.Mirror.merge.Goals as goal

pub add_missing-requires-clause-own : goal.add_missing-requires-clause-own
add_missing-requires-clause-own c = weaker 0 c.self.inside.start c.self.inside.entries.items (omega arith) c.self.invariant.1

pub add_missing-requires-clause-other : goal.add_missing-requires-clause-other
add_missing-requires-clause-other c =
    subst (λ es. RisesFrom 0 es) (sym c.deref.ensures.value) (weaker 0 c.other.inside.start c.other.inside.entries.items (omega arith) c.other.invariant.1)

pub invariant_of-self-2 : goal.invariant_of-self-2
invariant_of-self-2 c = (
  c.self.invariant.0,
  rises_merged (record { start = c.self.inside.start; entries = c.self.inside.entries.items }) (record { start = c.other.inside.start; entries = c.other.inside.entries.items })
      c.args.self.now c.args.other.now c.add_missing.new.own.items c.self.view_is c.other.view_is c.self.invariant c.other.invariant c.in_ok-check_merge.ensures.0 (c.in_ok-add_missing.ensures.added ∙ ap (λ (o : List Entry). joined c.self.inside.entries.items (lacking c.self.inside.entries.items o)) c.deref.ensures.value),
)

pub returns-clause-merged : goal.returns-clause-merged
returns-clause-merged c =
    merged_view (record { start = c.self.inside.start; entries = c.self.inside.entries.items }) (record { start = c.other.inside.start; entries = c.other.inside.entries.items })
    c.args.self.now c.args.other.now c.add_missing.new.own.items c.self.view_is c.other.view_is c.self.invariant c.other.invariant c.in_ok-check_merge.ensures.0 (c.in_ok-add_missing.ensures.added ∙ ap (λ (o : List Entry). joined c.self.inside.entries.items (lacking c.self.inside.entries.items o)) c.deref.ensures.value)
